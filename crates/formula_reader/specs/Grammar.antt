-- Which texts spell which formulas. A place is where a token begins, or the end of the text.
use Rattle.std.specs.Prelude.{ℕ, suc, ◌+◌, ◌<◌, List}
use Rattle.property_parts.specs.Formula.{Formula, letter, no_letter, top, bottom, and, or}
use Rattle.property_parts.specs.declared.kinds.Kind.{Kind}
use Rattle.property_parts.specs.declared.kinds.Kind.TheVariants.{State, Term, Factor}
use Rattle.property_text.specs.Spelling.{Byte}

-- the text spells the formula, as that kind, from i up to j, with at most d parentheses open at once
pub data Spells (s : List ℕ) : Kind → ℕ → ℕ → ℕ → Formula → Type 0 where
  a_letter : {d i j : ℕ} (l : ℕ) → l < 16 → Byte s (97 + l) i j → Spells s Factor d i j (letter l)
  no_such_letter : {d i j k : ℕ} (l : ℕ) → l < 16 → Byte s 33 i j → Byte s (97 + l) j k → Spells s Factor d i k (no_letter l)
  truth : {d i j : ℕ} → Byte s 84 i j → Spells s Factor d i j top
  falsehood : {d i j : ℕ} → Byte s 70 i j → Spells s Factor d i j bottom
  in_parentheses : {d i j k l : ℕ} {a : Formula} → Byte s 40 i j → Spells s State d j k a → Byte s 41 k l → Spells s Factor (suc d) i l a
  one_factor : {d i j : ℕ} {a : Formula} → Spells s Factor d i j a → Spells s Term d i j a
  one_more_factor : {d i j k l : ℕ} {a b : Formula} → Spells s Term d i j a → Byte s 38 j k → Spells s Factor d k l b → Spells s Term d i l (and a b)
  one_term : {d i j : ℕ} {a : Formula} → Spells s Term d i j a → Spells s State d i j a
  one_more_term : {d i j k l : ℕ} {a b : Formula} → Spells s State d i j a → Byte s 124 j k → Spells s Term d k l b → Spells s State d i l (or a b)
