-- How long the written form of a formula is.
use Rattle.std.proofs.Common.{ℕ, ◌+◌, ◌*◌, ◌≤◌, Bool, true, false, List, ◌∷◌, ◌++◌, length, arith, length-append}
use Rattle.property_parts.specs.Form.{enclosed, and_needs, or_needs, plain}
use Rattle.property_parts.specs.Formula.{Formula, letter, no_letter, top, bottom, and, or, size}
use Rattle.property_parts.specs.declared.kinds.Kind.{Kind}
use Rattle.property_parts.specs.declared.kinds.Kind.TheVariants.{State, Term, Factor}

length_enclosed : (needed : Bool) (text : List ℕ) → length (enclosed needed text) ≤ length text + 2
length_enclosed true text = simp length-append (omega arith)
length_enclosed false text = omega arith

joined : (needed : Bool) (sign : ℕ) (x y : List ℕ) (m n : ℕ) → length x + 1 ≤ 2 * m → length y + 1 ≤ 2 * n
    → length (enclosed needed (x ++ (sign ∷ y))) + 1 ≤ 2 * ((m + n) + 1)
joined needed sign x y m n h k = omega (arith, length_enclosed needed (x ++ (sign ∷ y)), length-append x (sign ∷ y))

pub length_plain : (a : Formula) (kind : Kind) → length (plain a kind) + 1 ≤ 2 * size a
length_plain (letter l) kind = omega arith
length_plain (no_letter l) kind = omega arith
length_plain top kind = omega arith
length_plain bottom kind = omega arith
length_plain (and a b) kind = joined (and_needs kind) 38 _ _ (size a) (size b) (length_plain a Term) (length_plain b Factor)
length_plain (or a b) kind = joined (or_needs kind) 124 _ _ (size a) (size b) (length_plain a State) (length_plain b Term)
