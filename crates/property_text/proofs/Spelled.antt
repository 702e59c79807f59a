-- A token is read exactly where the text spells it.
use Rattle.std.proofs.Common.{◌≡◌, ℕ, ◌+◌, ◌&&◌, eqb, List, get_or, Ok, subst}
use Rattle.std.proofs.lemmas.Bool.{eq-eqb, eqb-true, and_parts}
use Rattle.property_text.specs.Tokens.{past, byte, at_most}
use Rattle.property_text.specs.Spelling.{Gap, Byte, AtMost}
use Rattle.property_text.proofs.Places.{gap_past, gap_is}
use Rattle.property_text.proofs.Read.{test_ok}

pub gap_to : (s : List ℕ) (i j : ℕ) → past s i ≡ j → Gap s i j
gap_to s i j e = subst (λ k. Gap s i k) e (gap_past s i)

pub byte_is : (s : List ℕ) (b i j : ℕ) → Byte s b i j → byte s b i ≡ Ok j
byte_is s b i j t = rw (eq-eqb (get_or s i 0) b t.stands, gap_is s (i + 1) j t.gap)

pub byte_was : (s : List ℕ) (b i j : ℕ) → byte s b i ≡ Ok j → Byte s b i j
byte_was s b i j e =
    let c = test_ok _ (eqb (get_or s i 0) b) _ e in
    let k : past s (i + 1) ≡ j = let x = c.1 in cc in
    record { stands = eqb-true _ _ c.0; gap = gap_to s (i + 1) j k }

pub at_most_is : (s : List ℕ) (i j : ℕ) → AtMost s i j → at_most s i ≡ Ok j
at_most_is s i j t = rw (eq-eqb (get_or s i 0) 60 t.less, eq-eqb (get_or s (i + 1) 0) 61 t.equal, gap_is s (i + 2) j t.gap)

pub at_most_was : (s : List ℕ) (i j : ℕ) → at_most s i ≡ Ok j → AtMost s i j
at_most_was s i j e =
    let c = test_ok _ (eqb (get_or s i 0) 60 && eqb (get_or s (i + 1) 0) 61) _ e in
    let p = and_parts (eqb (get_or s i 0) 60) (eqb (get_or s (i + 1) 0) 61) c.0 in
    let k : past s (i + 2) ≡ j = let x = c.1 in cc in
    record { less = eqb-true _ _ p.0; equal = eqb-true _ _ p.1; gap = gap_to s (i + 2) j k }
