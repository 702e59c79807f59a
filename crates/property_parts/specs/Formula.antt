-- State formulas, their truth in a set of propositions, and their parts.
use Rattle.std.specs.Prelude.{ℕ, ◌+◌, ◌/◌, ◌%◌, ◌^◌, Bool, true, false, not, ◌&&◌, ◌||◌, List, [], ◌∷◌, ◌++◌, ◌==◌}
use Rattle.property_parts.specs.declared.parts.Part.{Part}
use Rattle.property_parts.specs.declared.parts.Part.TheVariants.{Letter, Not, True, False, And, Or}

-- a letter is a number, a is 0 and p is 15
pub data Formula : Type 0 where
  letter : ℕ → Formula
  no_letter : ℕ → Formula
  top : Formula
  bottom : Formula
  and : Formula → Formula → Formula
  or : Formula → Formula → Formula

-- the letter is among the propositions, of which a is bit 0
abbrev pub among : ℕ → ℕ → Bool
among l propositions = propositions / 2 ^ l % 2 == 1

abbrev pub holds_in : Formula → ℕ → Bool
holds_in (letter l) w = among l w
holds_in (no_letter l) w = not (among l w)
holds_in top w = true
holds_in bottom w = false
holds_in (and a b) w = holds_in a w && holds_in b w
holds_in (or a b) w = holds_in a w || holds_in b w

-- a formula's own part is the last of its parts: how many come before it
abbrev pub root : Formula → ℕ
root (letter l) = 0
root (no_letter l) = 1
root top = 0
root bottom = 0
root (and a b) = (root a + 1) + (root b + 1)
root (or a b) = (root a + 1) + (root b + 1)

-- how many parts it has
abbrev pub size : Formula → ℕ
size a = root a + 1

-- its parts in the order in which they are complete, where n parts come before them
abbrev pub parts_of : ℕ → Formula → List Part
parts_of n (letter l) = Letter l ∷ []
parts_of n (no_letter l) = Letter l ∷ Not n ∷ []
parts_of n top = True ∷ []
parts_of n bottom = False ∷ []
parts_of n (and a b) = (parts_of n a ++ parts_of (n + size a) b) ++ (And (n + root a) ((n + size a) + root b) ∷ [])
parts_of n (or a b) = (parts_of n a ++ parts_of (n + size a) b) ++ (Or (n + root a) ((n + size a) + root b) ∷ [])
