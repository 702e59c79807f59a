-- The written form of a formula: no spaces, and parentheses only where it is read back as another formula without them.
use Rattle.std.specs.Prelude.{ℕ, ◌+◌, Bool, true, false, cond, List, [], ◌∷◌, ◌++◌}
use Rattle.property_parts.specs.Formula.{Formula, letter, no_letter, top, bottom, and, or}
use Rattle.property_parts.specs.Parts.{Rule, made_of}
use Rattle.property_parts.specs.declared.kinds.Kind.{Kind}
use Rattle.property_parts.specs.declared.kinds.Kind.TheVariants.{State, Term, Factor}
use Rattle.property_parts.specs.declared.parts.Part.{Part}
use Rattle.property_parts.specs.declared.parts.Part.TheVariants.{Letter, Not, True, False, And, Or}

-- a text, in parentheses where they are needed
abbrev pub enclosed : Bool → List ℕ → List ℕ
enclosed needed text = cond needed (40 ∷ (text ++ (41 ∷ []))) text

-- `a&b` is no factor
abbrev pub and_needs : Kind → Bool
and_needs State = false
and_needs Term = false
and_needs Factor = true

-- `a|b` is no term
abbrev pub or_needs : Kind → Bool
or_needs State = false
or_needs Term = true
or_needs Factor = true

abbrev pub part_needs : Part → Kind → Bool
part_needs (Letter l) kind = false
part_needs (Not a) kind = false
part_needs True kind = false
part_needs False kind = false
part_needs (And a b) kind = and_needs kind
part_needs (Or a b) kind = or_needs kind

-- an operator's form, from the forms of its operands
abbrev pub and_form : (Kind → List ℕ) → (Kind → List ℕ) → Kind → List ℕ
and_form a b kind = enclosed (and_needs kind) (a Term ++ (38 ∷ b Factor))

abbrev pub or_form : (Kind → List ℕ) → (Kind → List ℕ) → Kind → List ℕ
or_form a b kind = enclosed (or_needs kind) (a State ++ (124 ∷ b Term))

-- the bytes of a formula that stands as that kind
abbrev pub plain : Formula → Kind → List ℕ
plain (letter l) kind = (97 + l) ∷ []
plain (no_letter l) kind = 33 ∷ (97 + l) ∷ []
plain top kind = 84 ∷ []
plain bottom kind = 70 ∷ []
plain (and a b) kind = and_form (plain a) (plain b) kind
plain (or a b) kind = or_form (plain a) (plain b) kind

abbrev pub form_rule : Rule (Kind → List ℕ)
form_rule f (Letter l) kind = (97 + l) ∷ []
form_rule f (Not a) kind = 33 ∷ f a Factor
form_rule f True kind = 84 ∷ []
form_rule f False kind = 70 ∷ []
form_rule f (And a b) kind = and_form (f a) (f b) kind
form_rule f (Or a b) kind = or_form (f a) (f b) kind

-- the bytes of the part n where it stands as that kind
abbrev pub form : List Part → ℕ → Kind → List ℕ
form parts n = made_of (λ kind. []) form_rule parts n
