-- Demands in their order, and the refusal that the first broken one asks for.
use Rattle.std.specs.Prelude.{◌≡◌, ℕ, Bool, true, false, cond, List, [], ◌∷◌, ◌++◌, Ok, Err, Result}
use Rattle.std.specs.List.{AllByRecursion}
use Rattle.refusal.specs.declared.Refusal.{Refusal}

pub record Demand (F : Type 0) : Type 0 where
  pub met : Bool
  pub refusal : Refusal F

abbrev pub demand : {F : Type 0} → Bool → F → ℕ → Demand F
demand b f p = record { met = b; refusal = record { fault = f; place = p } }

abbrev pub Met : {F : Type 0} → List (Demand F) → Type 0
Met ds = AllByRecursion (λ x. x.met ≡ true) ds

-- the value where every demand is met, else the refusal of the first that is not
abbrev pub told : {F A : Type 0} → List (Demand F) → A → Result A (Refusal F)
told [] a = Ok a
told (x ∷ xs) a = cond x.met (told xs a) (Err x.refusal)

-- r is the refusal of a broken demand, and every demand before that one is met
pub record First {F : Type 0} (ds : List (Demand F)) (r : Refusal F) : Type 0 where
  pub before : List (Demand F)
  pub broken : Demand F
  pub after : List (Demand F)
  pub order : ds ≡ before ++ broken ∷ after
  pub kept : Met before
  pub unmet : broken.met ≡ false
  pub same : r ≡ broken.refusal
