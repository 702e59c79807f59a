-- The faults of a text: their numbers, and a refusal.
use Rattle.std.specs.Prelude.{ℕ, Ok, Err, Result}
use Rattle.refusal.specs.declared.Refusal.{Refusal}
use Rattle.property_text.specs.declared.fault.PropertyFault.{PropertyFault}
use Rattle.property_text.specs.declared.fault.PropertyFault.TheVariants.{TextTooLong, TokenMissing, BadNumber, BadCeiling, TooManyHops, TooDeep, TooManyParts}

abbrev pub number_of : PropertyFault → ℕ
number_of TextTooLong = 11
number_of TokenMissing = 12
number_of BadNumber = 13
number_of BadCeiling = 14
number_of TooManyHops = 15
number_of TooDeep = 16
number_of TooManyParts = 17

-- what is read, or why it is refused and where
abbrev pub Read : Type 0 → Type 0
Read A = Result A (Refusal PropertyFault)

abbrev pub refused : {A : Type 0} → PropertyFault → ℕ → Read A
refused fault place = Err (record { fault = fault; place = place })

-- reading goes on with what was read; a refusal stays the first one met
infixl 20 ◌>>=◌
abbrev pub ◌>>=◌ : {A B : Type 0} → Read A → (A → Read B) → Read B
◌>>=◌ (Ok a) go_on = go_on a
◌>>=◌ (Err r) go_on = Err r

-- what was read, and the place up to which it was
abbrev pub up_to : {A : Type 0} → ℕ → Read A → Read (A × ℕ)
up_to place r = r >>= (λ a. Ok (a, place))

-- a token has no value but its end
abbrev pub ended : ℕ → Read (Unit {0}) → Read ℕ
ended place r = r >>= (λ _. Ok place)
