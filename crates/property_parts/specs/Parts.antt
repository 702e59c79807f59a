-- Parts in a table: each names only parts before it, and its truth is worked out from theirs.
use Rattle.std.specs.Prelude.{◌≡◌, ℕ, zero, suc, ◌<◌, Bool, true, false, not, ◌&&◌, ◌||◌, List, nat_lt, slice_index_or}
use Rattle.property_parts.specs.Formula.{among}
use Rattle.property_parts.specs.declared.parts.Part.{Part}
use Rattle.property_parts.specs.declared.parts.Part.TheVariants.{Letter, Not, True, False, And, Or}

abbrev pub most_parts : ℕ
most_parts = 128

-- the part may have the number n: its letter is one of sixteen, and its operands are parts before n
abbrev pub names_earlier : Part → ℕ → Bool
names_earlier (Letter l) n = nat_lt l 16
names_earlier (Not a) n = nat_lt a n
names_earlier True n = true
names_earlier False n = true
names_earlier (And a b) n = nat_lt a n && nat_lt b n
names_earlier (Or a b) n = nat_lt a n && nat_lt b n

-- each of the first n parts names only parts before it
abbrev pub Falls : List Part → ℕ → Type 0
Falls parts n = (k : ℕ) → k < n → names_earlier (slice_index_or parts k (Letter 0)) k ≡ true

-- a rule makes something of a part, from what it makes of the parts that the part names
abbrev pub Rule : Type 0 → Type 0
Rule A = (ℕ → A) → Part → A

-- what a rule makes of the part n, looked for at most so many parts deep
unfoldable pub made_within : {A : Type 0} → A → Rule A → ℕ → List Part → ℕ → A
made_within nothing rule zero parts n = nothing
made_within nothing rule (suc deep) parts n = rule (made_within nothing rule deep parts) (slice_index_or parts n (Letter 0))

-- what a rule makes of the part n: its operands are before it, so n + 1 parts deep is enough
abbrev pub made_of : {A : Type 0} → A → Rule A → List Part → ℕ → A
made_of nothing rule parts n = made_within nothing rule (suc n) parts n

-- the truth of a part in the propositions w
abbrev pub truth_rule : ℕ → Rule Bool
truth_rule w t (Letter l) = among l w
truth_rule w t (Not a) = not (t a)
truth_rule w t True = true
truth_rule w t False = false
truth_rule w t (And a b) = t a && t b
truth_rule w t (Or a b) = t a || t b

-- the truth of the part n in the propositions w
abbrev pub truth : List Part → ℕ → ℕ → Bool
truth parts w n = made_of false (truth_rule w) parts n
