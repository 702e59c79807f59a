-- Fields that stand in a body at their places.
use Rattle.std.proofs.Common.{◌≡◌, ℕ, ◌+◌, ◌-◌, ◌*◌, ◌<◌, ◌≤◌, List, [], ◌∷◌, length, get_or}
use Rattle.bits.specs.Fields.{field}

-- from place p on stand these fields without gaps, and then zero bits that fill the last byte
abbrev pub Holds : List ℕ → ℕ → List (ℕ × ℕ) → Type 0
Holds bs p [] = (p ≤ 8 * length bs) × (8 * length bs < p + 8) × (field bs p (8 * length bs - p) ≡ 0)
Holds bs p (f ∷ fs) = (p + f.0 ≤ 8 * length bs) × (field bs p f.0 ≡ f.1) × Holds bs (p + f.0) fs

abbrev pub Bytes : List ℕ → Type 0
Bytes bs = (i : ℕ) → i < length bs → get_or bs i 0 < 256
