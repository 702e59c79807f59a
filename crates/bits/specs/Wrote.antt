-- Writing fields into bytes.
use Rattle.std.specs.Prelude.{◌≡◌, ℕ, ◌+◌, ◌-◌, ◌*◌, ◌/◌, ◌%◌, ◌^◌, ◌<◌, ◌≤◌, List, [], ◌∷◌, slice_index}
use Rattle.bits.specs.Fields.{field, bit_at}

-- Fields are pairs of a width and a value.
abbrev pub width_of : List (ℕ × ℕ) → ℕ
width_of [] = 0
width_of (f ∷ fs) = f.0 + width_of fs

-- from p on stand these fields without gaps
abbrev pub Stand : List ℕ → ℕ → List (ℕ × ℕ) → Type 0
Stand bs p [] = Unit {0}
Stand bs p (f ∷ fs) = (field bs p f.0 ≡ f.1) × Stand bs (p + f.0) fs

-- xs became ys as the fields were written from p up to q: what stood before p is as it was, and so is every byte from q on
pub record Wrote (xs ys : List ℕ) (p q : ℕ) (fs : List (ℕ × ℕ)) : Type 0 where
  pub ends : q ≡ p + width_of fs
  pub stand : Stand ys p fs
  pub before : (j : ℕ) → j < p → bit_at ys j ≡ bit_at xs j
  pub kept : (i : ℕ) → q ≤ 8 * i → slice_index ys i ≡ slice_index xs i

-- xs became ys as the n lowest bytes of a number were written from the byte i on, the highest first
pub record Stored (xs ys : List ℕ) (i n word : ℕ) : Type 0 where
  pub digits : (k : ℕ) → k < n → slice_index ys (i + k) ≡ word / 2 ^ (8 * (n - 1 - k)) % 256
  pub below : (j : ℕ) → j < i → slice_index ys j ≡ slice_index xs j
  pub above : (j : ℕ) → i + n ≤ j → slice_index ys j ≡ slice_index xs j
