-- How a text spells its tokens. A place is where a token begins, or the end of the text.
use Rattle.std.specs.Prelude.{◌≡◌, ℕ, ◌+◌, ◌*◌, ◌<◌, ◌≤◌, List, slice_index, slice_index_or}

-- spaces alone stand from i up to j, and none at j
pub record Gap (s : List ℕ) (i j : ℕ) : Type 0 where
  pub forward : i ≤ j
  pub spaces : (k : ℕ) → i ≤ k → k < j → slice_index s k ≡ 32
  pub ended : slice_index_or s j 0 ≡ 32 → ⊥

-- the token of one byte stands at i, and the next token begins at j
pub record Byte (s : List ℕ) (b i j : ℕ) : Type 0 where
  pub stands : slice_index_or s i 0 ≡ b
  pub gap : Gap s (i + 1) j

-- the token `<=` stands at i, and the next begins at j
pub record AtMost (s : List ℕ) (i j : ℕ) : Type 0 where
  pub less : slice_index_or s i 0 ≡ 60
  pub equal : slice_index_or s (i + 1) 0 ≡ 61
  pub gap : Gap s (i + 2) j

-- the digit d stands at i
pub record Digit (s : List ℕ) (i d : ℕ) : Type 0 where
  pub small : d < 10
  pub stands : slice_index_or s i 0 ≡ 48 + d

-- the digits from i up to j write v
pub data Digits (s : List ℕ) (i : ℕ) : ℕ → ℕ → Type 0 where
  one_digit : {d : ℕ} → Digit s i d → Digits s i (i + 1) d
  one_more : {j v d : ℕ} → Digits s i j v → Digit s j d → Digits s i (j + 1) (v * 10 + d)

-- the number v stands at i, and the next token begins at j: all the digits there are, five at most, and no needless 0 in front
pub record Number (s : List ℕ) (i v j : ℕ) : Type 0 where
  pub end : ℕ
  pub written : Digits s i end v
  pub all : (d : ℕ) → Digit s end d → ⊥
  pub few : end ≤ i + 5
  pub needed : Digit s i 0 → end ≡ i + 1
  pub gap : Gap s end j
