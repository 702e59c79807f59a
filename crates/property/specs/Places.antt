-- What stands at the place of a refusal, and how much of the text decides it.
use Rattle.std.specs.Prelude.{◌≡◌, ℕ, ◌+◌, ◌<◌, ◌≤◌, Bool, true, false, ◌⊎◌, List, length, take, Err, slice_index, slice_index_or}
use Rattle.refusal.specs.declared.Refusal.{Refusal}
use Rattle.property_text.specs.Spelling.{Byte, Digit, Digits, Number}
use Rattle.property_text.specs.declared.fault.PropertyFault.{PropertyFault}
use Rattle.property_text.specs.declared.fault.PropertyFault.TheVariants.{TextTooLong, TokenMissing, BadNumber, BadCeiling, TooManyHops, TooDeep, TooManyParts}
use Rattle.property.specs.Limits.{most_bytes, most_lower, most_hops}
use Rattle.property.specs.Asked.{Asked}
use Rattle.property.specs.Grammar.{Spelled}
use Rattle.property.specs.Reading.{read}

-- a token begins at p, or the text ends there
pub record Begins (s : List ℕ) (p : ℕ) : Type 0 where
  pub within : p ≤ length s
  pub no_space : slice_index_or s p 0 ≡ 32 → ⊥

-- the digits from p on are six or more, or have a needless 0 in front
pub record BadDigits (s : List ℕ) (p : ℕ) : Type 0 where
  pub end : ℕ
  pub value : ℕ
  pub written : Digits s p end value
  pub wrong : (p + 5 < end) ⊎ (Digit s p 0 × (p + 1 < end))

-- the number at p, below the line of a ceiling, is 0, above its limit, or less than the upper one
pub record BadLower (s : List ℕ) (p : ℕ) : Type 0 where
  pub upper_at : ℕ
  pub line_at : ℕ
  pub next : ℕ
  pub upper : ℕ
  pub lower : ℕ
  pub is_upper : Number s upper_at upper line_at
  pub is_line : Byte s 47 line_at p
  pub is_lower : Number s p lower next
  pub wrong : (lower ≡ 0) ⊎ ((most_lower < lower) ⊎ (lower < upper))

-- the number at p is above the limit of hops
pub record BadHops (s : List ℕ) (p : ℕ) : Type 0 where
  pub next : ℕ
  pub hops : ℕ
  pub is_hops : Number s p hops next
  pub wrong : most_hops < hops

-- the byte is the token of a part: a letter from a to p, `!`, `T`, `F`, `&` or `|`
pub data PartByte (b : ℕ) : Type 0 where
  is_letter : 97 ≤ b → b ≤ 112 → PartByte b
  is_not : b ≡ 33 → PartByte b
  is_top : b ≡ 84 → PartByte b
  is_bottom : b ≡ 70 → PartByte b
  is_and : b ≡ 38 → PartByte b
  is_or : b ≡ 124 → PartByte b

-- what stands in the text s at the place p of a refusal
abbrev pub Stands : List ℕ → PropertyFault → ℕ → Type 0
Stands s TextTooLong p = (p ≡ most_bytes) × (p < length s)
Stands s TokenMissing p = Begins s p
Stands s BadNumber p = BadDigits s p
Stands s BadCeiling p = BadLower s p
Stands s TooManyHops p = BadHops s p
Stands s TooDeep p = slice_index s p ≡ 40
Stands s TooManyParts p = PartByte (slice_index s p)

-- the bytes at the refusal's place decide it; else the length of the text does, or how many parts there are
abbrev pub local : PropertyFault → Bool
local TextTooLong = false
local TokenMissing = true
local BadNumber = true
local BadCeiling = true
local TooManyHops = true
local TooDeep = true
local TooManyParts = false

-- how many bytes from its place on decide a refusal
abbrev pub reach : PropertyFault → ℕ
reach TextTooLong = 0
reach TokenMissing = 2
reach BadNumber = 6
reach BadCeiling = 6
reach TooManyHops = 6
reach TooDeep = 1
reach TooManyParts = 0

-- the text t is the same as s up to the place of a refusal of s, and with the bytes there that decide it
abbrev pub BeginsAlike : List ℕ → Refusal PropertyFault → List ℕ → Type 0
BeginsAlike s r t = take (r.place + reach r.fault) t ≡ take (r.place + reach r.fault) s

-- a refusal is the first met from the front: a text that begins alike is refused alike, however it goes on
abbrev pub FrontDecides : List ℕ → Refusal PropertyFault → Type 0
FrontDecides s r = local r.fault ≡ true → (t : List ℕ) → BeginsAlike s r t → length t ≤ most_bytes → read t ≡ Err r

-- and it spells no property
abbrev pub FrontSpellsNone : List ℕ → Refusal PropertyFault → Type 0
FrontSpellsNone s r = local r.fault ≡ true → (t : List ℕ) → BeginsAlike s r t → (a : Asked) → Spelled t a → ⊥
