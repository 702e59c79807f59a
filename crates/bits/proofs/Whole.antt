-- Fields side by side, a field that is a byte, and a field as a quotient and a remainder of the whole.
use Rattle.std.proofs.Common.{◌≡◌, ℕ, zero, suc, ◌+◌, ◌-◌, ◌*◌, ◌/◌, ◌%◌, ◌^◌, ◌<◌, ◌≤◌, List, get_or, sym, refl, ap, ◌∙◌, inl, inr, add-zero, add_assoc, add-suc, mul_assoc, pow-suc, arith, shr-shr, shr_lt}
use Rattle.std.proofs.lemmas.Bool.{cases_eq}
use lib.Pow.{high, low}
use Rattle.bits.specs.Fields.{bit_at, field}

pub field_none : (bs : List ℕ) (p : ℕ) → field bs p 0 ≡ 0
unfolding field
field_none bs p = refl

pub field_lt : (bs : List ℕ) (p w : ℕ) → field bs p w < 2 ^ w
unfolding field
field_lt bs p zero = omega arith
field_lt bs p (suc w) = rw (pow-suc 2 w) (omega (arith, field_lt bs p w))

-- a field reads its own bits alone
pub field_same : (xs ys : List ℕ) (p w : ℕ) → ((j : ℕ) → j < w → bit_at xs (p + j) ≡ bit_at ys (p + j)) → field xs p w ≡ field ys p w
unfolding field
field_same xs ys p zero h = refl
field_same xs ys p (suc w) h =
    let rest = field_same xs ys p w (λ j l. h j (omega arith)) in
    let last = h w (omega arith) in
    rw (rest, last)

pub field_append : (bs : List ℕ) (p a b : ℕ) → field bs p (a + b) ≡ field bs p a * 2 ^ b + field bs (p + a) b
unfolding field
field_append bs p a zero = rw add-zero (omega arith)
field_append bs p a (suc b) =
    let ih = field_append bs p a b in
    let m : field bs p a * 2 ^ b * 2 ≡ field bs p a * (2 ^ b * 2) = mul_assoc (field bs p a) (2 ^ b) 2 in
    rw (add-suc, pow-suc 2 b, add_assoc p a b) (omega arith)

-- a field as a quotient and a remainder of a longer one
pub field_part : (bs : List ℕ) (q p w r : ℕ) → field bs q (p + w + r) / 2 ^ r % 2 ^ w ≡ field bs (q + p) w
field_part bs q p w r =
    let e₁ = field_append bs q (p + w) r in
    let h : field bs q (p + w + r) / 2 ^ r ≡ field bs q (p + w) = rw e₁ (high (field bs q (p + w)) r (field_lt bs (q + (p + w)) r)) in
    let e₂ = field_append bs q p w in
    rw (h, e₂) (low (field bs q p) w (field_lt bs (q + p) w))

bits : (x : ℕ) → x < 256
    → ((((((((0 * 2 + x / 128 % 2) * 2 + x / 64 % 2) * 2 + x / 32 % 2) * 2 + x / 16 % 2) * 2 + x / 8 % 2) * 2 + x / 4 % 2) * 2 + x / 2 % 2) * 2 + x / 1 % 2) ≡ x
bits x h = omega arith

at_bit : (bs : List ℕ) (i k : ℕ) → k < 8 → bit_at bs (8 * i + k) ≡ get_or bs i 0 / 2 ^ (7 - k) % 2
at_bit bs i k h = let d : (8 * i + k) / 8 ≡ i = omega arith in let m : (8 * i + k) % 8 ≡ k = omega arith in rw (d, m)

pub field_byte : (bs : List ℕ) (i : ℕ) → get_or bs i 0 < 256 → field bs (8 * i) 8 ≡ get_or bs i 0
unfolding field
field_byte bs i h =
    let b = λ (k : ℕ) (h : k < 8). at_bit bs i k h in
    rw (b 0 (omega arith), b 1 (omega arith), b 2 (omega arith), b 3 (omega arith), b 4 (omega arith), b 5 (omega arith), b 6 (omega arith), b 7 (omega arith))
    (bits (get_or bs i 0) h)

pub field_word : (bs : List ℕ) (i : ℕ) → get_or bs i 0 < 256 → get_or bs (i + 1) 0 < 256 → get_or bs (i + 2) 0 < 256
    → field bs (8 * i) 24 ≡ get_or bs i 0 * 65536 + get_or bs (i + 1) 0 * 256 + get_or bs (i + 2) 0
field_word bs i h₀ h₁ h₂ =
    let a = field_append bs (8 * i) 8 16 in
    let b = field_append bs (8 * i + 8) 8 8 in
    let p₁ : 8 * i + 8 ≡ 8 * (i + 1) = omega arith in
    let p₂ : 8 * i + 8 + 8 ≡ 8 * (i + 2) = omega arith in
    let b₁ : field bs (8 * i + 8) 8 ≡ get_or bs (i + 1) 0 = rw p₁ (field_byte bs (i + 1) h₁) in
    let b₂ : field bs (8 * i + 8 + 8) 8 ≡ get_or bs (i + 2) 0 = rw p₂ (field_byte bs (i + 2) h₂) in
    let b₀ = field_byte bs i h₀ in
    omega arith

-- what the reader computes from three bytes
pub field_read : (bs : List ℕ) (at w word x y z : ℕ) → w ≤ 16 → word ≡ x * 65536 + y * 256 + z
    → x ≡ get_or bs (at / 8) 0 → y ≡ get_or bs (at / 8 + 1) 0 → z ≡ get_or bs (at / 8 + 2) 0 → x < 256 → y < 256 → z < 256
    → word / 2 ^ (24 - at % 8 - w) % 2 ^ w ≡ field bs at w
field_read bs at w word x y z l e ex ey ez hx hy hz =
    let whole : word ≡ field bs (8 * (at / 8)) 24 = rw (e, ex, ey, ez) (sym (field_word bs (at / 8) (rw ex at hx) (rw ey at hy) (rw ez at hz))) in
    let n : at % 8 + w + (24 - at % 8 - w) ≡ 24 = omega arith in
    let q : 8 * (at / 8) + at % 8 ≡ at = omega arith in
    let p = field_part bs (8 * (at / 8)) (at % 8) w (24 - at % 8 - w) in
    rw whole (rw (n, q) at p)

-- one more bit of the value
pub value_more : (v n : ℕ) → 0 < n → v / 2 ^ (n - 1) ≡ v / 2 ^ n * 2 + v / 2 ^ (n - 1) % 2
value_more v n h =
    let p : n ≡ (n - 1) + 1 = omega arith in
    let q : v / 2 ^ ((n - 1) + 1) ≡ v / 2 ^ (n - 1) / 2 = sym (shr-shr v (n - 1) 1) in
    let r : v / 2 ^ n ≡ v / 2 ^ (n - 1) / 2 = ap (λ k. v / 2 ^ k) p ∙ q in
    omega arith

pub whole_shift : (w v : ℕ) → v / 2 ^ (w - w) ≡ v
whole_shift w v = let e : w - w ≡ 0 = omega arith in rw e (omega arith)

-- equal fields have equal bits
pub field_bits : (xs ys : List ℕ) (p w : ℕ) → field xs p w ≡ field ys p w → (j : ℕ) → j < w → bit_at xs (p + j) ≡ bit_at ys (p + j)
unfolding field
field_bits xs ys p zero e j h = omega arith
field_bits xs ys p (suc w) e j h =
    let last : bit_at xs (p + w) ≡ bit_at ys (p + w) = omega arith in
    let front : field xs p w ≡ field ys p w = omega arith in
    elim (cases_eq j w) [
      | inl q ↦ rw q last
      | inr n ↦ field_bits xs ys p w front j (omega arith)
    ]

-- bytes that hold the digits of a number, the highest first
pub field_bytes : (bs : List ℕ) (i n word : ℕ) → word < 2 ^ (8 * n) → ((k : ℕ) → k < n → get_or bs (i + k) 0 ≡ word / 2 ^ (8 * (n - 1 - k)) % 256)
    → field bs (8 * i) (8 * n) ≡ word
field_bytes bs i zero word small digits = rw (field_none bs (8 * i)) (omega arith)
field_bytes bs i (suc n) word small digits =
    let n₈ : 8 * suc n ≡ 8 * n + 8 = omega arith in
    let less : word / 2 ^ 8 < 2 ^ (8 * n) = shr_lt (8 * n) 8 (rw n₈ at small) in
    let front = field_bytes bs i n (word / 2 ^ 8) less (λ k h.
    let e : 8 + 8 * (n - 1 - k) ≡ 8 * (suc n - 1 - k) = omega arith in
    let s = shr-shr word 8 (8 * (n - 1 - k)) in
    rw (s, e) (digits k (omega arith))) in
    let z : 8 * (suc n - 1 - n) ≡ 0 = omega arith in
    let byte : get_or bs (i + n) 0 ≡ word % 256 = (rw z at (digits n (omega arith))) ∙ omega arith in
    let last : field bs (8 * i + 8 * n) 8 ≡ word % 256 =
    let e : 8 * i + 8 * n ≡ 8 * (i + n) = omega arith in rw e (field_byte bs (i + n) (rw byte (omega arith)) ∙ byte) in
    rw (n₈, field_append bs (8 * i) (8 * n) 8, front, last) (omega arith)
