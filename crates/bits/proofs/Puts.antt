-- A field that is written as whole bytes.
use Rattle.std.proofs.Common.{◌≡◌, ℕ, ◌+◌, ◌-◌, ◌*◌, ◌/◌, ◌%◌, ◌^◌, ◌<◌, List, [], ◌∷◌, get_or, sym, ap, ◌∙◌, inl, inr, add_comm, arith, pow-add, shl_lt, shr-shr, shr_lt}
use lib.Arith.{digits_lt}
use lib.Pow.{high, low, shl-shr}
use Rattle.std.proofs.lemmas.Bool.{cases_lt}
use Rattle.bits.specs.Fields.{field}
use Rattle.bits.specs.Wrote.{Stored, Wrote}
use Rattle.bits.proofs.Whole.{field_bits, field_byte, field_bytes, field_part}

module _ (xs ys : List ℕ) (at w v b n fill word : ℕ) (fits : v < 2 ^ w) (byte : b ≡ get_or xs (at / 8) 0) (small : b < 256)
    (whole : at % 8 + w + fill ≡ 8 * n) (few : fill < 8) (is : word ≡ (b / 2 ^ (8 - at % 8) * 2 ^ w + v) * 2 ^ fill) (stored : Stored xs ys (at / 8) n word) where
  q : ℕ
  q = 8 * (at / 8)

  head : ℕ
  head = b / 2 ^ (8 - at % 8)

  head_lt : head < 2 ^ (at % 8)
  unfolding head
  head_lt =
      let e : at % 8 + (8 - at % 8) ≡ 8 = omega arith in
      let lt : b < 2 ^ (at % 8 + (8 - at % 8)) = rw e (omega arith) in
      shr_lt (at % 8) (8 - at % 8) lt

  word_lt : word < 2 ^ (8 * n)
  unfolding head
  word_lt =
      let lt : head * 2 ^ w + v < 2 ^ (at % 8 + w) = rw (pow-add 2 (at % 8) w) (digits_lt head_lt fits) in
      rw (is, ← whole) (shl_lt (at % 8 + w) fill lt)

  all : field ys q (at % 8 + w + fill) ≡ word
  unfolding q
  all = rw whole (field_bytes ys (at / 8) n word word_lt stored.digits)

  shifted : word / 2 ^ fill ≡ head * 2 ^ w + v
  unfolding head
  shifted = rw is (shl-shr (head * 2 ^ w + v) fill)

  value : field ys at w ≡ v
  unfolding q
  value =
      let p = field_part ys q (at % 8) w fill in
      let e : q + at % 8 ≡ at = omega arith in
      rw e at (sym p) ∙ rw (all, shifted) (low head w fits)

  front : field ys q (at % 8) ≡ field xs q (at % 8)
  unfolding q head
  front =
      let new = field_part ys q 0 (at % 8) (w + fill) in
      let old = field_part xs q 0 (at % 8) (8 - at % 8) in
      let e₀ : q + 0 ≡ q = omega arith in
      let e₁ : 0 + at % 8 + (w + fill) ≡ at % 8 + w + fill = omega arith in
      let e₂ : 0 + at % 8 + (8 - at % 8) ≡ 8 = omega arith in
      let s : word / 2 ^ (w + fill) ≡ head = ap (λ k. word / 2 ^ k) (add_comm w fill) ∙ sym (shr-shr word fill w) ∙ rw shifted (high head w fits) in
      let whole_byte : field xs q 8 ≡ b = field_byte xs (at / 8) (rw byte at small) ∙ sym byte in
      (rw e₀ at (sym new)) ∙ rw (e₁, all, s) (sym (rw (e₂, whole_byte) at (rw e₀ at (sym old))))

  pub put_wrote : Wrote xs ys at (at + w) ((w, v) ∷ [])
  unfolding q
  put_wrote = record {
    ends = omega arith;
    stand = (value, tt);
    before = λ j h. elim (cases_lt j q) [
      | inl below ↦ (let lt : j / 8 < at / 8 = omega arith in rw (stored.below (j / 8) lt))
      | inr over ↦ (let e : j ≡ q + (j - q) = omega arith in rw e (field_bits ys xs q (at % 8) front (j - q) (omega arith)))
    ];
    kept = λ i h. stored.above i (omega arith);
  }
