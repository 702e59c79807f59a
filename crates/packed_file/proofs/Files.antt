-- The fields of a lawful chain have exactly one body, the packed one.
use Rattle.std.proofs.Common.{◌≡◌, ℕ, zero, suc, ◌+◌, ◌-◌, ◌*◌, ◌/◌, ◌%◌, ◌^◌, ◌<◌, ◌≤◌, List, [], ◌∷◌, ◌++◌, length, get_or, sym, refl, ap, ◌∙◌, inl, inr, pow-suc, arith, length-append, pow_pos, shr-shr}
use native.Mathlib.Nat.{div-eq_of_lt}
use Rattle.std.specs.List.{flat_map, AllByRecursion}
use Rattle.std.proofs.ByRecursion.{All-append}
use Rattle.std.proofs.lemmas.List.{ext_get_or, get_or_append_left, get_or-append-add}
use Rattle.std.proofs.lemmas.Bool.{cases_lt, cases_eq}
use Rattle.bits.specs.Fields.{field, bit_at}
use Rattle.bits.proofs.Whole.{field_same, field_bits, field_byte, value_more, whole_shift}
use Rattle.bits.proofs.Mirrors.{mirrored_lt}
use Rattle.chain.specs.Markov.{Row, Markov, Rising, LawfulRow, Lawful, weight_sum}
use Rattle.packed_file.specs.Format.{layout, edge_fields, row_fields, bits, all_bits, number_at, bytes_from, packed}
use Rattle.packed_file.proofs.Holding.{Holds, Bytes}

same_bits : (xs ys : List ℕ) (p : ℕ) (fs : List (ℕ × ℕ)) → Holds xs p fs → Holds ys p fs → (length xs ≡ length ys) × ((j : ℕ) → p ≤ j → j < 8 * length xs → bit_at xs j ≡ bit_at ys j)
same_bits xs ys p [] h k =
    let l : length xs ≡ length ys = let a = h.0 in let b = h.1 in let c = k.0 in let d = k.1 in omega arith in
    let z : field ys p (8 * length xs - p) ≡ 0 = rw l k.2 in (
      l,
      λ j a b. let q : j ≡ p + (j - p) = omega arith in
          rw q (field_bits xs ys p (8 * length xs - p) (h.2 ∙ sym z) (j - p) (omega arith)),
    )
same_bits xs ys p (f ∷ fs) h k =
    let rest = same_bits xs ys (p + f.0) fs h.2 k.2 in (
      rest.0,
      λ j a b. elim (cases_lt j (p + f.0)) [
        | inl lt ↦ (let q : j ≡ p + (j - p) = omega arith in rw q (field_bits xs ys p f.0 (h.1 ∙ sym k.1) (j - p) (omega arith)))
        | inr ge ↦ rest.1 j ge b
      ],
    )

one_body : (xs ys : List ℕ) (fs : List (ℕ × ℕ)) → Bytes xs → Bytes ys → Holds xs 0 fs → Holds ys 0 fs → xs ≡ ys
one_body xs ys fs bx by h k =
    let s = same_bits xs ys 0 fs h k in
    ext_get_or 0 xs ys s.0 (λ i l.
    let e = field_same xs ys (8 * i) 8 (λ j lj. s.1 (8 * i + j) (omega arith) (omega arith)) in
    let ly : i < length ys = let q = s.0 in omega arith in
    sym (field_byte xs i (bx i l)) ∙ e ∙ field_byte ys i (by i ly))

-- a list of bits cut into bytes has these bits
pub length_bits : (w v : ℕ) → length (bits w v) ≡ w
unfolding bits
length_bits zero v = refl
length_bits (suc w) v = ap suc (length_bits w v)

pub length_bytes_from : (xs : List ℕ) (p k : ℕ) → length (bytes_from xs p k) ≡ k
unfolding bytes_from
length_bytes_from xs p zero = refl
length_bytes_from xs p (suc k) = ap suc (length_bytes_from xs (p + 8) k)

get_or_bytes_from : (xs : List ℕ) (p k i : ℕ) → i < k → get_or (bytes_from xs p k) i 0 ≡ number_at xs (p + 8 * i) 8
unfolding bytes_from
get_or_bytes_from xs p zero i h = omega arith
get_or_bytes_from xs p (suc k) zero h = let e : p + 8 * 0 ≡ p = omega arith in rw e
get_or_bytes_from xs p (suc k) (suc i) h = let e : p + 8 + 8 * i ≡ p + 8 * suc i = omega arith in rw e at (get_or_bytes_from xs (p + 8) k i (omega arith))

Bits : List ℕ → Type 0
Bits xs = (j : ℕ) → get_or xs j 0 < 2

number_at_lt : (xs : List ℕ) → Bits xs → (p w : ℕ) → number_at xs p w < 2 ^ w
unfolding number_at Bits
number_at_lt xs b p zero = omega arith
number_at_lt xs b p (suc w) = rw (pow-suc 2 w) (omega (arith, number_at_lt xs b p w, b (p + w)))

number_at_bit : (xs : List ℕ) → Bits xs → (p w j : ℕ) → j < w → number_at xs p w / 2 ^ (w - 1 - j) % 2 ≡ get_or xs (p + j) 0
unfolding number_at Bits
number_at_bit xs b p zero j h = omega arith
number_at_bit xs b p (suc w) j h =
    elim (cases_eq j w) [
      | inl q ↦ (let z : suc w - 1 - w ≡ 0 = omega arith in let l = b (p + w) in rw (q, z) (omega arith))
      | inr n ↦ (let r = number_at_bit xs b p w j (omega arith) in
          let z : suc w - 1 - j ≡ 1 + (w - 1 - j) = omega arith in
          let l = b (p + w) in
          let q : (number_at xs p w * 2 + get_or xs (p + w) 0) / 2 ^ 1 ≡ number_at xs p w = omega arith in
          let s = shr-shr (number_at xs p w * 2 + get_or xs (p + w) 0) 1 (w - 1 - j) in
          rw (z, ← s, q) r)
    ]

bytes_from_bit : (xs : List ℕ) → Bits xs → (k j : ℕ) → j < 8 * k → bit_at (bytes_from xs 0 k) j ≡ get_or xs j 0
bytes_from_bit xs b k j h =
    let l : j / 8 < k = omega arith in
    let e = get_or_bytes_from xs 0 k (j / 8) l in
    let r = number_at_bit xs b (0 + 8 * (j / 8)) 8 (j % 8) (omega arith) in
    let q : 0 + 8 * (j / 8) + j % 8 ≡ j = omega arith in
    rw e (rw q at r)

-- a field whose bits are those of a value
get_or_bits : (w v j : ℕ) → j < w → get_or (bits w v) j 0 ≡ v / 2 ^ (w - 1 - j) % 2
unfolding bits
get_or_bits zero v j h = omega arith
get_or_bits (suc w) v zero h = let e : suc w - 1 - 0 ≡ w = omega arith in rw e
get_or_bits (suc w) v (suc j) h = let e : suc w - 1 - suc j ≡ w - 1 - j = omega arith in rw e (get_or_bits w v j (omega arith))

field_so_far : (bs : List ℕ) (p w v : ℕ) → v < 2 ^ w → ((j : ℕ) → j < w → bit_at bs (p + j) ≡ v / 2 ^ (w - 1 - j) % 2) → (k : ℕ) → k ≤ w → field bs p k ≡ v / 2 ^ (w - k)
unfolding field
field_so_far bs p w v lt h zero l = let e : w - 0 ≡ w = omega arith in rw e (sym (div-eq_of_lt lt))
field_so_far bs p w v lt h (suc k) l =
    let ih = field_so_far bs p w v lt h k (omega arith) in
    let here = h k (omega arith) in
    let more = value_more v (w - k) (omega arith) in
    let e₁ : w - k - 1 ≡ w - 1 - k = omega arith in
    let e₂ : w - suc k ≡ w - 1 - k = omega arith in
    let more' : v / 2 ^ (w - 1 - k) ≡ v / 2 ^ (w - k) * 2 + v / 2 ^ (w - 1 - k) % 2 = rw e₁ at more in
    rw (ih, here, e₂) (sym more')

zero_shift : (k : ℕ) → 0 / 2 ^ k ≡ 0
zero_shift k = div-eq_of_lt (pow_pos k)

zero_bit : (k : ℕ) → 0 ≡ 0 / 2 ^ k % 2
zero_bit k = rw (zero_shift k)

Fit : List (ℕ × ℕ) → Type 0
Fit fs = AllByRecursion (λ f. f.1 < 2 ^ f.0) fs

bits_at : (bs : List ℕ) (p : ℕ) (fs : List (ℕ × ℕ)) → Fit fs → p + length (all_bits fs) ≤ 8 * length bs → 8 * length bs < p + length (all_bits fs) + 8
    → ((j : ℕ) → p + j < 8 * length bs → bit_at bs (p + j) ≡ get_or (all_bits fs) j 0) → Holds bs p fs
unfolding Fit
bits_at bs p [] f low high h =
    let z = field_so_far bs p (8 * length bs - p) 0 (pow_pos (8 * length bs - p)) (λ j l. h j (omega arith) ∙ zero_bit (8 * length bs - p - 1 - j)) (8 * length bs - p) (omega arith) in
    (omega arith, omega arith, z ∙ zero_shift (8 * length bs - p - (8 * length bs - p)))
bits_at bs p (x ∷ xs) f low high h =
    let len = length-append (bits x.0 x.1) (all_bits xs) in
    let w = length_bits x.0 x.1 in
    let at_field : (j : ℕ) → j < x.0 → bit_at bs (p + j) ≡ x.1 / 2 ^ (x.0 - 1 - j) % 2 = λ j l.
    (let l' : j < length (bits x.0 x.1) = omega arith in
    h j (omega arith) ∙ get_or_append_left (bits x.0 x.1) (all_bits xs) 0 j l' ∙ get_or_bits x.0 x.1 j l) in
    let v = field_so_far bs p x.0 x.1 f.0 at_field x.0 (omega arith) in
    let one : x.1 / 2 ^ (x.0 - x.0) ≡ x.1 = whole_shift x.0 x.1 in (
      omega arith,
      v ∙ one,
      bits_at bs (p + x.0) xs f.1 (omega arith) (omega arith) (λ j l.
          (let e : p + x.0 + j ≡ p + (x.0 + j) = omega arith in
          let r = h (x.0 + j) (omega arith) in
          let a = get_or-append-add (bits x.0 x.1) (all_bits xs) j 0 in
          let a' : get_or (bits x.0 x.1 ++ all_bits xs) (x.0 + j) 0 ≡ get_or (all_bits xs) j 0 = rw w at a in
          rw e (r ∙ a'))),
    )

bits_small : (w v j : ℕ) → get_or (bits w v) j 0 < 2
unfolding bits
bits_small zero v j = omega arith
bits_small (suc w) v zero = omega arith
bits_small (suc w) v (suc j) = bits_small w v j

all_small : (fs : List (ℕ × ℕ)) → Bits (all_bits fs)
unfolding Bits
all_small [] j = omega arith
all_small (x ∷ xs) j =
    elim (cases_lt j (length (bits x.0 x.1))) [
      | inl l ↦ rw (get_or_append_left (bits x.0 x.1) (all_bits xs) 0 j l) (bits_small x.0 x.1 j)
      | inr g ↦ (let q : j ≡ length (bits x.0 x.1) + (j - length (bits x.0 x.1)) = omega arith in
          let a = get_or-append-add (bits x.0 x.1) (all_bits xs) (j - length (bits x.0 x.1)) 0 in
          rw (q, a) (all_small xs (j - length (bits x.0 x.1))))
    ]

-- a lawful chain's fields fit
fit_append : (xs ys : List (ℕ × ℕ)) → Fit xs → Fit ys → Fit (xs ++ ys)
unfolding Fit
fit_append = All-append (λ f. f.1 < 2 ^ f.0)

pub rising_short : (n low : ℕ) (es : List (ℕ × ℕ)) → low ≤ n → Rising n low es → low + length es ≤ n
rising_short n low [] l h = omega arith
rising_short n low (e ∷ es) l h = let a = h.0 in let b = h.1 in let r = rising_short n (e.0 + 1) es (omega arith) h.3 in omega arith

edges_fit : (n d low : ℕ) (es : List (ℕ × ℕ)) → n ≤ 1024 → d < 2 ^ 16 → weight_sum es ≤ d → Rising n low es → Fit (flat_map edge_fields es)
unfolding Fit
edges_fit n d low [] a b c r = tt
edges_fit n d low (e ∷ es) a b c r = let t = r.1 in ((omega arith), ((omega arith), edges_fit n d (e.0 + 1) es a b (omega arith) r.3))

rows_fit : (n d : ℕ) (rs : List Row) → n ≤ 1024 → d < 2 ^ 16 → AllByRecursion (LawfulRow n d) rs → Fit (flat_map row_fields rs)
unfolding Fit
rows_fit n d [] a b r = tt
rows_fit n d (x ∷ xs) a b r =
    let short = rising_short n 0 x.edges (omega arith) r.0.rising in
    let whole = r.0.whole in
    let edges = edges_fit n d 0 x.edges a b (omega arith) r.0.rising in
    (mirrored_lt 16 x.propositions, (omega arith, fit_append (flat_map edge_fields x.edges) (flat_map row_fields xs) edges (rows_fit n d xs a b r.1)))

layout_fits : (c : Markov) → Lawful c → Fit (layout c)
unfolding Fit
layout_fits c l =
    let starts = l.starts in
    let few = l.few in
    let divided = l.divided in
    (omega arith, (omega arith, (omega arith, rows_fit (length c.rows) c.denominator c.rows few (omega arith) l.each)))

pub packed_holds : (c : Markov) → Lawful c → Holds (packed (layout c)) 0 (layout c)
packed_holds c l =
    let xs = all_bits (layout c) in
    let k = (length xs + 7) / 8 in
    let len : length (bytes_from xs 0 k) ≡ k = length_bytes_from xs 0 k in
    bits_at (bytes_from xs 0 k) 0 (layout c) (layout_fits c l) (omega arith) (omega arith)
    (λ j h. let q : 0 + j ≡ j = omega arith in rw q (bytes_from_bit xs (all_small (layout c)) k j (omega arith)))

packed_bytes : (fs : List (ℕ × ℕ)) → Bytes (packed fs)
packed_bytes fs i h =
    let xs = all_bits fs in
    let k = (length xs + 7) / 8 in
    let l : i < k = rw (length_bytes_from xs 0 k) at h in
    rw (get_or_bytes_from xs 0 k i l) (number_at_lt xs (all_small fs) (0 + 8 * i) 8)

pub holds_packed : (body : List ℕ) (c : Markov) → Bytes body → Lawful c → Holds body 0 (layout c) → body ≡ packed (layout c)
holds_packed body c b l h = one_body body (packed (layout c)) (layout c) b (packed_bytes (layout c)) h (packed_holds c l)
