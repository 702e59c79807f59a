-- The front of a buffer into which a chain's fields were written is the chain's file.
use Rattle.std.proofs.Common.{subst, ◌≡◌, ℕ, Bool, true, false, cond, nat_le, Err, Result, zero, suc, ◌+◌, ◌-◌, ◌*◌, ◌/◌, ◌%◌, ◌<◌, ◌≤◌, List, [], ◌∷◌, ◌++◌, length, take, drop, Ok, sym, refl, ap, ◌∙◌, arith, length-append}
use Rattle.std.specs.Int.{div_ceil}
use Rattle.std.specs.List.{flat_map}
use Rattle.std.proofs.lemmas.List.{get_or-take, get_or-drop, length-take-le, length-drop, ext_get_or, take-append-drop}
use Rattle.refusal.specs.declared.Refusal.{Refusal}
use Rattle.refusal.specs.Demands.{demand, told}
use Rattle.refusal.proofs.Told.{ok_err, told_ok}
use Rattle.std.proofs.lemmas.Bool.{leb-true, leb-false}
use Rattle.bits.specs.Fields.{field, bit_at}
use Rattle.bits.specs.Wrote.{width_of, Stand}
use Rattle.bits.proofs.Whole.{field_append, field_byte}
use Rattle.chain.specs.Markov.{Markov, Lawful, edges_in}
use Rattle.packed_file.specs.Format.{layout, header_fields, row_fields, bits, all_bits, encode}
use Rattle.packed_file.proofs.Judged.{encoded_judged, encoded_taken_up}
use Rattle.packed_file.proofs.Holding.{Holds, Bytes}
use Rattle.packed_file.proofs.Files.{length_bits, length_bytes_from, holds_packed}
use Rattle.packed_writer.specs.Written.{Written, ReadBack}
use Rattle.packed_writer.specs.declared.fault.WriteFault.{WriteFault}
use Rattle.packed_writer.specs.declared.fault.WriteFault.TheVariants.{BufferTooShort}
use Rattle.packed_writer.specs.Writing.{Room, Writes}
use Rattle.packed_writer.specs.declared.bit_writer.BitWriter.{BitWriter}
use Rattle.packed_writer.proofs.Steps.{file_bits, width_append, width_layout, stand_same, room_front, room_more, writes_more}

length_all : (fs : List (ℕ × ℕ)) → length (all_bits fs) ≡ width_of fs
length_all [] = refl
length_all (x ∷ xs) =
    let a = length-append (bits x.0 x.1) (all_bits xs) in
    let b = length_bits x.0 x.1 in
    let c = length_all xs in
    omega arith

pub length_encode : (m : Markov) → length (encode m) ≡ (file_bits m + 7) / 8
length_encode m =
    let a = length_bytes_from (all_bits (layout m)) 0 ((length (all_bits (layout m)) + 7) / 8) in
    let b = length_all (layout m) in
    let c = width_layout m in
    omega arith

stand_holds : (bs : List ℕ) (p : ℕ) (fs : List (ℕ × ℕ)) → p + width_of fs ≤ 8 * length bs → 8 * length bs < p + width_of fs + 8
    → Stand bs p (fs ++ (8 * length bs - (p + width_of fs), 0) ∷ []) → Holds bs p fs
stand_holds bs p [] l h f = let e : 8 * length bs - (p + 0) ≡ 8 * length bs - p = omega arith in (omega arith, omega arith, rw e at f.0)
stand_holds bs p (x ∷ xs) l h f =
    let e : 8 * length bs - (p + (x.0 + width_of xs)) ≡ 8 * length bs - (p + x.0 + width_of xs) = omega arith in
    (omega arith, f.0, stand_holds bs (p + x.0) xs (omega arith) (omega arith) (rw e at f.1))

take_bit : (bs : List ℕ) (k j : ℕ) → j < 8 * k → bit_at (take k bs) j ≡ bit_at bs j
take_bit bs k j h = let l : j / 8 < k = omega arith in rw (get_or-take k bs (j / 8) 0 l)

-- what stands after the mark stands in the body, 16 bits earlier
bit_body : (x y : ℕ) (body : List ℕ) (j : ℕ) → bit_at (x ∷ y ∷ body) (16 + j) ≡ bit_at body j
bit_body x y body j =
    let d : (16 + j) / 8 ≡ suc (suc (j / 8)) = omega arith in
    let m : (16 + j) % 8 ≡ j % 8 = omega arith in
    rw (d, m)

field_body : (x y : ℕ) (body : List ℕ) (p w : ℕ) → field (x ∷ y ∷ body) (16 + p) w ≡ field body p w
unfolding field
field_body x y body p zero = refl
field_body x y body p (suc w) =
    let e : 16 + p + w ≡ 16 + (p + w) = omega arith in
    rw (field_body x y body p w, e, bit_body x y body (p + w))

stand_body : (x y : ℕ) (body : List ℕ) (p : ℕ) (fs : List (ℕ × ℕ)) → Stand (x ∷ y ∷ body) (16 + p) fs → Stand body p fs
stand_body x y body p [] h = tt
stand_body x y body p (f ∷ fs) h =
    let e : 16 + p + f.0 ≡ 16 + (p + f.0) = omega arith in
    (sym (field_body x y body p f.0) ∙ h.0, stand_body x y body (p + f.0) fs (rw e at h.1))

mark_bytes : (x y : ℕ) (body : List ℕ) → x < 256 → y < 256 → field (x ∷ y ∷ body) 0 16 ≡ 0xFEFF → (x ≡ 0xFE) × (y ≡ 0xFF)
mark_bytes x y body hx hy h =
    let both = field_append (x ∷ y ∷ body) 0 8 8 in
    let one : field (x ∷ y ∷ body) 0 8 ≡ x = field_byte (x ∷ y ∷ body) 0 hx in
    let two : field (x ∷ y ∷ body) 8 8 ≡ y = field_byte (x ∷ y ∷ body) 1 hy in
    (omega arith, omega arith)

marked_body : (bs : List ℕ) (m : Markov) → Lawful m → Bytes bs → length bs ≡ (file_bits m + 7) / 8
    → Stand bs 0 (((16, 0xFEFF) ∷ layout m) ++ (8 * length bs - file_bits m, 0) ∷ []) → bs ≡ encode m
marked_body [] m law small len h = absurd (omega arith)
marked_body (x ∷ []) m law small len h = absurd (omega arith)
marked_body (x ∷ y ∷ body) m law small len h =
    let mark = mark_bytes x y body (small 0 (omega arith)) (small 1 (omega arith)) h.0 in
    let w = width_layout m in
    let e : 8 * length (x ∷ y ∷ body) - file_bits m ≡ 8 * length body - (0 + width_of (layout m)) = omega arith in
    let stands = stand_body x y body 0 (layout m ++ (8 * length (x ∷ y ∷ body) - file_bits m, 0) ∷ []) h.1 in
    let holds : Holds body 0 (layout m) = stand_holds body 0 (layout m) (omega arith) (omega arith) (rw e at stands) in
    let same = holds_packed body m (λ i l. small (suc (suc i)) (omega arith)) law holds in
    rw (mark.0, mark.1, same)

broken : {F : Type 0} (b : Bool) (f e : Refusal F) → cond b (Ok (tt {0})) (Err f) ≡ Err e → (b ≡ false) × (e ≡ f)
broken true f e h = ok_err h
broken false f e h = (refl, cc)

-- what the writer asks of a buffer for a file of k bytes
abbrev asked : ℕ → List ℕ → Result (Unit {0}) (Refusal WriteFault)
asked k before = told (demand (nat_le k (length before)) BufferTooShort 0 ∷ []) tt

-- what it writes: the chain's fields, n bits, and what fills the last of k bytes
abbrev file_fields : Markov → ℕ → ℕ → List (ℕ × ℕ)
file_fields m n k = ((16, 0xFEFF) ∷ layout m) ++ (8 * k - n, 0) ∷ []

module _ {m : Markov} (law : Lawful m) {s t k : ℕ} (states : s ≡ length m.rows) (edges : t ≡ edges_in m.rows) (bytes : k ≡ div_ceil (16 + 36 + 27 * s + 26 * t) 8) where
  long_file : k ≡ (file_bits m + 7) / 8
  long_file = omega (arith, states, edges, bytes)

  -- a buffer that is too short is refused as it is
  pub refused : (before : List ℕ) (e : Refusal WriteFault) → Err e ≡ asked k before → Written m before before (Err e)
  refused before e h =
      let b = broken (nat_le k (length before)) (record { fault = BufferTooShort; place = 0 }) e (sym h) in
      let short = leb-false k (length before) b.0 in
      let n = length_encode m in
      let l = long_file in
      (b.1, omega arith, refl)

  module _ {before : List ℕ} (a : BitWriter) (front : a.at ≡ 0) (same_before : a.buffer.now ≡ before) (enough : Ok (tt {0}) ≡ asked k before) where
    room : k ≤ length a.buffer.now
    room = rw same_before (leb-true k (length before) (told_ok (demand (nat_le k (length before)) BufferTooShort 0 ∷ []) (tt {0}) (tt {0}) (sym enough)).1.0)

    width_file : 16 + width_of (layout m ++ (8 * k - (16 + 36 + 27 * s + 26 * t), 0) ∷ []) ≡ 8 * k
    width_file =
        let width = width_layout m in
        let all = width_append (layout m) ((8 * k - (16 + 36 + 27 * s + 26 * t), 0) ∷ []) in
        let l = long_file in
        omega arith

    room_file : Room a (file_fields m (16 + 36 + 27 * s + 26 * t) k)
    room_file =
        let width = width_file in
        let few = law.few in
        let sparse = law.sparse in
        let r = room in
        let l = long_file in
        record { within = omega arith; near = omega arith }

    pub room_rows : {b : BitWriter} → Writes a b ((16, 0xFEFF) ∷ header_fields m) → Room b (flat_map row_fields m.rows)
    room_rows h = room_front (flat_map row_fields m.rows) ((8 * k - (16 + 36 + 27 * s + 26 * t), 0) ∷ []) (room_more room_file h)

    pub room_fill : {b c : BitWriter} → Writes a b ((16, 0xFEFF) ∷ header_fields m) → Writes b c (flat_map row_fields m.rows) → Room c ((8 * k - (16 + 36 + 27 * s + 26 * t), 0) ∷ [])
    room_fill h r = room_more room_file (writes_more h r)

    written : {b : BitWriter} → Bytes b.buffer.now → Writes a b (file_fields m (16 + 36 + 27 * s + 26 * t) k) → Written m a.buffer.now b.buffer.now (Ok k) × ReadBack m b.buffer.now (Ok k)
    written {b = b} small h =
        let after = b.buffer.now in
        let r = room in
        let l = long_file in
        let long = h.long in
        let width = width_file in
        let ends = h.wrote.ends in
        let len : length (take k after) ≡ k = length-take-le k after (omega arith) in
        let stands = stand_same after (take k after) 0 (file_fields m (16 + 36 + 27 * s + 26 * t) k) (λ j l. take_bit after k j (omega arith)) (rw front at h.wrote.stand) in
        let e : 8 * k - (16 + 36 + 27 * s + 26 * t) ≡ 8 * length (take k after) - file_bits m = omega arith in
        let small_front : Bytes (take k after) = λ i l. let l' : i < k = omega arith in rw (get_or-take k after i 0 l') (small i (omega arith)) in
        let same : take k after ≡ encode m = marked_body (take k after) m law small_front (omega arith) (rw e at stands) in
        let rest : drop k after ≡ drop k a.buffer.now = ext_get_or 0 (drop k after) (drop k a.buffer.now) (simp length-drop (omega arith))
        (λ i l. rw (get_or-drop k after i 0, get_or-drop k a.buffer.now i 0) (h.wrote.kept (k + i) (omega arith))) in
        ((sym len ∙ ap length same, sym (take-append-drop k after) ∙ rw (same, rest)), rw same (encoded_judged m law, encoded_taken_up m law))

    -- what is left where a file was written from the front on
    pub written_back : {after : List ℕ} {b c d : BitWriter} → Writes a b ((16, 0xFEFF) ∷ header_fields m) → Writes b c (flat_map row_fields m.rows)
        → Writes c d ((8 * k - (16 + 36 + 27 * s + 26 * t), 0) ∷ []) → after ≡ d.buffer.now → Bytes after → Written m before after (Ok k) × ReadBack m after (Ok k)
    written_back {after = after} {d = d} h r f same small =
        let P : List ℕ → Type 0 = λ x. Written m x after (Ok k) × ReadBack m after (Ok k) in
        let Q : List ℕ → Type 0 = λ y. (Bytes y → Written m a.buffer.now y (Ok k) × ReadBack m y (Ok k)) in
        subst P same_before (subst Q (sym same) (λ b. written {b = d} b (writes_more (writes_more h r) f)) small)
