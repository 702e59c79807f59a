-- Fields written one after another.
use Rattle.std.proofs.Common.{◌≡◌, ℕ, ◌+◌, ◌*◌, ◌<◌, List, [], ◌∷◌, ◌++◌, length, get_or, take, drop, sym, refl, ap, ◌∙◌, arith}
use Rattle.std.specs.List.{flat_map}
use Rattle.std.proofs.lemmas.List.{take_more, take-append-drop, flat_map_more, at_drop_more}
use Rattle.std.proofs.lemmas.Grind.{flat_map-append}
use Rattle.bits.specs.Fields.{bit_at}
use Rattle.bits.specs.Wrote.{width_of, Stand}
use Rattle.bits.proofs.Whole.{field_same}
use Rattle.chain.specs.Markov.{Row, Markov, edges_in}
use Rattle.packed_file.specs.Format.{edge_fields, row_fields, layout}
use Rattle.packed_writer.specs.Writing.{Room, Writes}
use Rattle.packed_writer.specs.declared.bit_writer.BitWriter.{BitWriter}

pub width_append : (xs ys : List (ℕ × ℕ)) → width_of (xs ++ ys) ≡ width_of xs + width_of ys
width_append [] ys = omega arith
width_append (x ∷ xs) ys = let r = width_append xs ys in omega arith

stand_append : (bs : List ℕ) (p : ℕ) (xs ys : List (ℕ × ℕ)) → Stand bs p xs → Stand bs (p + width_of xs) ys → Stand bs p (xs ++ ys)
stand_append bs p [] ys h k = let e : p + 0 ≡ p = omega arith in rw e at k
stand_append bs p (x ∷ xs) ys h k = let e : p + (x.0 + width_of xs) ≡ p + x.0 + width_of xs = omega arith in (h.0, stand_append bs (p + x.0) xs ys h.1 (rw e at k))

pub stand_same : (bs cs : List ℕ) (p : ℕ) (xs : List (ℕ × ℕ)) → ((j : ℕ) → j < p + width_of xs → bit_at cs j ≡ bit_at bs j) → Stand bs p xs → Stand cs p xs
stand_same bs cs p [] h f = tt
stand_same bs cs p (x ∷ xs) h f =
    (field_same cs bs p x.0 (λ j l. h (p + j) (omega arith)) ∙ f.0, stand_same bs cs (p + x.0) xs (λ j l. h j (omega arith)) f.1)

pub writes_more : {a b c : BitWriter} {xs ys : List (ℕ × ℕ)} → Writes a b xs → Writes b c ys → Writes a c (xs ++ ys)
writes_more {a = a} {b = b} {c = c} {xs = xs} {ys = ys} h k =
    let e = h.wrote.ends in
    let f = k.wrote.ends in
    let w = width_append xs ys in
    record {
      same_reference = k.same_reference ∙ h.same_reference;
      long = k.long ∙ h.long;
      wrote = record {
        ends = omega arith;
        stand = stand_append c.buffer.now a.at xs ys (stand_same b.buffer.now c.buffer.now a.at xs (λ j l. k.wrote.before j (omega arith)) h.wrote.stand) (rw e at k.wrote.stand);
        before = λ j l. k.wrote.before j (omega arith) ∙ h.wrote.before j l;
        kept = λ i l. k.wrote.kept i l ∙ h.wrote.kept i (omega arith);
      };
    }

pub room_front : {a : BitWriter} (xs ys : List (ℕ × ℕ)) → Room a (xs ++ ys) → Room a xs
room_front xs ys room =
    let width = width_append xs ys in
    let within = room.within in
    let near = room.near in
    record { within = omega arith; near = omega arith }

pub room_more : {a b : BitWriter} {xs ys : List (ℕ × ℕ)} → Room a (xs ++ ys) → Writes a b xs → Room b ys
room_more {xs = xs} {ys = ys} room h =
    let width = width_append xs ys in
    let ends = h.wrote.ends in
    let long = h.long in
    let within = room.within in
    let near = room.near in
    record { within = omega arith; near = omega arith }

-- the fields of a list's elements, up to the one at i
module _ {X : Type 0} (f : X → List (ℕ × ℕ)) (xs : List X) (i : ℕ) (d : X) where
  pub room_next : {a b : BitWriter} → i < length xs → Room a (flat_map f xs) → Writes a b (flat_map f (take i xs)) → Room b (f (get_or xs i d))
  room_next l room h =
      let all : width_of (flat_map f (take i xs) ++ flat_map f (drop i xs)) ≡ width_of (flat_map f xs) =
      ap width_of (sym (flat_map-append f (take i xs) (drop i xs))) ∙ ap (λ ys. width_of (flat_map f ys)) (take-append-drop i xs) in
      let front = width_append (flat_map f (take i xs)) (flat_map f (drop i xs)) in
      let rest = at_drop_more (λ ys. width_of (flat_map f ys)) xs i d l in
      let next = width_append (f (get_or xs i d)) (flat_map f (drop (i + 1) xs)) in
      let ends = h.wrote.ends in
      let long = h.long in
      let within = room.within in
      let near = room.near in
      record { within = omega arith; near = omega arith }

  pub writes_next : {a b c : BitWriter} → i < length xs → Writes a b (flat_map f (take i xs)) → Writes b c (f (get_or xs i d)) → Writes a c (flat_map f (take (i + 1) xs))
  writes_next l h k = rw (take_more xs i d l, ← flat_map_more f [] (take i xs) (get_or xs i d)) (writes_more h k)

-- how wide the rows are
width_edges : (es : List (ℕ × ℕ)) → width_of (flat_map edge_fields es) ≡ 26 * length es
width_edges [] = refl
width_edges (e ∷ es) = let r = width_edges es in omega arith

pub width_rows : (rs : List Row) → width_of (flat_map row_fields rs) ≡ 27 * length rs + 26 * edges_in rs
width_rows [] = refl
width_rows (r ∷ rs) =
    let a = width_append (flat_map edge_fields r.edges) (flat_map row_fields rs) in
    let b = width_edges r.edges in
    let c = width_rows rs in
    omega arith

-- the bits of a chain's file, but for those that fill its last byte
abbrev pub file_bits : Markov → ℕ
file_bits m = 16 + 36 + 27 * length m.rows + 26 * edges_in m.rows

pub width_layout : (m : Markov) → 16 + width_of (layout m) ≡ file_bits m
width_layout m = let r = width_rows m.rows in omega arith
