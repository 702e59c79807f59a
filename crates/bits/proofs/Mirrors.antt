-- The mirror of a mirror is the number again.
use Rattle.std.proofs.Common.{◌≡◌, ℕ, zero, suc, ◌+◌, ◌*◌, ◌/◌, ◌%◌, ◌^◌, ◌<◌, sym, ap, ◌∙◌, mod-eq_of_lt, mul_assoc, mul_comm, add-mul, pow-suc, arith, shr-shr}
use lib.Arith.{digits_lt}
use lib.Pow.{mod-pow-add}
use Rattle.std.specs.Int.{reverse_bits_onto}
use Rattle.bits.specs.Mirror.{mirrored}

pub mirrored_lt : (w v : ℕ) → mirrored w v < 2 ^ w
unfolding mirrored
mirrored_lt zero v = omega arith
mirrored_lt (suc w) v =
    let two : v % 2 < 2 = omega arith in
    rw (pow-suc 2 w, mul_comm (2 ^ w) 2) (digits_lt two (mirrored_lt w (v / 2)))

-- the highest of the bits becomes the lowest
mirrored_last : (w v : ℕ) → mirrored (suc w) v ≡ mirrored w v * 2 + v / 2 ^ w % 2
unfolding mirrored
mirrored_last zero v = omega arith
mirrored_last (suc w) v =
    let rest = mirrored_last w (v / 2) in
    let moved : v / 2 / 2 ^ w ≡ v / 2 ^ suc w = shr-shr v 1 w ∙ ap (λ k. v / 2 ^ k) (omega arith) in
    let high : v % 2 * 2 ^ suc w ≡ v % 2 * 2 ^ w * 2 = rw (pow-suc 2 w) (sym (mul_assoc (v % 2) (2 ^ w) 2)) in
    rw (← moved) (omega (arith, rest, high))

mirrored_twice : (w v : ℕ) → mirrored w (mirrored w v) ≡ v % 2 ^ w
unfolding mirrored
mirrored_twice zero v = omega arith
mirrored_twice (suc w) v =
    let last = mirrored_last w v in
    let low : mirrored (suc w) v % 2 ≡ v / 2 ^ w % 2 = omega arith in
    let high : mirrored (suc w) v / 2 ≡ mirrored w v = omega arith in
    let n : suc w ≡ 1 + w = omega arith in
    rw (low, high, mirrored_twice w v, n) (sym (mod-pow-add v 1 w))

pub mirrored_back : (w v : ℕ) → v < 2 ^ w → mirrored w (mirrored w v) ≡ v
mirrored_back w v h = mirrored_twice w v ∙ mod-eq_of_lt h

-- what the standard library's loop gives
pub reversed_mirrored : (w v a : ℕ) → reverse_bits_onto w v a ≡ a * 2 ^ w + mirrored w v
unfolding mirrored reverse_bits_onto
reversed_mirrored zero v a = omega arith
reversed_mirrored (suc w) v a =
    let rest = reversed_mirrored w (v / 2) (a * 2 + v % 2) in
    let high : (a * 2 + v % 2) * 2 ^ w ≡ a * 2 * 2 ^ w + v % 2 * 2 ^ w = add-mul (a * 2) (v % 2) (2 ^ w) in
    let same : a * 2 * 2 ^ w ≡ a * 2 ^ suc w = rw (pow-suc 2 w, mul_comm (2 ^ w) 2) (mul_assoc a 2 (2 ^ w)) in
    omega (arith, rest, high, same)
