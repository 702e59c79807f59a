-- What a text is read as, or why it is refused: a function of the text.
use Rattle.std.specs.Prelude.{ℕ, cond, ◌&&◌, List, length, Ok, ◌==◌, nat_le, nat_lt}
use Rattle.property_parts.specs.Formula.{size}
use Rattle.property_parts.specs.Parts.{most_parts}
use Rattle.property_text.specs.Faults.{Read, refused, ◌>>=◌}
use Rattle.property_text.specs.Tokens.{past, byte, at_most, number}
use Rattle.property_text.specs.declared.fault.PropertyFault.TheVariants.{TextTooLong, TokenMissing, BadCeiling, TooManyHops}
use Rattle.formula_reader.specs.Reading.{state}
use Rattle.property.specs.Limits.{most_bytes, most_lower, most_hops, most_open}
use Rattle.property.specs.Asked.{Asked, InParts, in_parts}
use Rattle.property.specs.declared.ceiling.Ceiling.{Ceiling}

module _ (s : List ℕ) where
  -- the lower number of a ceiling
  abbrev pub lower : ℕ → ℕ → Read (ℕ × ℕ)
  lower upper i = number s i >>= (λ v. cond (nat_le 1 v.0 && (nat_le v.0 most_lower && nat_le upper v.0)) (Ok v) (refused BadCeiling i))

  abbrev pub hops : ℕ → Read (ℕ × ℕ)
  hops i = number s i >>= (λ v. cond (nat_le v.0 most_hops) (Ok v) (refused TooManyHops i))

  -- P <= number / number [
  abbrev pub opening : ℕ → Read (Ceiling × ℕ)
  opening i = do
    a ← byte s 80 i
    b ← at_most s a
    upper ← number s b
    c ← byte s 47 upper.1
    below ← lower upper.0 c
    d ← byte s 91 below.1
    Ok (record { upper = upper.0; lower = below.0 }, d)

  -- U <= number
  abbrev pub until : ℕ → Read (ℕ × ℕ)
  until i = do
    a ← byte s 85 i
    b ← at_most s a
    hops b

  -- ] and the end of the text
  abbrev pub closing : ℕ → Read (Unit {0})
  closing i = do
    end ← byte s 93 i
    cond (end == length s) (Ok tt) (refused TokenMissing end)

  abbrev pub whole : ℕ → Read Asked
  whole i = do
    front ← opening i
    left ← state s most_parts most_open 0 front.1
    bound ← until left.1
    right ← state s most_parts most_open (size left.0) bound.1
    end ← closing right.1
    Ok (record { ceiling = front.0; ground_formula = left.0; hops = bound.0; goal_formula = right.0 })

unfoldable pub read : List ℕ → Read Asked
read s = cond (nat_lt most_bytes (length s)) (refused TextTooLong most_bytes) (whole s (past s 0))

-- the same, in parts
abbrev pub answer : List ℕ → Read InParts
answer s = read s >>= (λ a. Ok (in_parts a))
