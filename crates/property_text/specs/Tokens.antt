-- Tokens as they are read at a place: the place where the next one should begin, or the refusal.
use Rattle.std.specs.Prelude.{ℕ, ◌+◌, ◌-◌, ◌*◌, cond, ◌&&◌, ◌||◌, List, [], ◌∷◌, length, drop, Ok, ◌==◌, nat_le, nat_lt, slice_index}
use Rattle.std.specs.List.{prefix_len}
use Rattle.property_text.specs.Faults.{Read, refused}
use Rattle.property_text.specs.declared.fault.PropertyFault.TheVariants.{TokenMissing, BadNumber}

-- the digits that a text begins with
unfoldable pub digits : List ℕ → List ℕ
digits [] = []
digits (c ∷ cs) = cond (nat_le 48 c && nat_le c 57) ((c - 48) ∷ digits cs) []

-- the number that digits write, behind those that write v
unfoldable pub worth : ℕ → List ℕ → ℕ
worth v [] = v
worth v (d ∷ ds) = worth (v * 10 + d) ds

module _ (s : List ℕ) where
  -- the first place from i on that has no space
  unfoldable pub past : ℕ → ℕ
  past i = i + prefix_len (λ c. c == 32) (drop i s)

  abbrev pub byte : ℕ → ℕ → Read ℕ
  byte b i = cond (slice_index s i == b) (Ok (past (i + 1))) (refused TokenMissing i)

  -- `<=`
  abbrev pub at_most : ℕ → Read ℕ
  at_most i = cond (slice_index s i == 60 && slice_index s (i + 1) == 61) (Ok (past (i + 2))) (refused TokenMissing i)

  -- a number of at most five digits, with no needless 0 in front
  abbrev pub numeral : List ℕ → ℕ → Read (ℕ × ℕ)
  numeral [] i = refused TokenMissing i
  numeral (d ∷ ds) i = cond (nat_lt 4 (length ds) || (d == 0 && nat_lt 0 (length ds)))
      (refused BadNumber i)
      (Ok (worth d ds, past (i + (length ds + 1))))

  abbrev pub number : ℕ → Read (ℕ × ℕ)
  number i = numeral (digits (drop i s)) i
