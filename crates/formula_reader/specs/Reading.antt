-- What is read of a formula at a place of a text, or why it is refused: a function of the text, the place, the parts filled before, and the limits.
use Rattle.std.specs.Prelude.{ℕ, zero, suc, ◌+◌, ◌-◌, Bool, cond, ◌&&◌, List, Ok, ◌==◌, nat_le, nat_lt, slice_index}
use Rattle.property_parts.specs.Formula.{Formula, letter, no_letter, top, bottom, size}
use Rattle.property_text.specs.Faults.{Read, refused, ◌>>=◌}
use Rattle.property_text.specs.Tokens.{past, byte}
use Rattle.property_text.specs.declared.fault.PropertyFault.TheVariants.{TokenMissing, TooDeep, TooManyParts}
use Rattle.formula_reader.specs.Operators.{sign, join}
use Rattle.formula_reader.specs.declared.operator.Operator.{Operator}
use Rattle.formula_reader.specs.declared.operator.Operator.TheVariants.{And, Or}

-- from how many parts are filled, and a place: a formula, and the place where the next token should begin
abbrev pub Reader : Type 0
Reader = ℕ → ℕ → Read (Formula × ℕ)

-- the byte is a letter from a to p
abbrev pub lettered : ℕ → Bool
lettered c = nat_le 97 c && nat_le c 112

-- in a table of `full` parts, n of them filled, there is room for another, whose token is at p
abbrev pub room : {A : Type 0} → ℕ → ℕ → ℕ → Read A → Read A
room full n p g = cond (nat_lt n full) g (refused TooManyParts p)

module _ (s : List ℕ) (full : ℕ) where
  -- a formula of one token
  abbrev pub single : Formula → Reader
  single a n i = room full n i (Ok (a, past s (i + 1)))

  abbrev pub lone_letter : Reader
  lone_letter n i = cond (lettered (slice_index s i)) (single (letter (slice_index s i - 97)) n i) (refused TokenMissing i)

  -- the letter behind a `!` that stands at p
  abbrev pub negated : ℕ → ℕ → ℕ → Read (Formula × ℕ)
  negated n p i = cond (lettered (slice_index s i))
      (room full n i (room full (n + 1) p (Ok (no_letter (slice_index s i - 97), past s (i + 1)))))
      (refused TokenMissing i)

  -- a factor, where `inner` reads what begins with a parenthesis
  abbrev pub factor_by : Reader → Reader
  factor_by inner n i =
      cond (lettered (slice_index s i)) (single (letter (slice_index s i - 97)) n i)
      (cond (slice_index s i == 33) (negated n i (past s (i + 1)))
      (cond (slice_index s i == 84) (single top n i)
      (cond (slice_index s i == 70) (single bottom n i)
      (cond (slice_index s i == 40) (inner n i)
      (refused TokenMissing i)))))

  -- what follows the items read as a, joined by the operator and grouped from the left; each turn fills a part, so `full` turns are enough
  unfoldable pub more : Operator → Reader → ℕ → ℕ → Formula → ℕ → Read (Formula × ℕ)
  more o item zero n a i = Ok (a, i)
  more o item (suc turns) n a i = cond (slice_index s i == sign o)
      (item (n + size a) (past s (i + 1)) >>= (λ c. room full ((n + size a) + size c.0) i (more o item turns n (join o a c.0) c.1)))
      (Ok (a, i))

  abbrev pub joined : Operator → Reader → Reader
  joined o item n i = item n i >>= (λ a. more o item full n a.0 a.1)

  -- what begins with a parenthesis, where d more may be open, up to where it is closed
  unfoldable pub nested : ℕ → Reader
  nested zero n i = refused TooDeep i
  nested (suc d) n i =
      joined Or (joined And (factor_by (nested d))) n (past s (i + 1))
      >>= (λ a. byte s 41 a.1 >>= (λ k. Ok (a.0, k)))

  -- where d more parentheses may be open
  abbrev pub factor : ℕ → Reader
  factor d = factor_by (nested d)

  abbrev pub term : ℕ → Reader
  term d = joined And (factor d)

  abbrev pub state : ℕ → Reader
  state d = joined Or (term d)

  -- what the operator joins
  abbrev pub item : Operator → ℕ → Reader
  item And = factor
  item Or = term
