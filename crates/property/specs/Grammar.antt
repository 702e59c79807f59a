-- Which texts spell which properties.
use Rattle.std.specs.Prelude.{ℕ, ◌+◌, ◌≤◌, List, length}
use Rattle.property_parts.specs.Formula.{size}
use Rattle.property_parts.specs.Parts.{most_parts}
use Rattle.property_parts.specs.declared.kinds.Kind.TheVariants.{State}
use Rattle.property_text.specs.Spelling.{Gap, Byte, AtMost, Number}
use Rattle.formula_reader.specs.Grammar.{Spells}
use Rattle.property.specs.Limits.{most_bytes, most_lower, most_hops, most_open}
use Rattle.property.specs.Asked.{Asked}

-- the property is within the limits
pub record Limited (a : Asked) : Type 0 where
  pub some : 1 ≤ a.ceiling.lower
  pub small : a.ceiling.lower ≤ most_lower
  pub fraction : a.ceiling.upper ≤ a.ceiling.lower
  pub near : a.hops ≤ most_hops
  pub few : size a.ground_formula + size a.goal_formula ≤ most_parts

-- the text is P <= upper / lower [ ground U <= hops goal ], and nothing else; p₀ to p₁₁ are the places of its tokens and of its formulas
pub record Spelled (s : List ℕ) (a : Asked) : Type 0 where
  pub p₀ : ℕ
  pub p₁ : ℕ
  pub p₂ : ℕ
  pub p₃ : ℕ
  pub p₄ : ℕ
  pub p₅ : ℕ
  pub p₆ : ℕ
  pub p₇ : ℕ
  pub p₈ : ℕ
  pub p₉ : ℕ
  pub p₁₀ : ℕ
  pub p₁₁ : ℕ
  pub short : length s ≤ most_bytes
  pub limited : Limited a
  pub blank : Gap s 0 p₀
  pub is_p : Byte s 80 p₀ p₁
  pub is_at_most : AtMost s p₁ p₂
  pub is_upper : Number s p₂ a.ceiling.upper p₃
  pub is_line : Byte s 47 p₃ p₄
  pub is_lower : Number s p₄ a.ceiling.lower p₅
  pub is_open : Byte s 91 p₅ p₆
  pub is_ground : Spells s State most_open p₆ p₇ a.ground_formula
  pub is_until : Byte s 85 p₇ p₈
  pub is_within : AtMost s p₈ p₉
  pub is_hops : Number s p₉ a.hops p₁₀
  pub is_goal : Spells s State most_open p₁₀ p₁₁ a.goal_formula
  pub is_closed : Byte s 93 p₁₁ (length s)
