-- What a rule makes of a part is what it makes from what it makes of the part's operands.
use Rattle.std.proofs.Common.{◌≡◌, ℕ, zero, suc, ◌<◌, true, List, get_or, ap, ◌∙◌, arith}
use Rattle.property_parts.specs.Parts.{names_earlier, Falls, Rule, made_within, made_of}
use Rattle.property_parts.specs.declared.parts.Part.{Part}
use Rattle.property_parts.specs.declared.parts.Part.TheVariants.{Letter}

-- a rule looks at nothing but the part's operands
abbrev pub Local : {A : Type 0} → Rule A → Type 0
Local {A} rule = (p : Part) (n : ℕ) (s t : ℕ → A) → names_earlier p n ≡ true → ((k : ℕ) → k < n → s k ≡ t k) → rule s p ≡ rule t p

module _ {A : Type 0} (nothing : A) (rule : Rule A) (local : Local rule) (ps : List Part) (m : ℕ) (falls : Falls ps m) where
  deep : (f g n : ℕ) → n < f → n < g → n < m → made_within nothing rule f ps n ≡ made_within nothing rule g ps n
  unfolding made_within
  deep zero g n hf hg hm = absurd (omega arith)
  deep (suc f) zero n hf hg hm = absurd (omega arith)
  deep (suc f) (suc g) n hf hg hm =
      local (get_or ps n (Letter 0)) n (made_within nothing rule f ps) (made_within nothing rule g ps) (falls n hm)
      (λ k h. deep f g k (omega arith) (omega arith) (omega arith))

  pub made_at : (n : ℕ) (p : Part) → n < m → get_or ps n (Letter 0) ≡ p → made_of nothing rule ps n ≡ rule (made_of nothing rule ps) p
  unfolding made_within
  made_at n p h e =
      local (get_or ps n (Letter 0)) n (made_within nothing rule n ps) (made_of nothing rule ps) (falls n h)
      (λ k l. deep n (suc k) k l (omega arith) (omega arith))
      ∙ ap (λ q. rule (made_of nothing rule ps) q) e
