-- The plainest text of a property spells it.
use Rattle.std.proofs.Common.{◌≡◌, ℕ, ◌+◌, ◌^◌, ◌<◌, ◌≤◌, List, [], length, get_or, decimal, sym, refl, ap, ◌∙◌, subst, ap₂, subst₂, arith, length-append}
use Rattle.std.proofs.lemmas.Fmt.{length-decimal-le}
use Rattle.std.proofs.lemmas.List.{get_or_past, length-take-le}
use Rattle.property_parts.specs.Form.{plain, form_rule}
use Rattle.property_parts.specs.Formula.{size}
use Rattle.property_parts.specs.Parts.{Falls}
use Rattle.property_parts.specs.declared.kinds.Kind.TheVariants.{State}
use Rattle.property_parts.specs.Table.{held}
use Rattle.property_parts.specs.declared.table.PartTable.{PartTable}
use Rattle.property_parts.proofs.Filled.{held_falls}
use Rattle.property_parts.proofs.Forms.{form_local, form_follows}
use Rattle.property_parts.proofs.Lengths.{length_plain}
use Rattle.property_parts.proofs.Values.{first_made, second_made}
use Rattle.property_text.specs.Spelling.{Gap, Byte, AtMost, Number}
use Rattle.property_text.proofs.Standing.{Stands, stands_whole, stands_both, no_space, one_space, number_stands, number_solid}
use Rattle.formula_reader.proofs.Plain.{begins_solid, plain_spelled}
use Rattle.property.specs.Asked.{Asked, InParts, in_parts}
use Rattle.property.specs.Grammar.{Limited, Spelled}
use Rattle.property.specs.Limits.{most_bytes}
use Rattle.property.specs.Written.{written_with, written, plainest}
use Rattle.property.proofs.Evaluated.{count_parts}

length_five : (n : ℕ) → n < 10 ^ 5 → length (decimal n) ≤ 5
length_five n h = length-decimal-le 5 n (omega arith) h (omega arith)

plainest_short : (a : Asked) → Limited a → length (plainest a) ≤ most_bytes
plainest_short a l =
    let small = l.small in
    let fraction = l.fraction in
    let near = l.near in
    let few = l.few in
    simp length-append (omega (
      arith,
      length_five a.ceiling.upper (omega arith),
      length_five a.ceiling.lower (omega arith),
      length_five a.hops (omega arith),
      length_plain a.ground_formula State,
      length_plain a.goal_formula State,
    ))

-- tokens that no space follows
module _ (t : List ℕ) where
  tight_byte : (b i : ℕ) → get_or t i 0 ≡ b → (get_or t (i + 1) 0 ≡ 32 → ⊥) → Byte t b i (i + 1)
  tight_byte b i e n = record { stands = e; gap = no_space t (i + 1) n }

  tight_at_most : (i j : ℕ) → i + 2 ≡ j → get_or t i 0 ≡ 60 → get_or t (i + 1) 0 ≡ 61 → (get_or t j 0 ≡ 32 → ⊥) → AtMost t i j
  tight_at_most i j q less equal n = record { less = less; equal = equal; gap = subst (λ k. Gap t k j) (sym q) (no_space t j n) }

-- a text as long as the plainest, with the same bytes
standing : (s t : List ℕ) (a : Asked) → Spelled s a → length t ≡ length (plainest a) → Stands t 0 (plainest a) → Spelled t a
standing s t a w same o =
    let l = w.limited in
    let small = l.small in
    let fraction = l.fraction in
    let near = l.near in
    let upper = decimal a.ceiling.upper in
    let lower = decimal a.ceiling.lower in
    let ground = plain a.ground_formula State in
    let hops = decimal a.hops in
    let goal = plain a.goal_formula State in
    let u = stands_both t upper _ 3 o.1.1.1 in
    let p₃ : ℕ = 3 + length upper in
    let p₄ : ℕ = p₃ + 1 in
    let v = stands_both t lower _ p₄ u.1.1 in
    let p₅ : ℕ = p₄ + length lower in
    let p₆ : ℕ = p₅ + 1 in
    let g = stands_both t ground _ p₆ v.1.1 in
    let p₇ : ℕ = (p₆ + length ground) + 1 in
    let p₈ : ℕ = p₇ + 1 in
    let p₉ : ℕ = (p₈ + 1) + 1 in
    let h = stands_both t hops _ p₉ g.1.1.1.1.1 in
    let p₁₀ : ℕ = (p₉ + length hops) + 1 in
    let f = stands_both t goal _ p₁₀ h.1.1 in
    let p₁₁ : ℕ = p₁₀ + length goal in
    let is_upper : Number t 3 a.ceiling.upper p₃ =
    number_stands t 3 a.ceiling.upper p₃ (omega arith) u.0 (λ d z. omega (arith, z.small, z.stands, u.1.0))
    (no_space t p₃ (λ z. omega (arith, u.1.0))) in
    let is_lower : Number t p₄ a.ceiling.lower p₅ =
    number_stands t p₄ a.ceiling.lower p₅ (omega arith) v.0 (λ d z. omega (arith, z.small, z.stands, v.1.0))
    (no_space t p₅ (λ z. omega (arith, v.1.0))) in
    let is_hops : Number t p₉ a.hops p₁₀ =
    number_stands t p₉ a.hops p₁₀ (omega arith) h.0 (λ d z. omega (arith, z.small, z.stands, h.1.0))
    (one_space t (p₉ + length hops) h.1.0 (begins_solid t a.goal_formula State p₁₀ f.0)) in
    let end : p₁₁ + 1 ≡ length t = let q : length (plainest a) ≡ p₁₁ + 1 = simp length-append (omega arith) in sym (same ∙ q) in
    record {
      p₀ = 0;
      p₁ = 1;
      p₂ = 3;
      p₃ = p₃;
      p₄ = p₄;
      p₅ = p₅;
      p₆ = p₆;
      p₇ = p₇;
      p₈ = p₈;
      p₉ = p₉;
      p₁₀ = p₁₀;
      p₁₁ = p₁₁;
      short = omega (arith, same, plainest_short a l);
      limited = l;
      blank = no_space t 0 (λ z. omega (arith, o.0));
      is_p = tight_byte t 80 0 o.0 (λ z. omega (arith, o.1.0));
      is_at_most = tight_at_most t 1 3 refl o.1.0 o.1.1.0 (number_solid t is_upper);
      is_upper = is_upper;
      is_line = tight_byte t 47 p₃ u.1.0 (number_solid t is_lower);
      is_lower = is_lower;
      is_open = tight_byte t 91 p₅ v.1.0 (begins_solid t a.ground_formula State p₆ g.0);
      is_ground = plain_spelled t w.is_ground p₆ p₇ g.0 (one_space t (p₆ + length ground) g.1.0 (λ z. omega (arith, g.1.1.0)));
      is_until = tight_byte t 85 p₇ g.1.1.0 (λ z. omega (arith, g.1.1.1.0));
      is_within = tight_at_most t p₈ p₉ (omega arith) g.1.1.1.0 g.1.1.1.1.0 (number_solid t is_hops);
      is_hops = is_hops;
      is_goal = plain_spelled t w.is_goal p₁₀ p₁₁ f.0 (no_space t p₁₁ (λ z. omega (arith, f.1.0)));
      is_closed = subst (λ k. Byte t 93 p₁₁ k) end
          (tight_byte t 93 p₁₁ f.1.0 (λ z. omega (arith, get_or_past t (p₁₁ + 1) 0 (omega arith))));
    }

-- if any text spells a property, its plainest text does
pub plainest_spelled : (s : List ℕ) (a : Asked) → Spelled s a → Spelled (plainest a) a
plainest_spelled s a w = standing s (plainest a) a w refl (stands_whole (plainest a))

pub written_is : (a : Asked) → Falls (in_parts a).parts (size a.ground_formula + size a.goal_formula) → written (in_parts a) ≡ plainest a
written_is a falls =
    let m = size a.ground_formula + size a.goal_formula in
    let x = first_made (λ kind. []) form_rule form_local plain form_follows (in_parts a).parts m falls a.ground_formula a.goal_formula (omega arith) refl in
    let y = second_made (λ kind. []) form_rule form_local plain form_follows (in_parts a).parts m falls a.ground_formula a.goal_formula (omega arith) refl in
    ap₂ (λ f g. written_with a.ceiling (f State) a.hops (g State)) x y

-- a property that was read is written as a text that spells the same
module _ (t : PartTable) (p : InParts) (parts : p.parts ≡ held t) (a : Asked) (is : p ≡ in_parts a) where
  written_plainest : written p ≡ plainest a
  written_plainest =
      let e : held t ≡ (in_parts a).parts = sym parts ∙ ap (λ q. q.parts) is in
      let x : length (held t) ≡ t.count = length-take-le t.count t.parts (omega (arith, t.whole, t.few)) in
      let count : t.count ≡ size a.ground_formula + size a.goal_formula = sym x ∙ (ap length e ∙ count_parts a) in
      ap written is ∙ written_is a (subst₂ Falls e count (held_falls t.parts t.count t.falls))

  pub written_spelled : (s : List ℕ) → Spelled s a → Spelled (written p) a
  written_spelled s w = subst (λ x. Spelled x a) (sym written_plainest) (plainest_spelled s a w)
