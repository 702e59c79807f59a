-- The fresh property is the one that `P<=0/1[F U<=0 F]` spells.
use Rattle.std.proofs.Common.{◌≡◌, ℕ, [], ◌∷◌, ◌++◌, Ok, codes, refl, ap, ◌∙◌, arith}
use Rattle.property_parts.specs.Table.{held, Filled}
use Rattle.property_parts.specs.declared.parts.Part.TheVariants.{False}
use Rattle.property_parts.specs.declared.table.PartTable.{PartTable}
use Rattle.property_text.specs.Tokens.{digits, worth, past}
use Rattle.formula_reader.specs.Reading.{more, nested}
use Rattle.property.specs.Asked.{InParts}
use Rattle.property.specs.Reading.{read, answer}

abbrev pub fresh : InParts
fresh = record { ceiling = record { upper = 0; lower = 1 }; ground_part = 0; hops = 0; goal_part = 1; parts = False ∷ False ∷ [] }

pub fresh_read : answer (codes "P<=0/1[F U<=0 F]") ≡ Ok fresh
unfolding read past digits worth more nested
fresh_read = refl

pub fresh_filled : (start mid after : PartTable) (ground goal : ℕ) → start.count ≡ 0 → Filled start False mid ground → Filled mid False after goal
    → answer (codes "P<=0/1[F U<=0 F]") ≡ Ok (record { ceiling = record { upper = 0; lower = 1 }; ground_part = ground; hops = 0; goal_part = goal; parts = held after })
fresh_filled start mid after ground goal empty f g =
    let eg : ground ≡ 0 = f.own ∙ empty in
    let et : goal ≡ 1 = omega (arith, g.own, f.count, f.own) in
    let none_held : held start ≡ [] = rw empty refl in
    let ep : held after ≡ False ∷ False ∷ [] = g.parts ∙ ap (λ x. x ++ (False ∷ [])) (f.parts ∙ ap (λ x. x ++ (False ∷ [])) none_held) in
    fresh_read ∙ rw (eg, et, ep) refl
