-- The whole text, stage by stage, up to what the reader answers.
use Rattle.std.proofs.Common.{◌≡◌, ℕ, ◌≤◌, List, length, Ok, Err, sym, refl, ap, ◌∙◌}
use Rattle.refusal.specs.declared.Refusal.{Refusal}
use Rattle.property_parts.specs.Formula.{Formula, size}
use Rattle.property_parts.specs.Parts.{most_parts}
use Rattle.property_parts.specs.Table.{held}
use Rattle.property_parts.specs.declared.table.PartTable.{PartTable}
use Rattle.property_text.specs.Faults.{◌>>=◌}
use Rattle.property_text.specs.Tokens.{past}
use Rattle.property_text.specs.declared.fault.PropertyFault.{PropertyFault}
use Rattle.formula_reader.specs.Reading.{state}
use Rattle.property.specs.Limits.{most_bytes, most_open}
use Rattle.property.specs.Asked.{InParts, in_parts}
use Rattle.property.specs.Judgement.{Accepted, Refused}
use Rattle.property.specs.Reading.{opening, until, read, answer}
use Rattle.property.specs.declared.ceiling.Ceiling.{Ceiling}
use Rattle.property_text.proofs.Read.{err_ok, then_ok}
use Rattle.property.proofs.Fronts.{stands, front_decides}
use Rattle.property.proofs.Plainest.{written_spelled}
use Rattle.property.proofs.Whole.{read_short, spelled_is, spelled_was, spelled_one, refused_none}

pub refused : (s : List ℕ) (r : Refusal PropertyFault) → read s ≡ Err r → record { value : answer s ≡ Err r; judges : Refused s r }
refused s r e =
    let front = front_decides s r e in
    record {
      value = ap (λ g. g >>= (λ a. Ok (in_parts a))) e;
      judges = record { unspelled = refused_none s r e; stands = stands s r e; front = front; hopeless = λ l t h a p. err_ok (sym (front l t h p.short) ∙ spelled_is t a p) };
    }

pub accepted : (s : List ℕ) (t : PartTable) (p : InParts) → p.parts ≡ held t → answer s ≡ Ok p → Accepted s p
accepted s t p h e =
    let r = then_ok (read s) (λ a. Ok (in_parts a)) e in
    let a = r.0 in
    let m : p ≡ in_parts a = let x = r.2 in cc in
    let q = spelled_was s a r.1 in
    record { asked = a; spelled = q; alone = λ b. spelled_one s a b q; parts = m; again = written_spelled t p h a m s q }

pub goal_refused : (s : List ℕ) {c : Ceiling} {a : Formula} {hops j k l : ℕ} {r : Refusal PropertyFault} → length s ≤ most_bytes
    → Ok (c, j) ≡ opening s (past s 0) → state s most_parts most_open 0 j ≡ Ok (a, k) → Ok (hops, l) ≡ until s k
    → state s most_parts most_open (size a) l ≡ Err r → read s ≡ Err r
goal_refused s short o ground u goal_formula = read_short s short ∙ rw (sym o, ground, sym u, goal_formula) refl
