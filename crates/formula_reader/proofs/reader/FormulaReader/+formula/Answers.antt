use Rattle.std.proofs.Common.{◌≡◌, ltb, length, get_or, sym, refl, ap, ◌∙◌, arith}
use Rattle.std.proofs.lemmas.Bool.{ltb-true}
use Rattle.std.proofs.lemmas.Result.{err_from_is_err_and}
use Rattle.property_parts.specs.Formula.{top, bottom}
use Rattle.property_parts.specs.Parts.{most_parts}
use Rattle.property_text.specs.Faults.{refused}
use Rattle.property_text.specs.declared.fault.PropertyFault.TheVariants.{TooManyParts}
use Rattle.property_text.proofs.Read.{test_ok}
use Rattle.formula_reader.specs.Reading.{single, nested, factor, item}
use Rattle.formula_reader.proofs.Going.{behind, operator_inside, not_behind, going_start, going_on, loop_end, loop_bad, loop_full}
use Rattle.formula_reader.proofs.Steps.{answers_as, answers_single, factor_top, factor_bottom, nested_refused, inside_bad, inside_unclosed, inside_closed}
use Rattle.formula_reader.proofs.reader.FormulaReader.+formula.Goals as goal

pub read_factor-returns-in-Some-eq84 : goal.read_factor-returns-in-Some-eq84
read_factor-returns-in-Some-eq84 t c =
    let s = c.args.self.now.tokens.text.now in
    let d = c.args.deeper in
    let e : get_or s c.args.self.now.tokens.at 0 ≡ 84 = grind arith in
    answers_as (single s most_parts top) (factor s most_parts d) _ _ _ (factor_top s most_parts (nested s most_parts d) _ _ e)
    (answers_single _ _ _ _ (c.read_single.ensures.read top refl refl) c.read_single.ensures.later c.read_single.ensures.text)

pub read_factor-returns-in-Some-eq70 : goal.read_factor-returns-in-Some-eq70
read_factor-returns-in-Some-eq70 t c =
    let s = c.args.self.now.tokens.text.now in
    let d = c.args.deeper in
    let e : get_or s c.args.self.now.tokens.at 0 ≡ 70 = grind arith in
    let single₂ = c.read_single-in-Some-eq70.ensures in
    answers_as (single s most_parts bottom) (factor s most_parts d) _ _ _ (factor_bottom s most_parts (nested s most_parts d) _ _ e)
    (answers_single _ _ _ _ (single₂.read bottom refl refl) single₂.later single₂.text)

pub read_joined-loop-operator-init : goal.read_joined-loop-operator-init
read_joined-loop-operator-init t c =
    record {
      goes = going_start c.args.self.now.tokens.text.now c.args.operator (λ s. item s most_parts c.args.operator c.args.deeper) _ _ _;
      later = omega arith;
      text = c.read_item.ensures.same;
    }

pub read_joined-returns-in_err-right : goal.read_joined-returns-in_err-right
read_joined-returns-in_err-right t c =
    let o = c.args.operator in
    let b = behind c.byte.result (ap (λ x. x.now) c.loop-operator.invariant.text) c.byte.ensures.stands (rw c.sign.ensures at c.loop-operator-test.ensures) (ap (λ x. x.now) c.advance.ensures.text) c.advance.ensures.at in
    let p = err_from_is_err_and c.from_residual-in_err-right.result c.from_residual-in_err-right.ensures.1 in
    rw (p.1, p.2) (record {
      tells = loop_bad _ o (λ s. item s most_parts o c.args.deeper) c.in_ok-left.ensures.tells c.loop-operator.invariant.goes c.loop-operator.self.parts.few b c.in_err-right.ensures.tells;
      same = c.in_err-right.ensures.same ∙ (c.advance.ensures.text ∙ c.loop-operator.invariant.text);
      later = tt;
    })

pub read_joined-returns-in_err-left-2 : goal.read_joined-returns-in_err-left-2
read_joined-returns-in_err-left-2 t c =
    let o = c.args.operator in
    let b = behind c.byte.result (ap (λ x. x.now) c.loop-operator.invariant.text) c.byte.ensures.stands (rw c.sign.ensures at c.loop-operator-test.ensures) (ap (λ x. x.now) c.advance.ensures.text) c.advance.ensures.at in
    let h = c.in_err-left-2.ensures.filled in
    let p = err_from_is_err_and c.from_residual-in_err-left-2.result c.from_residual-in_err-left-2.ensures.1 in
    rw (p.1, p.2, h.1, c.in_err-left-2.ensures.tokens) (record {
      tells = loop_full _ o (λ s. item s most_parts o c.args.deeper) c.in_ok-left.ensures.tells c.loop-operator.invariant.goes c.loop-operator.self.parts.few b c.in_ok-right.ensures.tells h.0
          ∙ ap (λ place. refused TooManyParts place) (sym c.place-place.ensures);
      same = c.in_ok-right.ensures.same ∙ (c.advance.ensures.text ∙ c.loop-operator.invariant.text);
      later = tt;
    })

pub read_joined-loop-operator-preserved : goal.read_joined-loop-operator-preserved
read_joined-loop-operator-preserved t c =
    let o = c.args.operator in
    let b = behind c.byte.result (ap (λ x. x.now) c.loop-operator.invariant.text) c.byte.ensures.stands (rw c.sign.ensures at c.loop-operator-test.ensures) (ap (λ x. x.now) c.advance.ensures.text) c.advance.ensures.at in
    let text = ap (λ x. length x.now) c.loop-operator.invariant.text in
    let forward = c.advance.ensures.later (omega (arith, operator_inside b, text)) in
    let l = c.in_ok-right.ensures.later in
    rw c.in_ok-left-2.ensures.tokens (record {
      goes = λ n a before f g p.
          going_on _ o (λ s. item s most_parts o c.args.deeper) (c.loop-operator.invariant.goes n a before f g p) c.loop-operator.self.parts.few b c.in_ok-right.ensures.tells c.part.ensures c.in_ok-left-2.ensures.filled;
      later = omega (arith, forward);
      text = c.in_ok-right.ensures.same ∙ (c.advance.ensures.text ∙ c.loop-operator.invariant.text);
    })

pub read_joined-returns : goal.read_joined-returns
read_joined-returns t c =
    let o = c.args.operator in
    record {
      tells = loop_end _ o (λ s. item s most_parts o c.args.deeper) c.in_ok-left.ensures.tells c.loop-operator.invariant.goes
          (not_behind o _ c.byte.result (ap (λ x. x.now) c.loop-operator.invariant.text) c.byte.ensures.stands (rw c.sign.ensures at c.loop-operator-test.ensures));
      same = c.loop-operator.invariant.text;
      later = omega (arith, c.in_ok-left.ensures.later);
    }

pub read_nested-returns-in_err-demand : goal.read_nested-returns-in_err-demand
read_nested-returns-in_err-demand t c =
    let p = err_from_is_err_and c.from_residual.result c.from_residual.ensures.1 in
    rw (p.1, p.2) (record {
      tells = nested_refused c.args.self.now.tokens.text.now most_parts _ _ c.args.deeper tt _ (rw c.place.ensures at c.in_err-demand.ensures);
      same = refl;
      later = tt;
    })

pub read_nested-returns-in_err-number : goal.read_nested-returns-in_err-number
read_nested-returns-in_err-number t c =
    let deeper = ltb-true 0 c.args.deeper (test_ok _ (ltb 0 c.args.deeper) _ (sym c.in_ok-demand.ensures)).0 in
    let p = err_from_is_err_and c.from_residual-in_err-number.result c.from_residual-in_err-number.ensures.1 in
    rw (p.1, p.2) (record {
      tells = inside_bad _ most_parts _ _ c.args.deeper deeper (ap (λ x. x.now) c.advance.ensures.text) (c.advance.ensures.at c.requires) c.in_err-number.ensures.tells;
      same = c.in_err-number.ensures.same ∙ c.advance.ensures.text;
      later = tt;
    })

pub read_nested-returns-in_err-read_byte : goal.read_nested-returns-in_err-read_byte
read_nested-returns-in_err-read_byte t c =
    let deeper = ltb-true 0 c.args.deeper (test_ok _ (ltb 0 c.args.deeper) _ (sym c.in_ok-demand.ensures)).0 in
    let m = c.in_ok-number.ensures.tells in
    let p = err_from_is_err_and c.from_residual-in_err-read_byte.result c.from_residual-in_err-read_byte.ensures.1 in
    rw (p.1, p.2) (record {
      tells = inside_unclosed _ most_parts _ _ c.args.deeper deeper (ap (λ x. x.now) c.advance.ensures.text) (c.advance.ensures.at c.requires) (ap (λ x. x.now) c.in_ok-number.ensures.same) m.formula _ m.read c.in_err-read_byte.ensures.read.tells;
      same = c.in_err-read_byte.ensures.read.same ∙ (c.in_ok-number.ensures.same ∙ c.advance.ensures.text);
      later = tt;
    })

pub read_nested-returns : goal.read_nested-returns
read_nested-returns t c =
    let deeper = ltb-true 0 c.args.deeper (test_ok _ (ltb 0 c.args.deeper) _ (sym c.in_ok-demand.ensures)).0 in
    let m = c.in_ok-number.ensures.tells in
    record {
      tells = record {
        formula = m.formula;
        read = inside_closed _ most_parts _ _ c.args.deeper deeper (ap (λ x. x.now) c.advance.ensures.text) (c.advance.ensures.at c.requires) (ap (λ x. x.now) c.in_ok-number.ensures.same) m.formula _ m.read _ c.in_ok-read_byte.ensures.read.tells;
        own = m.own;
        count = m.count;
        parts = m.parts;
      };
      same = c.in_ok-read_byte.ensures.read.same ∙ (c.in_ok-number.ensures.same ∙ c.advance.ensures.text);
      later = omega (arith, c.in_ok-number.ensures.later, c.in_ok-read_byte.ensures.later);
    }
