use Rattle.std.proofs.Common.{◌≡◌, ◌+◌, ◌≤◌, sym, ◌∙◌, rules}
use Rattle.std.proofs.lemmas.Result.{err_from_is_err_and}
use Rattle.std.specs.Slice.Iter.{iter_rest}
use Rattle.chain.specs.Limits.{most_edges}
use Rattle.tables.proofs.Turns.{row_stop, row_end}
use Rattle.tables.proofs.tables.Tables.check_row.Goals as goal

pub returns-in_err-sum-clause-told : goal.returns-in_err-sum-clause-told
returns-in_err-sum-clause-told c =
    let few : c.args.before + c.args.row.now.count ≤ most_edges = search rules in
    let p = err_from_is_err_and c.from_residual-in_err-sum.result c.from_residual-in_err-sum.ensures.1 in
    rw (p.1, p.2) (sym (row_stop c.args.self.now c.args.state (iter_rest c.args.edges.now) c.args.row.now c.args.before few _ _ c.in_err-sum.ensures.told))

pub returns-clause-told : goal.returns-clause-told
returns-clause-told c =
    let few : c.args.before + c.args.row.now.count ≤ most_edges = search rules in
    let divided : c.from.result ≡ c.args.self.now.denominator = search rules in
    let end = row_end c.args.self.now c.args.state (iter_rest c.args.edges.now) c.args.row.now c.args.before few c.in_ok-sum.sum c.in_ok-sum.ensures.told in
    rw divided at c.demand-2.ensures ∙ sym end
