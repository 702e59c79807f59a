use Rattle.std.proofs.Common.{◌≡◌, ◌+◌, [], ◌∷◌, ◌++◌, ◌<◌, length, drop, get_or, sym, ap, ◌∙◌, arith, rules}
use Rattle.std.proofs.Math.Seq.{drop-length}
use Rattle.std.proofs.lemmas.List.{append_assoc, append-nil, drop_more}
use Rattle.std.proofs.lemmas.List.Sums.{sum_by-drop_more}
use Rattle.tables.specs.declared.tables.TableRow.{TableRow}
use Rattle.table_chain.specs.Places.{first_edges}
use Rattle.table_chain.proofs.Lookup.{whole, short}
use Rattle.table_chain.proofs.questions.find_first_edges.Goals as goal

pub loop-row-init : goal.loop-row-init
loop-row-init c =
    record {
      noted = ap length c.requires.empty;
      placed = ap (λ xs. xs ++ first_edges 0 c.args.tables.now.rows.now) c.requires.empty;
      passed = omega (arith, whole c.args.tables.now c.requires.faultless);
    }

pub overflow_cast-first : goal.overflow_cast-first
overflow_cast-first c = let s = short c.args.tables.now c.requires.faultless in let p = c.loop-row.invariant.passed in search rules

pub loop-row-preserved : goal.loop-row-preserved
unfolding first_edges
loop-row-preserved c =
    let rows = c.args.tables.now.rows.now in
    let i = c.loop-row.row-index in
    let zeros : TableRow = record { propositions = 0; count = 0 } in
    let within : i < length rows = omega arith in
    let later = first_edges (c.loop-row.first + (get_or rows i zeros).count) (drop (i + 1) rows) in
    record {
      noted = c.push.ensures.len ∙ ap (λ n. n + 1) c.loop-row.invariant.noted;
      placed = rw c.push.ensures.items (append_assoc c.loop-row.firsts.items (c.loop-row.first ∷ []) later ∙ rw (drop_more rows i zeros within) at c.loop-row.invariant.placed);
      passed = omega (arith, c.loop-row.invariant.passed, sum_by-drop_more (λ (r : TableRow). r.count) rows i zeros within);
    }

pub returns : goal.returns
unfolding first_edges
returns c =
    let rows = c.args.tables.now.rows.now in
    let all : c.loop-row.row-index ≡ length rows = omega arith in
    sym (append-nil c.loop-row.firsts.items) ∙ rw (all, drop-length rows) at c.loop-row.invariant.placed
