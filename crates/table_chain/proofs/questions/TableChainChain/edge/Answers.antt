use Rattle.std.proofs.Common.{◌+◌, ◌<◌, length, sym, ◌∙◌, arith, rules}
use Rattle.std.specs.Prelude.{slice_index_or}
use Rattle.table_chain.proofs.Lookup.{row_read, edge_no_row, edge_past, edge_inside, edge_found, length_firsts, short}
use Rattle.table_chain.proofs.questions.TableChainChain.edge.Goals as goal
use Rattle.table_chain.proofs.questions.TableChainChain.edge.Goals.{After-deref}

inside : (c : After-deref) → slice_index_or c.deref.result.now c.args.state 0 + c.args.place < length c.args.self.now.tables.edges.now
inside c =
    let t = c.args.self.now.tables in
    let found = row_read t.rows.now c.args.state c.in_ok-row.row c.in_ok-row.ensures.lookup in
    edge_inside t c.args.state c.in_ok-row.row.now found c.deref.result.now (c.deref.ensures.0 ∙ c.args.self.now.placed) c.args.place c.if-place-row.false c.args.self.now.faultless

pub returns-in_err-row : goal.returns-in_err-row
returns-in_err-row c = rw c.from_residual.ensures (sym (edge_no_row c.args.self.now.tables c.args.state c.in_err-row.ensures.lookup.3 c.args.place))

pub returns-then-place-row : goal.returns-then-place-row
returns-then-place-row c =
    let t = c.args.self.now.tables in
    let found = row_read t.rows.now c.args.state c.in_ok-row.row c.in_ok-row.ensures.lookup in
    sym (edge_past t c.args.state c.in_ok-row.row.now found c.args.place c.if-place-row.true)

pub bounds-deref-state : goal.bounds-deref-state
bounds-deref-state c =
    let len = length_firsts 0 c.args.self.now.tables.rows.now in
    let within = c.in_ok-row.ensures.lookup.3.0 in
    rw (c.deref.ensures.0, c.args.self.now.placed) (omega arith)

pub overflow_add-edge : goal.overflow_add-edge
overflow_add-edge c =
    let i = inside (goal.at.overflow_add-edge c).After-deref in
    let s = short c.args.self.now.tables c.args.self.now.faultless in
    search rules

pub offset_bounds-self-deref : goal.offset_bounds-self-deref
offset_bounds-self-deref c =
    let i = inside (goal.at.offset_bounds-self-deref c).After-deref in
    let s = short c.args.self.now.tables c.args.self.now.faultless in
    search rules

pub bounds-self-deref : goal.bounds-self-deref
bounds-self-deref c = inside (goal.at.bounds-self-deref c).After-deref

pub returns : goal.returns
returns c =
    let t = c.args.self.now.tables in
    let found = row_read t.rows.now c.args.state c.in_ok-row.row c.in_ok-row.ensures.lookup in
    sym (edge_found t c.args.state c.in_ok-row.row.now found c.deref.result.now (c.deref.ensures.0 ∙ c.args.self.now.placed) c.args.place c.if-place-row.false)
