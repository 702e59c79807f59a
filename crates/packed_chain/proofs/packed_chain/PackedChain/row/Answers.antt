use Rattle.std.proofs.Common.{sym, ◌∙◌, Some, None, refl}
use Rattle.std.proofs.lemmas.Option.{slice_get_past, slice_get_read}
use Rattle.packed_chain.proofs.Lookup.{found}
use Rattle.packed_chain.proofs.packed_chain.PackedChain.row.Goals as goal

pub returns-in_err-place : goal.returns-in_err-place
returns-in_err-place c =
    let chain = c.args.self.now in
    let places = c.deref.ensures.0 ∙ chain.placed in
    let past = slice_get_past c.deref.result.now c.args.state c.in_err-place.ensures.lookup.3 in
    rw c.from_residual.ensures (found chain.body.now c.args.state None chain.faultless (sym (rw places at past)))

pub returns : goal.returns
returns c =
    let chain = c.args.self.now in
    let places = c.deref.ensures.0 ∙ chain.placed in
    let lookup = c.in_ok-place.ensures.lookup in
    let here = slice_get_read c.deref.result.now _ c.args.state c.in_ok-place.place.now refl lookup.3.0 lookup.1 in
    found chain.body.now c.args.state (Some c.in_ok-place.place.now) chain.faultless (sym (rw places at here))
