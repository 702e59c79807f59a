use Rattle.std.proofs.Common.{sym, ap, length, ◌∙◌}
use Rattle.packed_file.specs.Format.{states_in, first_row}
use Rattle.packed_file.proofs.Fits.{length_rows}
use Rattle.packed_chain.proofs.Lookup.{length_places}
use Rattle.packed_chain.proofs.questions.PackedChainChain.states.Goals as goal

pub returns : goal.returns
returns c =
    let body = c.args.self.now.body.now in
    c.len.ensures.value ∙ ap length c.args.self.now.placed ∙ length_places body first_row (states_in body) ∙ sym (length_rows body first_row (states_in body))
