use Rattle.std.proofs.Common.{sym, ◌∙◌}
use Rattle.std.proofs.lemmas.Result.{err_from_is_err_and}
use Rattle.refusal.proofs.Told.{told_on, told_stop, told_value}
use Rattle.packed_file.specs.Format.{states_in, denominator_in, first_row}
use Rattle.packed_file.specs.Faults.{header_demands, rows_demands}
use Rattle.packed_file.specs.Reading.{header_of}
use Rattle.packed_file.proofs.Front.{front_told}
use Rattle.packed_file.proofs.file.check_body.Goals as goal

pub returns-in_err-header : goal.returns-in_err-header
returns-in_err-header c =
    let front = c.new-fields.result.body.now in
    let rows = rows_demands front (states_in front) (denominator_in front) (states_in front) first_row 0 in
    let halt = told_stop (header_demands front) rows (header_of front) (tt {0}) _ (sym c.in_err-header.ensures.tells) in
    let p = err_from_is_err_and c.from_residual.result c.from_residual.ensures.1 in
    rw (p.1, p.2) (sym halt ∙ front_told c.args.body.now front c.new-fields.ensures.front)

pub returns : goal.returns
returns c =
    let front = c.new-fields.result.body.now in
    let rows = rows_demands front (states_in front) (denominator_in front) (states_in front) first_row 0 in
    let read = c.in_ok-header.ensures in
    let header = told_value (header_demands front) (header_of front) c.in_ok-header.header read.tells in
    let on = told_on (header_demands front) rows (header_of front) c.in_ok-header.header (tt {0}) read.tells in
    let tells = simp (header, read.same, read.moved, c.new-fields.ensures.first) at c.rows.ensures in
    tells ∙ sym on ∙ front_told c.args.body.now front c.new-fields.ensures.front
