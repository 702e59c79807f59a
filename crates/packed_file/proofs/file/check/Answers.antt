use Rattle.std.proofs.Common.{ℕ, ◌<◌, get_or, ◌∙◌, rules}
use Rattle.std.proofs.lemmas.Result.{err_from_is_err_and}
use Rattle.packed_file.proofs.Front.{judged_front}
use Rattle.packed_file.proofs.Judged.{accepted, refused}
use Rattle.packed_file.proofs.file.check.Goals as goal

pub returns-in_err-faultless_body : goal.returns-in_err-faultless_body
returns-in_err-faultless_body c =
    let p = err_from_is_err_and c.from_residual.result c.from_residual.ensures.1 in
    let e = c.in_err-faultless_body.ensures in
    rw (p.1, p.2) (record { value = e; judges = refused c.args.bytes.now _ e; front = e ∙ judged_front c.args.bytes.now })

pub returns : goal.returns
returns c =
    let e = c.in_ok-faultless_body.ensures in
    let small : (i : ℕ) → get_or c.args.bytes.now i 0 < 256 = λ i. let t = c.type_inv.bytes i in search rules in
    let a = accepted c.args.bytes.now c.in_ok-faultless_body.field-0.now small e.0 e.1 in
    record { value = a.0; judges = a.1; front = a.0 ∙ judged_front c.args.bytes.now }
