-- What the check's answer says, from the demands.
use Rattle.std.proofs.Common.{◌≡◌, ℕ, suc, ◌<◌, List, get_or, drop, Ok, Err, sym, ap, ◌∙◌, subst}
use Rattle.refusal.specs.declared.Refusal.{Refusal}
use Rattle.refusal.specs.Demands.{Met}
use Rattle.refusal.proofs.Told.{met_told, ok_met, told_first, ok_err}
use Rattle.chain.specs.Markov.{Markov, Lawful}
use Rattle.packed_file.specs.declared.fault.FileFault.{FileFault}
use Rattle.packed_file.specs.Format.{marked, layout, packed, encode, decoded}
use Rattle.packed_file.specs.Faults.{demands, body_demands, judged}
use Rattle.packed_file.specs.TakenUp.{taken_up}
use Rattle.packed_file.specs.Judgement.{Judges, Faultless}
use Rattle.packed_file.proofs.Holding.{Holds, Bytes}
use Rattle.packed_file.proofs.Files.{packed_holds, holds_packed}
use Rattle.packed_file.proofs.Fits.{met_lawful, met_holds, one_chain, lawful_met}

same_body : (xs ys : List ℕ) → marked xs ≡ marked ys → xs ≡ ys
same_body xs ys e = ap (drop 2) e

judged_marked : (body : List ℕ) → Faultless body → judged (marked body) ≡ Ok (tt {0})
judged_marked body h = met_told (body_demands body) (tt {0}) (ok_met (body_demands body) (tt {0}) h)

-- the file of a lawful chain decodes to that chain, and is accepted
encoded_decoded : (c : Markov) → Lawful c → decoded (packed (layout c)) ≡ c
encoded_decoded c l = sym (one_chain (packed (layout c)) c l (packed_holds c l))

encoded_met : (c : Markov) → Lawful c → Met (body_demands (packed (layout c)))
encoded_met c l =
    let e = encoded_decoded c l in
    let body = packed (layout c) in
    lawful_met body (subst (λ x. Lawful x) (sym e) l) (subst (λ x. Holds body 0 (layout x)) (sym e) (packed_holds c l))

pub encoded_judged : (c : Markov) → Lawful c → judged (encode c) ≡ Ok (tt {0})
encoded_judged c l = met_told (body_demands (packed (layout c))) (tt {0}) (encoded_met c l)

pub encoded_taken_up : (c : Markov) → Lawful c → taken_up (encode c) ≡ c
encoded_taken_up c l = rw (encoded_judged c l) (encoded_decoded c l)

judges_marked : (body : List ℕ) → Bytes body → Faultless body → Judges (marked body) (Ok (tt {0}))
judges_marked body small h =
    let met = ok_met (body_demands body) (tt {0}) h in
    let lawful = met_lawful body met in (
      lawful,
      ap marked (holds_packed body (decoded body) small lawful (met_holds body met)),
      λ c l e. sym (encoded_decoded c l) ∙ ap decoded (sym (same_body body (packed (layout c)) e)),
    )

pub accepted : (bytes body : List ℕ) → ((i : ℕ) → get_or bytes i 0 < 256) → bytes ≡ marked body → Faultless body → (Ok (tt {0}) ≡ judged bytes) × Judges bytes (Ok (tt {0}))
accepted bytes body small e h =
    let small_body : Bytes body = λ i l. subst (λ b. get_or b (suc (suc i)) 0 < 256) e (small (suc (suc i))) in
    subst (λ b. (Ok (tt {0}) ≡ judged b) × Judges b (Ok (tt {0}))) (sym e) (sym (judged_marked body h), judges_marked body small_body h)

pub refused : (bytes : List ℕ) (f : Refusal FileFault) → Err f ≡ judged bytes → Judges bytes (Err f)
refused bytes f h = (
  told_first (demands bytes) (tt {0}) f (sym h),
  λ c l e.
      let ok : judged bytes ≡ Ok (tt {0}) = rw e (encoded_judged c l) in
      ok_err (sym ok ∙ sym h),
)

pub faultless_lawful : (body : List ℕ) → Faultless body → Lawful (decoded body)
faultless_lawful body h = met_lawful body (ok_met (body_demands body) (tt {0}) h)
