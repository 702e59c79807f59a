-- The body of the built-in chain's file.
use Rattle.std.proofs.Common.{◌≡◌, ℕ, List, [], ◌∷◌, Ok, Err, Result, Bor, MatchResult, refl}
use Rattle.std.specs.Result.{result_unwrap_or}
use Rattle.refusal.specs.declared.Refusal.{Refusal}
use Rattle.bits.specs.Fields.{field}
use Rattle.bits.specs.Mirror.{mirrored}
use Rattle.chain.specs.Markov.{built_in}
use Rattle.packed_file.specs.declared.fault.FileFault.{FileFault}
use Rattle.packed_file.specs.Format.{marked, edges_at, rows_at, decoded}
use Rattle.packed_file.specs.Faults.{judged, edges_demands, rows_demands}
use Rattle.packed_file.specs.Judgement.{Faultless}
use Rattle.packed_file.specs.TakenUp.{taken_up}

abbrev pub built_in_body : List ℕ
built_in_body = 0 ∷ 0 ∷ 0 ∷ 0x40 ∷ 0 ∷ 0 ∷ 0 ∷ 2 ∷ 0 ∷ 0 ∷ 0 ∷ 0x80 ∷ []

pub built_in_decoded : decoded built_in_body ≡ built_in
unfolding field mirrored edges_at rows_at
built_in_decoded = refl

pub built_in_faultless : Faultless built_in_body
unfolding field edges_at rows_at edges_demands rows_demands
built_in_faultless = refl

-- what is taken up of a file, from what its check answered
pub taken : (bytes : List ℕ) (r : Result (Bor (List ℕ)) (Refusal FileFault)) (standing_in : Bor (List ℕ)) → standing_in.now ≡ built_in_body
    → MatchResult r (λ body. (bytes ≡ marked body.now) × Faultless body.now) (λ f. Err f ≡ judged bytes)
    → Faultless (result_unwrap_or r standing_in).now × (decoded (result_unwrap_or r standing_in).now ≡ taken_up bytes)
taken bytes (Ok body) b e h = (h.1, rw (h.0, h.1))
taken bytes (Err f) b e h = (rw e built_in_faultless, rw (e, ← h) built_in_decoded)
