-- Where the rows of a body begin.
use Rattle.std.specs.Prelude.{◌≡◌, ℕ, zero, suc, ◌*◌, ◌≤◌, List, [], ◌∷◌, length, Some, None, Option}
use Rattle.std.specs.List.{slice_get}
use Rattle.packed_file.specs.Format.{row_at, after_row, states_in, first_row, longest_body, decoded}

-- where the k rows from the one at p on begin
unfoldable pub places_from : List ℕ → ℕ → ℕ → List ℕ
places_from body p zero = []
places_from body p (suc k) = p ∷ places_from body (after_row body p) k

abbrev pub row_places : List ℕ → List ℕ
row_places body = places_from body first_row (states_in body)

-- What looking for the row of the state s finds: its place; the row ends in the body, and no later than the longest body.
abbrev pub Found : List ℕ → ℕ → Option ℕ → Type 0
Found body s None = slice_get (decoded body).rows s ≡ None
Found body s (Some p) = (slice_get (decoded body).rows s ≡ Some (row_at body p)) × (after_row body p ≤ 8 * length body) × (after_row body p ≤ longest_body)
