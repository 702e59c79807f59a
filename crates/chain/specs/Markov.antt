-- A Markov chain with whole-number weights, and which of them are lawful.
use Rattle.std.specs.Prelude.{◌≡◌, ℕ, ◌+◌, ◌^◌, ◌<◌, ◌≤◌, List, [], ◌∷◌, length}
use Rattle.std.specs.List.{AllByRecursion}
use Rattle.chain.specs.Limits.{most_states, most_edges, most_denominator, letters}

-- A state's propositions are a number: bit 0 stands for a, bit 1 for b and so on.
-- An edge is its target and its weight; its probability is the weight over the chain's denominator.
pub record Row : Type 0 where
  pub propositions : ℕ
  pub edges : List (ℕ × ℕ)

pub record Markov : Type 0 where
  pub start : ℕ
  pub denominator : ℕ
  pub rows : List Row

-- the weights of some edges together
abbrev pub weight_sum : List (ℕ × ℕ) → ℕ
weight_sum [] = 0
weight_sum (e ∷ es) = e.1 + weight_sum es

-- how many edges some rows have
abbrev pub edges_in : List Row → ℕ
edges_in [] = 0
edges_in (r ∷ rs) = length r.edges + edges_in rs

-- the targets strictly increase from `low` on and are below n, and no weight is 0
abbrev pub Rising : ℕ → ℕ → List (ℕ × ℕ) → Type 0
Rising n low [] = Unit {0}
Rising n low (e ∷ es) = (low ≤ e.0) × (e.0 < n) × (1 ≤ e.1) × Rising n (e.0 + 1) es

pub record LawfulRow (n denominator : ℕ) (r : Row) : Type 0 where
  pub lettered : r.propositions < 2 ^ letters
  pub rising : Rising n 0 r.edges
  pub whole : weight_sum r.edges ≡ denominator

pub record Lawful (c : Markov) : Type 0 where
  pub some : 1 ≤ length c.rows
  pub few : length c.rows ≤ most_states
  pub starts : c.start < length c.rows
  pub divides : 1 ≤ c.denominator
  pub divided : c.denominator ≤ most_denominator
  pub sparse : edges_in c.rows ≤ most_edges
  pub each : AllByRecursion (LawfulRow (length c.rows) c.denominator) c.rows

-- One state without propositions that stays where it is.
abbrev pub built_in : Markov
built_in = record { start = 0; denominator = 1; rows = record { propositions = 0; edges = (0, 1) ∷ [] } ∷ [] }
