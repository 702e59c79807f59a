-- Each part of a table names only parts before it.
use Rattle.std.proofs.Common.{◌≡◌, ℕ, ◌+◌, ◌<◌, true, ◌&&◌, ltb, ◌≢◌, List, length, [], ◌∷◌, ◌++◌, take, set, add-one, take-suc-set, ap, ◌∙◌, arith, get_or-set_other, get_or-take, get_or-set_same, below_more}
use Rattle.std.proofs.lemmas.Bool.{ltb-true, and_parts}
use Rattle.property_parts.specs.Parts.{names_earlier, Falls}
use Rattle.property_parts.specs.declared.parts.Part.{Part}
use Rattle.property_parts.specs.declared.parts.Part.TheVariants.{Letter}

-- one more part, at the end
pub fills : (ps : List Part) (n : ℕ) (p : Part) → n < length ps → Falls ps n → names_earlier p n ≡ true → Falls (set ps n p) (n + 1)
fills ps n p room old new =
    below_more _ _
    (λ k h. let ne : k ≢ n = omega arith in rw get_or-set_other (old k h))
    (rw (get_or-set_same ps n p (Letter 0) room) new)

pub fills_held : (ps : List Part) (n : ℕ) (p : Part) → n < length ps → take (n + 1) (set ps n p) ≡ take n ps ++ (p ∷ [])
fills_held ps n p room = rw add-one (take-suc-set ps n p room)

-- the parts that a table holds are the first of its slots
pub held_falls : (ps : List Part) (m : ℕ) → Falls ps m → Falls (take m ps) m
held_falls ps m falls k h = ap (λ p. names_earlier p k) (get_or-take m ps k (Letter 0) h) ∙ falls k h

pub both_earlier : (a b n : ℕ) → (ltb a n && ltb b n) ≡ true → (a < n) × (b < n)
both_earlier a b n h = let q = and_parts (ltb a n) (ltb b n) h in (ltb-true a n q.0, ltb-true b n q.1)
