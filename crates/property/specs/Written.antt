-- The written form of a property: its tokens, with a space on either side of `U<=hops`, and no other.
use Rattle.std.specs.Prelude.{ℕ, List, ◌++◌, codes, decimal}
use Rattle.property_parts.specs.Form.{plain, form}
use Rattle.property_parts.specs.declared.kinds.Kind.TheVariants.{State}
use Rattle.property.specs.Asked.{Asked, InParts}
use Rattle.property.specs.declared.ceiling.Ceiling.{Ceiling}

-- given the bytes of the ground and of the goal
abbrev pub written_with : Ceiling → List ℕ → ℕ → List ℕ → List ℕ
written_with ceiling ground_bytes hops goal_bytes =
    codes "P<=" ++ (decimal ceiling.upper ++ (codes "/" ++ (decimal ceiling.lower
    ++ (codes "[" ++ (ground_bytes ++ (codes " U<=" ++ (decimal hops ++ (codes " " ++ (goal_bytes ++ codes "]")))))))))

abbrev pub written : InParts → List ℕ
written p = written_with p.ceiling (form p.parts p.ground_part State) p.hops (form p.parts p.goal_part State)

abbrev pub plainest : Asked → List ℕ
plainest a = written_with a.ceiling (plain a.ground_formula State) a.hops (plain a.goal_formula State)
