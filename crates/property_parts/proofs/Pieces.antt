-- A text that is written in one piece, in two, or in three.
use Rattle.std.proofs.Common.{◌≡◌, ℕ, List, ◌++◌, Ok, Result, refl}
use Rattle.std.specs.declared.fmt.Error.{Error}
use Rattle.std.specs.declared.fmt.Formatter.{Formatter}
use Rattle.std.specs.Fmt.{WritesOnOk}
use Rattle.std.proofs.Output.{has_written_of_eq, writes_on_IsOk-append}

module _ {W : Type 0} (took : W → List ℕ → W → Type 0) (r : Result (Unit {0}) Error) {text : List ℕ} where
  pub in_one : (f g : Formatter W) {a : List ℕ} → a ≡ text → WritesOnOk took f r a g → WritesOnOk took f r text g
  in_one f g {a} e x plain ok = has_written_of_eq took f a text g e (x plain ok)

  pub in_two : (f g h : Formatter W) {a b : List ℕ} → a ++ b ≡ text → WritesOnOk took f (Ok tt) a g → WritesOnOk took g r b h → WritesOnOk took f r text h
  in_two f g h {a} {b} e x y = in_one f h e (writes_on_IsOk-append took f g h (Ok tt) r a b (λ _. refl) x y)

  pub in_three : (f g h i : Formatter W) {a b c : List ℕ} → a ++ (b ++ c) ≡ text
      → WritesOnOk took f (Ok tt) a g → WritesOnOk took g (Ok tt) b h → WritesOnOk took h r c i → WritesOnOk took f r text i
  in_three f g h i {a} {b} {c} e x y z = in_two f g i e x (writes_on_IsOk-append took g h i (Ok tt) r b c (λ _. refl) y z)
