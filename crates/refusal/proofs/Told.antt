-- What is told of demands that stand one after another.
use Rattle.std.proofs.Common.{◌≡◌, ℕ, Bool, true, false, cond, List, [], ◌∷◌, ◌++◌, is_ok, Ok, Err, Result, sym, refl, ap, arith}
use Rattle.std.proofs.ByRecursion.{All-append}
use Rattle.std.proofs.lemmas.Bool.{false≢true}
use Rattle.refusal.specs.declared.Refusal.{Refusal}
use Rattle.refusal.specs.Demands.{Demand, Met, told, First}

pub ok_err : {A F : Type 0} {a : A} {f : F} {P : Type 0} → ◌≡◌ {A = Result A F} (Ok a) (Err f) → P
ok_err h = absurd (let z : ◌≡◌ {A = ℕ} 0 1 = cc in omega arith)

module _ {F : Type 0} where
  head : {A : Type 0} (b : Bool) (r : Result A (Refusal F)) (f : Refusal F) (a : A) {P : Type 0} → cond b r (Err f) ≡ Ok a → (r ≡ Ok a → P) → (b ≡ true) × P
  head true r f a h k = (refl, k h)
  head false r f a h k = ok_err (sym h)

  stop : {A B : Type 0} (b : Bool) (r : Result A (Refusal F)) (s : Result B (Refusal F)) (f g : Refusal F) → cond b r (Err g) ≡ Err f → (r ≡ Err f → s ≡ Err f) → cond b s (Err g) ≡ Err f
  stop true r s f g h k = k h
  stop false r s f g h k = cc

  pub met_told : {A : Type 0} (ds : List (Demand F)) (a : A) → Met ds → told ds a ≡ Ok a
  met_told [] a h = refl
  met_told (x ∷ xs) a h = rw h.0 (met_told xs a h.1)

  pub told_ok : {A : Type 0} (ds : List (Demand F)) (a b : A) → told ds a ≡ Ok b → (b ≡ a) × Met ds
  told_ok [] a b h = (cc, tt)
  told_ok (x ∷ xs) a b h = let r = head x.met _ _ b h (λ e. told_ok xs a b e) in (r.1.0, (r.0, r.1.1))

  some_head : {A : Type 0} (b : Bool) (r : Result A (Refusal F)) (f : Refusal F) {P : Type 0} → is_ok (cond b r (Err f)) ≡ true → (is_ok r ≡ true → P) → (b ≡ true) × P
  some_head true r f h k = (refl, k h)
  some_head false r f h k = absurd (false≢true h)

  pub ok_met : {A : Type 0} (ds : List (Demand F)) (a : A) → is_ok (told ds a) ≡ true → Met ds
  ok_met [] a h = tt
  ok_met (x ∷ xs) a h = some_head x.met _ _ h (λ e. ok_met xs a e)

  pub met_append : (xs ys : List (Demand F)) → Met xs → Met ys → Met (xs ++ ys)
  met_append = All-append (λ x. x.met ≡ true)

  pub met_left : (xs ys : List (Demand F)) → Met (xs ++ ys) → Met xs
  met_left [] ys h = tt
  met_left (x ∷ xs) ys h = (h.0, met_left xs ys h.1)

  pub met_right : (xs ys : List (Demand F)) → Met (xs ++ ys) → Met ys
  met_right [] ys h = h
  met_right (x ∷ xs) ys h = met_right xs ys h.1

  -- demands that are met leave it to the later ones
  pub told_then : {B : Type 0} (xs ys : List (Demand F)) (b : B) → Met xs → told (xs ++ ys) b ≡ told ys b
  told_then [] ys b h = refl
  told_then (x ∷ xs) ys b h = rw h.0 (told_then xs ys b h.1)

  pub told_on : {A B : Type 0} (xs ys : List (Demand F)) (a a' : A) (b : B) → Ok a' ≡ told xs a → told (xs ++ ys) b ≡ told ys b
  told_on xs ys a a' b h = told_then xs ys b (told_ok xs a a' (sym h)).1

  pub told_value : {A : Type 0} (xs : List (Demand F)) (a a' : A) → Ok a' ≡ told xs a → a' ≡ a
  told_value xs a a' h = (told_ok xs a a' (sym h)).0

  -- a broken demand decides
  pub told_stop : {A B : Type 0} (xs ys : List (Demand F)) (a : A) (b : B) (f : Refusal F) → told xs a ≡ Err f → told (xs ++ ys) b ≡ Err f
  told_stop [] ys a b f h = ok_err h
  told_stop (x ∷ xs) ys a b f h = stop x.met (told xs a) (told (xs ++ ys) b) f _ h (λ e. told_stop xs ys a b f e)

  pub told_first : {A : Type 0} (ds : List (Demand F)) (a : A) (f : Refusal F) → told ds a ≡ Err f → First ds f
  told_first [] a f h = ok_err h
  told_first (x ∷ xs) a f h = split x.met refl h (λ e. told_first xs a f e)
    where
      split : (b : Bool) → x.met ≡ b → cond b (told xs a) (Err x.refusal) ≡ Err f → (told xs a ≡ Err f → First xs f) → First (x ∷ xs) f
      split true e r k =
          let q = k r in
          record { before = x ∷ q.before; broken = q.broken; after = q.after; order = ap (λ l. x ∷ l) q.order; kept = (e, q.kept); unmet = q.unmet; same = q.same }
      split false e r k = record { before = []; broken = x; after = xs; order = refl; kept = tt; unmet = e; same = cc }

  -- later demands, and the value, may rest on the value of the earlier ones
  pub told_through : {A B : Type 0} (xs : List (Demand F)) (ys : A → List (Demand F)) (b : A → B) (a a' : A) → Ok a' ≡ told xs a → told (xs ++ ys a) (b a) ≡ told (ys a') (b a')
  told_through xs ys b a a' h = rw (told_value xs a a' h) (told_on xs (ys a) a a' (b a) h)

  -- A turn of a loop over demands: where those of the turn are met, what all tell is what the rest tell;
  pub told_turn : {A B : Type 0} (all now rest : List (Demand F)) (a a' : A) (b : B) → all ≡ now ++ rest → Ok a' ≡ told now a → told all b ≡ told rest b
  told_turn all now rest a a' b e h = rw e (told_on now rest a a' b h)

  -- where one of them is broken, it is what the turn tells.
  pub told_halt : {A B : Type 0} (all now rest : List (Demand F)) (a : A) (b : B) (f : Refusal F) → all ≡ now ++ rest → Err f ≡ told now a → told all b ≡ Err f
  told_halt all now rest a b f e h = rw e (told_stop now rest a b f (sym h))
