-- Laws of answers in the rules' words.
--     told_refused   with a number that is not 0 there are no values
--     told_done      with number 0 there are
--     told_number    the number is the one that was told
--     told_values    the values of an answer with number 0
--     same_values    the same is told of two only if their values are the same
--     not_done       no refusal tells values
-- Assumes nothing.
use mathlib.Core.Path.{◌≡◌, refl, ap}
use mathlib.Core.Option.{none, some}
use Prim.Native.Nat.{ℕ, zero, suc}
use native.Mathlib.Omega.{arith}
use Rattle.lists.specs.Told.{Told, done, refused, tell}

module _ {A : Type 0} (v : A) where
  pub told_refused : {n m : ℕ} → n ≡ m → (n ≡ 0 → ⊥) → ◌≡◌ {A = Told A} (refused n) (tell m v)
  told_refused {n = zero} e h = absurd (h refl)
  told_refused {n = suc n} e h = rw (← e)

  pub told_done : {n m : ℕ} → n ≡ m → n ≡ 0 → ◌≡◌ {A = Told A} (done v) (tell m v)
  told_done e z = rw (← e, z)

  pub told_number : (n : ℕ) → (tell n v).0 ≡ n
  told_number zero = refl
  told_number (suc n) = refl

  pub told_values : (n : ℕ) {x : A} → tell n v ≡ done x → v ≡ x
  told_values zero e = let s = ap (λ (t : Told A). t.1) e in cc
  told_values (suc n) e = let z = ap (λ (t : Told A). t.0) e in absurd (omega arith)

some_same : {A : Type 0} {x y : A} → some x ≡ some y → x ≡ y
some_same e = cc

some_none : {A : Type 0} {x : A} → none ≡ some x → ⊥
some_none e = let z : ◌≡◌ {A = ℕ} 0 1 = cc in omega arith

pub same_values : {A : Type 0} {x y : A} → done x ≡ done y → x ≡ y
same_values {A} e = some_same (ap (λ (t : Told A). t.1) e)

pub not_done : {A : Type 0} {n : ℕ} {x : A} → refused n ≡ done x → ⊥
not_done {A} e = some_none (ap (λ (t : Told A). t.1) e)
