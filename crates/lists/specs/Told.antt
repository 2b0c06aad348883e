-- An answer in the rules' words: a number, and values only where it is 0.
-- Assumes nothing.
use Rattle.std.proofs.Math.Option.{Option, none, some}
use Rattle.std.specs.Prelude.{ℕ, zero, suc}

abbrev pub Told : Type 0 → Type 0
Told A = ℕ × Option A

-- done: number 0, with the values
abbrev pub done : {A : Type 0} → A → Told A
done v = (0, some v)

-- refused: the number alone
abbrev pub refused : {A : Type 0} → ℕ → Told A
refused n = (n, none)

-- a number and values as an answer: a refusal keeps none of the values
abbrev pub tell : {A : Type 0} → ℕ → A → Told A
tell zero v = done v
tell (suc n) v = refused (suc n)

-- what is done with the values: a refusal stays as it is
abbrev pub and_then : {A B : Type 0} → Told A → (A → Told B) → Told B
and_then (n, some v) f = f v
and_then (n, none) f = refused n
