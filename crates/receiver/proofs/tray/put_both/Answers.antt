-- `receiver::tray::put_both` meets its contract. Assumes nothing.
use mathlib.Core.Path.{◌≡◌, refl, ap, ap₂, ◌∙◌}
use mathlib.Core.List.{List, ◌++◌}
use mathlib.Core.Logic.{inl, inr}
use Prim.Native.Nat.{ℕ}
use native.Mathlib.Omega.{arith}
use lib.ListN.{length}
use lib.Seq.{length-take-le}
use lib.Ieee.{Float}
use Rattle.rows.proofs.Laid.{result_done}
use Rattle.receiver.proofs.Traying.{part_size_law, rest_size, joined}
use Rattle.receiver.proofs.tray.put_both.Goals as goal

pub returns : goal.returns
returns c =
    let a = c.args in
    let p = c.requires in
    let first = c.put_result in
    let second = c.put_result-2 in
    let one =
    result_done _ _ _ a.a.long 14 (inr refl) (part_size_law 0 14 14 a.message.now refl (omega (arith, p.0))) (part_size_law 0 11 11 a.words.now refl (omega (arith, p.1)))
    (part_size_law 0 2 2 a.floats.now refl (omega (arith, p.2))) first.ensures in
    let l : length first.new.message ≡ 14 = ap length one.0 ∙ length-take-le 14 a.a.long.message (omega (arith, p.3)) in
    let m : length first.new.words ≡ 11 = ap length one.1 in
    let n : length first.new.floats ≡ 2 = ap length one.2 in
    let two =
    result_done _ _ _ a.a.short 7 (inl refl) (rest_size 14 7 a.message.now first.new.message l p.0) (rest_size 11 11 a.words.now first.new.words m p.1) (rest_size 2 2 a.floats.now first.new.floats n p.2)
    second.ensures in (
      joined 14 21 a.message.now first.new.message second.new.message l p.0 (omega arith) ∙ ap₂ (λ (x y : List ℕ). x ++ y) one.0 two.0,
      joined 11 22 a.words.now first.new.words second.new.words m p.1 (omega arith) ∙ ap₂ (λ (x y : List ℕ). x ++ y) one.1 two.1,
      joined 2 4 a.floats.now first.new.floats second.new.floats n p.2 (omega arith) ∙ ap₂ (λ (x y : List Float). x ++ y) one.2 two.2,
    )
