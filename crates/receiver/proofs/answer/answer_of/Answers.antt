-- `receiver::answer::answer_of` meets its contract: what is found lies at a place that is searched, so it can be timed. Assumes nothing.
use mathlib.Core.Path.{◌≡◌, refl, sym, ap, ◌∙◌}
use Prim.Native.Nat.{◌≤◌}
use native.Mathlib.Omega.{arith}
use lib.ListN.{length}
use lib.Seq.{length-take-le}
use Rattle.receiver.specs.Inner.{kind_of}
use Rattle.receiver.proofs.EitherKind.{right}
use Rattle.receiver.proofs.Deciding.{symbols_set, set_length, weighed_there, answer_none, answer_timed}
use borrow.Author.Rules.{rules}
use Rattle.receiver.proofs.answer.answer_of.Goals as goal

pub returns-in_default : goal.returns-in_default
returns-in_default c = answer_none (kind_of c.args.kind) c.args.sums.now c.args.index c.in_default.is c.refused.ensures

pub slice_bounds-message-end : goal.slice_bounds-message-end
slice_bounds-message-end c =
    let l : length c.in-Some.c.message ≡ 14 = search rules in
    omega (arith, l, c.bytes_of.ensures, (right c.args.kind).high)

pub slice_bounds-time_in-end-2 : goal.slice_bounds-time_in-end-2
slice_bounds-time_in-end-2 c =
    let l : length c.in-Some.c.message ≡ 14 = search rules in
    sym (length-take-le c.bytes_of.result c.in-Some.c.message (omega (arith, l, c.bytes_of.ensures, (right c.args.kind).high)))

pub time_in-timed-requires : goal.time_in-timed-requires
time_in-timed-requires c =
    let found = c.in-Some.c in
    let l : length found.message ≡ 14 = search rules in
    let a = c.args in
    let k = kind_of a.kind in
    let e = c.bytes_of.ensures in
    let h : c.bytes_of.result ≤ length found.message = omega (arith, l, e, (right a.kind).high) in
    let m = symbols_set a.sums.now _ c.requires.0 refl c.symbols_of_sums.ensures in
    (ap length m ∙ set_length a.sums.now, c.requires.3.at found c.in-Some.is, c.requires.1, c.requires.2, length-take-le _ _ h ∙ e, weighed_there k a.sums.now found c.requires.3 c.in-Some.is e m)

pub returns : goal.returns
returns c =
    let a = c.args in
    let m = symbols_set a.sums.now _ c.requires.0 refl c.symbols_of_sums.ensures in
    answer_timed (kind_of a.kind) a.sums.now c.in-Some.c a.index c.in-Some.is c.bytes_of.ensures m c.time_in-timed.ensures
