-- `receiver::subsample::around` meets its contract: a place that is searched has two places either way. Assumes nothing.
use mathlib.Core.Path.{ap}
use native.Mathlib.Omega.{arith}
use Rattle.place.specs.declared.location.Location.{Location}
use Rattle.receiver.specs.Inner.{kind_of}
use Rattle.receiver.proofs.Never.{unwrapped}
use Rattle.receiver.proofs.EitherKind.{right}
use Rattle.receiver.proofs.Prompting.{room, around_is, back, on}
use Rattle.receiver.proofs.subsample.around.Goals as goal

pub earlier-before-requires : goal.earlier-before-requires
earlier-before-requires c =
    let r = room (kind_of c.args.kind) (right c.args.kind) c.args.location.place c.requires.1.place in
    (c.requires.1.taken, omega (arith, r.low))

pub later-after-requires : goal.later-after-requires
later-after-requires c =
    let r = room (kind_of c.args.kind) (right c.args.kind) c.args.location.place c.requires.1.place in
    (c.requires.1.taken, omega (arith, r.high))

pub earlier-requires : goal.earlier-requires
earlier-requires c =
    let r = room (kind_of c.args.kind) (right c.args.kind) c.args.location.place c.requires.1.place in
    let b = back c.args.location.place (ap (λ (l : Location). l.place) c.earlier-before.ensures.0) in
    (c.earlier-before.ensures.1, omega (arith, b, r.low))

pub later-requires : goal.later-requires
later-requires c =
    let r = room (kind_of c.args.kind) (right c.args.kind) c.args.location.place c.requires.1.place in
    let b = on c.args.location.place (ap (λ (l : Location). l.place) c.later-after.ensures.0) in
    (c.later-after.ensures.1, omega (arith, b, r.high))

pub returns : goal.returns
returns c =
    let a = c.args in
    unwrapped _ _ c.unwrap_or.ensures
    (around_is (kind_of a.kind) (right a.kind) a.symbols.now a.message.now a.location c.requires.0 c.requires.1.place c.requires.2 c.earlier-before.ensures c.later-after.ensures
    c.earlier.ensures c.later.ensures c.symbols_at.ensures c.symbols_at-2.ensures c.symbols_at-3.ensures c.symbols_at-4.ensures c.powers_around.ensures)
