-- `receiver::decode::time_at` meets its contract. Assumes nothing.
use mathlib.Core.Path.{refl, ap, ◌∙◌}
use lib.ListN.{length}
use Rattle.kernels.proofs.Summing.{symbols_length, symbols_made}
use Rattle.receiver.specs.Inner.{kind_of}
use Rattle.receiver.proofs.Deciding.{time_taken, time_done}
use Rattle.receiver.proofs.decode.time_at.Goals as goal

pub power_at-power-requires : goal.power_at-power-requires
power_at-power-requires c =
    let a = c.args in
    let t = time_taken (kind_of a.kind) a.samples.now a.location a.index c.in_ok-check_time.ensures in
    let m = symbols_made a.samples.now _ t.0 refl c.accumulate_symbols.ensures in
    (ap length m ∙ symbols_length a.samples.now, t.1.taken, c.requires)

pub time_in-requires : goal.time_in-requires
time_in-requires c =
    let a = c.args in
    let t = time_taken (kind_of a.kind) a.samples.now a.location a.index c.in_ok-check_time.ensures in
    let m = symbols_made a.samples.now _ t.0 refl c.accumulate_symbols.ensures in
    (ap length m ∙ symbols_length a.samples.now, t.1, t.2, t.3, c.requires, c.power_at-power.ensures)

pub returns : goal.returns
returns c =
    let a = c.args in
    let k = kind_of a.kind in
    let t = time_taken k a.samples.now a.location a.index c.in_ok-check_time.ensures in
    let m = symbols_made a.samples.now _ t.0 refl c.accumulate_symbols.ensures in
    time_done k a.samples.now a.location a.message.now a.index c.in_ok-check_time.ensures m c.time_in.ensures
