-- `mode_s::crc::crc24` meets its contract: the bytes are folded in, from the first to the last.
-- Assumes nothing.
use mathlib.Core.Path.{◌≡◌, ◌∙◌}
use borrow.Author.Rules.{rules}
use Rattle.std.specs.List.{fold}
use Rattle.annex10.specs.Bytes.{bring_byte}
use Rattle.mode_s.proofs.Dividing.{divided}
use Rattle.mode_s.proofs.crc.crc24.Goals as goal

pub returns : goal.returns
returns c =
    let e : c.fold.result ≡ fold bring_byte 0 c.args.bytes.now = search rules in
    e ∙ divided c.args.bytes.now
