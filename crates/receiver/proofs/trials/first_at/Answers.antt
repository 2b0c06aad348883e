-- `receiver::trials::first_at` meets its contract: the call is never refused.
-- Assumes nothing.
use mathlib.Core.Path.{ap, ◌∙◌}
use mathlib.Core.List.{List}
use Prim.Native.Nat.{ℕ}
use lib.ListN.{get_or}
use Rattle.streams.proofs.Reading.{extracted_done}
use Rattle.receiver.proofs.Never.{unwrapped}
use Rattle.receiver.proofs.trials.first_at.Goals as goal

pub returns : goal.returns
returns c =
    ap (λ (m : List ℕ). get_or m 0 0)
    (unwrapped _ _ c.unwrap_or.ensures (c.extract_message.ensures ∙ extracted_done 14 c.args.stream.now c.args.bit c.requires.0 c.requires.1))
