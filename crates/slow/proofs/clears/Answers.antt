-- `slow::clears` meets its contract: the copy is the message with the positions turned over. Assumes nothing.
use mathlib.Core.Path.{sym, ap, ◌∙◌}
use Prim.Native.Nat.{ℕ}
use lib.Dec.{eqb}
use Rattle.std.proofs.lemmas.List.{length-take-le}
use Rattle.annex10.specs.Remainder.{remainder}
use Rattle.annex10.proofs.Length.{message_small}
use Rattle.slow.proofs.Trial.{turned}
use Rattle.slow.proofs.clears.Goals as goal

pub slice_bounds-own-end : goal.slice_bounds-own-end
slice_bounds-own-end c = sym (length-take-le _ _ (message_small _ c.requires.0))

pub copy_from_slice-requires : goal.copy_from_slice-requires
copy_from_slice-requires c = length-take-le _ _ (message_small _ c.requires.0)

pub returns : goal.returns
returns c = let m = c.args.message.now in
    let ρ = c.args.repairs in
    ap (λ (x : ℕ). eqb x 0) (c.crc24.ensures ∙ ap remainder (turned m ρ c.requires.0 c.requires.1 c.correct_message_bit_errors.ensures c.copy_from_slice.ensures.after))
