-- The division byte by byte, from the first to the last.
-- Assumes nothing.
use mathlib.Core.Path.{◌≡◌, sym, ap, ◌∙◌}
use mathlib.Core.List.{List, [], ◌∷◌, ◌++◌}
use Prim.Native.Nat.{ℕ}
use Rattle.std.specs.List.{fold}
use Rattle.std.proofs.Common.{append_assoc, append-nil}
use Rattle.annex10.specs.Bytes.{bring_byte}
use Rattle.annex10.specs.Remainder.{remainder}
use Rattle.annex10.proofs.Bytewise.{remainder_nil}
use Rattle.annex10.proofs.Shifts.{bring_more}

more : (xs m : List ℕ) (crc : ℕ) → crc ≡ remainder xs → fold bring_byte crc m ≡ remainder (xs ++ m)
more xs [] crc e = e ∙ ap remainder (sym (append-nil xs))
more xs (x ∷ m) crc e = more (xs ++ (x ∷ [])) m (bring_byte crc x) (bring_more xs crc x e) ∙ ap remainder (append_assoc xs (x ∷ []) m)

pub divided : (m : List ℕ) → fold bring_byte 0 m ≡ remainder m
divided m = more [] m 0 (sym remainder_nil)
