-- `receiver::trials::bit_errors` meets its contract: no position, else one, else two.
-- Assumes nothing.
use mathlib.Core.Path.{refl, sym, ◌∙◌}
use Rattle.receiver.proofs.Answering.{by_none, by_one, by_two}
use Rattle.receiver.proofs.trials.bit_errors.Goals as goal

pub returns-then-crc-eq0 : goal.returns-then-crc-eq0
returns-then-crc-eq0 c = by_none _ c.if-crc-eq0.true

pub returns-in-At : goal.returns-in-At
returns-in-At c = by_one _ c.if-crc-eq0.false (sym c.in-At.is ∙ c.single_bit_error_from_crc24.ensures) refl

pub returns-in-Nothing : goal.returns-in-Nothing
returns-in-Nothing c = by_two _ c.if-crc-eq0.false c.single_bit_error_from_crc24.ensures c.in-Nothing.is c.double_bit_error_from_crc24.ensures
