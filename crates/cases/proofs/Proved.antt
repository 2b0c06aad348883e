-- The worked cases hold.
-- Assumes nothing.
use mathlib.Core.Path.{refl}
use lib.Dec.{lit<}
use Rattle.annex10.specs.Remainder.{remainder}
use Rattle.annex10.specs.Flip.{flip}
use Rattle.annex10.specs.Header.{one_of, long_header}
use Rattle.annex10.specs.Repair.{repaired, pattern}
use Rattle.annex10.specs.declared.Repairs.TheVariants.{Two}
use Rattle.annex10.proofs.Repairing.{looked_up}
use Rattle.annex10.proofs.Unique.{apart_14}
use lib.Ieee.{size, span, climb, add, sub, mul, div, neg, eq, of_bits, lt, le}
use Rattle.math.specs.Parabola.{parabola}
use Rattle.cn0.specs.Logarithm.{floor_log, significand, digits, log_steps}
use Rattle.place.specs.Step.{within, starting_at, earlier_of, later_of}
use Rattle.timing.specs.Subsample.{held, fraction_of, move, turn, after_moves, gained, timing_of}
use Rattle.cases.specs.Table.{All, cases}

pub hold : All cases
unfolding remainder flip repaired pattern one_of long_header log_steps floor_log significand digits size span climb parabola add sub mul div neg eq of_bits earlier_of later_of within starting_at timing_of fraction_of held move turn after_moves gained lt le
hold = (
  refl,
  (
    refl,
    (
      refl,
      (
        refl,
        (
          looked_up 14 0xFFE812 apart_14 (Two 110 111) (lit< tt, lit< tt) refl,
          (
            refl,
            (
              refl,
              (
                refl,
                (
                  refl,
                  (
                    refl,
                    (refl, (refl, (refl, (refl, (refl, (refl, (refl, (refl, tt)))))))),
                  ),
                ),
              ),
            ),
          ),
        ),
      ),
    ),
  ),
)
