-- `receiver::window::best_listed` meets its contract: the symbols are those of the window. Assumes nothing.
use mathlib.Core.Path.{refl}
use Rattle.kernels.proofs.Summing.{symbols_out}
use Rattle.receiver.proofs.window.best_listed.Goals as goal

pub find-requires : goal.find-requires
find-requires c = let w = c.args.scan.now in (symbols_out w.samples.now _ _ w.summed refl c.symbols_of_sums.ensures, c.requires.0, c.requires.1)
