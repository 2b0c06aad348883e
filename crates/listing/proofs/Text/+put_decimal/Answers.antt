-- `listing::Text::put_decimal`, which calls itself, meets its contract. The measure is the number.
-- Assumes nothing.
use Rattle.listing.proofs.Digits.{put_small, put_more}
use Rattle.listing.proofs.Text.+put_decimal.Goals as goal
use Rattle.listing.proofs.Text.+put_decimal.Goals.{then-n-ge10, else-n-ge10}

pub returns : goal.returns
returns t c = elim c.if-n-ge10.branch [
  | then-n-ge10 w ↦ cc (put_more c.args.self.now c.args.n w.if-n-ge10.true c.ranges.n.fits)
  | else-n-ge10 w ↦ cc (put_small c.args.self.now c.args.n w.if-n-ge10.false)
]
