-- What is stated of a program that reads, hands over and says what is to be said holds.
-- Assumes nothing.
use mathlib.Core.Path.{refl, ap}
use lib.ListN.{replicate}
use Rattle.feed.specs.Parts.{end}
use Rattle.feed.specs.Listing.{texts, listing_of}
use Rattle.feed.specs.Machine.{start_of}
use Rattle.feed.specs.Statement.{Feeds}
use Rattle.feed.proofs.Numbers.{tells_all}
use Rattle.feed.proofs.Broken.{broken}
use Rattle.feed.proofs.Answered.{answered}
use Rattle.feed.proofs.Left.{nearer, nearer_failed, failed_is, over}

pub feeds : Feeds
unfolding start_of listing_of
feeds =
    record {
      lines = (tells_all (replicate 64 0) refl _).so;
      prints = λ steps input l. ap texts ((tells_all (replicate 64 0) refl _).so steps end input l);
      broken = broken;
      answered = answered;
      nearer = nearer;
      nearer_failed = nearer_failed;
      fails = failed_is;
      over = over;
    }
