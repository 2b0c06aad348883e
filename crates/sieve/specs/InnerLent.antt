-- What private functions rest on: no public contract cites it.
-- The remainders as they are asked for, by what is lent.
-- Assumes nothing.
use Rattle.std.specs.Prelude.{ℕ, List, Option, Some, None}
use Rattle.sieve.specs.declared.loan.Lent.{Lent}
use Rattle.sieve.specs.Hash.{asked_in}

abbrev pub asked_by : Option Lent → ℕ → List ℕ → List ℕ
asked_by (Some l) level crcs = asked_in level l.displacements.now l.owners.now crcs
asked_by None level crcs = crcs
