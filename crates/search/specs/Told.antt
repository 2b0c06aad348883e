-- What a reading or a search answers, in the rules' words: a survivor.
-- Assumes nothing.
use Rattle.std.specs.Prelude.{Result, Ok, Err, Option, Some, None}
use Rattle.refusals.specs.declared.Refusal.{Refusal}
use Rattle.refusals.specs.Refusals.{number}
use Rattle.search.specs.declared.Candidate.{Candidate}
use Rattle.search.specs.declared.ShortCandidate.{ShortCandidate}
use Rattle.search.specs.Kinds.{long, short}
use Rattle.search.specs.Answers.{Survivor, no_candidate}
use Rattle.search.specs.Short.{ShortSurvivor, short_candidate}

-- number 0 with the reading; 1 where there is none, or the refusal's number, with zeros
abbrev pub survivor_told : Result (Option Candidate) Refusal → Survivor
survivor_told (Ok (Some c)) = record { number = 0; candidate = c }
survivor_told (Ok None) = record { number = 1; candidate = no_candidate long }
survivor_told (Err e) = record { number = number e; candidate = no_candidate long }

-- of short messages
abbrev pub short_survivor_told : Result (Option ShortCandidate) Refusal → ShortSurvivor
short_survivor_told (Ok (Some c)) = record { number = 0; candidate = c }
short_survivor_told (Ok None) = record { number = 1; candidate = short_candidate (no_candidate short) }
short_survivor_told (Err e) = record { number = number e; candidate = short_candidate (no_candidate short) }
