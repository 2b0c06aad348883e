-- The answers of the short search. An array's length makes a type of its own; what is answered is said by the definitions of both kinds.
-- Assumes nothing.
use Rattle.std.specs.Prelude.{ℕ}
use Rattle.search.specs.declared.Candidate.{Candidate}
use Rattle.search.specs.declared.Answer.{Answer}
use Rattle.search.specs.declared.ShortCandidate.{ShortCandidate}
use Rattle.search.specs.declared.ShortAnswer.{ShortAnswer}
use Rattle.search.specs.Answers.{Survivor}

-- the same fields
abbrev pub short_candidate : Candidate → ShortCandidate
short_candidate c =
    record {
      location = c.location;
      message = c.message;
      prompt = c.prompt;
      cn0 = c.cn0;
      undecided = c.undecided;
    }

pub record ShortSurvivor : Type 0 where
  pub number : ℕ
  pub candidate : ShortCandidate

abbrev pub short_survivor : Survivor → ShortSurvivor
short_survivor x = record { number = x.number; candidate = short_candidate x.candidate }

abbrev pub short_answer : Answer → ShortAnswer
short_answer a =
    record {
      number = a.number;
      location = a.location;
      message = a.message;
      cn0 = a.cn0;
      index = a.index;
      fraction = a.fraction;
      undecided = a.undecided;
    }

-- and back
abbrev pub of_short : ShortAnswer → Answer
of_short a =
    record {
      number = a.number;
      location = a.location;
      message = a.message;
      cn0 = a.cn0;
      index = a.index;
      fraction = a.fraction;
      undecided = a.undecided;
    }
