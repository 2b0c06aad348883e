-- What private functions compute: no public contract cites it.
-- Assumes nothing.
use Rattle.std.specs.Prelude.{cond, ℕ, ◌+◌, leb, set}
use mathlib.Core.List.{List, foldl}
use Rattle.search.specs.declared.Answer.{Answer}
use Rattle.listing.specs.declared.Text.{Text}
use Rattle.listing.specs.declared.Entry.{Entry}

-- one byte more; a full text stays as it is
unfoldable pub put_of : Text → ℕ → Text
put_of t b = cond (leb 256 t.length) t (record { length = t.length + 1; bytes = set t.bytes t.length b })

-- all of some bytes, one after the other
unfoldable pub puts : Text → List ℕ → Text
puts t bytes = foldl put_of t bytes

-- an entry as an answer
abbrev pub answer_of : Entry → Answer
answer_of e =
    record {
      number = e.number;
      location = e.location;
      message = e.message.now;
      cn0 = e.cn0;
      index = e.index;
      fraction = e.fraction;
      undecided = e.undecided;
    }
