-- What the program prints is the listing of its input.
-- Assumes nothing.
use mathlib.Core.Path.{◌≡◌, refl, sym, ap, ◌∙◌}
use mathlib.Core.Bool.{Bool, true, false, cond}
use mathlib.Core.List.{List, [], ◌∷◌, ◌++◌, append_assoc}
use Prim.Native.Nat.{ℕ, zero, suc, ◌-◌, ◌<◌}
use native.Mathlib.Omega.{arith}
use borrow.Author.Tests.{leb-false}
use lib.Dec.{eqb, leb}
use lib.ListN.{length, take, drop, replicate}
use lib.Seq.{take_all, take-append_seam}
use Rattle.refusals.specs.declared.Refusal.TheVariants.{Malformed}
use Rattle.listing.specs.Lines.{text_of}
use Rattle.feed.specs.declared.State.{State}
use Rattle.feed.specs.declared.Fed.{Fed}
use Rattle.feed.specs.declared.Said.TheVariants.{Nothing}
use Rattle.feed.specs.Parts.{Stop, end, failure, Line}
use Rattle.feed.specs.Listing.{line_text, texts}
use Rattle.feed.specs.Machine.{start_of, wanted_of, says, refuses_with, fed_of, failed_of}
use Rattle.feed.specs.Run.{line_of, short_fed, read_fed, said_of}
use Rattle.feed.proofs.Stated.{feeds}
use Rattle.program.specs.declared.handed.Step.{Step}
use Rattle.program.specs.Printed.{taken_of, broken_off, shown, short_step, read_step, printed, printed_with, Prints}

-- the text of a line shows the line
shown_text : (bytes : List ℕ) → shown (text_of bytes) ≡ bytes
unfolding shown text_of
shown_text bytes = take-append_seam bytes (replicate (256 - length bytes) 0)

texts_append : (a b : List Line) → texts (a ++ b) ≡ texts a ++ texts b
unfolding texts
texts_append [] b = refl
texts_append (l ∷ ls) b =
    ap (λ (x : List ℕ). line_text l ++ x) (texts_append ls b) ∙ sym (append_assoc (line_text l) (texts ls) (texts b))

-- what could not be read is no window's samples
failed_line : (s : State) (a b : List ℕ) → line_of (failed_of s).said a ≡ line_of (failed_of s).said b
unfolding failed_of
failed_line s a b = go (eqb (wanted_of s) 0) where
  go : (t : Bool) → line_of (cond t (says Nothing s) (refuses_with Malformed)).said a ≡ line_of (cond t (says Nothing s) (refuses_with Malformed)).said b
  go true = refl
  go false = refl

-- a step prints what is said at it
read_step_law : (stop : Stop) (s : State) (input : List ℕ)
    → read_step stop s input ≡ printed_with (read_fed stop s input) (take (wanted_of s) input)
unfolding read_step read_fed taken_of broken_off
read_step_law stop s input = go (leb (wanted_of s) (length input)) refl where
  short : (st : Stop) → length input < wanted_of s → short_step st s input ≡ printed_with (short_fed st s input) (take (wanted_of s) input)
  short end less = ap (printed_with (fed_of s input)) (sym (take_all (wanted_of s) input (omega arith)))
  short failure less =
      ap (λ (x : List Line). record { state = (failed_of s).state; text = text_of (texts x) }) (failed_line s [] (take (wanted_of s) input))

  go : (b : Bool) → leb (wanted_of s) (length input) ≡ b
      → cond b (taken_of s (take (wanted_of s) input)) (short_step stop s input)
      ≡ printed_with (cond b (fed_of s (take (wanted_of s) input)) (short_fed stop s input)) (take (wanted_of s) input)
  go true e = refl
  go false e = short stop (leb-false _ _ e)

-- one step more
one_more : (steps : ℕ) (stop : Stop) (s : State) (input : List ℕ)
    → ((t : State) (rest : List ℕ) → printed steps stop t rest ≡ texts (said_of steps stop t rest))
    → printed (suc steps) stop s input ≡ texts (said_of (suc steps) stop s input)
unfolding printed said_of texts
one_more steps stop s input same = go (eqb (wanted_of s) 0) where
  rest : List ℕ
  rest = drop (wanted_of s) input

  fed : Fed
  fed = read_fed stop s input

  lines : List Line
  lines = line_of fed.said (take (wanted_of s) input)

  more : shown (read_step stop s input).text ++ printed steps stop (read_step stop s input).state rest
      ≡ texts (lines ++ said_of steps stop fed.state rest)
  more =
      ap (λ (x : Step). shown x.text ++ printed steps stop x.state rest) (read_step_law stop s input)
      ∙ (ap (λ (x : List ℕ). x ++ printed steps stop fed.state rest) (shown_text (texts lines))
      ∙ (ap (λ (x : List ℕ). texts lines ++ x) (same fed.state rest)
      ∙ sym (texts_append lines (said_of steps stop fed.state rest))))

  go : (b : Bool)
      → cond b [] (shown (read_step stop s input).text ++ printed steps stop (read_step stop s input).state rest)
      ≡ texts (cond b [] (lines ++ said_of steps stop fed.state rest))
  go true = refl
  go false = more

prints_said : (steps : ℕ) (stop : Stop) (s : State) (input : List ℕ) → printed steps stop s input ≡ texts (said_of steps stop s input)
unfolding printed said_of texts
prints_said zero stop s input = refl
prints_said (suc steps) stop s input = one_more steps stop s input (prints_said steps stop)

pub prints : Prints
prints =
    record {
      listing = λ steps input l. prints_said steps end start_of input ∙ feeds.prints steps input l;
      broken = λ steps input l. prints_said steps failure start_of input ∙ ap texts (feeds.lines steps failure input l);
    }
