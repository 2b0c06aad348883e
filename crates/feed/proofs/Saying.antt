-- What is said from a state on, step by step.
--     Tells, After     within so many steps, from a state, or from what becomes of one with a part: what f gives for how the input stops
--                      and for what is left of it
--     tells_part       a state that wants a part
-- Assumes nothing.
use mathlib.Core.Path.{◌≡◌, refl, ap}
use mathlib.Core.Bool.{Bool, true, false}
use mathlib.Core.List.{List, [], ◌∷◌, ◌++◌}
use Prim.Native.Nat.{ℕ, zero, suc, ◌≤◌, ◌<◌}
use native.Mathlib.Nat.{le_trans, le_of_suc-le-suc, not-suc-le-zero}
use native.Mathlib.Omega.{arith}
use borrow.Author.Tests.{leb-true, leb-false, ne_eqb, eq-eqb}
use lib.Dec.{eqb, leb}
use lib.ListN.{length, take, drop}
use lib.Seq.{length-take-le}
use Rattle.search.specs.declared.Settings.{Settings}
use Rattle.words.specs.Words.{little_endian}
use Rattle.refusals.specs.declared.Refusal.{Refusal}
use Rattle.refusals.specs.declared.Refusal.TheVariants.{Malformed}
use Rattle.refusals.specs.Refusals.{number}
use Rattle.feed.specs.declared.Field.{Field}
use Rattle.feed.specs.declared.Stage.TheVariants.{Number, Over}
use Rattle.feed.specs.declared.State.{State}
use Rattle.feed.specs.declared.Said.{Said}
use Rattle.feed.specs.declared.Said.TheVariants.{Refused}
use Rattle.feed.specs.declared.Fed.{Fed}
use Rattle.feed.specs.Parts.{Stop, end, failure, Line, refusal, next_bytes, next_number, need}
use Rattle.feed.specs.Machine.{wanted_of, blank_of, says, refuses_with, provided, sized, number_fed, fed_of, failed_of}
use Rattle.feed.specs.Run.{line_of, short_fed, read_fed, said_of}

pub record Tells (n : ℕ) (s : State) (f : Stop → List ℕ → List Line) : Type 0 where
  pub so : (steps : ℕ) (stop : Stop) (input : List ℕ) → n ≤ steps → said_of steps stop s input ≡ f stop input

pub record After (n : ℕ) (part : List ℕ) (fed : Fed) (f : Stop → List ℕ → List Line) : Type 0 where
  pub so : (steps : ℕ) (stop : Stop) (input : List ℕ) → n ≤ steps
      → line_of fed.said part ++ said_of steps stop fed.state input ≡ f stop input

-- more steps do no harm
pub longer : {n m : ℕ} {s : State} {f : Stop → List ℕ → List Line} → n ≤ m → Tells n s f → Tells m s f
longer h p = record { so = λ steps stop input l. p.so steps stop input (le_trans h l) }

-- where nothing is wanted nothing is said
pub said_over : (steps : ℕ) (stop : Stop) (s : State) (input : List ℕ) → wanted_of s ≡ 0 → said_of steps stop s input ≡ []
unfolding said_of
said_over zero stop s input e = refl
said_over (suc steps) stop s input e = simp (eq-eqb _ _ e)

pub tells_over : (n : ℕ) → Tells n (blank_of Over) (λ stop input. [])
unfolding wanted_of
tells_over n = record { so = λ steps stop input l. said_over steps stop (blank_of Over) input refl }

pub after_says : {n : ℕ} (said : Said) (part : List ℕ) {s : State} {f : Stop → List ℕ → List Line} → Tells n s f
    → After n part (says said s) (λ stop rest. line_of said part ++ f stop rest)
after_says said part p =
    record { so = λ steps stop input l. ap (λ (x : List Line). line_of said part ++ x) (p.so steps stop input l) }

pub after_refuses : (n : ℕ) (e : Refusal) (part : List ℕ) → After n part (refuses_with e) (λ stop rest. refusal (number e) ∷ [])
after_refuses n e part = after_says (Refused e) part (tells_over n)

-- a check, over what comes after it where it holds
pub after_provided : {n : ℕ} (t : Bool) (e : Refusal) {part : List ℕ} {fed : Fed} {f : Stop → List ℕ → List Line}
    → (t ≡ true → After n part fed f) → After n part (provided t e fed) (λ stop rest. need t (number e) (f stop rest))
unfolding provided need
after_provided true e a = a refl
after_provided {n} false e {part} a = after_refuses n e part

-- a state that wants w bytes, where g says what becomes of them
module _
    (n w : ℕ) (s : State) (g : List ℕ → Fed) (h : Stop → List ℕ → List ℕ → List Line)
    (wants : wanted_of s ≡ w) (some : 0 < w)
    (fed : (part : List ℕ) → fed_of s part ≡ sized w part (g part))
    (after : (part : List ℕ) → length part ≡ w → After n part (g part) (λ stop rest. h stop part rest))
  where
    wanted_some : eqb w 0 ≡ false
    wanted_some = ne_eqb w 0 (λ e. omega arith)

    whole : (steps : ℕ) (stop : Stop) (input : List ℕ) → n ≤ steps → w ≤ length input
        → line_of (fed_of s (take w input)).said (take w input) ++ said_of steps stop (fed_of s (take w input)).state (drop w input)
        ≡ h stop (take w input) (drop w input)
    unfolding sized provided
    whole steps stop input l enough =
        let e : length (take w input) ≡ w = length-take-le w input enough in
        rw (fed (take w input), eq-eqb _ _ e) ((after (take w input) e).so steps stop (drop w input) l)

    short : (stop : Stop) (input : List ℕ) → length input < w → short_fed stop s input ≡ refuses_with Malformed
    unfolding sized provided failed_of
    short end input less = rw (fed input, ne_eqb (length input) w (λ e. omega arith))
    short failure input less = rw (wants, wanted_some)

    step : (steps : ℕ) (stop : Stop) (input : List ℕ) (b : Bool) → leb w (length input) ≡ b → n ≤ steps
        → said_of (suc steps) stop s input ≡ next_bytes w input (h stop)
    unfolding said_of read_fed next_bytes
    step steps stop input true e l = simp (wants, wanted_some, e) (whole steps stop input l (leb-true _ _ e))
    step steps stop input false e l =
        simp (wants, wanted_some, e, short stop input (leb-false _ _ e))
        ((after_refuses n Malformed (take w input)).so steps stop (drop w input) l)

    all : (steps : ℕ) (stop : Stop) (input : List ℕ) → suc n ≤ steps → said_of steps stop s input ≡ next_bytes w input (h stop)
    all zero stop input l = absurd (not-suc-le-zero l)
    all (suc steps) stop input l = step steps stop input (leb w (length input)) refl (le_of_suc-le-suc l)

    pub tells_part : Tells (suc n) s (λ stop input. next_bytes w input (h stop))
    tells_part = record { so = all }

-- a state that wants a number of 32 bits
pub tells_number : (n : ℕ) (f : Field) (t : Settings) (w k : ℕ) (xs : List ℕ) (h : Stop → ℕ → List ℕ → List Line)
    → ((x : ℕ) (part : List ℕ)
    → After n part (number_fed f (record { stage = Number f; settings = t; windows = w; done = k; indices = xs }) t x)
    (λ stop rest. h stop x rest))
    → Tells (suc n)
    (record { stage = Number f; settings = t; windows = w; done = k; indices = xs })
    (λ stop input. next_number 4 input (h stop))
unfolding wanted_of fed_of next_number
tells_number n f t w k xs h after =
    tells_part n 4
    (record { stage = Number f; settings = t; windows = w; done = k; indices = xs })
    (λ part. number_fed f (record { stage = Number f; settings = t; windows = w; done = k; indices = xs }) t (little_endian part))
    (λ stop part rest. h stop (little_endian part) rest)
    refl (omega arith) (λ part. refl) (λ part e. after (little_endian part) part)
