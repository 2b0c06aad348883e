-- The places that timing looks at, and that what it looks at is the window.
--     room            a place that is searched has two places either way
--     listed_most     its bit offset is at most 87
--     back, on        a step back and a step on
--     around_is       the powers around a location
--     timed_by_law        they say its timing
--     earlier_is, later_is, at_done    what a step answers
--     back_taken, on_taken             a neighbour is taken where the location is
-- Assumes nothing.
use mathlib.Core.Path.{◌≡◌, refl, sym, ap, ◌∙◌}
use mathlib.Core.Bool.{Bool, true, false, cond}
use mathlib.Core.List.{List}
use Prim.Native.Nat.{ℕ, ◌+◌, ◌-◌, ◌*◌, ◌<◌, ◌≤◌}
use native.Mathlib.Omega.{arith}
use borrow.Author.Tests.{lt-ltb}
use lib.ListN.{length}
use lib.Ieee.{Float, lt}
use Rattle.lists.specs.Told.{Told, done}
use Rattle.place.specs.declared.Place.{Place}
use Rattle.place.specs.declared.location.Location.{Location}
use Rattle.place.specs.Step.{sample_start, starting_at, last_symbol}
use Rattle.place.specs.Agrees.{location_number, earlier_location, later_location}
use Rattle.place.specs.All.{listed, place_at, listed_at}
use Rattle.place.proofs.Within.{listed_gives, listed_is}
use Rattle.place.proofs.Steps.{own_start, start_of, listed_room}
use Rattle.place.proofs.Agreeing.{located_gives, earlier_carried, later_carried, earlier_kept, later_kept}
use Rattle.math.specs.Parabola.{parabola}
use Rattle.timing.specs.declared.Timing.{Timing}
use Rattle.timing.specs.Subsample.{fraction_of, timing_of}
use Rattle.timing.specs.declared.Offset.{Offset}
use Rattle.timing.specs.declared.Offset.TheVariants.{Same, Earlier, Later}
use Rattle.search.specs.declared.Prompt.{Prompt}
use Rattle.search.specs.When.{started_at, look_at, over, prompt_of, about, timing_at}
use Rattle.search.specs.Kinds.{Kind}
use Rattle.search.specs.Seen.{seen, window_of, prompt_at, row}
use Rattle.kernels.specs.Symbols.{symbols_of}
use Rattle.powers.specs.declared.around.Around.{Around}
use Rattle.powers.specs.Around.{around_at}
use Rattle.receiver.specs.Inner.{power_in, around_in, timed_by, seen_in}
use Rattle.receiver.proofs.EitherKind.{Right}
use Rattle.receiver.proofs.Looking.{part_in, around_in_law}

-- the prompt is one of three: what is made of it is made of the place, of the earlier neighbour or of the later one
module _ (own early late : Prompt) (f : Prompt → Timing) where
  either : (t : Bool) (a b : Prompt) → f (cond t a b) ≡ cond t (f a) (f b)
  either true a b = refl
  either false a b = refl

  one_of : f (over (over own early) late)
      ≡ cond (lt own.power early.power) (cond (lt early.power late.power) (f late) (f early)) (cond (lt own.power late.power) (f late) (f own))
  unfolding over
  one_of = go (lt own.power early.power)
    where
      go : (t : Bool) → f (cond (lt (cond t early own).power late.power) late (cond t early own))
          ≡ cond t (cond (lt early.power late.power) (f late) (f early)) (cond (lt own.power late.power) (f late) (f own))
      go true = either (lt early.power late.power) late early
      go false = either (lt own.power late.power) late own

pub on : (p : Place) {q : Place} → q ≡ starting_at (sample_start p + 1) → sample_start q ≡ sample_start p + 1
on p e = ap sample_start e ∙ start_of (sample_start p + 1)

pub back : (p : Place) {q : Place} → q ≡ starting_at (sample_start p - 1) → sample_start q ≡ sample_start p - 1
back p e = ap sample_start e ∙ start_of (sample_start p - 1)

-- a place by its number
pub at_done : (m k : ℕ) → k < 8 * m → listed_at m k ≡ done (place_at k)
unfolding listed_at
at_done m k h = rw (lt-ltb k (8 * m) h)

module _ (k : Kind) (w : Right k) where
  abbrev n : ℕ
  n = k.bytes

  -- the last sample that a place within the window starts with
  abbrev pub last_start : ℕ
  last_start = 4 * last_symbol n + 3

  pub record Room (p : Place) : Type 0 where
    pub low : 2 ≤ sample_start p
    pub high : sample_start p + 2 ≤ last_start

  pub room : (p : Place) → listed k.last p ≡ true → Room p
  room p h =
      let e : k.last ≡ 143 - 8 * n = omega (arith, w.last) in
      let r = listed_room n p (omega (arith, w.high)) (rw (← e) h) in
      record { low = r.0; high = r.1 }

  -- one of the places of either kind
  pub listed_most : (p : Place) → listed k.last p ≡ true → listed 87 p ≡ true
  listed_most p h =
      let l = listed_gives k.last p h in
      listed_is 87 p (record { from = l.from; to = omega (arith, l.to, w.last, w.low); phase = l.phase; symbol = l.symbol })

  -- ---- a step

  module _ (l : Location) (t : location_number n l ≡ 0) where
    pub earlier_is : 0 < sample_start l.place → earlier_location n l ≡ done (started_at l (sample_start l.place - 1))
    earlier_is h = earlier_carried n l (located_gives n l t) h

    pub later_is : sample_start l.place < last_start → later_location n l ≡ done (started_at l (sample_start l.place + 1))
    later_is h = later_carried n l (located_gives n l t) h

  pub back_taken : (l : Location) → location_number n l ≡ 0 → 0 < sample_start l.place → location_number n (started_at l (sample_start l.place - 1)) ≡ 0
  back_taken l t h = (earlier_kept n l (started_at l (sample_start l.place - 1)) (earlier_carried n l (located_gives n l t) h)).taken

  pub on_taken : (l : Location) → location_number n l ≡ 0 → sample_start l.place < last_start → location_number n (started_at l (sample_start l.place + 1)) ≡ 0
  on_taken l t h = (later_kept n l (started_at l (sample_start l.place + 1)) (later_carried n l (located_gives n l t) h)).taken

  -- ---- the powers around a place say its timing

  module _ (symbols : List Float) (message : List ℕ) where
    abbrev timed : Prompt → Timing
    timed p = timing_of (fraction_of (about (seen_in k symbols) message p) p.offset)

    abbrev power : ℕ → Float
    power s = power_in k symbols (starting_at s) message

    -- at the location itself, and at a neighbour
    looked_at : (l : Location) (offset : Offset) → timed (look_at (seen_in k symbols) message l offset)
        ≡ timing_of (fraction_of (parabola (power (sample_start l.place - 1)) (power_in k symbols l.place message) (power (sample_start l.place + 1))) offset)
    unfolding about look_at seen_in
    looked_at l offset = refl

    looked_from : (l : Location) (s : ℕ) (offset : Offset) → timed (look_at (seen_in k symbols) message (started_at l s) offset)
        ≡ timing_of (fraction_of (parabola (power (s - 1)) (power s) (power (s + 1))) offset)
    unfolding about look_at seen_in
    looked_from l s offset = rw (start_of s)

    pub timed_by_law : (l : Location) {x : Float} → listed k.last l.place ≡ true → x ≡ power_in k symbols l.place message
        → timed_by x (around_in k symbols message (sample_start l.place)) ≡ timing_at (seen_in k symbols) message l
    unfolding timed_by around_in timing_at prompt_of look_at seen_in
    timed_by_law l h e =
        let p = l.place in
        let s = sample_start p in
        let r = room p h in
        let g = listed_gives k.last p h in
        let own : power_in k symbols p message ≡ power s = ap (λ (q : Place). power_in k symbols q message) (sym (own_start p g.phase g.symbol)) in
        let a : s - 1 - 1 ≡ s - 2 = omega arith in
        let b : s - 1 + 1 ≡ s = omega (arith, r.low) in
        let c : s + 1 - 1 ≡ s = omega arith in
        let d : s + 1 + 1 ≡ s + 2 = omega arith in
        rw (e, one_of (look_at (seen_in k symbols) message l Same) (look_at (seen_in k symbols) message (started_at l (s - 1)) Earlier) (look_at (seen_in k symbols) message (started_at l (s + 1)) Later) timed, looked_at l Same, looked_from l (s - 1) Earlier, looked_from l (s + 1) Later, own, a, b, c, d)

  -- what the calls of `around` made
  module _ (symbols : List Float) (message : List ℕ) (l : Location) where
    abbrev Back : Location → Location → Type 0
    Back m q = (q ≡ started_at m (sample_start m.place - 1)) × (location_number n q ≡ 0)

    abbrev On : Location → Location → Type 0
    On m q = (q ≡ started_at m (sample_start m.place + 1)) × (location_number n q ≡ 0)

    pub around_is : {q r u v : Location} {a b c d : List Float} {x : Told Around} → length symbols ≡ 2304
        → listed k.last l.place ≡ true → length message ≡ n → Back l q → On l r → Back q u → On r v
        → a ≡ part_in k w symbols u.place → b ≡ part_in k w symbols q.place → c ≡ part_in k w symbols r.place → d ≡ part_in k w symbols v.place
        → x ≡ around_at a b c d message → x ≡ done (around_in k symbols message (sample_start l.place))
    unfolding around_in
    around_is {q} {r} {u} {v} z h m eq er eu ev ea eb ec ed ex =
        let at : Location → Place = λ y. y.place in
        let s = sample_start l.place in
        let i : sample_start q.place - 1 ≡ s - 2 = omega (arith, back l.place (ap at eq.0)) in
        let j : sample_start r.place + 1 ≡ s + 2 = omega (arith, on l.place (ap at er.0)) in
        around_in_law k w symbols message u q r v z eu.1 eq.1 er.1 ev.1 m ea eb ec ed ex
        ∙ rw (ap at eu.0, ap at ev.0, i, j, ap at eq.0, ap at er.0)

-- the window's own timing
pub timing_seen : (k : Kind) (samples : List Float) (message : List ℕ) (l : Location) → timing_at (seen_in k (symbols_of samples)) message l ≡ timing_at (seen k samples) message l
unfolding timing_at prompt_of about look_at seen_in window_of prompt_at power_in row
timing_seen k samples message l = refl
