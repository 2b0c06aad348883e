-- The surviving reading of a place, step by step as the code finds it.
--     candidate_is              a reading with its message, power and cn0
--     few_kept, coherent_kept   what is not dropped whatever the distance: fewer than two repairs; or dropped all the same
--     survived                  what survives of a trial that passed
--     filter_is                 the filter, for settings that are taken
--     level_low, most_level     their level is at most 2, and that of a kind at most its most
--     reading_at_law, reading_taken, reading_few    what a reading is
--     read_pass, read_fail      what survives of the trials
-- Assumes nothing.
use Rattle.std.specs.Prelude as code
use mathlib.Core.Path.{◌≡◌, refl, ap, ◌∙◌}
use mathlib.Core.Bool.{Bool, true, false, ◌&&◌, cond}
use mathlib.Core.List.{List}
use mathlib.Core.Logic.{◌≢◌}
use mathlib.Core.Option.{none, some}
use Prim.Native.Nat.{ℕ, ◌≤◌, min}
use native.Mathlib.Omega.{arith}
use native.Mathlib.Nat.{min-le_left, min_comm}
use native.Mathlib.Decide.{ℕ_discrete}
use borrow.Author.Tests.{leb-true, eq-eqb, ne_eqb}
use lib.Dec.{leb, eqb}
use lib.Ieee.{Float}
use lib.Ieee.Scale.{finite}
use Rattle.lists.specs.Told.{done}
use Rattle.annex10.specs.Repair.{count, repaired}
use Rattle.place.specs.declared.Place.{Place}
use Rattle.place.specs.declared.Slicer.{Slicer}
use Rattle.place.specs.declared.Slicer.TheVariants.{Coherent, Noncoherent}
use Rattle.place.specs.declared.location.Location.{Location}
use Rattle.place.specs.Step.{within}
use Rattle.place.specs.Agrees.{location_number}
use Rattle.place.proofs.Within.{within_gives}
use Rattle.parts.specs.Part.{symbols_at, samples_at, chosen}
use Rattle.powers.specs.Powers.{power_of, noise_of}
use Rattle.streams.specs.Streams.{message_at}
use Rattle.streams.specs.Distances.{differing}
use Rattle.cn0.specs.Estimate.{cn0_of}
use Rattle.search.specs.declared.Settings.{Settings}
use Rattle.search.specs.declared.Tried.{Tried}
use Rattle.search.specs.declared.Tried.TheVariants as T
use Rattle.search.specs.declared.Candidate.{Candidate}
use Rattle.search.specs.Trials.{reading}
use Rattle.search.specs.Window.{Window}
use Rattle.search.specs.Choice.{candidate, dropped, survivor, candidate_at}
use Rattle.search.specs.Kinds.{Kind}
use Rattle.search.specs.Answers.{settings_number}
use Rattle.search.proofs.Passing.{sound}
use Rattle.search.proofs.Locating.{sited_taken, read_sited}
use Rattle.choice.specs.Filtered.{filtered_of}
use Rattle.receiver.specs.Inner.{padded, wide, held_of, seen_at}
use Rattle.receiver.proofs.EitherKind.{Right}

-- ---- the settings

pub level_low : (s : Settings) → settings_number s ≡ 0 → s.level ≤ 2
unfolding settings_number
level_low s = go (leb s.level 2) (finite s.threshold && finite s.second) refl
  where
    go : (t u : Bool) → leb s.level 2 ≡ t → ◌≡◌ {A = ℕ} (cond t (cond u 0 5) 4) 0 → s.level ≤ 2
    go true u e z = leb-true _ _ e
    go false u e z = absurd (omega arith)

-- the most repairs of a kind are never passed
pub most_level : (level most : ℕ) → min level most ≤ most
most_level level most = omega (arith, min-le_left most level, min_comm level most)

-- ---- the filter

pub filter_is : (s : Settings) (n : ℕ) (c : Candidate) → settings_number s ≡ 0 → location_number 14 c.location ≡ 0 → filtered_of s n c ≡ done (dropped s n c)
unfolding filtered_of
filter_is s n c z y = rw (z, y)

few_kept : (s : Settings) (m n : ℕ) (c : Candidate) → count c.location.repairs ≢ 2 → dropped s m c ≡ dropped s n c
unfolding dropped
few_kept s m n c h = rw (ne_eqb (count c.location.repairs) 2 h)

-- nor does the distance matter to a coherent reading
coherent_kept : (s : Settings) (m n : ℕ) (c : Candidate) → c.location.slicer ≡ Coherent → dropped s m c ≡ dropped s n c
unfolding dropped
coherent_kept s m n c e = rw e

-- the stream that is named is there, whatever stands in for the other
still_named : (slicer : Slicer) (two : Bool) (a b : List ℕ) → chosen slicer (cond two (chosen slicer (chosen slicer a b) a) (chosen slicer a b)) (chosen slicer a b) ≡ chosen slicer a b
still_named Coherent true a b = refl
still_named Coherent false a b = refl
still_named Noncoherent two a b = refl

-- the room of a message plays no part
wide_kept : (k : Kind) (b : Bool) (c : Candidate) → cond b code.None (code.Some (wide k c)) ≡ held_of k (cond b none (some c))
wide_kept k true c = refl
wide_kept k false c = refl

wide_dropped : (k : Kind) (s : Settings) (n : ℕ) (c : Candidate) → dropped s n (wide k c) ≡ dropped s n c
unfolding dropped
wide_dropped k s n c = refl

module _ (k : Kind) (w : Right k) (samples row : List Float) (coherent noncoherent : List ℕ) where
  abbrev n : ℕ
  n = k.bytes

  abbrev there : Window
  there = seen_at k samples row coherent noncoherent

  -- ---- the candidate
  pub candidate_is : (l : Location) {message bytes : List ℕ} {prompt noise x : Float}
      → bytes ≡ repaired (message_at (chosen l.slicer coherent noncoherent) n l.place.bit) l.repairs → message ≡ padded k bytes
      → prompt ≡ power_of n (symbols_at n row l.place) bytes → noise ≡ noise_of n (samples_at n samples l.place) bytes → x ≡ cn0_of prompt noise
      → record { location = l; message = message; prompt = prompt; cn0 = x; undecided = 0 } ≡ wide k (candidate there l)
  unfolding candidate seen_at
  candidate_is l eb em ep en ex = rw (ex, ep, en, em, eb)

  -- ---- a stream that nobody looks at plays no part

  -- the named slicer's
  abbrev named : Location → List ℕ
  named l = chosen l.slicer coherent noncoherent

  -- the other: the coherent one where two positions are repaired in noncoherent bits, else the named one again
  abbrev compared : Location → List ℕ
  compared l = cond (eqb (count l.repairs) 2) (chosen l.slicer (named l) coherent) (named l)

  named_candidate : (l : Location) → candidate (seen_at k samples row (compared l) (named l)) l ≡ candidate there l
  unfolding candidate seen_at
  named_candidate l = rw (still_named l.slicer (eqb (count l.repairs) 2) coherent noncoherent)

  -- in how many bits of a long message two streams differ
  abbrev apart : List ℕ → List ℕ → Location → ℕ
  apart a b l = differing (message_at a 14 l.place.bit) (message_at b 14 l.place.bit) 112

  named_dropped : (s : Settings) (l : Location) (a : Candidate) → a.location ≡ l → count l.repairs ≡ 2
      → dropped s (apart (compared l) (named l) l) a ≡ dropped s (apart coherent noncoherent l) a
  named_dropped s l a e h = rw (eq-eqb (count l.repairs) 2 h) (go l.slicer (ap (λ (x : Location). x.slicer) e))
    where
      go : (slicer : Slicer) → a.location.slicer ≡ slicer
          → dropped s (apart (chosen slicer (chosen slicer coherent noncoherent) coherent) (chosen slicer coherent noncoherent) l) a ≡ dropped s (apart coherent noncoherent l) a
      go Coherent q = coherent_kept s (apart coherent coherent l) (apart coherent noncoherent l) a q
      go Noncoherent q = refl

  -- ---- what survives of a trial that passed
  pub survived : (s : Settings) (l : Location) {a : Candidate} {x : code.Option Candidate} → (count l.repairs ≡ 2 → apart coherent noncoherent l ≡ there.distance l.place)
      → a ≡ wide k (candidate (seen_at k samples row (compared l) (named l)) l)
      → x ≡ cond (dropped s (apart (compared l) (named l) a.location) a) code.None (code.Some a) → x ≡ held_of k (survivor s there (T.Pass l))
  unfolding survivor candidate
  survived s l {a} d ea ex =
      let e : a ≡ wide k (candidate there l) = ea ∙ ap (wide k) (named_candidate l) in
      let same : a.location ≡ l = ap (λ (c : Candidate). c.location) ea in
      ex ∙ ap (λ (y : Location). cond (dropped s (apart (compared l) (named l) y) a) code.None (code.Some a)) same
      ∙ rw (e, there_dropped) (wide_kept k (dropped s (there.distance l.place) (candidate there l)) (candidate there l))
    where
      there_dropped : dropped s (apart (compared l) (named l) l) (wide k (candidate there l)) ≡ dropped s (there.distance l.place) (candidate there l)
      there_dropped = elim (ℕ_discrete (count l.repairs) 2) [
        | yes h ↦ named_dropped s l (wide k (candidate there l)) refl h ∙ ap (λ (i : ℕ). dropped s i (wide k (candidate there l))) (d h) ∙ wide_dropped k s (there.distance l.place) (candidate there l)
        | no h ↦ wide_dropped k s (apart (compared l) (named l) l) (candidate there l) ∙ few_kept s (apart (compared l) (named l) l) (there.distance l.place) (candidate there l) h
      ]

  module _ (p : Place) where
    -- ---- the trials

    abbrev read : ℕ → Tried
    read level = reading k level p (message_at coherent n p.bit) (message_at noncoherent n p.bit)

    -- a reading lies at its place, is taken, and repairs no more than the level allows
    pub reading_at_law : (level : ℕ) {l : Location} → read level ≡ T.Pass l → l.place ≡ p
    reading_at_law level {l} e = ((sound k level p _ _).so l e).place

    pub reading_taken : (level : ℕ) {l : Location} → level ≤ k.most → within n p ≡ true → read level ≡ T.Pass l → location_number n l ≡ 0
    reading_taken level {l} h v e = sited_taken k p l ((read_sited k w.makes level p _ _ h).so l e) (within_gives n p v)

    pub reading_few : (level : ℕ) {l : Location} → read level ≡ T.Pass l → count l.repairs ≤ level
    reading_few level {l} e = ((sound k level p _ _).so l e).within

    -- ---- what survives

    module _ (s : Settings) where
      abbrev level : ℕ
      level = min s.level k.most

      pub read_pass : {l : Location} {x : code.Option Candidate} → read level ≡ T.Pass l → x ≡ held_of k (survivor s there (T.Pass l)) → x ≡ held_of k (candidate_at k s there p)
      unfolding candidate_at seen_at
      read_pass e ex = rw e ex

      pub read_fail : read level ≡ T.Fail → code.None ≡ held_of k (candidate_at k s there p)
      unfolding candidate_at survivor seen_at
      read_fail e = rw e
