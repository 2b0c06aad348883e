-- Steps of a place.
--     starting_is                    a place is the one that starts with its own sample
--     earlier_by_law, later_by_law           a neighbour, by the sample that it starts with
--     later_to, earlier_to           a step that is not refused
--     later_start, earlier_start     it starts one sample later, and one earlier
--     earlier_later, later_earlier   a step back undoes a step on, and the other way
--     listed_within, neighbours      a place that is searched stands within the window and can step twice either way
-- Assumes nothing.
use mathlib.Core.Path.{◌≡◌, refl, sym, ap, ◌∙◌}
use mathlib.Core.Bool.{Bool, true, false, cond}
use Prim.Native.Nat.{ℕ, ◌+◌, ◌-◌, ◌*◌, ◌/◌, ◌%◌, ◌<◌, ◌≤◌}
use native.Mathlib.Omega.{arith}
use lib.Dec.{ltb}
use borrow.Author.Tests.{lt-ltb, ltb-true}
use Rattle.lists.specs.Told.{done, refused}
use Rattle.lists.proofs.Telling.{same_values, not_done}
use Rattle.place.specs.declared.Place.{Place}
use Rattle.place.specs.Step.{sample_start, last_symbol, starting_at, starts_by, earlier_by, later_by, earlier_of, later_of}
use Rattle.place.specs.All.{listed}
use Rattle.place.proofs.Within.{Starts, starts_gives, starts_is, Within, listed_gives}

last_digit : (q b y : ℕ) → q ≡ 2 * b + y → y ≤ 1 → q % 2 ≡ y
last_digit q b y e h = omega arith

-- the place of a sample, by its three numbers
pub starting_is : (s : ℕ) {b k y : ℕ} → k ≤ 3 → y ≤ 1 → s ≡ 4 * (2 * b + y) + k → starting_at s ≡ record { bit = b; phase = k; symbol = y }
unfolding starting_at
starting_is s {b} {k} {y} hk hy e =
    let f : s / 8 ≡ b = omega arith in
    let g : s % 4 ≡ k = omega arith in
    let h : s / 4 % 2 ≡ y = last_digit (s / 4) b y (omega arith) hy in
    rw (f, g, h)

pub own_start : (p : Place) → p.phase ≤ 3 → p.symbol ≤ 1 → starting_at (sample_start p) ≡ p
own_start p hk hy = starting_is (sample_start p) hk hy refl

-- which samples a place starts with
pub start_of : (s : ℕ) → sample_start (starting_at s) ≡ s
unfolding starting_at
start_of s = omega arith

pub starting_within : (n s : ℕ) → s ≤ 4 * last_symbol n + 3 → Within n (starting_at s)
unfolding starting_at
starting_within n s h = record { phase = omega arith; symbol = omega arith; start = omega arith }

-- a neighbour, by the sample that it starts with
module _ (last : ℕ) (p q : Place) (w : Starts last p) (hk : q.phase ≤ 3) (hy : q.symbol ≤ 1) where
  pub earlier_by_law : sample_start q + 1 ≡ sample_start p → done q ≡ earlier_by last p
  earlier_by_law e =
      rw (starts_is last p w, lt-ltb 0 (sample_start p) (omega arith)) (ap done (sym (starting_is (sample_start p - 1) hk hy (omega arith))))

  pub later_by_law : sample_start p < 4 * last + 3 → sample_start q ≡ sample_start p + 1 → done q ≡ later_by last p
  later_by_law h e = rw (starts_is last p w, lt-ltb _ _ h) (ap done (sym (starting_is (sample_start p + 1) hk hy (sym e))))

-- a step that is not refused
module _ (n : ℕ) (p : Place) (w : Within n p) where
  pub earlier_to : 0 < sample_start p → earlier_of n p ≡ done (starting_at (sample_start p - 1))
  unfolding earlier_of
  earlier_to h = rw (starts_is (last_symbol n) p w, lt-ltb 0 (sample_start p) h)

  pub later_to : sample_start p < 4 * last_symbol n + 3 → later_of n p ≡ done (starting_at (sample_start p + 1))
  unfolding later_of
  later_to h = rw (starts_is (last_symbol n) p w, lt-ltb _ _ h)

-- what a step that was not refused says
pub record Stood (n : ℕ) (p q : Place) (s : ℕ) (P : Type 0) : Type 0 where
  pub within : Within n p
  pub room : P
  pub is : q ≡ starting_at s

pub later_stood : (n : ℕ) (p q : Place) → later_of n p ≡ done q → Stood n p q (sample_start p + 1) (sample_start p < 4 * last_symbol n + 3)
unfolding later_of
later_stood n p q = go (starts_by (last_symbol n) p) (ltb (sample_start p) (4 * last_symbol n + 3)) refl refl
  where
    go : (a b : Bool) → starts_by (last_symbol n) p ≡ a → ltb (sample_start p) (4 * last_symbol n + 3) ≡ b
        → cond a (cond b (done (starting_at (sample_start p + 1))) (refused 7)) (refused 7) ≡ done q
        → Stood n p q (sample_start p + 1) (sample_start p < 4 * last_symbol n + 3)
    go false b e f g = absurd (not_done g)
    go true false e f g = absurd (not_done g)
    go true true e f g = record { within = starts_gives (last_symbol n) p e; room = ltb-true _ _ f; is = sym (same_values g) }

pub earlier_stood : (n : ℕ) (p q : Place) → earlier_of n p ≡ done q → Stood n p q (sample_start p - 1) (0 < sample_start p)
unfolding earlier_of
earlier_stood n p q = go (starts_by (last_symbol n) p) (ltb 0 (sample_start p)) refl refl
  where
    go : (a b : Bool) → starts_by (last_symbol n) p ≡ a → ltb 0 (sample_start p) ≡ b
        → cond a (cond b (done (starting_at (sample_start p - 1))) (refused 7)) (refused 7) ≡ done q
        → Stood n p q (sample_start p - 1) (0 < sample_start p)
    go false b e f g = absurd (not_done g)
    go true false e f g = absurd (not_done g)
    go true true e f g = record { within = starts_gives (last_symbol n) p e; room = ltb-true _ _ f; is = sym (same_values g) }

pub later_start : (n : ℕ) (p q : Place) → later_of n p ≡ done q → sample_start q ≡ sample_start p + 1
later_start n p q e = let s = later_stood n p q e in ap sample_start s.is ∙ start_of (sample_start p + 1)

pub earlier_start : (n : ℕ) (p q : Place) → earlier_of n p ≡ done q → sample_start q + 1 ≡ sample_start p
earlier_start n p q e =
    let s = earlier_stood n p q e in
    let h : sample_start q ≡ sample_start p - 1 = ap sample_start s.is ∙ start_of (sample_start p - 1) in
    let r : 0 < sample_start p = s.room in
    omega arith

pub earlier_later : (n : ℕ) (p q : Place) → later_of n p ≡ done q → earlier_of n q ≡ done p
earlier_later n p q e =
    let s = later_stood n p q e in
    let h = later_start n p q e in
    let w : Within n q = rw s.is (starting_within n (sample_start p + 1) (omega (arith, s.room))) in
    let b : sample_start q - 1 ≡ sample_start p = omega arith in
    earlier_to n q w (omega arith) ∙ ap (λ (k : ℕ). done (starting_at k)) b ∙ ap done (own_start p s.within.phase s.within.symbol)

pub later_earlier : (n : ℕ) (p q : Place) → earlier_of n p ≡ done q → later_of n q ≡ done p
later_earlier n p q e =
    let s = earlier_stood n p q e in
    let h = earlier_start n p q e in
    let v = s.within in
    let w : Within n q = rw s.is (starting_within n (sample_start p - 1) (omega arith)) in
    later_to n q w (omega arith) ∙ ap (λ (k : ℕ). done (starting_at k)) h ∙ ap done (own_start p v.phase v.symbol)

-- ---- the places that are searched: bit offsets 1 to 143 - 8 * n
module _ (n : ℕ) (p : Place) (few : n ≤ 17) (h : listed (143 - 8 * n) p ≡ true) where
  pub listed_within : Within n p
  listed_within =
      let l = listed_gives (143 - 8 * n) p h in
      record { phase = l.phase; symbol = l.symbol; start = omega arith }

  -- they can step twice either way
  pub listed_room : (2 ≤ sample_start p) × (sample_start p + 2 ≤ 4 * last_symbol n + 3)
  listed_room =
      let l = listed_gives (143 - 8 * n) p h in
      (omega arith, omega arith)

  -- the places that timing looks at: one and two clock phases either way
  pub record Neighbours : Type 0 where
    pub back : earlier_of n p ≡ done (starting_at (sample_start p - 1))
    pub back_twice : earlier_of n (starting_at (sample_start p - 1)) ≡ done (starting_at (sample_start p - 2))
    pub on : later_of n p ≡ done (starting_at (sample_start p + 1))
    pub on_twice : later_of n (starting_at (sample_start p + 1)) ≡ done (starting_at (sample_start p + 2))

  pub neighbours : Neighbours
  neighbours =
      let r = listed_room in
      let s = sample_start p in
      let b : sample_start (starting_at (s - 1)) ≡ s - 1 = start_of (s - 1) in
      let f : sample_start (starting_at (s + 1)) ≡ s + 1 = start_of (s + 1) in
      record {
        back = earlier_to n p listed_within (omega arith);
        back_twice =
            earlier_to n (starting_at (s - 1)) (starting_within n (s - 1) (omega arith)) (omega arith)
            ∙ ap (λ (k : ℕ). done (starting_at k)) (less_two s (sample_start (starting_at (s - 1))) b);
        on = later_to n p listed_within (omega arith);
        on_twice =
            later_to n (starting_at (s + 1)) (starting_within n (s + 1) (omega arith)) (omega arith)
            ∙ ap (λ (k : ℕ). done (starting_at k)) (more_two s (sample_start (starting_at (s + 1))) f);
      }
    where
      less_two : (s t : ℕ) → t ≡ s - 1 → t - 1 ≡ s - 2
      less_two s t e = omega arith

      more_two : (s t : ℕ) → t ≡ s + 1 → t + 1 ≡ s + 2
      more_two s t e = omega arith
