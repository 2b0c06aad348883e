-- A list of places in the front of lent memory, and what is found over it.
--     front_of       the list of the numbers that a test takes
--     chosen_better  the choice between what is held and what is found is that of the search
--     found_none, found_more   a search over a list, place by place
--     searched       the search over it, where the places that are left out hold nothing
--     exact_finds    what clears a remainder without repairs
-- Assumes nothing.
use Rattle.std.specs.Prelude as code
use mathlib.Core.Path.{◌≡◌, refl, sym, ap, ◌∙◌, subst}
use mathlib.Core.Bool.{Bool, true, false, cond}
use mathlib.Core.List.{List}
use mathlib.Core.Option.{Option, none, some}
use Prim.Native.Nat.{ℕ, zero, suc, ◌+◌, ◌-◌, ◌*◌, ◌<◌, ◌≤◌}
use native.Mathlib.Numerals.{add-one}
use native.Mathlib.Omega.{arith}
use borrow.Author.Tests.{eq-eqb, ne_eqb, eqb-true, eqb-false, lt-ltb}
use lib.Dec.{eqb}
use lib.ListN.{length, get_or, take, drop, length-append, length-drop, get_or-append}
use lib.Seq.{take_at, take-suc}
use Rattle.lists.specs.From.{tabulate}
use Rattle.annex10.specs.Any.{only}
use Rattle.annex10.specs.Repair.{pattern, choose, clearing, fitting}
use Rattle.annex10.specs.declared.Repairs.TheVariants.{None}
use Rattle.annex10.proofs.Repairing.{pattern_none}
use Rattle.place.specs.declared.Place.{Place}
use Rattle.place.specs.Step.{sample_start}
use Rattle.place.specs.All.{place_at}
use Rattle.search.specs.declared.Candidate.{Candidate}
use Rattle.search.specs.Choice.{beats, better, scan}
use Rattle.search.specs.Kinds.{Kind}
use Rattle.scan.specs.Sieve.{kept, lane_of, onto}
use Rattle.scan.proofs.Starting.{place_start}
use Rattle.scan.proofs.Keeping.{below}
use Rattle.receiver.specs.Inner.{held_of, chosen_of, Finds, found_inside, repairs_of, found_of, found_by, over}
use Rattle.receiver.proofs.Kept.{over_more, scan_kept}
use Rattle.receiver.proofs.EitherKind.{Right}

-- ---- the front

-- the numbers that a test takes, in the front of a list of m
pub record Front (m : ℕ) (t : ℕ → Bool) (list : List ℕ) (count : ℕ) : Type 0 where
  pub few : count ≤ m
  pub size : length list ≡ m
  pub front : take count list ≡ kept t m
  pub low : (q : ℕ) → q < count → get_or list q 0 < m

pub front_of : (m : ℕ) (t : ℕ → Bool) (list : List ℕ) → length list ≡ m → Front m t (onto (kept t m) list) (length (kept t m))
unfolding onto
front_of m t list h =
    let ks = kept t m in
    let b = below t m in
    record {
      few = b.few;
      size = length-append ks (drop (length ks) list) ∙ rw (length-drop (length ks) list) (omega (arith, b.few, h));
      front = take_at ks (drop (length ks) list) (length ks) refl;
      low = λ q l. subst (λ (x : ℕ). x < m) (sym (get_or-append ks (drop (length ks) list) 0 q l)) (b.low q l);
    }

pub searched : (f : Place → Option Candidate) (m : ℕ) (t : ℕ → Bool) (list : List ℕ) (count : ℕ) → Front m t list count
    → ((k : ℕ) → k < m → t k ≡ false → f (place_at k) ≡ none) → over f place_at none (take count list) ≡ scan f none (tabulate m place_at)
searched f m t list count w z = ap (over f place_at none) w.front ∙ scan_kept f place_at t m z

-- ---- the choice

pub chosen_better : (k : Kind) (h x : Option Candidate) → chosen_of (held_of k h) (held_of k x) ≡ held_of k (better h x)
unfolding beats
chosen_better k none none = refl
chosen_better k none (some x) = refl
chosen_better k (some h) none = refl
chosen_better k (some h) (some x) = go (beats x h)
  where
    go : (b : Bool) → cond b (held_of k (some x)) (held_of k (some h)) ≡ held_of k (cond b (some x) (some h))
    go true = refl
    go false = refl

-- one place more of the list
pub found_more : (k : Kind) (f : Place → Option Candidate) (list : List ℕ) (q : ℕ) {held new r : code.Option Candidate} → q < length list
    → held ≡ held_of k (over f place_at none (take q list)) → new ≡ held_of k (f (place_at (get_or list q 0))) → r ≡ chosen_of held new
    → r ≡ held_of k (over f place_at none (take (q + 1) list))
found_more k f list q h a b e =
    e ∙ rw (a, b) (chosen_better k (over f place_at none (take q list)) (f (place_at (get_or list q 0))))
    ∙ ap (held_of k)
    (sym (over_more f place_at (take q list) (get_or list q 0) none)
    ∙ ap (over f place_at none) (sym (ap (λ (n : ℕ). take n list) (add-one q) ∙ take-suc list q 0 h)))

pub found_none : (f : Place → Option Candidate) (list : List ℕ) → none ≡ over f place_at none (take 0 list)
unfolding over
found_none f list = refl

-- where no place is listed
pub nothing_listed : (k : Kind) (f : Place → Option Candidate) (ks : List ℕ) {n : ℕ} → n ≡ 0 → code.None ≡ held_of k (over f place_at none (take n ks))
nothing_listed k f ks z = ap (held_of k) (found_none f ks ∙ ap (λ (n : ℕ). over f place_at none (take n ks)) (sym z))

-- the remainder of a place that is given by its number
pub listed_finds : (k : Kind) (level : ℕ) (crcs : List ℕ) (code i : ℕ) {p : Place} → p ≡ place_at i
    → Finds k level (get_or crcs (lane_of i) 0) (found_by (get_or crcs (lane_of i) 0) code)
    → Finds k level (get_or crcs (sample_start p - 8) 0) (found_by (get_or crcs (sample_start p - 8) 0) code)
listed_finds k level crcs code i {p} e f =
    let z : sample_start p - 8 ≡ lane_of i = omega (arith, ap sample_start e, place_start i) in
    rw z f

-- ---- what clears a remainder without repairs: a code of 0 names two positions

module _ (k : Kind) (w : Right k) (r : ℕ) where
  exact_each : (b : Bool) → eqb r 0 ≡ b → (n : ℕ) → n ≤ 0 → only (found_by r 0) n ≡ clearing k.bytes n r
  unfolding found_by found_of repairs_of clearing choose fitting
  exact_each true e zero l =
      let z : eqb (pattern k.bytes None) r ≡ true = eq-eqb (pattern k.bytes None) r (pattern_none k.bytes ∙ sym (eqb-true r 0 e)) in
      rw (e, z)
  exact_each false e zero l =
      let z : eqb (pattern k.bytes None) r ≡ false = ne_eqb (pattern k.bytes None) r (λ q. eqb-false r 0 e (sym q ∙ pattern_none k.bytes)) in
      rw (e, z)
  exact_each b e (suc n) l = absurd (omega arith)

  exact_lies : (b : Bool) → eqb r 0 ≡ b → found_inside k (found_by r 0) ≡ true
  unfolding found_by found_of repairs_of
  exact_lies true e = rw e
  exact_lies false e = rw (e, lt-ltb 0 (8 * k.bytes) (omega (arith, w.low)))

  pub exact_finds : Finds k 0 r (found_by r 0)
  exact_finds = record { each = exact_each (eqb r 0) refl; lies = exact_lies (eqb r 0) refl }
