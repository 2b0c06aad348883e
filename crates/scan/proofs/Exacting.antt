-- At a place that the list of the exact ones leaves out, nothing is read without repairs.
--     Led                   the headers of a kind that are taken have a bit set
--     led_long, led_short   the first of long messages, the second of short ones
--     left_out              the two trials of level 0 fail
--     no_candidate_law          and the place holds nothing at level 0
-- Assumes nothing.
use Rattle.std.proofs.Common.{◌≡◌, ℕ, zero, suc, ◌+◌, ◌*◌, ◌/◌, ◌<◌, min, Bool, true, false, ◌&&◌, eqb, List, get_or, sym, refl, ap, ◌∙◌, true≢false, arith, lit<, eq-eqb, ne_eqb}
use mathlib.Core.Option.{Option, none}
use native.Mathlib.Nat.{zero-min}
use native.Mathlib.Decide.{ℕ_discrete}
use lib.Ieee.{Float}
use Rattle.lists.specs.Bits.{bit_at}
use Rattle.lists.proofs.Bits.{bit_at_packed}
use Rattle.lists.proofs.Test.{or_none}
use Rattle.annex10.specs.Header.{long_header, short_header}
use Rattle.annex10.specs.Remainder.{remainder}
use Rattle.annex10.specs.Repair.{repaired, choose, fitting, clearing}
use Rattle.annex10.proofs.Repairing.{pattern_none}
use Rattle.place.specs.declared.Place.{Place}
use Rattle.place.specs.declared.Slicer.{Slicer}
use Rattle.place.specs.declared.Slicer.TheVariants.{Coherent, Noncoherent}
use Rattle.place.specs.All.{place_at}
use Rattle.search.specs.declared.Settings.{Settings}
use Rattle.search.specs.declared.Tried.TheVariants.{Fail}
use Rattle.search.specs.declared.Candidate.{Candidate}
use Rattle.search.specs.Kinds.{Kind, good, long, short}
use Rattle.search.specs.Trials.{checked, cleared, given, six_trials, trials, reading}
use Rattle.search.specs.Choice.{survivor, candidate_at}
use Rattle.search.specs.Seen.{bits_at, window_of}
use Rattle.scan.specs.Flat.{bits_from, message_from, crcs_in}
use Rattle.scan.specs.Sieve.{lane_of}
use Rattle.scan.specs.Exact.{clean_at, exact}
use Rattle.scan.specs.Inner.{Digits}
use Rattle.scan.proofs.Starting.{bits_number, crc_start, digits_of}

-- ---- headers

-- bit `lead` lies in a message of this kind, and where it is 0 the header is not taken
pub record Led (kind : Kind) (lead : ℕ) : Type 0 where
  pub inside : lead < 8 * kind.bytes
  pub clear : (message : List ℕ) → bit_at message lead ≡ 0 → good kind message ≡ false

pub led_long : Led long 0
unfolding long long_header bit_at
led_long =
    record {
      inside = lit< tt;
      clear = λ message h. rw (ne_eqb (get_or message 0 0 / 8) 17 (λ e. omega arith), ne_eqb (get_or message 0 0 / 8) 18 (λ e. omega arith));
    }

pub led_short : Led short 1
unfolding short short_header bit_at
led_short = record { inside = lit< tt; clear = λ message h. rw (ne_eqb (get_or message 0 0 / 8) 11 (λ e. omega arith)) }

-- ---- trials

not_both : (a b : Bool) → (a && b) ≡ false → a ≡ true → b ≡ false
not_both true b e q = e
not_both false b e q = absurd (true≢false (sym q))

not_one : (b : ℕ) → b < 2 → eqb b 1 ≡ false → b ≡ 0
not_one zero h e = refl
not_one (suc zero) h e = absurd (true≢false e)
not_one (suc (suc b)) h e = omega arith

-- bit j of the message that starts with sample p
message_bit : (n : ℕ) (bits : List ℕ) (p j : ℕ) → Digits bits → j < 8 * n → bit_at (message_from n bits p) j ≡ get_or bits (p + 8 * j) 0
unfolding message_from
message_bit n bits p j d h = bit_at_packed (λ (i : ℕ). get_or bits (p + 8 * i) 0) (λ i. d.each (p + 8 * i)) n j h

module _ (kind : Kind) (lead : ℕ) (led : Led kind lead) where
  -- a message without repairs is taken where its remainder is 0 and its header is one of those that are taken
  trial_fails : (p : Place) (number : ℕ) (slicer : Slicer) (b : List ℕ) → (remainder b ≡ 0 → bit_at b lead ≡ 0) → checked kind p number slicer b (cleared kind b 0) ≡ Fail
  unfolding checked cleared clearing choose fitting repaired
  trial_fails p number slicer b h =
      elim (ℕ_discrete (remainder b) 0) [
        | yes clean ↦ rw (pattern_none kind.bytes, clean, led.clear b (h clean))
        | no other ↦ rw (pattern_none kind.bytes, ne_eqb 0 (remainder b) (λ e. other (sym e)))
      ]

  -- at bit offsets 1 to m, which end within the window
  module _ (m : ℕ) (ends : m + 8 * kind.bytes < 144) (s : List Float) (k : ℕ) (h : k < 8 * m) where
    abbrev crcs : Slicer → List ℕ
    crcs slicer = crcs_in kind.bytes (bits_from slicer s) (8 * m)

    unclean : (slicer : Slicer) → clean_at lead (bits_from slicer s) (crcs slicer) (lane_of k) ≡ false
        → remainder (bits_at kind.bytes s slicer (place_at k)) ≡ 0 → bit_at (bits_at kind.bytes s slicer (place_at k)) lead ≡ 0
    unfolding clean_at
    unclean slicer e z =
        let d = digits_of slicer s in
        let r = get_or (crcs slicer) (lane_of k) 0 in
        let x = get_or (bits_from slicer s) (8 + lane_of k + 8 * lead) 0 in
        let t : eqb x 1 ≡ false = not_both (eqb r 0) (eqb x 1) e (eq-eqb r 0 (crc_start kind.bytes m k ends h slicer s ∙ z)) in
        ap (λ (b : List ℕ). bit_at b lead) (bits_number kind.bytes m k ends h slicer s)
        ∙ message_bit kind.bytes (bits_from slicer s) (8 + lane_of k) lead d led.inside
        ∙ not_one x (d.each (8 + lane_of k + 8 * lead)) t

    pub left_out : exact lead (bits_from Coherent s) (bits_from Noncoherent s) (crcs Coherent) (crcs Noncoherent) k ≡ false
        → reading kind 0 (place_at k) (bits_at kind.bytes s Coherent (place_at k)) (bits_at kind.bytes s Noncoherent (place_at k)) ≡ Fail
    unfolding exact reading trials six_trials given
    left_out e =
        let (a, b) = or_none (clean_at lead (bits_from Coherent s) (crcs Coherent) (lane_of k)) (clean_at lead (bits_from Noncoherent s) (crcs Noncoherent) (lane_of k)) e in
        rw (
          trial_fails (place_at k) 1 Coherent (bits_at kind.bytes s Coherent (place_at k)) (unclean Coherent a),
          trial_fails (place_at k) 2 Noncoherent (bits_at kind.bytes s Noncoherent (place_at k)) (unclean Noncoherent b),
        )

    pub no_candidate_law : (settings : Settings) → settings.level ≡ 0
        → exact lead (bits_from Coherent s) (bits_from Noncoherent s) (crcs Coherent) (crcs Noncoherent) k ≡ false
        → candidate_at kind settings (window_of kind.bytes s) (place_at k) ≡ none
    unfolding candidate_at survivor window_of
    no_candidate_law settings l e =
        let w = window_of kind.bytes s in
        let p = place_at k in
        let read : ℕ → Option Candidate = λ (level : ℕ). survivor settings w (reading kind level p (bits_at kind.bytes s Coherent p) (bits_at kind.bytes s Noncoherent p)) in
        ap (λ (level : ℕ). read (min level kind.most)) l ∙ ap read (zero-min kind.most) ∙ ap (survivor settings w) (left_out e)
