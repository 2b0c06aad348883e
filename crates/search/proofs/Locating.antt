-- What survives is a location that is taken wherever it is handed in.
--     read_sited, survivor_sited    the reading of a place, and what survives there: its place, and a record that is not refused
--     best_sited                    the best of all places
--     made_long, made_short         the trials that each kind makes
-- Assumes nothing.
use mathlib.Core.Path.{◌≡◌, sym, ap, subst}
use mathlib.Core.Bool.{true}
use mathlib.Core.List.{List}
use mathlib.Core.Logic.{inl, inr}
use mathlib.Core.Option.{none, some}
use Prim.Native.Nat.{ℕ, ◌+◌, ◌*◌, ◌≤◌, min}
use native.Mathlib.Nat.{min-le_left, min_comm}
use native.Mathlib.Omega.{arith}
use Rattle.annex10.proofs.Positions.{proper_inside}
use Rattle.place.specs.declared.Place.{Place}
use Rattle.place.specs.declared.Slicer.{Slicer}
use Rattle.place.specs.declared.Slicer.TheVariants.{Coherent, Noncoherent}
use Rattle.place.specs.declared.location.Location.{Location}
use Rattle.place.specs.All.{listed}
use Rattle.place.specs.Agrees.{side, last_trial, location_number}
use Rattle.place.proofs.All.{member_listed}
use Rattle.place.proofs.Within.{Within, within_is}
use Rattle.place.proofs.Agreeing.{agrees_is, Recorded, located_is}
use Rattle.search.specs.declared.Settings.{Settings}
use Rattle.search.specs.declared.Candidate.{Candidate}
use Rattle.search.specs.Kinds.{Kind, places_of, long, short}
use Rattle.search.specs.Window.{Window}
use Rattle.search.specs.Trials.{reading}
use Rattle.search.specs.Choice.{candidate, candidate_at, best}
use Rattle.search.proofs.Passing.{Passes, sound}
use Rattle.search.proofs.Scanning.{not_some, scan_from, survivor_is}

-- the kind makes all trials up to its last
abbrev pub Makes : Kind → Type 0
Makes kind = 2 + 2 * kind.most ≤ last_trial kind.bytes

pub made_long : Makes long
unfolding long
made_long = omega arith

pub made_short : Makes short
unfolding short
made_short = omega arith

-- at place p, with a record that is not refused
pub record Sited (kind : Kind) (p : Place) (l : Location) : Type 0 where
  pub place : l.place ≡ p
  pub rest : Recorded kind.bytes l

-- from which the message ends within the window
pub sited_taken : (kind : Kind) (p : Place) (l : Location) → Sited kind p l → Within kind.bytes p → location_number kind.bytes l ≡ 0
sited_taken kind p l t w =
    located_is kind.bytes l
    (record { place = within_is kind.bytes l.place (subst (Within kind.bytes) (sym t.place) w); rest = t.rest })

one_side : (z : Slicer) → side z ≤ 1
one_side Coherent = omega arith
one_side Noncoherent = omega arith

module _ (kind : Kind) (made : Makes kind) where
  pub read_sited : (level : ℕ) (p : Place) (c n : List ℕ) → level ≤ kind.most → Passes (Sited kind p) (reading kind level p c n)
  read_sited level p c n h =
      record {
        so = λ l e.
            let d = (sound kind level p c n).so l e in
            record {
              place = d.place;
              rest =
                  record {
                    agreed = (agrees_is l).1 d.number;
                    made = omega (arith, d.number, d.within, one_side l.slicer, made);
                    inside = proper_inside kind.bytes l.repairs d.proper;
                  };
            };
      }

  module _ (s : Settings) (w : Window) where
    pub survivor_sited : (p : Place) {a : Candidate} → candidate_at kind s w p ≡ some a → Sited kind p a.location
    unfolding candidate_at candidate
    survivor_sited p e =
        let v = survivor_is s w _ e in
        let low : min s.level kind.most ≤ kind.most = omega (arith, min-le_left kind.most s.level, min_comm s.level kind.most) in
        subst (Sited kind p) (ap (λ (c : Candidate). c.location) v.is) ((read_sited (min s.level kind.most) p _ _ low).so v.of v.read)

    pub best_sited : {a : Candidate} → best kind s w ≡ some a → (p : Place) × (listed kind.last p ≡ true) × Sited kind p a.location
    unfolding best
    best_sited e = elim (scan_from (candidate_at kind s w) (places_of kind) none e) [
      | inl q ↦ not_some q
      | inr q ↦ (q.0, member_listed kind.last q.0 q.1, survivor_sited q.0 q.2)
    ]
