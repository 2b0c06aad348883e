-- The two stages of the search: what is let through without repairs, and with them.
--     exact_front, exact_listing   the list of the places that need no repair, and what clears them
--     exact_best                   the search over it is that at level 0
--     first_stage, only_stage      what it finds is what the search finds; at level 0 there is no other stage
-- Assumes nothing.
use Rattle.std.specs.Prelude as code
use Rattle.std.specs.Result.{result_unwrap_or}
use mathlib.Core.Path.{◌≡◌, refl, sym, ap, ◌∙◌}
use mathlib.Core.Bool.{Bool, true, false, false≢true, ◌&&◌, cond}
use mathlib.Core.List.{List}
use mathlib.Core.Option.{Option, none, some}
use Prim.Native.Nat.{ℕ, ◌+◌, ◌*◌, min}
use native.Mathlib.Nat.{zero-min}
use native.Mathlib.Omega.{arith}
use lib.ListN.{length, get_or, take, replicate, get_or-replicate, length-replicate}
use lib.Dec.{leb}
use lib.Ieee.{Float}
use lib.Ieee.Scale.{finite}
use Rattle.place.specs.declared.Slicer.TheVariants.{Coherent, Noncoherent}
use Rattle.place.specs.All.{place_at}
use Rattle.search.specs.declared.Settings.{Settings}
use Rattle.search.specs.declared.Candidate.{Candidate}
use Rattle.search.specs.Choice.{candidate_at, best}
use Rattle.search.specs.Window.{Window}
use Rattle.search.specs.Kinds.{Kind}
use Rattle.search.specs.Seen.{seen}
use Rattle.search.specs.Answers.{settings_number}
use Rattle.search.proofs.Staging.{at_level, exact_first}
use Rattle.lists.specs.Told.{Told}
use Rattle.refusals.specs.declared.Refusal.{Refusal}
use Rattle.refusals.specs.Refusals.{told}
use Rattle.scan.specs.Sieve.{lane_of}
use Rattle.scan.specs.Flat.{bits_from, crcs_in}
use Rattle.scan.specs.Exact.{exact, exact_into}
use Rattle.scan.proofs.Listing.{exact_done}
use Rattle.scan.proofs.Exacting.{Led, no_candidate_law}
use Rattle.receiver.specs.Inner.{held_of, Scanned, Listing, over}
use Rattle.receiver.proofs.Never.{unwrapped}
use Rattle.receiver.proofs.EitherKind.{Right}
use Rattle.receiver.proofs.Finding.{scanned_sizes, best_is}
use Rattle.receiver.proofs.Listed.{Front, front_of, searched, exact_finds}

module _ (k : Kind) (r : Right k) (lead : ℕ) (led : Led k lead) (samples : List Float) (coherent noncoherent crcs others : List ℕ)
    (w : Scanned k samples coherent noncoherent crcs others) where
  abbrev pub clean : ℕ → Bool
  clean = exact lead coherent noncoherent crcs others

  pub exact_front : (list : List ℕ) (r : code.Result ℕ Refusal) {count : ℕ} {out : List ℕ} → length list ≡ 8 * k.last
      → ◌≡◌ {A = Told ℕ × List ℕ} (told r, out) (exact_into lead (8 * k.last) coherent noncoherent crcs others list) → count ≡ result_unwrap_or r 0
      → Front (8 * k.last) clean out count
  exact_front list r {count} {out} h e f =
      let z = scanned_sizes k samples coherent noncoherent crcs others w in
      let q = e ∙ exact_done lead (8 * k.last) coherent noncoherent crcs others list z.first z.second z.first_crcs z.second_crcs h in
      rw (unwrapped r 0 f (ap (λ (y : Told ℕ × List ℕ). y.0) q), ap (λ (y : Told ℕ × List ℕ). y.1) q) (front_of (8 * k.last) clean list h)

  pub exact_listing : {list codes : List ℕ} {count level : ℕ} → Front (8 * k.last) clean list count → codes ≡ replicate (16 * k.last) 0 → level ≡ 0
      → Listing k level crcs others list codes count
  exact_listing {list} f c l =
      rw (c, l) (record {
        few = f.few;
        places = f.size;
        many = length-replicate (16 * k.last) 0;
        low = f.low;
        first = λ q h. rw (get_or-replicate {A = ℕ} (16 * k.last) (2 * q) 0 0 (omega (arith, f.few))) (exact_finds k r (get_or crcs (lane_of (get_or list q 0)) 0));
        second = λ q h. rw (get_or-replicate {A = ℕ} (16 * k.last) (2 * q + 1) 0 0 (omega (arith, f.few))) (exact_finds k r (get_or others (lane_of (get_or list q 0)) 0));
      })

  same : (i : ℕ) → exact lead (bits_from Coherent samples) (bits_from Noncoherent samples) (crcs_in k.bytes (bits_from Coherent samples) (8 * k.last)) (crcs_in k.bytes (bits_from Noncoherent samples) (8 * k.last)) i ≡ clean i
  same i = rw (w.first, w.second, w.first_crcs, w.second_crcs)

  pub exact_best : (s : Settings) {list : List ℕ} {count : ℕ} {x : code.Option Candidate} → s.level ≡ 0 → Front (8 * k.last) clean list count
      → x ≡ held_of k (over (candidate_at k s (seen k samples)) place_at none (take count list)) → x ≡ held_of k (best k s (seen k samples))
  exact_best s {list} {count} z f e =
      e ∙ ap (held_of k)
      (searched (candidate_at k s (seen k samples)) (8 * k.last) clean list count f
      (λ i l t. no_candidate_law k lead led k.last (omega (arith, r.last)) samples i l s z (same i ∙ t))
      ∙ best_is k s (seen k samples))

-- ---- the stages one after the other

module _ (k : Kind) (s : Settings) (w : Window) where
  -- what is found without repairs is what the search finds
  pub first_stage : {x : code.Option Candidate} → x ≡ held_of k (best k (at_level 0 s) w) → code.is_some x ≡ true → x ≡ held_of k (best k s w)
  first_stage {x} e z = go (best k (at_level 0 s) w) refl e
    where
      go : (o : Option Candidate) → best k (at_level 0 s) w ≡ o → x ≡ held_of k o → x ≡ held_of k (best k s w)
      go none q f = absurd (false≢true (rw f at z))
      go (some c) q f = f ∙ ap (held_of k) (sym (exact_first k s w 0 (omega arith) q))

  -- at level 0 there is no other stage
  pub only_stage : {x : code.Option Candidate} → s.level ≡ 0 → x ≡ held_of k (best k (at_level 0 s) w) → x ≡ held_of k (best k s w)
  only_stage l e =
      e ∙ ap (λ (m : ℕ). held_of k (best k (record { level = m; threshold = s.threshold; second = s.second; distance = s.distance }) w)) (sym l)

-- the first stage repairs nothing
pub no_repairs : (k : Kind) (s : Settings) → min (at_level 0 s).level k.most ≡ 0
no_repairs k s = zero-min k.most

-- the settings of the first stage are taken
pub first_settings : (s : Settings) → settings_number s ≡ 0 → settings_number (at_level 0 s) ≡ 0
unfolding settings_number
first_settings s = go (leb s.level 2) (finite s.threshold && finite s.second)
  where
    go : (t u : Bool) → ◌≡◌ {A = ℕ} (cond t (cond u 0 5) 4) 0 → ◌≡◌ {A = ℕ} (cond u 0 5) 0
    go true u z = z
    go false u z = absurd (omega arith)
