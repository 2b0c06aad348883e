-- TURNING THE KNOB UP CHANGES NO OLD LINE: of `decode_of`, long and short, and of what is printed of both.
-- Assumes nothing.
use mathlib.Core.Path.{◌≡◌, refl, sym, ap, ◌∙◌, subst}
use mathlib.Core.Bool.{Bool, true, false, cond}
use mathlib.Core.List.{List, ◌++◌}
use mathlib.Core.Logic.{◌⊎◌, inl, inr}
use mathlib.Core.Option.{Option, none, some}
use Prim.Native.Nat.{ℕ, zero, suc, ◌^◌, ◌≤◌, ◌<◌}
use native.Mathlib.Decide.{dec_lt}
use native.Mathlib.Omega.{arith}
use borrow.Author.Tests.{le-leb}
use lib.Dec.{eqb}
use lib.Ieee.{Float}
use Rattle.annex10.specs.Repair.{count}
use Rattle.search.specs.declared.Settings.{Settings}
use Rattle.search.specs.declared.Candidate.{Candidate}
use Rattle.search.specs.declared.Answer.{Answer}
use Rattle.search.specs.Kinds.{Kind, long, short}
use Rattle.search.specs.Window.{Window}
use Rattle.search.specs.Choice.{best}
use Rattle.search.specs.Seen.{seen}
use Rattle.search.specs.Answers.{or_number, window_number, settings_number, index_number, refused_answer, answer_of, answered, decode_of}
use Rattle.search.proofs.Scanning.{not_some}
use Rattle.listing.specs.Lines.{refused_line, found_line, said_number, window_lines}
use Rattle.listing.proofs.Windows.{line_found, two_searches}
use Rattle.listing.proofs.Determines.{own_long, own_short}
use Rattle.claims.specs.Searched.{at_level}
use Rattle.claims.specs.TurnedUp.{Raised, Gained, AnswerStays, LinesStay, TurnedUp}
use Rattle.claims.proofs.Uses.{Sound, search_of_law, sound_long, sound_short}

-- ---- one search

-- What becomes of an answer: it stays; or there was nothing, and a message is gained, with no more repairs than its kind permits.
data Becomes (most : ℕ) (s t : Settings) (old new : Answer) : Type 0 where
  stays : new ≡ old → Becomes most s t old new
  gains : old.number ≡ 1 → Gained s t new → count new.location.repairs ≤ most → Becomes most s t old new

module _ (kind : Kind) (sound : Sound kind) (samples : List Float) (s t : Settings) (index : ℕ) (h : Raised s t) where
  abbrev w : Window
  w = seen kind samples

  -- at one level the two settings are the same
  same_settings : (m : ℕ) → at_level m s ≡ at_level m t
  same_settings m = cc (h.threshold, h.second, h.distance)

  -- what is found has no more repairs than the level and the kind permit
  few : (r : Settings) (c : Candidate) → best kind r w ≡ some c → (count c.location.repairs ≤ r.level) × (count c.location.repairs ≤ kind.most)
  few r c e = let n = (((search_of_law kind sound samples r).returns c).0 e).0.held.1.first.fits.few in (omega arith, omega arith)

  stays_found : (c : Candidate) → best kind s w ≡ some c → best kind t w ≡ some c
  stays_found c e =
      subst (λ (r : Settings). best kind r w ≡ some c) (same_settings t.level)
      ((search_of_law kind sound samples s).any_level c e t.level (omega (arith, (few s c e).0, h.up)))

  found_already : (d : Candidate) → best kind t w ≡ some d → count d.location.repairs ≤ s.level → best kind s w ≡ some d
  found_already d f n =
      subst (λ (r : Settings). best kind r w ≡ some d) (sym (same_settings s.level)) ((search_of_law kind sound samples t).any_level d f s.level n)

  searched : (x y : Option Candidate) → best kind s w ≡ x → best kind t w ≡ y
      → Becomes kind.most s t (answered kind samples index x) (answered kind samples index y)
  unfolding answer_of
  searched none none e f = stays refl
  searched (some c) y e f = stays (ap (answered kind samples index) (sym f ∙ stays_found c e))
  searched none (some d) e f = elim (dec_lt s.level (count d.location.repairs)) [
    | no l ↦ not_some (sym e ∙ found_already d f (omega arith))
    | yes l ↦ let (i, j) = few t d f in gains refl (refl, omega arith, i) j
  ]

  -- a refusal has the same number
  abbrev refusal : Settings → ℕ
  refusal r = or_number (window_number samples) (or_number (settings_number r) (index_number index))

  same_refusal : refusal s ≡ refusal t
  unfolding settings_number
  same_refusal = rw (le-leb s.level 2 (omega (arith, h.up, h.accepted)), le-leb t.level 2 h.accepted, h.threshold, h.second)

  becomes : Becomes kind.most s t (decode_of kind samples s index) (decode_of kind samples t index)
  unfolding decode_of
  becomes = rw (← same_refusal) (go (eqb (refusal s) 0))
    where
      go : (taken : Bool) → Becomes kind.most s t
          (cond taken (answered kind samples index (best kind s w)) (refused_answer kind (refusal s)))
          (cond taken (answered kind samples index (best kind t w)) (refused_answer kind (refusal s)))
      go true = searched (best kind s w) (best kind t w) refl refl
      go false = stays refl

module _ {most : ℕ} {s t : Settings} {old new : Answer} where
  answer_stays : Becomes most s t old new → AnswerStays s t old new
  answer_stays (stays e) = record { message = λ z. e; nothing = λ z. inl e; refusal = λ z. e; already = λ z n. sym e }
  answer_stays (gains o g n) =
      record {
        message = λ z. absurd (omega arith);
        nothing = λ z. inr g;
        refusal = λ z. absurd (omega arith);
        already = λ z m. absurd (omega (arith, g.1));
      }

  -- where the kind permits no more repairs than the level did, nothing is gained
  nothing_gained : Becomes most s t old new → most ≤ s.level → new ≡ old
  nothing_gained (stays e) h = e
  nothing_gained (gains o g n) h = absurd (omega (arith, g.1))

-- ---- the lines of a window, whose answers are said by their own numbers

same_number : {a b : Answer} → a ≡ b → a.number ≡ b.number
same_number e = ap (λ (x : Answer). x.number) e

module _
    (s t : Settings) (k : ℕ) (K : k < 2 ^ 64) (a b c d : Answer)
    (A : said_number 14 a ≡ a.number) (B : said_number 7 b ≡ b.number) (C : said_number 14 c ≡ c.number) (D : said_number 7 d ≡ d.number) where
  same_lines : window_lines k c d ≡ window_lines k a b → LinesStay s t k a b c d
  same_lines e = record { stay = λ n. inl e; gain = λ n. inl e }

  -- a refusal stands alone
  long_refused : c ≡ a → 2 ≤ a.number → LinesStay s t k a b c d
  long_refused e z =
      same_lines
      ((two_searches k c d).refused (omega (arith, C, same_number e)) ∙ ap refused_line (C ∙ same_number e ∙ sym A) ∙ sym ((two_searches k a b).refused (omega (arith, A))))

  short_refused : a.number ≤ 1 → c.number ≤ 1 → d ≡ b → 2 ≤ b.number → LinesStay s t k a b c d
  short_refused x y e z =
      same_lines
      ((two_searches k c d).refused_short (omega (arith, C)) (omega (arith, D, same_number e))
      ∙ ap refused_line (D ∙ same_number e ∙ sym B)
      ∙ sym ((two_searches k a b).refused_short (omega (arith, A)) (omega (arith, B))))

  -- a short message was there, and a long one comes
  long_before : a.number ≡ 1 → d ≡ b → b.number ≡ 0 → Gained s t c → LinesStay s t k a b c d
  long_before x y z g =
      let old : window_lines k a b ≡ found_line k d = (two_searches k a b).short_alone x ∙ line_found 7 k b (B ∙ z) ∙ ap (found_line k) (sym y) in
      let new : window_lines k c d ≡ found_line k c ++ found_line k d = (two_searches k c d).both (C ∙ g.0) (D ∙ same_number y ∙ z) in
      record {
        stay = λ n. inr (inl (g, old, new ∙ ap (λ (l : List ℕ). found_line k c ++ l) (sym old)));
        gain = λ e. absurd (omega (arith, (((two_searches k a b).none K).0 e).1));
      }

  -- a long message was there, and a short one comes
  short_behind : c ≡ a → a.number ≡ 0 → b.number ≡ 1 → Gained s t d → LinesStay s t k a b c d
  short_behind x z y g =
      let old : window_lines k a b ≡ found_line k c = (two_searches k a b).long_alone y ∙ line_found 14 k a (A ∙ z) ∙ ap (found_line k) (sym x) in
      let new : window_lines k c d ≡ found_line k c ++ found_line k d = (two_searches k c d).both (C ∙ same_number x ∙ z) (D ∙ g.0) in
      record {
        stay = λ n. inr (inr (g, old, new ∙ ap (λ (l : List ℕ). l ++ found_line k d) (sym old)));
        gain = λ e. absurd (omega (arith, (((two_searches k a b).none K).0 e).0));
      }

  -- nothing was there
  from_none : a.number ≡ 1 → b.number ≡ 1
      → (Gained s t c × (window_lines k c d ≡ found_line k c))
      ⊎ (Gained s t d × (window_lines k c d ≡ found_line k d))
      ⊎ (Gained s t c × Gained s t d × (window_lines k c d ≡ found_line k c ++ found_line k d))
      → LinesStay s t k a b c d
  from_none x y g = record { stay = λ n. absurd (n (((two_searches k a b).none K).1 (x, y))); gain = λ e. inr g }

  lines_stay : {m n : ℕ} → Becomes m s t a c → Becomes n s t b d → LinesStay s t k a b c d
  lines_stay (stays e) (stays f) = same_lines (rw (e, f))
  lines_stay (gains o g i) (gains p h j) = from_none o p (inr (inr (g, h, (two_searches k c d).both (C ∙ g.0) (D ∙ h.0))))
  lines_stay (gains o g i) (stays f) = go b.number refl
    where
      go : (y : ℕ) → b.number ≡ y → LinesStay s t k a b c d
      go zero z = long_before o f z g
      go (suc zero) z = from_none o z (inl (g, (two_searches k c d).long_alone (same_number f ∙ z) ∙ line_found 14 k c (C ∙ g.0)))
      go (suc (suc y)) z = short_refused (omega arith) (omega (arith, g.0)) f (omega arith)
  lines_stay (stays e) (gains p h j) = go a.number refl
    where
      go : (x : ℕ) → a.number ≡ x → LinesStay s t k a b c d
      go zero z = short_behind e z p h
      go (suc zero) z = from_none z p (inr (inl (h, (two_searches k c d).short_alone (same_number e ∙ z) ∙ line_found 7 k d (D ∙ h.0))))
      go (suc (suc x)) z = long_refused e (omega arith)

-- ---- all of it

short_most : short.most ≡ 1
unfolding short
short_most = refl

pub turned_up : TurnedUp (decode_of long) (decode_of short)
turned_up =
    record {
      long = λ samples s t index h. answer_stays (becomes long sound_long samples s t index h);
      short = λ samples s t index h. answer_stays (becomes short sound_short samples s t index h);
      short_full = λ samples s t index h l. nothing_gained (becomes short sound_short samples s t index h) (omega (arith, short_most));
      lines = λ k samples s t index K h.
          lines_stay s t k K _ _ _ _ (own_long samples s index) (own_short samples s index) (own_long samples t index) (own_short samples t index)
          (becomes long sound_long samples s t index h) (becomes short sound_short samples s t index h);
    }
