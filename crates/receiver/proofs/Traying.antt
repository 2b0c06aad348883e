-- The results of a tray, as the code puts them together.
--     part_size_law, rest_size, placed, joined   parts of lent memory, and what is written there
--     long_size, long_rows, both_rows      what is written for a window is its row
--     row_bytes, row_words, row_floats     how long it is
--     sizes_long, sizes_both               in numbers
--     none_fit ..                          what is refused of a tray, and what a number 0 says
--     tray_refused, tray_none, tray_done   the answer
-- Assumes nothing.
use mathlib.Core.Path.{◌≡◌, refl, sym, ap, ap₂, ◌∙◌}
use mathlib.Core.Bool.{Bool, true, false, ◌&&◌, cond}
use mathlib.Core.List.{List, [], ◌∷◌, ◌++◌, append-nil}
use mathlib.Core.Logic.{◌⊎◌, ⊎_elim}
use Prim.Native.Nat.{ℕ, ◌+◌, ◌-◌, ◌*◌, ◌≤◌, ◌<◌}
use native.Mathlib.Nat.{mul-zero}
use native.Mathlib.Omega.{arith}
use lib.Dec.{eqb, leb}
use lib.ListN.{length, get_or, take, drop, length-append, length-drop, drop_of_length-le}
use lib.Seq.{take_all, take_at, drop_at, length-take-le}
use lib.Ieee.{Float}
use borrow.Author.Tests.{eqb-true, leb-true, eq-eqb, ne_eqb, le-leb}
use Rattle.refusals.specs.declared.Refusal.{Refusal}
use Rattle.refusals.specs.Refusals as refusals
use Rattle.search.specs.declared.Settings.{Settings}
use Rattle.search.specs.declared.Answer.{Answer}
use Rattle.search.specs.Kinds.{long, short}
use Rattle.search.specs.Answers.{or_number, settings_number, decode_of}
use Rattle.rows.specs.Rows.{result_of, numbers_of, rows_of}
use Rattle.rows.specs.Tray.{kinds_of, window_at, answers_of, fields_of, message_of, tray_row, bytes_in, words_in, floats_in, room_in, tray_number, tray_into}
use Rattle.rows.proofs.Sizes.{decode_size, bytes_size, width_size}
use Rattle.receiver.specs.Inner.{cut_answer}
use Rattle.receiver.proofs.Deciding.{some_number}

-- ---- a part of lent memory

pub placed : {A : Type 0} (a e w : ℕ) (xs : List A) {ys row : List A} → e ≡ a + w → ys ≡ row
    → take a xs ++ (ys ++ drop (e - a) (drop a xs)) ≡ take a xs ++ (row ++ drop w (drop a xs))
placed a e w xs h r = let d : e - a ≡ w = omega arith in rw (d, r)

pub part_size_law : {A : Type 0} (a e w : ℕ) (xs : List A) → e ≡ a + w → e ≤ length xs → length (take (e - a) (drop a xs)) ≡ w
part_size_law a e w xs h l = let d : e - a ≡ w = omega arith in rw d (length-take-le w (drop a xs) (simp length-drop (omega arith)))

-- what is written to the first a places and then to all behind them
pub joined : {A : Type 0} (a n : ℕ) (xs ys zs : List A) → length ys ≡ a → length xs ≡ n → a ≤ n
    → take a (ys ++ drop a xs) ++ (zs ++ drop (length (ys ++ drop a xs) - a) (drop a (ys ++ drop a xs))) ≡ ys ++ zs
joined a n xs ys zs e l h =
    let none : length (drop a xs) ≤ length (ys ++ drop a xs) - a = simp (length-append, e) (omega arith) in
    rw (take_at ys (drop a xs) a e, drop_at ys (drop a xs) a e, drop_of_length-le (drop a xs) none, append-nil zs)

pub rest_size : {A : Type 0} (a b : ℕ) (xs ys : List A) → length ys ≡ a → length xs ≡ a + b
    → length (take (length (ys ++ drop a xs) - a) (drop a (ys ++ drop a xs))) ≡ b
rest_size a b xs ys e l =
    let z : length (ys ++ drop a xs) ≡ a + b = simp (length-append, length-drop, e) (omega arith) in
    part_size_law a (length (ys ++ drop a xs)) b (ys ++ drop a xs) z (omega (arith, z))

pub window_is : (samples : List Float) (k : ℕ)
    → take (2310 * (k + 1) - (2310 * (k + 1) - 2310)) (drop (2310 * (k + 1) - 2310) samples) ≡ window_at samples k
unfolding window_at
window_is samples k =
    let a : 2310 * (k + 1) - 2310 ≡ 2310 * k = omega arith in
    let b : 2310 * (k + 1) - 2310 * k ≡ 2310 = omega arith in
    rw (a, b)

-- ---- the row of a window

pub long_size : (window : List Float) (s : Settings) (index : ℕ) {a : Answer} → a ≡ decode_of long window s index → length a.message ≡ 14
unfolding long
long_size window s index e = ap (λ (a : Answer). length a.message) e ∙ decode_size long s window index

module _ (samples : List Float) (s : Settings) (indices : List ℕ) (k : ℕ) where
  abbrev index : ℕ
  index = get_or indices k 0

  whole : (a : Answer) → a ≡ decode_of long (window_at samples k) s index → take 14 a.message ≡ (decode_of long (window_at samples k) s index).message
  whole a q = let l = long_size (window_at samples k) s index q in take_all 14 a.message (omega arith) ∙ ap message_of q

  pub long_rows : {a : Answer} {m w : List ℕ} {x : List Float} → a ≡ decode_of long (window_at samples k) s index
      → m ≡ take 14 a.message → w ≡ result_of a → x ≡ numbers_of a
      → (m ≡ tray_row message_of (kinds_of false) samples s indices k) × (w ≡ tray_row result_of (kinds_of false) samples s indices k)
      × (x ≡ tray_row numbers_of (kinds_of false) samples s indices k)
  unfolding tray_row kinds_of answers_of fields_of
  long_rows {a} q em ew ex = (
    em ∙ whole a q ∙ sym (append-nil _),
    ew ∙ ap result_of q ∙ sym (append-nil _),
    ex ∙ ap numbers_of q ∙ sym (append-nil _),
  )

  pub both_rows : (l t : Answer) {m w : List ℕ} {x : List Float} → l ≡ decode_of long (window_at samples k) s index
      → cut_answer t ≡ decode_of short (window_at samples k) s index → m ≡ take 14 l.message ++ take 7 t.message
      → w ≡ result_of l ++ result_of t → x ≡ numbers_of l ++ numbers_of t
      → (m ≡ tray_row message_of (kinds_of true) samples s indices k) × (w ≡ tray_row result_of (kinds_of true) samples s indices k)
      × (x ≡ tray_row numbers_of (kinds_of true) samples s indices k)
  unfolding tray_row kinds_of answers_of fields_of
  both_rows l t q r em ew ex = (
    em ∙ ap₂ (λ (a b : List ℕ). a ++ b) (whole l q) (ap message_of r ∙ sym (append-nil _)),
    ew ∙ ap₂ (λ (a b : List ℕ). a ++ b) (ap result_of q) (ap result_of r ∙ sym (append-nil _)),
    ex ∙ ap₂ (λ (a b : List Float). a ++ b) (ap numbers_of q) (ap numbers_of r ∙ sym (append-nil _)),
  )

  pub row_bytes : (both : Bool) → length (tray_row message_of (kinds_of both) samples s indices k) ≡ bytes_in (kinds_of both)
  unfolding tray_row
  row_bytes both = bytes_size (window_at samples k) s (get_or indices k 0) (kinds_of both)

  pub row_words : (both : Bool) → length (tray_row result_of (kinds_of both) samples s indices k) ≡ words_in (kinds_of both)
  unfolding tray_row
  row_words both = width_size (window_at samples k) s (get_or indices k 0) result_of 11 (λ a. refl) (kinds_of both)

  pub row_floats : (both : Bool) → length (tray_row numbers_of (kinds_of both) samples s indices k) ≡ floats_in (kinds_of both)
  unfolding tray_row
  row_floats both = width_size (window_at samples k) s (get_or indices k 0) numbers_of 2 (λ a. refl) (kinds_of both)

-- ---- in numbers

pub sizes_long : {both : Bool} → both ≡ false → (bytes_in (kinds_of both) ≡ 14) × (words_in (kinds_of both) ≡ 11) × (floats_in (kinds_of both) ≡ 2)
unfolding kinds_of bytes_in long
sizes_long e = rw e (refl, refl, refl)

pub sizes_both : {both : Bool} → both ≡ true → (bytes_in (kinds_of both) ≡ 21) × (words_in (kinds_of both) ≡ 22) × (floats_in (kinds_of both) ≡ 4)
unfolding kinds_of bytes_in long short
sizes_both e = rw e (refl, refl, refl)

-- ---- what is refused

nothing_there : {A : Type 0} (xs : List A) → length xs ≡ 0 → xs ≡ []
nothing_there [] e = refl
nothing_there (x ∷ xs) e = absurd (omega arith)

module _ (both : Bool) (n : ℕ) (m w : List ℕ) (x : List Float) where
  pub room_is : {a b c : ℕ} {r : Bool} → (bytes_in (kinds_of both) ≡ a) × (words_in (kinds_of both) ≡ b) × (floats_in (kinds_of both) ≡ c)
      → r ≡ (eqb (length m) (a * n) && (eqb (length w) (b * n) && eqb (length x) (c * n))) → r ≡ room_in (kinds_of both) n (m, w, x)
  unfolding room_in
  room_is e r = r ∙ rw (sym e.0, sym e.1, sym e.2)

  module _ (samples : List Float) (s : Settings) (indices : List ℕ) where
    abbrev number : ℕ
    number = tray_number (kinds_of both) n samples s indices (m, w, x)

    pub none_fit : (64 < n) ⊎ ((length samples ≡ 2310 * n → ⊥) ⊎ (length indices ≡ n → ⊥)) → 2 ≡ number
    unfolding tray_number
    none_fit h = go (leb n 64) (eqb (length samples) (2310 * n)) (eqb (length indices) n) refl refl refl
      where
        go : (a b c : Bool) → leb n 64 ≡ a → eqb (length samples) (2310 * n) ≡ b → eqb (length indices) n ≡ c
            → ◌≡◌ {A = ℕ} 2 (or_number (cond (a && (b && c)) 0 2) (or_number (cond (room_in (kinds_of both) n (m, w, x)) 0 3) (settings_number s)))
        go true true true p q r = ⊎_elim (λ l. absurd (omega (arith, l, leb-true n 64 p))) (λ t. ⊎_elim (λ l. absurd (l (eqb-true _ _ q))) (λ l. absurd (l (eqb-true _ _ r))) t) h
        go true true false p q r = refl
        go true false c p q r = refl
        go false b c p q r = refl

    module _ (few : n ≤ 64) (each : length samples ≡ 2310 * n) (one : length indices ≡ n) where
      pub no_room : room_in (kinds_of both) n (m, w, x) ≡ false → 3 ≡ number
      unfolding tray_number
      no_room e = rw (le-leb n 64 few, eq-eqb _ _ each, eq-eqb _ _ one, e)

      pub settings_left : {r : ℕ} → room_in (kinds_of both) n (m, w, x) ≡ true → r ≡ settings_number s → r ≡ number
      unfolding tray_number
      settings_left e q = q ∙ rw (le-leb n 64 few, eq-eqb _ _ each, eq-eqb _ _ one, e)

    -- what a number 0 says
    pub record Fitting : Type 0 where
      pub few : n ≤ 64
      pub each : length samples ≡ 2310 * n
      pub one : length indices ≡ n
      pub bytes : length m ≡ bytes_in (kinds_of both) * n
      pub whole : length w ≡ words_in (kinds_of both) * n
      pub pairs : length x ≡ floats_in (kinds_of both) * n

    pub fitting : 0 ≡ number → Fitting
    unfolding tray_number room_in
    fitting e =
        go (leb n 64) (eqb (length samples) (2310 * n)) (eqb (length indices) n) (eqb (length m) (bytes_in (kinds_of both) * n))
        (eqb (length w) (words_in (kinds_of both) * n)) (eqb (length x) (floats_in (kinds_of both) * n)) refl refl refl refl refl refl (sym e)
      where
        go : (a b c d f g : Bool) → leb n 64 ≡ a → eqb (length samples) (2310 * n) ≡ b → eqb (length indices) n ≡ c
            → eqb (length m) (bytes_in (kinds_of both) * n) ≡ d → eqb (length w) (words_in (kinds_of both) * n) ≡ f
            → eqb (length x) (floats_in (kinds_of both) * n) ≡ g
            → ◌≡◌ {A = ℕ} (or_number (cond (a && (b && c)) 0 2) (or_number (cond (d && (f && g)) 0 3) (settings_number s))) 0 → Fitting
        go true true true true true true p q r t u v h =
            record {
              few = leb-true _ _ p;
              each = eqb-true _ _ q;
              one = eqb-true _ _ r;
              bytes = eqb-true _ _ t;
              whole = eqb-true _ _ u;
              pairs = eqb-true _ _ v;
            }
        go true true true true true false p q r t u v h = absurd (omega arith)
        go true true true true false g p q r t u v h = absurd (omega arith)
        go true true true false f g p q r t u v h = absurd (omega arith)
        go true true false d f g p q r t u v h = absurd (omega arith)
        go true false c d f g p q r t u v h = absurd (omega arith)
        go false b c d f g p q r t u v h = absurd (omega arith)

    -- ---- the answer

    pub tray_refused : (e : Refusal) → refusals.number e ≡ number → (refusals.number e, m, w, x) ≡ tray_into (kinds_of both) n samples s indices (m, w, x)
    unfolding tray_into
    tray_refused e q = rw (sym q, ne_eqb _ _ (some_number e))

    pub tray_done : {m' w' : List ℕ} {x' : List Float} → 0 ≡ number
        → (m' ≡ rows_of (tray_row message_of (kinds_of both) samples s indices) n) × (w' ≡ rows_of (tray_row result_of (kinds_of both) samples s indices) n)
        × (x' ≡ rows_of (tray_row numbers_of (kinds_of both) samples s indices) n)
        → (0, m', w', x') ≡ tray_into (kinds_of both) n samples s indices (m, w, x)
    unfolding tray_into
    tray_done e q = rw (sym e, q.0, q.1, q.2)

    pub tray_none : 0 ≡ number → n ≡ 0 → (0, m, w, x) ≡ tray_into (kinds_of both) n samples s indices (m, w, x)
    unfolding rows_of
    tray_none e h =
        let f = fitting e in
        tray_done e
        (rw h (nothing_there m (f.bytes ∙ rw (h, mul-zero (bytes_in (kinds_of both)))), nothing_there w (f.whole ∙ rw (h, mul-zero (words_in (kinds_of both)))), nothing_there x (f.pairs ∙ rw (h, mul-zero (floats_in (kinds_of both))))))
