-- The claims of a tray, for any kinds of message. Assumes nothing.
use mathlib.Core.Path.{◌≡◌, refl, sym, ap, ◌∙◌}
use mathlib.Core.Bool.{Bool, true, false, ◌&&◌, cond}
use mathlib.Core.List.{List}
use mathlib.Core.Logic.{◌≢◌}
use Prim.Native.Nat.{ℕ, ◌<◌}
use native.Mathlib.Omega.{arith}
use lib.Dec.{eqb, leb}
use lib.ListN.{get_or}
use lib.Ieee.{Float}
use borrow.Author.Tests.{eqb-true, leb-true, eq-eqb}
use Rattle.search.specs.declared.Settings.{Settings}
use Rattle.search.specs.Kinds.{Kind}
use Rattle.search.specs.Answers.{or_number}
use Rattle.rows.specs.Rows.{result_of, numbers_of, Lent, rows_of}
use Rattle.rows.specs.Tray.{kinds_of, window_at, message_of, tray_row, bytes_in, words_in, floats_in, tray_number, tray_into}
use Rattle.rows.proofs.Beside.{row_at}
use Rattle.rows.proofs.Sizes.{bytes_size, width_size}
use Rattle.claims.specs.Trayed.{Written, result_at, single_calls, Trayed}

-- a number 0 is that of the refusals
none_refused : (m : ℕ) (done old : Lent) (b : Bool) → eqb m 0 ≡ b
    → (cond {A = Written} b (0, done.0, done.1, done.2) (m, old.0, old.1, old.2)).0 ≡ 0 → m ≡ 0
none_refused m done old true q e = eqb-true m 0 q
none_refused m done old false q e = e

kept : (m : ℕ) (done old : Lent) (b : Bool) → eqb m 0 ≡ b → (let told = cond {A = Written} b (0, done.0, done.1, done.2) (m, old.0, old.1, old.2) in told.0 ≢ 0 → (told.1, told.2, told.3) ≡ old)
kept m done old true q h = absurd (h refl)
kept m done old false q h = refl

at_most : (n m : ℕ) (a b : Bool) → leb n 64 ≡ a → or_number (cond (a && b) 0 2) m ≡ 0 → n < 65
at_most n m true b q e = omega (arith, leb-true n 64 q)
at_most n m false b q e = absurd (omega arith)

module _ (kinds : List Kind) (n : ℕ) (samples : List Float) (s : Settings) (indices : List ℕ) (old : Lent) where
  abbrev told : Written
  told = tray_into kinds n samples s indices old

  abbrev number : ℕ
  number = tray_number kinds n samples s indices old

  zero_number : told.0 ≡ 0 → number ≡ 0
  unfolding tray_into
  zero_number = none_refused number _ old (eqb number 0) refl

  taken : told.0 ≡ 0
      → told ≡ (0, rows_of (tray_row message_of kinds samples s indices) n, rows_of (tray_row result_of kinds samples s indices) n, rows_of (tray_row numbers_of kinds samples s indices) n)
  unfolding tray_into
  taken e = rw (eq-eqb number 0 (zero_number e))

  not_taken : told.0 ≢ 0 → (told.1, told.2, told.3) ≡ old
  unfolding tray_into
  not_taken h = kept number _ old (eqb number 0) refl h

  few : told.0 ≡ 0 → n < 65
  unfolding tray_number
  few e = at_most n _ (leb n 64) _ refl (zero_number e)

  result_is : told.0 ≡ 0 → (k : ℕ) → k < n → result_at kinds k told ≡ single_calls kinds (window_at samples k) s (get_or indices k 0)
  unfolding result_at single_calls tray_row
  result_is e k h =
      ap (result_at kinds k) (taken e)
      ∙ rw (
        row_at (bytes_in kinds) (tray_row message_of kinds samples s indices) n k (λ i l. bytes_size (window_at samples i) s (get_or indices i 0) kinds) h,
        row_at (words_in kinds) (tray_row result_of kinds samples s indices) n k (λ i l. width_size (window_at samples i) s (get_or indices i 0) result_of 11 (λ a. refl) kinds) h,
        row_at (floats_in kinds) (tray_row numbers_of kinds samples s indices) n k (λ i l. width_size (window_at samples i) s (get_or indices i 0) numbers_of 2 (λ a. refl) kinds) h,
      )

same_calls : (kinds : List Kind) (s : Settings) {window window' : List Float} {index index' : ℕ} → window ≡ window' → index ≡ index'
    → single_calls kinds window s index ≡ single_calls kinds window' s index'
same_calls kinds s w i = rw (w, i)

pub trayed : (kinds : List Kind) → Trayed kinds (tray_into kinds)
unfolding window_at
trayed kinds =
    record {
      in_order = λ n samples s indices memory e k h. result_is kinds n samples s indices memory e k h;
      laid = λ windows n each k h. row_at 2310 windows n k each h;
      alone = λ n n' samples samples' s indices indices' memory memory' e e' k h h' w i.
          (result_is kinds n samples s indices memory e k h ∙ same_calls kinds s w i ∙ sym (result_is kinds n' samples' s indices' memory' e' k h'));
      refused = λ n samples s indices memory h. not_taken kinds n samples s indices memory h;
      few = λ n samples s indices memory e. few kinds n samples s indices memory e;
    }

-- THE TRAY FOR LONG MESSAGES, AND THAT FOR BOTH SEARCHES of each window
pub tray_long : Trayed (kinds_of false) (tray_into (kinds_of false))
tray_long = trayed (kinds_of false)

pub tray_both : Trayed (kinds_of true) (tray_into (kinds_of true))
tray_both = trayed (kinds_of true)
