-- Digits one after the other.
-- Assumes nothing.
use mathlib.Core.Path.{◌≡◌, refl, sym, ap, ◌∙◌}
use mathlib.Core.Bool.{cond}
use mathlib.Core.List.{List, [], ◌∷◌, ◌++◌}
use Prim.Native.Nat.{ℕ, zero, suc, ◌+◌, ◌/◌, ◌%◌, ◌^◌, ◌≤◌, ◌<◌}
use native.Mathlib.Nat.{pow-succ'}
use native.Mathlib.Numerals.{add-one}
use native.Mathlib.Omega.{arith}
use borrow.Author.Tests.{lt-ltb, le-ltb}
use lib.Dec.{ltb}
use lib.ListN.{length, get_or, take, drop}
use lib.Seq.{drop-cons, take-suc}
use mir.Syntax.{w32}
use Rattle.std.specs.Int.{to_be_bytes}
use Rattle.mode_s.specs.Avr.{hex_digit, hex_text}
use Rattle.listing.specs.declared.Text.{Text}
use Rattle.listing.specs.Fields.{decimal_in, decimal, hex_word, address_digits}
use Rattle.listing.specs.Inner.{put_of, puts}
use Rattle.listing.proofs.Puts.{puts_nil, puts_cons, puts_append}

-- a byte is two digits
pub hex_one : (t : Text) (b : ℕ) {u r : Text} {d e : ℕ} → d ≡ hex_digit (b / 16) → u ≡ put_of t d → e ≡ hex_digit (b % 16) → r ≡ put_of u e → r ≡ puts t (hex_text (b ∷ []))
unfolding puts hex_text
hex_one t b p q r s = s ∙ rw (q, p, r)

hex_append : (xs ys : List ℕ) → hex_text (xs ++ ys) ≡ hex_text xs ++ hex_text ys
unfolding hex_text
hex_append [] ys = refl
hex_append (x ∷ xs) ys = rw (hex_append xs ys)

-- the digits of so many bytes, and those of the next
pub hex_next : (t : Text) (bytes : List ℕ) (i : ℕ) → i < length bytes
    → puts t (hex_text (take (i + 1) bytes)) ≡ puts (puts t (hex_text (take i bytes))) (hex_text (get_or bytes i 0 ∷ []))
hex_next t bytes i h =
    rw (add-one i, take-suc bytes i 0 h, hex_append (take i bytes) (get_or bytes i 0 ∷ [])) (puts_append t _ _)

-- the bytes of a number of 32 bits, the highest first
pub word_bytes : (n : ℕ) → n < 2 ^ 32 → hex_text (to_be_bytes w32 n) ≡ hex_word n
unfolding hex_word
word_bytes n h = ap (λ (b : ℕ). hex_text (b ∷ n / 2 ^ 16 % 256 ∷ n / 2 ^ 8 % 256 ∷ n % 256 ∷ [])) (omega arith)

-- bytes 1 to 3
pub three_bytes : (m : List ℕ) → 4 ≤ length m → hex_text (take 3 (drop 1 m)) ≡ address_digits m
unfolding address_digits
three_bytes m h =
    let a : 1 < length m = omega arith in
    let b : 2 < length m = omega arith in
    let c : 3 < length m = omega arith in
    rw (drop-cons m 1 0 a, drop-cons m 2 0 b, drop-cons m 3 0 c)

-- more places than a number needs change nothing
decimal_places : (k n : ℕ) → n < 10 ^ suc k → decimal_in (suc (suc k)) n ≡ decimal_in (suc k) n
unfolding decimal_in
decimal_places zero n h = rw (lt-ltb n 10 h)
decimal_places (suc k) n h =
    let e = decimal_places k (n / 10) (omega (arith, pow-succ' 10 (suc k))) in
    ap (λ (l : List ℕ). cond (ltb n 10) ((48 + n) ∷ []) (l ++ ((48 + n % 10) ∷ []))) e

pub decimal_small : (n : ℕ) → n < 10 → decimal n ≡ (48 + n) ∷ []
unfolding decimal decimal_in
decimal_small n h = rw (lt-ltb n 10 h)

pub decimal_more : (n : ℕ) → 10 ≤ n → n < 2 ^ 64 → decimal n ≡ decimal (n / 10) ++ ((48 + n % 10) ∷ [])
unfolding decimal decimal_in
decimal_more n h k =
    rw (le-ltb n 10 h) (ap (λ (l : List ℕ). l ++ ((48 + n % 10) ∷ [])) (sym (decimal_places 18 (n / 10) (omega arith))))

-- a number of one digit
pub put_small : (t : Text) (n : ℕ) → n < 10 → puts t (decimal n) ≡ put_of t (48 + n % 10)
put_small t n h =
    let e : n % 10 ≡ n = omega arith in
    rw (decimal_small n h, puts_cons, puts_nil, e)

-- the digits before the last, and the last
pub put_more : (t : Text) (n : ℕ) → 10 ≤ n → n < 2 ^ 64 → puts t (decimal n) ≡ put_of (puts t (decimal (n / 10))) (48 + n % 10)
put_more t n h k = rw (decimal_more n h k, puts_append, puts_cons, puts_nil)
