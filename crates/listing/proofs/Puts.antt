-- Bytes put one after the other make a text.
-- Assumes nothing.
use mathlib.Core.Path.{◌≡◌, refl, sym, ap, ◌∙◌}
use mathlib.Core.List.{List, [], ◌∷◌, ◌++◌, foldl-append, append-nil}
use Prim.Native.Nat.{ℕ, suc, ◌+◌, ◌-◌, ◌≤◌, ◌<◌}
use native.Mathlib.Omega.{arith}
use borrow.Author.Tests.{lt-leb}
use native.Mathlib.Numerals.{add-one}
use lib.ListN.{length, take, get_or, replicate, set, length-append}
use lib.Seq.{set_at, append_snoc, take-suc}
use Rattle.listing.specs.declared.Text.{Text}
use Rattle.listing.specs.Lines.{text_of}
use Rattle.listing.specs.Inner.{put_of, puts}

-- so many bytes, and the next
pub puts_next : (t : Text) (bytes : List ℕ) (i : ℕ) → i < length bytes → puts t (take (i + 1) bytes) ≡ put_of (puts t (take i bytes)) (get_or bytes i 0)
unfolding puts
puts_next t bytes i h = rw (add-one, take-suc bytes i 0) (foldl-append put_of t (take i bytes) (get_or bytes i 0 ∷ []))

-- byte by byte, and part by part
pub puts_nil : (t : Text) → puts t [] ≡ t
unfolding puts
puts_nil t = refl

pub puts_cons : (t : Text) (b : ℕ) (bs : List ℕ) → puts t (b ∷ bs) ≡ puts (put_of t b) bs
unfolding puts
puts_cons t b bs = refl

pub puts_append : (t : Text) (xs ys : List ℕ) → puts t (xs ++ ys) ≡ puts (puts t xs) ys
unfolding puts
puts_append t xs ys = foldl-append put_of t xs ys

pub ruleset putting = (puts_nil, puts_cons, puts_append)

-- while there is room, a byte is put behind what stands there
put_more : (xs : List ℕ) (b : ℕ) → length xs < 256 → put_of (text_of xs) b ≡ text_of (xs ++ (b ∷ []))
unfolding put_of text_of
put_more xs b h =
    rw (lt-leb 256 (length xs) h) (room (256 - length xs) (256 - length (xs ++ (b ∷ []))) (simp length-append (omega arith)))
  where
    stored : (m n : ℕ) → m ≡ suc n → set (xs ++ replicate m 0) (length xs) b ≡ (xs ++ (b ∷ [])) ++ replicate n 0
    stored m n e =
        ap (λ (k : ℕ). set (xs ++ replicate k 0) (length xs) b) e
        ∙ set_at xs 0 (replicate n 0) b (length xs) refl
        ∙ sym (append_snoc xs b (replicate n 0))

    room : (m n : ℕ) → m ≡ suc n
        → ◌≡◌ {A = Text} (record { length = length xs + 1; bytes = set (xs ++ replicate m 0) (length xs) b })
        (record { length = length (xs ++ (b ∷ [])); bytes = (xs ++ (b ∷ [])) ++ replicate n 0 })
    room m n e = rw (stored m n e, length-append xs (b ∷ []))

puts_text : (xs ys : List ℕ) → length xs + length ys ≤ 256 → puts (text_of xs) ys ≡ text_of (xs ++ ys)
unfolding puts
puts_text xs [] h = ap text_of (sym (append-nil xs))
puts_text xs (y ∷ ys) h =
    ap (λ (t : Text). puts t ys) (put_more xs y (omega arith))
    ∙ puts_text (xs ++ (y ∷ [])) ys (simp length-append (omega arith))
    ∙ ap text_of (append_snoc xs y ys)

-- put on an empty text, a line for which there is room is the text
pub finished : (bytes : List ℕ) {r : Text} → length bytes ≤ 256 → r ≡ puts (text_of []) bytes → r ≡ text_of bytes
finished bytes h q = q ∙ puts_text [] bytes (omega arith)
