-- The places that are searched, as a list and by their number.
--     counted        the list is number 0, number 1, ..
--     listed_member, member_listed    a place is in it exactly when its numbers are in range
--     last_bit_is    the last bit offset of a kind, from its bytes
-- Assumes nothing.
use mathlib.Core.Path.{◌≡◌, refl, sym, ap, ap₂, ◌∙◌, subst}
use mathlib.Core.Bool.{true}
use mathlib.Core.List.{List, [], ◌∷◌, ◌++◌, flat_map, Memᴰ}
use Prim.Native.Nat.{ℕ, zero, suc, ◌+◌, ◌-◌, ◌*◌, ◌/◌, ◌%◌, ◌<◌, ◌≤◌}
use native.Mathlib.Omega.{arith}
use Rattle.lists.specs.From.{from, tabulate}
use Rattle.lists.proofs.Members.{from_append, member_of, number_of}
use Rattle.annex10.specs.declared.MessageKind.{MessageKind}
use Rattle.annex10.specs.declared.MessageKind.TheVariants.{Short, Long}
use Rattle.annex10.specs.Length.{message_bytes}
use Rattle.place.specs.declared.Place.{Place}
use Rattle.place.specs.All.{last_bit, listed, up, all_places, place_at}
use Rattle.place.proofs.Within.{listed_gives, listed_is}

abbrev at : ℕ → ℕ → ℕ → Place
at b k y = record { bit = b; phase = k; symbol = y }

-- number n, by its three numbers
at_number : (n b k y : ℕ) → n + 8 ≡ 8 * b + 2 * k + y → k ≤ 3 → y ≤ 1 → place_at n ≡ at b k y
unfolding place_at
at_number n b k y e hk hy =
    let f : 1 + n / 8 ≡ b = omega arith in
    let i : n / 2 ≡ 4 * (b - 1) + k = omega arith in
    let g : n / 2 % 4 ≡ k = omega arith in
    let h : n % 2 ≡ y = omega arith in
    rw (f, g, h)

-- its number in the list
pub rank_of : Place → ℕ
rank_of p = 8 * (p.bit - 1) + 2 * p.phase + p.symbol

pub rank_is : (p : Place) → 1 ≤ p.bit → p.phase ≤ 3 → p.symbol ≤ 1 → place_at (rank_of p) ≡ p
unfolding rank_of
rank_is p hb hk hy = at_number (8 * (p.bit - 1) + 2 * p.phase + p.symbol) p.bit p.phase p.symbol (omega arith) hk hy

-- the eight places of a bit offset
abbrev eight : ℕ → List Place
eight bit = flat_map (λ phase. flat_map (λ symbol. at bit phase symbol ∷ []) (up 0 2)) (up 0 4)

from_eight : (j : ℕ) → from place_at (8 * j) 8 ≡ eight (suc j)
unfolding from flat_map
from_eight j =
    rw (
      at_number (8 * j) (suc j) 0 0 (omega arith) (omega arith) (omega arith),
      at_number (suc (8 * j)) (suc j) 0 1 (omega arith) (omega arith) (omega arith),
      at_number (suc (suc (8 * j))) (suc j) 1 0 (omega arith) (omega arith) (omega arith),
      at_number (suc (suc (suc (8 * j)))) (suc j) 1 1 (omega arith) (omega arith) (omega arith),
      at_number (suc (suc (suc (suc (8 * j))))) (suc j) 2 0 (omega arith) (omega arith) (omega arith),
      at_number (suc (suc (suc (suc (suc (8 * j)))))) (suc j) 2 1 (omega arith) (omega arith) (omega arith),
      at_number (suc (suc (suc (suc (suc (suc (8 * j))))))) (suc j) 3 0 (omega arith) (omega arith) (omega arith),
      at_number (suc (suc (suc (suc (suc (suc (suc (8 * j)))))))) (suc j) 3 1 (omega arith) (omega arith) (omega arith),
    )

counted_from : (m j : ℕ) → from place_at (8 * j) (8 * m) ≡ flat_map eight (up (suc j) m)
unfolding from flat_map
counted_from zero j = refl
counted_from (suc m) j =
    let a : 8 * suc m ≡ 8 + 8 * m = omega arith in
    let b : 8 * j + 8 ≡ 8 * suc j = omega arith in
    ap (λ (n : ℕ). from place_at (8 * j) n) a
    ∙ from_append place_at (8 * j) 8 (8 * m)
    ∙ ap₂ ◌++◌ (from_eight j) (ap (λ (n : ℕ). from place_at n (8 * m)) b ∙ counted_from m (suc j))

pub counted : (m : ℕ) → tabulate (8 * m) place_at ≡ all_places m
unfolding tabulate all_places
counted m = counted_from m 0

-- every number below 8 * m is of a place in range
pub listed_at : (m k : ℕ) → k < 8 * m → listed m (place_at k) ≡ true
unfolding place_at
listed_at m k h = listed_is m (place_at k) (record { from = omega arith; to = omega arith; phase = omega arith; symbol = omega arith })

pub listed_member : (m : ℕ) (p : Place) → listed m p ≡ true → Memᴰ p (all_places m)
unfolding rank_of
listed_member m p e =
    let l = listed_gives m p e in
    let h : rank_of p < 8 * m = omega arith in
    subst (λ (q : Place). Memᴰ q (all_places m)) (rank_is p l.from l.phase l.symbol)
    (subst (λ (ps : List Place). Memᴰ (place_at (rank_of p)) ps) (counted m) (member_of place_at (8 * m) (rank_of p) h))

pub member_listed : (m : ℕ) (p : Place) → Memᴰ p (all_places m) → listed m p ≡ true
member_listed m p h =
    let c = number_of place_at (8 * m) p (subst (λ (ps : List Place). Memᴰ p ps) (sym (counted m)) h) in
    ap (listed m) (sym c.is) ∙ listed_at m c.number c.below

-- a bit less than the last one from which a message ends within the window
pub last_bit_is : (kind : MessageKind) → last_bit kind ≡ 143 - 8 * message_bytes kind
last_bit_is Short = refl
last_bit_is Long = refl
