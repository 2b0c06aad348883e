-- Laws of the hash that only lets through.
--     owner_law               its rule, by one computed test over both tables
--     slotted_by, slotted     a hash of so many bits has a slot for each remainder
--     slot_small              and its number has 16 bits
--     lets_gone, asks_same    what is not let through no such number of positions of 14 bytes or fewer clears, and 2^24 is asked in its place
--     let_bit, let_places     the two remainders of a place
-- Assumes nothing.
use Rattle.std.proofs.Common.{◌≡◌, ℕ, zero, suc, ◌+◌, ◌-◌, ◌*◌, ◌/◌, ◌%◌, ◌^◌, ◌<◌, ◌≤◌, Bool, true, false, cond, ◌||◌, T, eqb, ltb, leb, List, length, get_or, sym, refl, ap, ◌∙◌, subst, lt_trans, le_refl, lt_of_lt_of_le, lt_of_le_of_lt, arith, eqb→eq, ltb→lt, leb→le, pow_pos, eqb-true}
use borrow.Author.Tests.{eqb-false}
use lib.Bits.{bit_xor, bit_and, xor_lt, and_mask, and_le_r}
use Rattle.lists.specs.Bits.{as_bit}
use Rattle.lists.proofs.Test.{or_none, both, both_left, both_right, all_below, below, every, at}
use Rattle.lists.proofs.Tree.{Tree, grow}
use Rattle.annex10.specs.declared.Repairs.{Repairs}
use Rattle.annex10.specs.declared.Repairs.TheVariants.{None, One, Two}
use Rattle.annex10.specs.declared.Found.TheVariants.{Nothing}
use Rattle.annex10.specs.Repair.{Proper, count, pattern, clearing}
use Rattle.annex10.specs.Codes.{code_of}
use Rattle.annex10.proofs.Repairing.{not_found}
use Rattle.annex10.proofs.Singles.{singles, S, single_is, two_is}
use Rattle.annex10.proofs.UpTo.{up_to_none, none_not_zero, gone_high}
use Rattle.repairs.specs.Codes.{code_up_to}
use Rattle.sieve.specs.declared.hash.Shape.{Shape}
use Rattle.scan.specs.Sieve.{lane_of}
use Rattle.scan.proofs.Keeping.{lane_is}
use Rattle.sieve.specs.Repairable.{repairable_at}
use Rattle.sieve.specs.Hash.{slot_of, lets, asks}
use Rattle.sieve.specs.Inner.{let_in, Shaped, Slotted, Owners}
use Rattle.sieve.proofs.Placed.{placed, read, stands, read_is}
use Rattle.sieve.proofs.Clears.{rep_none, fewer_gone}

-- ---- the test: of a remainder the lowest k bits choose the displacement, b bits from the lowest n on are the slot's, and the low l name the
-- owner; ss are the remainders of the single positions

unfoldable pub below_n : ℕ → ℕ → ℕ → Bool
below_n n i x = ltb x n

unfoldable pub owns : ℕ → ℕ → ℕ → ℕ → Tree → Tree → ℕ → Bool
owns n k b l ds os r =
    let z = bit_xor (r / 2 ^ n % 2 ^ b) (read ds (r % 2 ^ k)) in
    both (stands ds (r % 2 ^ k)) (both (stands os z) (eqb (read os z % 2 ^ l) (r % 2 ^ l)))

unfoldable pub single_owns : ℕ → ℕ → ℕ → ℕ → List ℕ → Tree → Tree → ℕ → Bool
single_owns n k b l ss ds os j = owns n k b l ds os (get_or ss j 0)

unfoldable pub pair_owns : ℕ → ℕ → ℕ → ℕ → List ℕ → Tree → Tree → ℕ → ℕ → Bool
pair_owns n k b l ss ds os i j = owns n k b l ds os (bit_xor (get_or ss j 0) (get_or ss i 0))

unfoldable pub pairs_own : ℕ → ℕ → ℕ → ℕ → List ℕ → Tree → Tree → ℕ → Bool
pairs_own n k b l ss ds os i = all_below i (pair_owns n k b l ss ds os i)

-- pairs from level 2 on
abbrev pub unless : Bool → Bool → Bool
unless true b = true
unless false b = b

unfoldable pub all_own : ℕ → ℕ → ℕ → ℕ → ℕ → List ℕ → Tree → Tree → Bool
all_own level n k b l ss ds os = both (all_below 112 (single_owns n k b l ss ds os)) (unless (leb level 1) (all_below 112 (pairs_own n k b l ss ds os)))

unfoldable pub sizes : ℕ → ℕ → ℕ → List ℕ → List ℕ → Bool
sizes n k b d o =
    both (ltb n 32) (both (leb 256 (2 ^ b)) (both (leb (2 ^ b) 65536) (both (eqb (length d) (2 ^ k)) (eqb (length o) (2 ^ b)))))

unfoldable pub owner_rule : ℕ → ℕ → ℕ → ℕ → ℕ → List ℕ → List ℕ → List ℕ → Bool
owner_rule level n k b l ss d o =
    both (sizes n k b d o)
    (both (every (below_n 256) 0 d)
    (both (every (below_n 65536) 0 o)
    (all_own level n k b l ss (grow 12 (placed 0 d)).0 (grow 14 (placed 0 o)).0)))

-- ---- what it shows

abbrev pub shape_of : ℕ → ℕ → ℕ → ℕ → Shape
shape_of n k b l = record { index = 2 ^ k - 1; shift = n; slots = 2 ^ b - 1; low = 2 ^ l - 1 }

unless_not : (a b : Bool) → (T a → ⊥) → T (unless a b) → T b
unless_not true b h t = absurd (h tt)
unless_not false b h t = t

two_above : (level : ℕ) → 2 ≤ level → level ≤ 1 → ⊥
two_above level h l = omega arith

module _ (level n k b l : ℕ) (d o : List ℕ) where
  ds : Tree
  ds = (grow 12 (placed 0 d)).0

  os : Tree
  os = (grow 14 (placed 0 o)).0

  slot_is : (r : ℕ) → slot_of (shape_of n k b l) d r ≡ bit_xor (r / 2 ^ n % 2 ^ b) (get_or d (r % 2 ^ k) 0)
  slot_is r = rw (and_mask (r / 2 ^ n) b, and_mask r k)

  module _ (small : (i : ℕ) → i < length d → get_or d i 0 < 256) (small16 : (z : ℕ) → z < length o → get_or o z 0 < 65536) where
    read_d : (i : ℕ) → T (stands ds i) → get_or d i 0 ≡ read ds i
    unfolding ds
    read_d i t = (read_is 12 d (λ j h. lt_trans (small j h) (omega arith)) i t).1

    read_o : (z : ℕ) → T (stands os z) → get_or o z 0 ≡ read os z
    unfolding os
    read_o z t = (read_is 14 o small16 z t).1

    owner_of : (r : ℕ) → T (owns n k b l ds os r) → bit_and (get_or o (slot_of (shape_of n k b l) d r) 0) (2 ^ l - 1) ≡ bit_and r (2 ^ l - 1)
    unfolding owns
    owner_of r t =
        let z = bit_xor (r / 2 ^ n % 2 ^ b) (read ds (r % 2 ^ k)) in
        let x = stands ds (r % 2 ^ k) in
        let y = stands os z in
        let w = eqb (read os z % 2 ^ l) (r % 2 ^ l) in
        let u = both_right x (both y w) t in
        rw (slot_is r, read_d (r % 2 ^ k) (both_left x (both y w) t), and_mask (get_or o z 0) l, and_mask r l, read_o z (both_left y w u))
        (eqb→eq (read os z % 2 ^ l) (r % 2 ^ l) (both_right y w u))

    all_there : T (all_own level n k b l singles ds os) → (ρ : Repairs) → Proper 14 ρ → 1 ≤ count ρ → count ρ ≤ level
        → bit_and (get_or o (slot_of (shape_of n k b l) d (pattern 14 ρ)) 0) (2 ^ l - 1) ≡ bit_and (pattern 14 ρ) (2 ^ l - 1)
    unfolding all_own single_owns pairs_own pair_owns S
    all_there t None h g m = absurd (omega arith)
    all_there t (One j) h g m =
        rw (single_is j h) (owner_of (get_or singles j 0) (below 112 (single_owns n k b l singles ds os) (both_left (all_below 112 (single_owns n k b l singles ds os)) _ t) j h))
    all_there t (Two j i) h g m =
        let u = both_right (all_below 112 (single_owns n k b l singles ds os)) (unless (leb level 1) (all_below 112 (pairs_own n k b l singles ds os))) t in
        let v = unless_not (leb level 1) (all_below 112 (pairs_own n k b l singles ds os)) (λ q. two_above level m (leb→le level 1 q)) u in
        rw (two_is j i h.0 h.1)
        (owner_of (bit_xor (get_or singles j 0) (get_or singles i 0))
        (below i (pair_owns n k b l singles ds os i) (below 112 (pairs_own n k b l singles ds os) v i h.1) j h.0))

record Sizes (n k b : ℕ) (d o : List ℕ) : Type 0 where
  shift : n < 32
  wide : 256 ≤ 2 ^ b
  room : 2 ^ b ≤ 65536
  few : length d ≡ 2 ^ k
  many : length o ≡ 2 ^ b

sized : (n k b : ℕ) (d o : List ℕ) → T (sizes n k b d o) → Sizes n k b d o
unfolding sizes
sized n k b d o t =
    let x = ltb n 32 in
    let y = leb 256 (2 ^ b) in
    let v = leb (2 ^ b) 65536 in
    let z = eqb (length d) (2 ^ k) in
    let w = eqb (length o) (2 ^ b) in
    let t1 = both_right x (both y (both v (both z w))) t in
    let t2 = both_right y (both v (both z w)) t1 in
    let t3 = both_right v (both z w) t2 in
    record {
      shift = ltb→lt n 32 (both_left x (both y (both v (both z w))) t);
      wide = leb→le 256 (2 ^ b) (both_left y (both v (both z w)) t1);
      room = leb→le (2 ^ b) 65536 (both_left v (both z w) t2);
      few = eqb→eq (length d) (2 ^ k) (both_left z w t3);
      many = eqb→eq (length o) (2 ^ b) (both_right z w t3);
    }

-- a hash of so many bits has a slot for each remainder
pub slotted_by : (s : Shape) (d o : List ℕ) (bits : ℕ) → s.shift < 32 → s.index < length d → s.slots < 2 ^ bits
    → ((i : ℕ) → i < length d → get_or d i 0 < 2 ^ bits) → 2 ^ bits ≤ length o → Slotted s d o
slotted_by s d o bits small few width near many =
    record {
      small = small;
      few = few;
      there = λ r.
          let i = bit_and r s.index in
          lt_of_lt_of_le
          (xor_lt bits (bit_and (r / 2 ^ s.shift) s.slots) (get_or d i 0) (lt_of_le_of_lt (and_le_r (r / 2 ^ s.shift) s.slots) width)
          (near i (lt_of_le_of_lt (and_le_r r s.index) few)))
          many;
    }

module _ (s : Shape) (d o : List ℕ) (w : Shaped s d o) where
  pub slotted : Slotted s d o
  slotted = slotted_by s d o w.bits w.small w.few w.width w.near w.many

  -- and its number has 16 bits
  pub slot_small : (r : ℕ) → slot_of s d r < 65536
  slot_small r =
      lt_of_lt_of_le
      (xor_lt w.bits (bit_and (r / 2 ^ s.shift) s.slots) (get_or d (bit_and r s.index) 0) (lt_of_le_of_lt (and_le_r (r / 2 ^ s.shift) s.slots) w.width)
      (w.near (bit_and r s.index) (lt_of_le_of_lt (and_le_r r s.index) w.few)))
      w.room

pub owner_law : (level n k b l : ℕ) (d o : List ℕ) → T (owner_rule level n k b l singles d o) → Owners level (shape_of n k b l) d o
unfolding owner_rule ds os below_n
owner_law level n k b l d o t =
    record {
      shaped =
          record {
            small = s.shift;
            few = omega (arith, s.few, pow_pos k);
            bits = b;
            width = omega (arith, pow_pos b);
            near = λ i h. lt_of_lt_of_le (small i h) s.wide;
            many = omega (arith, s.many);
            room = s.room;
          };
      there = all_there level n k b l d o small small16 (both_right y z t2);
    }
  where
    x : Bool
    x = every (below_n 256) 0 d

    y : Bool
    y = every (below_n 65536) 0 o

    z : Bool
    z = all_own level n k b l singles (ds level n k b l d o) (os level n k b l d o)

    s : Sizes n k b d o
    s = sized n k b d o (both_left (sizes n k b d o) (both x (both y z)) t)

    t1 : T (both x (both y z))
    t1 = both_right (sizes n k b d o) (both x (both y z)) t

    t2 : T (both y z)
    t2 = both_right x (both y z) t1

    small : (i : ℕ) → i < length d → get_or d i 0 < 256
    small i h = ltb→lt (get_or d i 0) 256 (at (below_n 256) d (both_left x (both y z) t1) i h)

    small16 : (i : ℕ) → i < length o → get_or o i 0 < 65536
    small16 i h = ltb→lt (get_or o i 0) 65536 (at (below_n 65536) o (both_left y z t2) i h)

-- ---- what it lets through

module _ (s : Shape) (d o : List ℕ) where
  -- what the slot of a remainder names
  abbrev owner : ℕ → ℕ
  owner r = bit_and (get_or o (slot_of s d r) 0) s.low

  pub let_bit : (crcs others : List ℕ) (m k : ℕ) {a b : Bool} {n : ℕ} → k < 8
      → a ≡ lets s d o (get_or crcs (8 * m + 4 * (k % 2) + k / 2) 0) → b ≡ lets s d o (get_or others (8 * m + 4 * (k % 2) + k / 2) 0)
      → n ≡ as_bit (a || b) → n ≡ as_bit (let_in s d o crcs others (8 * m + k))
  unfolding let_in
  let_bit crcs others m k h e g q =
      q ∙ rw (e, g) (ap (λ (x : ℕ). as_bit (lets s d o (get_or crcs x 0) || lets s d o (get_or others x 0))) (lane_is m k h))

  module _ (level : ℕ) (w : Owners level s d o) where
    lets_none : (r : ℕ) → lets s d o r ≡ false → (m : ℕ) → 1 ≤ m → m ≤ level → clearing 14 m r ≡ Nothing
    unfolding lets
    lets_none r f m a b =
        not_found 14 m r
        (λ ρ c. eqb-false (owner r) (bit_and r s.low) f
        (subst (λ (x : ℕ). owner x ≡ bit_and x s.low) c.fits
        (w.there ρ c.proper (omega (arith, c.many)) (omega (arith, c.many)))))

    module _ (n : ℕ) (few : n ≤ 14) where
      pub lets_gone : (r : ℕ) → lets s d o r ≡ false → (m : ℕ) → 1 ≤ m → m ≤ level → clearing n m r ≡ Nothing
      lets_gone r f m a b = fewer_gone n few m r (lets_none r f m a b)

      gone : (r : ℕ) → lets s d o r ≡ false → (r ≡ 0 → ⊥) → (m : ℕ) → m ≤ level → clearing n m r ≡ Nothing
      gone r f z zero h = none_not_zero n r z
      gone r f z (suc m) h = lets_gone r f (suc m) (omega arith) h

      pub asks_same : (r : ℕ) → code_up_to n level (asks s d o r) ≡ code_up_to n level r
      unfolding asks code_up_to
      asks_same r = go (lets s d o r) refl (eqb r 0) refl
        where
          go : (t : Bool) → lets s d o r ≡ t → (q : Bool) → eqb r 0 ≡ q → code_up_to n level (cond t r (cond q 0 (2 ^ 24))) ≡ code_up_to n level r
          go true e q g = refl
          go false e true g = ap (code_up_to n level) (sym (eqb-true r 0 g))
          go false e false g =
              ap code_of
              (up_to_none n (2 ^ 24) level (λ m h. gone_high n (2 ^ 24) (le_refl (2 ^ 24)) m)
              ∙ sym (up_to_none n r level (gone r e (eqb-false r 0 g))))

      pub let_places : (crcs others : List ℕ) (k : ℕ) → let_in s d o crcs others k ≡ false → repairable_at n level crcs others k ≡ false
      unfolding let_in repairable_at
      let_places crcs others k e =
          let x = get_or crcs (lane_of k) 0 in
          let y = get_or others (lane_of k) 0 in
          let (p, q) = or_none (lets s d o x) (lets s d o y) e in
          rw (rep_none n level x (lets_gone x p), rep_none n level y (lets_gone y q))
