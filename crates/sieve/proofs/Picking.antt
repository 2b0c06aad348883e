-- What is told and kept of the places that were let through.
--     sifted                  what a hash of some level gives
--     told_front, told_by     the codes of the first n, from those of a part
--     Kept, kept_taken, kept_left, kept_all   the loop that keeps
--     through_within          the places that were let through are below their bound
--     all_kept, none_kept     what is kept are the places that so many repairs can clear
--     level_zero, into_done   the answer
--     most_few                the most repairs of a kind are at most two
--     told_done, named_done   what is told where nothing is refused: of many, of one
--     code_zero               the code of 0
-- Assumes nothing.
use Rattle.std.proofs.Common.{◌≡◌, ℕ, zero, suc, ◌+◌, ◌*◌, ◌<◌, ◌≤◌, min, Bool, true, false, cond, List, [], ◌∷◌, ◌++◌, length, get_or, take, set, sym, refl, ap, ◌∙◌, subst, ap₂, add-one, arith, length-append, length-set, length-take-le, get_or-take, take-suc, take_at, eq-eqb, le-leb}
use lib.Seq.{append_snoc}
use Rattle.lists.specs.Told.{Told, done}
use Rattle.lists.proofs.Table.{length_tabulate, get_d_tabulate}
use Rattle.annex10.specs.declared.MessageKind.{MessageKind}
use Rattle.annex10.specs.declared.MessageKind.TheVariants.{Short, Long}
use Rattle.annex10.specs.Length.{message_bytes, most_repairs}
use Rattle.annex10.proofs.Length.{kind_small}
use Rattle.annex10.proofs.UpTo.{up_to_zero}
use Rattle.repairs.specs.Codes.{code_up_to, codes_up_to, codes_up_to_into}
use Rattle.scan.specs.Sieve.{kept, lane_of, onto}
use Rattle.scan.proofs.Keeping.{kept_none, below}
use Rattle.sieve.specs.declared.hash.Shape.{Shape}
use Rattle.sieve.specs.Repairable.{repairable, repairable_at, repairable_places, code_pairs, repairable_in, repairable_into}
use Rattle.sieve.specs.Inner.{let_in, Owners, Within, Gathered, Sifted, taken, picked, picked_codes, kept_in}
use Rattle.sieve.proofs.Clears.{coded, apart}
use Rattle.sieve.proofs.Listing.{among, among_snoc, among_kept, onto_none, onto_more}
use Rattle.sieve.proofs.Owning.{asks_same, let_places}

-- ---- told

pub part_length : (n : ℕ) (xs : List ℕ) → n ≤ length xs → n ≡ length (take n xs)
part_length n xs h = sym (length-take-le n xs h)

-- told at the front of a longer list
pub told_front : (bytes level n : ℕ) (asked t rest : List ℕ) → n ≤ length asked → t ≡ codes_up_to bytes level (take n asked)
    → take n (t ++ rest) ≡ codes_up_to bytes level (take n asked)
unfolding codes_up_to
told_front bytes level n asked t rest h q =
    take_at t rest n (ap length q ∙ length_tabulate (length (take n asked)) _ ∙ sym (part_length n asked h)) ∙ q

-- the codes that are told for the first n places
pub record ToldOf (bytes level : ℕ) (crcs others through told : List ℕ) (n : ℕ) : Type 0 where
  pub first : (m : ℕ) → m < n → get_or told (2 * m) 0 ≡ code_up_to bytes level (get_or crcs (lane_of (get_or through m 0)) 0)
  pub second : (m : ℕ) → m < n → get_or told (2 * m + 1) 0 ≡ code_up_to bytes level (get_or others (lane_of (get_or through m 0)) 0)

code_at : (bytes level n : ℕ) (asked told : List ℕ) → n ≤ length asked → take n told ≡ codes_up_to bytes level (take n asked) → (i : ℕ) → i < n
    → get_or told i 0 ≡ code_up_to bytes level (get_or asked i 0)
unfolding codes_up_to
code_at bytes level n asked told h e i l =
    sym (get_or-take n told i 0 l)
    ∙ ap (λ (xs : List ℕ). get_or xs i 0) e
    ∙ get_d_tabulate (length (take n asked)) (λ (k : ℕ). code_up_to bytes level (get_or (take n asked) k 0)) i 0 (rw (length-take-le n asked h) l)
    ∙ ap (code_up_to bytes level) (get_or-take n asked i 0 l)

pub sifted : (level many : ℕ) (s : Shape) (d o crcs others through asked : List ℕ) (n : ℕ) → Owners level s d o → n ≤ many → length through ≡ many
    → take n through ≡ kept (let_in s d o crcs others) many → Gathered many s d o crcs others through asked n
    → Sifted level many crcs others through asked n
sifted level many s d o crcs others through asked n w h e q g =
    record {
      few = h;
      size = e;
      sizes = g.size;
      test = let_in s d o crcs others;
      places = q;
      none = λ bytes k b. let_places s d o level w bytes b crcs others k;
      first = λ bytes m b l. ap (code_up_to bytes level) (g.first m l) ∙ asks_same s d o level w bytes b (get_or crcs (lane_of (get_or through m 0)) 0);
      second = λ bytes m b l. ap (code_up_to bytes level) (g.second m l) ∙ asks_same s d o level w bytes b (get_or others (lane_of (get_or through m 0)) 0);
    }

pub told_by : (bytes level many : ℕ) (crcs others through asked told : List ℕ) (n : ℕ) → bytes ≤ 14 → Sifted level many crcs others through asked n
    → take (2 * n) told ≡ codes_up_to bytes level (take (2 * n) asked) → ToldOf bytes level crcs others through told n
told_by bytes level many crcs others through asked told n b g e =
    record {
      first = λ m l. at (2 * m) (omega arith) ∙ g.first bytes m b l;
      second = λ m l. at (2 * m + 1) (omega arith) ∙ g.second bytes m b l;
    }
  where
    at : (i : ℕ) → i < 2 * n → get_or told i 0 ≡ code_up_to bytes level (get_or asked i 0)
    at i l = code_at bytes level (2 * n) asked told (omega (arith, g.sizes, g.few)) e i l

-- ---- kept

pub record Kept (through told list₀ codes₀ : List ℕ) (m n : ℕ) (list codes : List ℕ) : Type 0 where
  pub number : n ≡ length (picked through told m)
  pub twice : length (picked_codes told m) ≡ 2 * n
  pub few : n ≤ m
  pub size : length list ≡ length list₀
  pub sizes : length codes ≡ length codes₀
  pub places : list ≡ onto (picked through told m) list₀
  pub pairs : codes ≡ onto (picked_codes told m) codes₀

module _ (through told list₀ codes₀ : List ℕ) where
  pub kept_start : Kept through told list₀ codes₀ 0 0 list₀ codes₀
  unfolding picked picked_codes
  kept_start =
      record { number = refl; twice = refl; few = omega arith; size = refl; sizes = refl; places = onto_none list₀; pairs = onto_none codes₀ }

  pub kept_taken : (m n : ℕ) (list codes : List ℕ) → m < length list₀ → 2 * m + 1 < length codes₀ → taken told m ≡ true
      → Kept through told list₀ codes₀ m n list codes
      → Kept through told list₀ codes₀ (m + 1) (n + 1) (set list n (get_or through m 0))
      (set (set codes (2 * n) (get_or told (2 * m) 0)) (2 * n + 1) (get_or told (2 * m + 1) 0))
  unfolding picked picked_codes
  kept_taken m n list codes h g t k =
      let a = get_or told (2 * m) 0 in
      let b = get_or told (2 * m + 1) 0 in
      let v = get_or through m 0 in
      let ps = picked through told m in
      let cs = picked_codes told m in
      let lc : length (cs ++ (a ∷ [])) ≡ 2 * n + 1 = length-append cs (a ∷ []) ∙ rw k.twice in
      record {
        number = rw (add-one m, t) (rw (length-append ps (v ∷ [])) (omega (arith, k.number)));
        twice = rw (add-one m, t) (rw (length-append cs (a ∷ b ∷ [])) (omega (arith, k.twice)));
        few = omega (arith, k.few);
        size = length-set list n v ∙ k.size;
        sizes = length-set (set codes (2 * n) a) (2 * n + 1) b ∙ length-set codes (2 * n) a ∙ k.sizes;
        places = rw (add-one m, t, k.places) (onto_more ps list₀ v n (sym k.number) (omega (arith, k.few)));
        pairs =
            rw (add-one m, t, k.pairs)
            (ap (λ (l : List ℕ). set l (2 * n + 1) b) (onto_more cs codes₀ a (2 * n) k.twice (omega (arith, k.few)))
            ∙ onto_more (cs ++ (a ∷ [])) codes₀ b (2 * n + 1) lc (omega (arith, k.few))
            ∙ ap (λ (l : List ℕ). onto l codes₀) (append_snoc cs a (b ∷ [])));
      }

  pub kept_left : (m n : ℕ) (list codes : List ℕ) → taken told m ≡ false
      → Kept through told list₀ codes₀ m n list codes → Kept through told list₀ codes₀ (m + 1) n list codes
  unfolding picked picked_codes
  kept_left m n list codes t k =
      record {
        number = rw (add-one m, t) k.number;
        twice = rw (add-one m, t) k.twice;
        few = omega (arith, k.few);
        size = k.size;
        sizes = k.sizes;
        places = rw (add-one m, t) k.places;
        pairs = rw (add-one m, t) k.pairs;
      }

  pub kept_as : (m : ℕ) {n y : ℕ} {list ls codes cs : List ℕ} → ls ≡ list → cs ≡ codes → y ≡ n
      → Kept through told list₀ codes₀ m n list codes → Kept through told list₀ codes₀ m y ls cs
  kept_as m e g q k = rw (e, g, q) k

  pub kept_all : (m n count : ℕ) (list codes : List ℕ) → m ≡ count → Kept through told list₀ codes₀ m n list codes
      → (n, list, codes) ≡ kept_in through told count list₀ codes₀
  unfolding kept_in
  kept_all m n count list codes e k = rw (← e) (rw (k.number, k.places, k.pairs))

-- ---- what is kept

pub through_within : (f : ℕ → Bool) (many : ℕ) (through : List ℕ) (n : ℕ) → length through ≡ many → n ≤ many → take n through ≡ kept f many
    → Within many through n
through_within f many through n e h q =
    record {
      each = λ m l.
          let z : length (kept f many) ≡ n = sym (ap length q) ∙ length-take-le n through (omega arith) in
          subst (λ (x : ℕ). x < many) (sym (ap (λ (xs : List ℕ). get_or xs m 0) q) ∙ get_or-take n through m 0 l) ((below f many).low m (omega (arith, z)));
    }

abbrev answered : ℕ × List ℕ × List ℕ → Told ℕ × List ℕ × List ℕ
answered z = (done z.0, z.1, z.2)

module _ (bytes : ℕ) (b : bytes ≤ 14) (level : ℕ) (crcs others : List ℕ) where
  abbrev test : ℕ → Bool
  test = repairable_at bytes level crcs others

  taken_is : (through told : List ℕ) (n : ℕ) → ToldOf bytes level crcs others through told n → (m : ℕ) → m < n → taken told m ≡ test (get_or through m 0)
  unfolding taken repairable_at
  taken_is through told n w m h =
      rw (w.first m h, w.second m h, coded bytes b level (get_or crcs (lane_of (get_or through m 0)) 0), coded bytes b level (get_or others (lane_of (get_or through m 0)) 0))

  pairs_snoc : (ks : List ℕ) (k : ℕ) → code_pairs bytes level crcs others (ks ++ (k ∷ []))
      ≡ code_pairs bytes level crcs others ks ++ (code_up_to bytes level (get_or crcs (lane_of k) 0) ∷ code_up_to bytes level (get_or others (lane_of k) 0) ∷ [])
  unfolding code_pairs
  pairs_snoc [] k = refl
  pairs_snoc (x ∷ ks) k = rw (pairs_snoc ks k)

  module _ (through told : List ℕ) (n : ℕ) (w : ToldOf bytes level crcs others through told n) (l : n ≤ length through) where
    picked_is : (m : ℕ) → m ≤ n → picked through told m ≡ among test (take m through)
    unfolding picked among
    picked_is zero h = refl
    picked_is (suc m) h =
        rw (picked_is m (omega arith), taken_is through told n w m (omega arith), take-suc through m 0 (omega arith))
        (sym (among_snoc test (take m through) (get_or through m 0)))

    codes_are : (m : ℕ) → m ≤ n → picked_codes told m ≡ code_pairs bytes level crcs others (among test (take m through))
    unfolding picked_codes among code_pairs
    codes_are zero h = refl
    codes_are (suc m) h =
        let k = get_or through m 0 in
        let ks = among test (take m through) in
        rw (codes_are m (omega arith), taken_is through told n w m (omega arith), take-suc through m 0 (omega arith), w.first m (omega arith), w.second m (omega arith))
        (step (test k) ∙ ap (code_pairs bytes level crcs others) (sym (among_snoc test (take m through) k)))
      where
        step : (t : Bool)
            → cond t (code_pairs bytes level crcs others (among test (take m through)) ++ (code_up_to bytes level (get_or crcs (lane_of (get_or through m 0)) 0) ∷ code_up_to bytes level (get_or others (lane_of (get_or through m 0)) 0) ∷ [])) (code_pairs bytes level crcs others (among test (take m through)))
            ≡ code_pairs bytes level crcs others (cond t (among test (take m through) ++ (get_or through m 0 ∷ [])) (among test (take m through)))
        step true = sym (pairs_snoc (among test (take m through)) (get_or through m 0))
        step false = refl

  module _ (many : ℕ) (through asked : List ℕ) (n : ℕ) (w : Sifted level many crcs others through asked n) where
    places_are : (ks : List ℕ) → ks ≡ kept w.test many → among test ks ≡ repairable_places bytes level many crcs others
    unfolding repairable_places
    places_are ks e = rw e (among_kept w.test test (λ k q. w.none bytes k b q) many)

    pub all_kept : (told list codes : List ℕ) (x : ℕ) (ls cs : List ℕ) → ToldOf bytes level crcs others through told n
        → (x, ls, cs) ≡ kept_in through told n list codes
        → (done x, ls, cs) ≡ repairable_in bytes level many crcs others list codes
    unfolding kept_in repairable_in
    all_kept told list codes x ls cs t q =
        let l : n ≤ length through = omega (arith, w.few, w.size) in
        let p = picked_is through told n t l n (omega arith) ∙ places_are (take n through) w.places in
        let c = codes_are through told n t l n (omega arith) ∙ ap (code_pairs bytes level crcs others) (places_are (take n through) w.places) in
        ap answered q ∙ rw (p, c)

    pub none_kept : (list codes : List ℕ) → n ≡ 0 → (done 0, list, codes) ≡ repairable_in bytes level many crcs others list codes
    unfolding repairable_in code_pairs among
    none_kept list codes z =
        let p : [] ≡ repairable_places bytes level many crcs others = places_are [] (rw z at w.places) in
        rw (← p) (ap₂ (λ (a b : List ℕ). answered (0, a, b)) (onto_none list) (onto_none codes))

-- ---- the answer

pub level_zero : (bytes many : ℕ) (crcs others list codes : List ℕ)
    → (done 0, list, codes) ≡ repairable_in bytes 0 many crcs others list codes
unfolding repairable_in repairable_places code_pairs repairable_at repairable
level_zero bytes many crcs others list codes =
    let p : [] ≡ kept (repairable_at bytes 0 crcs others) many = sym (kept_none (repairable_at bytes 0 crcs others) many (λ k l. none k)) in
    rw (← p) (ap₂ (λ (a b : List ℕ). answered (0, a, b)) (onto_none list) (onto_none codes))
  where
    none : (k : ℕ) → repairable_at bytes 0 crcs others k ≡ false
    none k = refl

-- the answer where nothing is refused
pub into_done : (bytes most many level n : ℕ) (crcs others list codes : List ℕ) (x : Told ℕ) (ls cs : List ℕ)
    → length crcs ≡ many → length others ≡ many → length list ≡ many → length codes ≡ 2 * many → level ≤ 2 → n ≡ min level most
    → (x, ls, cs) ≡ repairable_in bytes n many crcs others list codes → (x, ls, cs) ≡ repairable_into bytes most many level crcs others list codes
unfolding repairable_into
into_done bytes most many level n crcs others list codes x ls cs a b c d h e q =
    q ∙ rw (eq-eqb _ _ a, eq-eqb _ _ b, eq-eqb _ _ c, eq-eqb _ _ d, le-leb level 2 h, e)

-- ---- what is told

pub most_few : (kind : MessageKind) → most_repairs kind ≤ 2
most_few Short = omega arith
most_few Long = omega arith

-- what the sorted tables tell where they refuse nothing
pub told_done : (kind : MessageKind) (level r : ℕ) (crcs codes t : List ℕ) → level ≤ most_repairs kind → length codes ≡ length crcs
    → (r, t) ≡ codes_up_to_into (message_bytes kind) (most_repairs kind) level crcs codes → t ≡ codes_up_to (message_bytes kind) level crcs
unfolding codes_up_to_into
told_done kind level r crcs codes t l e q =
    let m : min level (most_repairs kind) ≡ level = omega arith in
    let h : level ≤ 2 = omega (arith, most_few kind) in
    ap (λ (x : ℕ × List ℕ). x.1) q ∙ rw (eq-eqb _ _ e, le-leb level 2 h, m)

-- what is told of one, whatever is named
pub named_done : (kind : MessageKind) (level r : ℕ) {c : ℕ} → level ≤ most_repairs kind
    → c ≡ code_up_to (message_bytes kind) (min level (most_repairs kind)) r → c ≡ code_up_to (message_bytes kind) level r
named_done kind level r l e = let m : min level (most_repairs kind) ≡ level = omega arith in e ∙ rw m

-- 0 is cleared by no position
pub code_zero : (kind : MessageKind) (level : ℕ) → 65535 ≡ code_up_to (message_bytes kind) level 0
unfolding code_up_to
code_zero kind level = rw (up_to_zero (message_bytes kind) (apart (message_bytes kind) (kind_small kind)) level)
