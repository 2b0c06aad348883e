-- A search tree over the rows of a table, for tests that antt computes. Nothing is proved of its order: a test that finds a row
-- shows that the row is there, and that is all that is wanted of it.
-- Assumes nothing.
use mathlib.Core.Path.{◌≡◌, refl}
use mathlib.Core.Logic.{◌⊎◌, inl, inr}
use mathlib.Core.List.{List, [], ◌∷◌}
use Prim.Native.Nat.{ℕ, zero, suc, ◌/◌, ◌^◌, ◌<◌, suc-le-suc, compare, Ordering}
use native.Mathlib.Nat.{zero-lt-suc}
use lib.ListN.{length, get_or}

pub data Tree : Type 0 where
  leaf : Tree
  node : Tree → ℕ → Tree → Tree

abbrev join : Tree → List ℕ → (List ℕ → Tree × List ℕ) → Tree × List ℕ
join l [] k = (l, [])
join l (y ∷ zs) k = let q = k zs in (node l y q.0, q.1)

abbrev onto : Tree × List ℕ → (List ℕ → Tree × List ℕ) → Tree × List ℕ
onto p k = join p.0 p.1 k

-- the tree of depth d over the first elements, and the elements that are left
unfoldable pub grow : ℕ → List ℕ → Tree × List ℕ
grow zero xs = (leaf, xs)
grow (suc d) xs = onto (grow d xs) (λ zs. grow d zs)

-- the row whose remainder is x, or 0. A row is a remainder in front of 16 bits
abbrev pub find : Tree → ℕ → ℕ
find leaf x = 0
find (node l v r) x = elim (compare x (v / 2 ^ 16)) [ Ordering.lt ↦ find l x | Ordering.eq ↦ v | Ordering.gt ↦ find r x ]

-- v stands in the list
pub record In (xs : List ℕ) (v : ℕ) : Type 0 where
  pub place : ℕ
  pub inside : place < length xs
  pub stands : get_or xs place 0 ≡ v

InT : Tree → ℕ → Type 0
InT leaf v = ⊥
InT (node l x r) v = InT l v ⊎ ((x ≡ v) ⊎ InT r v)

found : (t : Tree) (x : ℕ) → (find t x ≡ 0) ⊎ InT t (find t x)
unfolding InT
found leaf x = inl refl
found (node l v r) x = go (compare x (v / 2 ^ 16)) (found l x) (found r x)
  where
    left : {w : ℕ} → (w ≡ 0) ⊎ InT l w → (w ≡ 0) ⊎ InT (node l v r) w
    left (inl e) = inl e
    left (inr h) = inr (inl h)

    right : {w : ℕ} → (w ≡ 0) ⊎ InT r w → (w ≡ 0) ⊎ InT (node l v r) w
    right (inl e) = inl e
    right (inr h) = inr (inr (inr h))

    at : Ordering → ℕ
    at o = elim o [ Ordering.lt ↦ find l x | Ordering.eq ↦ v | Ordering.gt ↦ find r x ]

    go : (o : Ordering) → (find l x ≡ 0) ⊎ InT l (find l x) → (find r x ≡ 0) ⊎ InT r (find r x) → (at o ≡ 0) ⊎ InT (node l v r) (at o)
    go Ordering.lt hl hr = left hl
    go Ordering.eq hl hr = inr (inr (inl refl))
    go Ordering.gt hl hr = right hr

record Within (xs : List ℕ) (p : Tree × List ℕ) : Type 0 where
  tree : (v : ℕ) → InT p.0 v → In xs v
  rest : (v : ℕ) → In p.1 v → In xs v

pub there : {xs : List ℕ} {v : ℕ} (x : ℕ) → In xs v → In (x ∷ xs) v
there x h = record { place = suc h.place; inside = suc-le-suc h.inside; stands = h.stands }

pub here : (x : ℕ) (xs : List ℕ) {v : ℕ} → x ≡ v → In (x ∷ xs) v
here x xs e = record { place = 0; inside = zero-lt-suc (length xs); stands = e }

join_within : (xs : List ℕ) (l : Tree) (ys : List ℕ) (k : List ℕ → Tree × List ℕ)
    → ((v : ℕ) → InT l v → In xs v) → ((v : ℕ) → In ys v → In xs v) → ((zs : List ℕ) → Within zs (k zs)) → Within xs (join l ys k)
unfolding InT
join_within xs l [] k ht hr hk = record { tree = ht; rest = hr }
join_within xs l (y ∷ zs) k ht hr hk = record {
  tree = λ v. elim [ inl h ↦ ht v h | inr h ↦ elim h [ inl e ↦ hr v (here y zs e) | inr g ↦ hr v (there y ((hk zs).tree v g)) ] ];
  rest = λ v h. hr v (there y ((hk zs).rest v h));
}

grow_within : (d : ℕ) (xs : List ℕ) → Within xs (grow d xs)
unfolding InT grow
grow_within zero xs = record { tree = λ v h. absurd h; rest = λ v h. h }
grow_within (suc d) xs =
    join_within xs (grow d xs).0 (grow d xs).1 (λ zs. grow d zs) (grow_within d xs).tree (grow_within d xs).rest (grow_within d)

-- what is found is there
pub is_there : (d : ℕ) (xs : List ℕ) (x : ℕ) → (find (grow d xs).0 x ≡ 0) ⊎ In xs (find (grow d xs).0 x)
is_there d xs x = go (found (grow d xs).0 x)
  where
    go : (find (grow d xs).0 x ≡ 0) ⊎ InT (grow d xs).0 (find (grow d xs).0 x) → (find (grow d xs).0 x ≡ 0) ⊎ In xs (find (grow d xs).0 x)
    go (inl e) = inl e
    go (inr h) = inr ((grow_within d xs).tree (find (grow d xs).0 x) h)
