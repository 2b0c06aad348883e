-- Each first byte has its letter: the listed ones by computing, and one that is not listed has none of the codes that claim an address.
-- Assumes nothing.
use mathlib.Core.Path.{◌≡◌, refl, ap}
use mathlib.Core.Bool.{Bool, true, false, ◌&&◌, cond}
use mathlib.Core.List.{◌∷◌}
use Prim.Native.Nat.{ℕ, ◌/◌, ◌%◌}
use native.Mathlib.Omega.{arith}
use lib.Dec.{eqb}
use Rattle.lists.proofs.Test.{or_none}
use Rattle.annex10.specs.Header.{one_of, capabilities, controls, long_header, short_header}
use Rattle.annex10.specs.Address.{by_capability, by_control, address_kind}
use Rattle.annex10.specs.Repair.{repaired}
use Rattle.annex10.proofs.Repairing.{head_is}
use Rattle.annex10.specs.declared.AddressKind.{AddressKind}
use Rattle.annex10.specs.declared.AddressKind.TheVariants.{NoAddress}
use Rattle.listing.specs.Fields.{address_digits, marked, address_text}
use Rattle.listing.specs.Letters.{Letters}

no_capability : (code : ℕ) → one_of capabilities code ≡ false → by_capability code ≡ NoAddress
unfolding by_capability
no_capability code e = rw e

no_control : (code : ℕ) → one_of controls code ≡ false → by_control code ≡ NoAddress
unfolding by_control one_of
no_control code h =
    let (e0, h0) = or_none (eqb code 0) _ h in
    let (e2, h2) = or_none (eqb code 2) _ h0 in
    let (e3, h3) = or_none (eqb code 3) _ h2 in
    let (e4, h4) = or_none (eqb code 4) _ h3 in
    let (e5, h5) = or_none (eqb code 5) _ h4 in
    let (e6, h6) = or_none (eqb code 6) _ h5 in
    rw (e0, e2, e3, e5, e6)

unlisted : (first : ℕ) → long_header first ≡ false → short_header first ≡ false → address_kind first ≡ NoAddress
unfolding long_header short_header address_kind
unlisted first h o = let (p, q) = or_none _ _ h in go (eqb (first / 8) 11) (eqb (first / 8) 17) (eqb (first / 8) 18) o p q
  where
    code : ℕ
    code = first % 8

    go : (r s t : Bool) → (r && one_of capabilities code) ≡ false → (s && one_of capabilities code) ≡ false → (t && one_of controls code) ≡ false
        → cond r (by_capability code) (cond s (by_capability code) (cond t (by_control code) NoAddress)) ≡ NoAddress
    go true s t o p q = no_capability code o
    go false true t o p q = no_capability code p
    go false false true o p q = no_control code q
    go false false false o p q = refl

pub letters : Letters
unfolding address_text address_digits marked by_capability by_control address_kind one_of
letters =
    record {
      listed = λ x y z rest. refl;
      listed_short = λ x y z rest. refl;
      others = λ first rest h o. ap (λ (k : AddressKind). marked k (address_digits (first ∷ rest))) (unlisted first h o);
      after = λ first rest ρ. ap (λ (b : ℕ). marked (address_kind b) (address_digits (repaired (first ∷ rest) ρ))) (head_is (first ∷ rest) ρ (omega arith));
    }
