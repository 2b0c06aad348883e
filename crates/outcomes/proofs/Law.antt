-- A contract that is one equation fixes its outcome.
-- Assumes nothing.
pub mod Open
pub mod Samples
use mathlib.Core.Path.{◌≡◌, refl, sym, ◌∙◌, ap, subst}
use mathlib.Core.Logic.{∥∥₁_prop, ∥∥₁_elim, ∥∥₁_map}
use mathlib.Core.List.{List, [], ◌∷◌}
use mathlib.Core.HLevel.{collapsible→set, Σ_set, prop→set, Unit-prop}
use seplogic.Ra.Ura.{Ura}
use seplogic.Bi.Sat.{Sat}
use base.Logic.{emp}
use base.Stored.{Coded-set}
use contract.Monad.{fact}
use denote.RattleType.{RattleType, Denots}
use denote.Exit.{yes}
use denote.Ref.{Bor}
use denote.Signature.{types_at}
use denote.Triple.End.{all}
use denote.Triple.Clauses.{Ended, ClausesAt, Lasts, AtExit, at_exit, closing}
use Rattle.outcomes.specs.Outcome.{Clause, Lifetimes, Given, Answer, Sight, Outcome, outcome, Permits, FixedAt, Fixed}

-- a fact that can hold is true
pub sat_fact : {M : Type 1} (𝓤 : Ura M) (φ : Type 0) → Sat 𝓤.op (fact 𝓤 φ) → ∥ φ ∥₁
unfolding Sat
sat_fact 𝓤 φ s = ∥∥₁_elim s ∥∥₁_prop (λ t. ∥∥₁_map t.1 (λ u. u.0))

-- what goes into a set and comes back is a set
within-set : {A B : Type 0} (to : A → B) (from : B → A) → ((x : A) → from (to x) ≡ x) → IsSet B → IsSet A
within-set to from back set = collapsible→set
    (λ x y p. sym (back x) ∙ (ap (λ z. from (to z)) p ∙ back y))
    (λ x y p q. ap (λ (t : to x ≡ to y). sym (back x) ∙ (ap from t ∙ back y)) (set (to x) (to y) (ap to p) (ap to q)))

given-set : (Rs : List RattleType) → IsSet (Denots Rs)
given-set [] = prop→set Unit-prop
given-set (R ∷ Rs) = Σ_set (Coded-set R.coded) (λ x. given-set Rs)

module _ (T : Ended) where
  -- of one call: where a contract asks nothing, and whatever it permits is the outcome o, the outcome is fixed
  pub permits-one : (s : Sight T) {M : Type 1} (𝓤 : Ura M) (κs : Lifetimes T) (a : Given T κs) (c : ClausesAt 𝓤 T κs) (o : Outcome T s κs a)
      → (Answer T κs → IsSet (Outcome T s κs a))
      → ((g : c.ghost) → c.requires g ≡ emp 𝓤)
      → ((r : Answer T κs) (ws : Lasts T κs a) → Permits T 𝓤 κs a c r ws → ∥ outcome T s κs a r ws ≡ o ∥₁)
      → FixedAt T s 𝓤 κs a c
  permits-one s 𝓤 κs a c o set taken only = record {
    taken = taken;
    same = λ r r' ws ws' p p'.
        ∥∥₁_elim (only r ws p) (set r (outcome T s κs a r ws) (outcome T s κs a r' ws')) (λ e.
        ∥∥₁_elim (only r' ws' p') (set r (outcome T s κs a r ws) (outcome T s κs a r' ws')) (λ e'. e ∙ sym e'));
  }

  -- the clauses that ask nothing, and ensure that what is seen at the end is f of what was given
  abbrev pub equation : (Y : (κs : Lifetimes T) → Given T κs → Type 0) → ((κs : Lifetimes T) (a : Given T κs) → Answer T κs → AtExit T κs → Y κs a)
      → ((κs : Lifetimes T) (a : Given T κs) → Y κs a) → Clause T
  equation Y view f M 𝓤 𝓛 mem run κs a = record {
    ghost = Unit {0};
    requires = λ g. emp 𝓤;
    ensures = λ g r e. fact 𝓤 (view κs a r e ≡ f κs a);
  }

  -- THE LAW: where the outcome can be read off what is seen, it is fixed. The outcomes are a set, since what was given is seen again
  pub fixes : (s : Sight T) {Y : (κs : Lifetimes T) → Given T κs → Type 0} {f : (κs : Lifetimes T) (a : Given T κs) → Y κs a}
      → ((κs : Lifetimes T) → IsSet (s.Seen κs))
      → T.kept ≡ all yes T.signature.params
      → ((κs : Lifetimes T) → AtExit T κs ≡ Given T κs)
      → (view : (κs : Lifetimes T) (a : Given T κs) → Answer T κs → AtExit T κs → Y κs a)
      (read : (κs : Lifetimes T) (a : Given T κs) → Y κs a → Outcome T s κs a)
      → ((κs : Lifetimes T) (a : Given T κs) (r : Answer T κs) (ws : Lasts T κs a) → read κs a (view κs a r (at_exit T κs a ws)) ≡ outcome T s κs a r ws)
      → Fixed T s (equation Y view f) (λ M 𝓤 𝓛 mem run. closing 𝓛 T (equation Y view f M 𝓤 𝓛 mem run))
  fixes s {Y} {f} set whole again view read reads = record {
    whole = whole;
    proved = λ M 𝓤 𝓛 mem run. refl;
    fixed = λ M 𝓤 𝓛 mem run κs a. permits-one s 𝓤 κs a (equation Y view f M 𝓤 𝓛 mem run κs a) (read κs a (f κs a)) (outcome-set κs a) (λ g. refl) (λ r ws p.
        ∥∥₁_map (holds 𝓤 κs a r ws p) (λ e. sym (reads κs a r ws) ∙ ap (read κs a) e));
  }
    where
      holds : {M : Type 1} (𝓤 : Ura M) (κs : Lifetimes T) (a : Given T κs) (r : Answer T κs) (ws : Lasts T κs a)
          → ∥ (Unit {0} × Sat 𝓤.op (fact 𝓤 (view κs a r (at_exit T κs a ws) ≡ f κs a))) ∥₁
          → ∥ view κs a r (at_exit T κs a ws) ≡ f κs a ∥₁
      holds 𝓤 κs a r ws p = ∥∥₁_elim p ∥∥₁_prop (λ t. sat_fact 𝓤 (view κs a r (at_exit T κs a ws) ≡ f κs a) t.1)

      outcome-set : (κs : Lifetimes T) (a : Given T κs) → Answer T κs → IsSet (Outcome T s κs a)
      outcome-set κs a r = Σ_set (set κs) (λ x. within-set (at_exit T κs a) (λ e. (read κs a (view κs a r e)).1) (λ ws. ap (λ o. o.1) (reads κs a r ws))
          (subst IsSet (sym (again κs)) (given-set (types_at T.signature.params κs))))

-- the answers of a function are a set, and so is what a part holds
pub answer-set : (T : Ended) (κs : Lifetimes T) → IsSet (Answer T κs)
answer-set T κs = Coded-set (T.signature.result.row κs).coded

pub part-set : {X : Type 0} → IsSet (Bor X) → IsSet X
part-set set = within-set (λ x. record { ref_ptr = (0, 0); now = x }) (λ x. x.now) (λ x. refl) set
