-- Each public contract of powers fixes its outcome. Written by tools/outcomes; the prover trusts nothing of it.
-- Assumes nothing.
use mathlib.Core.Path.{refl, ap}
use Rattle.outcomes.specs.Outcome.{Fixed, answer}
use Rattle.outcomes.proofs.Law.{fixes, answer-set}
use Rattle.refusals.proofs.Told.{untold, told_back}
use Rattle.refusals.specs.Refusals.{told}
use Rattle.powers.specs.contracts.around.powers_around as around-powers-around
use Rattle.powers.specs.contracts.both.postdecode_powers as both-postdecode-powers
use Rattle.powers.specs.contracts.power.postdecode_power as power-postdecode-power
use Rattle.powers.specs.contracts.power.postdecode_noise_power as power-postdecode-noise-power

pub around-powers-around-fixed : Fixed around-powers-around.ended (answer _) (λ M 𝓤 𝓛. around-powers-around.clauses 𝓛) (λ M 𝓤 𝓛. around-powers-around.spec 𝓛)
around-powers-around-fixed =
    fixes around-powers-around.ended _ (answer-set around-powers-around.ended) refl (λ κs. refl)
    (λ κs a r e. told r) (λ κs a y. (untold y, (tt, (tt, (tt, (tt, (tt, tt))))))) (λ κs a r ws. ap (λ x. (x, ws)) (told_back r))

pub both-postdecode-powers-fixed : Fixed both-postdecode-powers.ended (answer _) (λ M 𝓤 𝓛. both-postdecode-powers.clauses 𝓛) (λ M 𝓤 𝓛. both-postdecode-powers.spec 𝓛)
both-postdecode-powers-fixed =
    fixes both-postdecode-powers.ended _ (answer-set both-postdecode-powers.ended) refl (λ κs. refl)
    (λ κs a r e. told r) (λ κs a y. (untold y, (tt, (tt, (tt, tt))))) (λ κs a r ws. ap (λ x. (x, ws)) (told_back r))

pub power-postdecode-power-fixed : Fixed power-postdecode-power.ended (answer _) (λ M 𝓤 𝓛. power-postdecode-power.clauses 𝓛) (λ M 𝓤 𝓛. power-postdecode-power.spec 𝓛)
power-postdecode-power-fixed =
    fixes power-postdecode-power.ended _ (answer-set power-postdecode-power.ended) refl (λ κs. refl)
    (λ κs a r e. told r) (λ κs a y. (untold y, (tt, (tt, tt)))) (λ κs a r ws. ap (λ x. (x, ws)) (told_back r))

pub power-postdecode-noise-power-fixed : Fixed power-postdecode-noise-power.ended (answer _) (λ M 𝓤 𝓛. power-postdecode-noise-power.clauses 𝓛) (λ M 𝓤 𝓛. power-postdecode-noise-power.spec 𝓛)
power-postdecode-noise-power-fixed =
    fixes power-postdecode-noise-power.ended _ (answer-set power-postdecode-noise-power.ended) refl (λ κs. refl)
    (λ κs a r e. told r) (λ κs a y. (untold y, (tt, (tt, tt)))) (λ κs a r ws. ap (λ x. (x, ws)) (told_back r))
