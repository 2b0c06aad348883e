-- Each public contract of carrier fixes its outcome. Written by tools/outcomes; the prover trusts nothing of it.
-- Assumes nothing.
use mathlib.Core.Path.{refl, ap}
use Rattle.outcomes.specs.Outcome.{Fixed, answer}
use Rattle.outcomes.proofs.Law.{fixes, answer-set}
use Rattle.carrier.proofs.Told.{carrier_untold, carrier_back}
use Rattle.carrier.specs.Carriers.{carrier_told}
use Rattle.refusals.proofs.Told.{untold, told_back}
use Rattle.refusals.specs.Refusals.{told}
use Rattle.carrier.specs.contracts.maximum.check_local_maximum as maximum-check-local-maximum
use Rattle.carrier.specs.contracts.metric.check_carrier_metric as metric-check-carrier-metric
use Rattle.carrier.specs.contracts.notch.carrier_notched_power as notch-carrier-notched-power
use Rattle.carrier.specs.contracts.search.long_fft_max_search as search-long-fft-max-search

pub maximum-check-local-maximum-fixed : Fixed maximum-check-local-maximum.ended (answer _) (λ M 𝓤 𝓛. maximum-check-local-maximum.clauses 𝓛) (λ M 𝓤 𝓛. maximum-check-local-maximum.spec 𝓛)
maximum-check-local-maximum-fixed =
    fixes maximum-check-local-maximum.ended _ (answer-set maximum-check-local-maximum.ended) refl (λ κs. refl)
    (λ κs a r e. told r) (λ κs a y. (untold y, (tt, tt))) (λ κs a r ws. ap (λ x. (x, ws)) (told_back r))

pub metric-check-carrier-metric-fixed : Fixed metric-check-carrier-metric.ended (answer _) (λ M 𝓤 𝓛. metric-check-carrier-metric.clauses 𝓛) (λ M 𝓤 𝓛. metric-check-carrier-metric.spec 𝓛)
metric-check-carrier-metric-fixed =
    fixes metric-check-carrier-metric.ended _ (answer-set metric-check-carrier-metric.ended) refl (λ κs. refl)
    (λ κs a r e. carrier_told r) (λ κs a y. (carrier_untold y, (tt, (tt, (tt, (tt, tt)))))) (λ κs a r ws. ap (λ x. (x, ws)) (carrier_back r))

pub notch-carrier-notched-power-fixed : Fixed notch-carrier-notched-power.ended (answer _) (λ M 𝓤 𝓛. notch-carrier-notched-power.clauses 𝓛) (λ M 𝓤 𝓛. notch-carrier-notched-power.spec 𝓛)
notch-carrier-notched-power-fixed =
    fixes notch-carrier-notched-power.ended _ (answer-set notch-carrier-notched-power.ended) refl (λ κs. refl)
    (λ κs a r e. told r) (λ κs a y. (untold y, (tt, (tt, (tt, tt))))) (λ κs a r ws. ap (λ x. (x, ws)) (told_back r))

pub search-long-fft-max-search-fixed : Fixed search-long-fft-max-search.ended (answer _) (λ M 𝓤 𝓛. search-long-fft-max-search.clauses 𝓛) (λ M 𝓤 𝓛. search-long-fft-max-search.spec 𝓛)
search-long-fft-max-search-fixed =
    fixes search-long-fft-max-search.ended _ (answer-set search-long-fft-max-search.ended) refl (λ κs. refl)
    (λ κs a r e. told r) (λ κs a y. (untold y, (tt, (tt, tt)))) (λ κs a r ws. ap (λ x. (x, ws)) (told_back r))
