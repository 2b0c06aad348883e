-- Each public contract of khlongrae fixes its outcome. Written by tools/outcomes; the prover trusts nothing of it.
-- Assumes nothing.
use mathlib.Core.Path.{refl}
use Rattle.outcomes.specs.Outcome.{Fixed, answer}
use Rattle.outcomes.proofs.Law.{fixes, answer-set}
use Rattle.khlongrae.specs.contracts.address.khlongrae_address_kind as address-khlongrae-address-kind
use Rattle.khlongrae.specs.contracts.decode.khlongrae_decode as decode-khlongrae-decode
use Rattle.khlongrae.specs.contracts.decode.khlongrae_decode_short as decode-khlongrae-decode-short
use Rattle.khlongrae.specs.contracts.decode.khlongrae_decode_both as decode-khlongrae-decode-both
use Rattle.khlongrae.specs.contracts.header.khlongrae_header as header-khlongrae-header
use Rattle.khlongrae.specs.contracts.header.khlongrae_header_short as header-khlongrae-header-short
use Rattle.khlongrae.specs.contracts.header.FlatHeaderFromResultBoolRefusal.from as header-FlatHeaderFromResultBoolRefusal-from
use Rattle.khlongrae.specs.contracts.message.khlongrae_avr as message-khlongrae-avr
use Rattle.khlongrae.specs.contracts.message.khlongrae_remainder as message-khlongrae-remainder
use Rattle.khlongrae.specs.contracts.spectrum.khlongrae_long_fft_max_search as spectrum-khlongrae-long-fft-max-search
use Rattle.khlongrae.specs.contracts.spectrum.khlongrae_carrier_notched_power as spectrum-khlongrae-carrier-notched-power
use Rattle.khlongrae.specs.contracts.spectrum.khlongrae_check_carrier_metric as spectrum-khlongrae-check-carrier-metric
use Rattle.khlongrae.specs.contracts.spectrum.khlongrae_check_local_maximum as spectrum-khlongrae-check-local-maximum
use Rattle.khlongrae.specs.contracts.tray.khlongrae_tray as tray-khlongrae-tray
use Rattle.khlongrae.specs.contracts.tray.khlongrae_tray_both as tray-khlongrae-tray-both
use Rattle.khlongrae.specs.contracts.version.khlongrae_version as version-khlongrae-version

pub address-khlongrae-address-kind-fixed : Fixed address-khlongrae-address-kind.ended (answer _) (λ M 𝓤 𝓛. address-khlongrae-address-kind.clauses 𝓛) (λ M 𝓤 𝓛. address-khlongrae-address-kind.spec 𝓛)
address-khlongrae-address-kind-fixed =
    fixes address-khlongrae-address-kind.ended _ (answer-set address-khlongrae-address-kind.ended) refl (λ κs. refl)
    (λ κs a r e. r) (λ κs a y. (y, (tt, tt))) (λ κs a r ws. refl)

pub decode-khlongrae-decode-fixed : Fixed decode-khlongrae-decode.ended (answer _) (λ M 𝓤 𝓛. decode-khlongrae-decode.clauses 𝓛) (λ M 𝓤 𝓛. decode-khlongrae-decode.spec 𝓛)
decode-khlongrae-decode-fixed =
    fixes decode-khlongrae-decode.ended _ (answer-set decode-khlongrae-decode.ended) refl (λ κs. refl)
    (λ κs a r e. (r, e.1.1.1.1.1.1.0.now, e.1.1.1.1.1.1.1.0.now, e.1.1.1.1.1.1.1.1.0.now)) (λ κs a y. (y.0, (tt, (tt, (tt, (tt, (tt, (tt, (y.1, (y.2, (y.3, tt))))))))))) (λ κs a r ws. refl)

pub decode-khlongrae-decode-short-fixed : Fixed decode-khlongrae-decode-short.ended (answer _) (λ M 𝓤 𝓛. decode-khlongrae-decode-short.clauses 𝓛) (λ M 𝓤 𝓛. decode-khlongrae-decode-short.spec 𝓛)
decode-khlongrae-decode-short-fixed =
    fixes decode-khlongrae-decode-short.ended _ (answer-set decode-khlongrae-decode-short.ended) refl (λ κs. refl)
    (λ κs a r e. (r, e.1.1.1.1.1.1.0.now, e.1.1.1.1.1.1.1.0.now, e.1.1.1.1.1.1.1.1.0.now)) (λ κs a y. (y.0, (tt, (tt, (tt, (tt, (tt, (tt, (y.1, (y.2, (y.3, tt))))))))))) (λ κs a r ws. refl)

pub decode-khlongrae-decode-both-fixed : Fixed decode-khlongrae-decode-both.ended (answer _) (λ M 𝓤 𝓛. decode-khlongrae-decode-both.clauses 𝓛) (λ M 𝓤 𝓛. decode-khlongrae-decode-both.spec 𝓛)
decode-khlongrae-decode-both-fixed =
    fixes decode-khlongrae-decode-both.ended _ (answer-set decode-khlongrae-decode-both.ended) refl (λ κs. refl)
    (λ κs a r e. (r, e.1.1.1.1.1.1.0.now, e.1.1.1.1.1.1.1.0.now, e.1.1.1.1.1.1.1.1.0.now, e.1.1.1.1.1.1.1.1.1.0.now, e.1.1.1.1.1.1.1.1.1.1.0.now, e.1.1.1.1.1.1.1.1.1.1.1.0.now)) (λ κs a y. (y.0, (tt, (tt, (tt, (tt, (tt, (tt, (y.1, (y.2, (y.3, (y.4, (y.5, (y.6, tt)))))))))))))) (λ κs a r ws. refl)

pub header-khlongrae-header-fixed : Fixed header-khlongrae-header.ended (answer _) (λ M 𝓤 𝓛. header-khlongrae-header.clauses 𝓛) (λ M 𝓤 𝓛. header-khlongrae-header.spec 𝓛)
header-khlongrae-header-fixed =
    fixes header-khlongrae-header.ended _ (answer-set header-khlongrae-header.ended) refl (λ κs. refl)
    (λ κs a r e. r) (λ κs a y. (y, (tt, (tt, (tt, (tt, tt)))))) (λ κs a r ws. refl)

pub header-khlongrae-header-short-fixed : Fixed header-khlongrae-header-short.ended (answer _) (λ M 𝓤 𝓛. header-khlongrae-header-short.clauses 𝓛) (λ M 𝓤 𝓛. header-khlongrae-header-short.spec 𝓛)
header-khlongrae-header-short-fixed =
    fixes header-khlongrae-header-short.ended _ (answer-set header-khlongrae-header-short.ended) refl (λ κs. refl)
    (λ κs a r e. r) (λ κs a y. (y, (tt, (tt, (tt, (tt, tt)))))) (λ κs a r ws. refl)

pub header-FlatHeaderFromResultBoolRefusal-from-fixed : Fixed header-FlatHeaderFromResultBoolRefusal-from.ended (answer _) (λ M 𝓤 𝓛. header-FlatHeaderFromResultBoolRefusal-from.clauses 𝓛) (λ M 𝓤 𝓛. header-FlatHeaderFromResultBoolRefusal-from.spec 𝓛)
header-FlatHeaderFromResultBoolRefusal-from-fixed =
    fixes header-FlatHeaderFromResultBoolRefusal-from.ended _ (answer-set header-FlatHeaderFromResultBoolRefusal-from.ended) refl (λ κs. refl)
    (λ κs a r e. r) (λ κs a y. (y, (tt, tt))) (λ κs a r ws. refl)

pub message-khlongrae-avr-fixed : Fixed message-khlongrae-avr.ended (answer _) (λ M 𝓤 𝓛. message-khlongrae-avr.clauses 𝓛) (λ M 𝓤 𝓛. message-khlongrae-avr.spec 𝓛)
message-khlongrae-avr-fixed =
    fixes message-khlongrae-avr.ended _ (answer-set message-khlongrae-avr.ended) refl (λ κs. refl)
    (λ κs a r e. (r, e.1.0.now)) (λ κs a y. (y.0, (tt, (y.1, tt)))) (λ κs a r ws. refl)

pub message-khlongrae-remainder-fixed : Fixed message-khlongrae-remainder.ended (answer _) (λ M 𝓤 𝓛. message-khlongrae-remainder.clauses 𝓛) (λ M 𝓤 𝓛. message-khlongrae-remainder.spec 𝓛)
message-khlongrae-remainder-fixed =
    fixes message-khlongrae-remainder.ended _ (answer-set message-khlongrae-remainder.ended) refl (λ κs. refl)
    (λ κs a r e. r) (λ κs a y. (y, (tt, tt))) (λ κs a r ws. refl)

pub spectrum-khlongrae-long-fft-max-search-fixed : Fixed spectrum-khlongrae-long-fft-max-search.ended (answer _) (λ M 𝓤 𝓛. spectrum-khlongrae-long-fft-max-search.clauses 𝓛) (λ M 𝓤 𝓛. spectrum-khlongrae-long-fft-max-search.spec 𝓛)
spectrum-khlongrae-long-fft-max-search-fixed =
    fixes spectrum-khlongrae-long-fft-max-search.ended _ (answer-set spectrum-khlongrae-long-fft-max-search.ended) refl (λ κs. refl)
    (λ κs a r e. r) (λ κs a y. (y, (tt, (tt, tt)))) (λ κs a r ws. refl)

pub spectrum-khlongrae-carrier-notched-power-fixed : Fixed spectrum-khlongrae-carrier-notched-power.ended (answer _) (λ M 𝓤 𝓛. spectrum-khlongrae-carrier-notched-power.clauses 𝓛) (λ M 𝓤 𝓛. spectrum-khlongrae-carrier-notched-power.spec 𝓛)
spectrum-khlongrae-carrier-notched-power-fixed =
    fixes spectrum-khlongrae-carrier-notched-power.ended _ (answer-set spectrum-khlongrae-carrier-notched-power.ended) refl (λ κs. refl)
    (λ κs a r e. r) (λ κs a y. (y, (tt, (tt, (tt, tt))))) (λ κs a r ws. refl)

pub spectrum-khlongrae-check-carrier-metric-fixed : Fixed spectrum-khlongrae-check-carrier-metric.ended (answer _) (λ M 𝓤 𝓛. spectrum-khlongrae-check-carrier-metric.clauses 𝓛) (λ M 𝓤 𝓛. spectrum-khlongrae-check-carrier-metric.spec 𝓛)
spectrum-khlongrae-check-carrier-metric-fixed =
    fixes spectrum-khlongrae-check-carrier-metric.ended _ (answer-set spectrum-khlongrae-check-carrier-metric.ended) refl (λ κs. refl)
    (λ κs a r e. r) (λ κs a y. (y, (tt, (tt, (tt, (tt, tt)))))) (λ κs a r ws. refl)

pub spectrum-khlongrae-check-local-maximum-fixed : Fixed spectrum-khlongrae-check-local-maximum.ended (answer _) (λ M 𝓤 𝓛. spectrum-khlongrae-check-local-maximum.clauses 𝓛) (λ M 𝓤 𝓛. spectrum-khlongrae-check-local-maximum.spec 𝓛)
spectrum-khlongrae-check-local-maximum-fixed =
    fixes spectrum-khlongrae-check-local-maximum.ended _ (answer-set spectrum-khlongrae-check-local-maximum.ended) refl (λ κs. refl)
    (λ κs a r e. r) (λ κs a y. (y, (tt, tt))) (λ κs a r ws. refl)

pub tray-khlongrae-tray-fixed : Fixed tray-khlongrae-tray.ended (answer _) (λ M 𝓤 𝓛. tray-khlongrae-tray.clauses 𝓛) (λ M 𝓤 𝓛. tray-khlongrae-tray.spec 𝓛)
tray-khlongrae-tray-fixed =
    fixes tray-khlongrae-tray.ended _ (answer-set tray-khlongrae-tray.ended) refl (λ κs. refl)
    (λ κs a r e. (r, e.1.1.1.1.1.1.1.0.now, e.1.1.1.1.1.1.1.1.0.now, e.1.1.1.1.1.1.1.1.1.0.now)) (λ κs a y. (y.0, (tt, (tt, (tt, (tt, (tt, (tt, (tt, (y.1, (y.2, (y.3, tt)))))))))))) (λ κs a r ws. refl)

pub tray-khlongrae-tray-both-fixed : Fixed tray-khlongrae-tray-both.ended (answer _) (λ M 𝓤 𝓛. tray-khlongrae-tray-both.clauses 𝓛) (λ M 𝓤 𝓛. tray-khlongrae-tray-both.spec 𝓛)
tray-khlongrae-tray-both-fixed =
    fixes tray-khlongrae-tray-both.ended _ (answer-set tray-khlongrae-tray-both.ended) refl (λ κs. refl)
    (λ κs a r e. (r, e.1.1.1.1.1.1.1.0.now, e.1.1.1.1.1.1.1.1.0.now, e.1.1.1.1.1.1.1.1.1.0.now)) (λ κs a y. (y.0, (tt, (tt, (tt, (tt, (tt, (tt, (tt, (y.1, (y.2, (y.3, tt)))))))))))) (λ κs a r ws. refl)

pub version-khlongrae-version-fixed : Fixed version-khlongrae-version.ended (answer _) (λ M 𝓤 𝓛. version-khlongrae-version.clauses 𝓛) (λ M 𝓤 𝓛. version-khlongrae-version.spec 𝓛)
version-khlongrae-version-fixed =
    fixes version-khlongrae-version.ended _ (answer-set version-khlongrae-version.ended) refl (λ κs. refl)
    (λ κs a r e. r) (λ κs a y. (y, tt)) (λ κs a r ws. refl)
