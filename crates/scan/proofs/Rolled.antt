-- Laws of remainders that are rolled on by starting sample.
--     step_is                    a step, as the code computes it
--     crc_next                   a remainder from that eight samples before it
--     crc_lt                     a remainder is below 2^24
--     span                       the messages of a kind end within the window
-- Assumes nothing.
use Rattle.std.proofs.Common.{◌≡◌, ℕ, zero, suc, ◌+◌, ◌*◌, ◌/◌, ◌%◌, ◌^◌, ◌<◌, List, get_or, replicate, sym, refl, ap, ◌∙◌, subst, add-zero, mod-eq_of_lt, one-mul, zero-mul, arith, lit<}
use mathlib.Core.Path.{fun_ext}
use lib.Bits.{bit_xor, bit_and, xor_zero_r, and_comm, and_zero_r, and_mask}
use Rattle.lists.specs.Bits.{packed}
use Rattle.annex10.specs.declared.MessageKind.{MessageKind}
use Rattle.annex10.specs.declared.MessageKind.TheVariants.{Short, Long}
use Rattle.annex10.specs.Length.{message_bytes}
use Rattle.annex10.specs.Remainder.{generator, less, bring, divide, remainder}
use Rattle.annex10.proofs.Linear.{remainder_lt}
use Rattle.annex10.proofs.Bytewise.{shift}
use Rattle.annex10.proofs.Rolling.{rolled}
use Rattle.place.specs.All.{last_bit}
use Rattle.scan.specs.Flat.{message_from, crc_in}
use Rattle.scan.specs.Inner.{Digits, Span, leaving_power, next}

-- a word of ones or zeros takes a number or nothing
taken : (b x : ℕ) → b < 2 → x < 2 ^ 32 → bit_and (b * 0xffffffff) x ≡ b * x
taken zero x h l = and_comm 0 x ∙ and_zero_r x ∙ sym (zero-mul x)
taken (suc zero) x h l = and_comm 0xffffffff x ∙ and_mask x 32 ∙ mod-eq_of_lt l ∙ sym (one-mul x)
taken (suc (suc b)) x h l = omega arith

less_times : (q x : ℕ) → q < 2 → bit_xor x (q * generator) ≡ less q x
less_times zero x h = xor_zero_r x
less_times (suc zero) x h = refl
less_times (suc (suc q)) x h = omega arith

twice_is : (crc : ℕ) → crc < 2 ^ 24 → bit_xor (crc * 2 % 2 ^ 32) (crc / 2 ^ 23 * generator) ≡ bring crc 0
twice_is crc h =
    let a : crc * 2 % 2 ^ 32 ≡ crc * 2 = omega arith in
    let b : crc * 2 + 0 ≡ crc * 2 = add-zero (crc * 2) in
    let q : crc * 2 / 2 ^ 24 ≡ crc / 2 ^ 23 = omega arith in
    ap (λ (x : ℕ). bit_xor x (crc / 2 ^ 23 * generator)) a
    ∙ less_times (crc / 2 ^ 23) (crc * 2) (omega arith)
    ∙ sym (ap (λ (x : ℕ). less (x / 2 ^ 24) x) b ∙ ap (λ (x : ℕ). less x (crc * 2)) q)

enters : (b : ℕ) → b < 2 → b * 0xfff409 ≡ divide b (replicate 24 0)
enters zero h = refl
enters (suc zero) h = refl
enters (suc (suc b)) h = omega arith

-- a step, as the code computes it
pub step_is : (power crc leaving entering : ℕ) {x y z : ℕ} → power < 2 ^ 32 → crc < 2 ^ 24 → leaving < 2 → entering < 2
    → x ≡ crc / 2 ^ 23 * 0xffffffff → y ≡ entering * 0xffffffff → z ≡ leaving * 0xffffffff
    → bit_xor (bit_xor (bit_xor (crc * 2 % 2 ^ 32) (bit_and x generator)) (bit_and y 0xfff409)) (bit_and z power) ≡ next power crc leaving entering
unfolding next
step_is power crc leaving entering hp hc hl he ex ey ez =
    rw (ex, ey, ez, taken (crc / 2 ^ 23) generator (omega arith) (lit< tt), taken entering 0xfff409 he (lit< tt), taken leaving power hl hp, twice_is crc hc, enters entering he)

pub crc_lt : (n : ℕ) (bits : List ℕ) (i : ℕ) {crc : ℕ} → crc ≡ crc_in n bits i → crc < 2 ^ 24
unfolding crc_in
crc_lt n bits i e = subst (λ (x : ℕ). x < 2 ^ 24) (sym e) (remainder_lt (message_from n bits (8 + i)))

shift_zero : (m : ℕ) → shift m 0 ≡ 0
shift_zero zero = refl
shift_zero (suc m) = shift_zero m

-- the bit that leaves a message of n bytes
leaves : (n b : ℕ) → b < 2 → b * leaving_power n ≡ divide b (replicate (8 * n + 24) 0)
unfolding leaving_power
leaves n zero h = zero-mul (leaving_power n) ∙ sym (shift_zero (8 * n + 24))
leaves n (suc zero) h = one-mul (leaving_power n)
leaves n (suc (suc b)) h = omega arith

pub crc_next : (n power : ℕ) (bits : List ℕ) → power ≡ leaving_power n → Digits bits → (i : ℕ) {crc r : ℕ} → crc ≡ crc_in n bits i
    → r ≡ next power crc (get_or bits (i + 8) 0) (get_or bits (i + 8 + 64 * n) 0) → r ≡ crc_in n bits (i + 8)
unfolding crc_in message_from next
crc_next n power bits p d i {crc} {r} e h =
    let f : ℕ → ℕ = λ (k : ℕ). get_or bits (8 + i + 8 * k) 0 in
    let here : remainder (packed n (λ (j : ℕ). f (0 + j))) ≡ crc
    = ap (λ (g : ℕ → ℕ). remainder (packed n g)) (fun_ext (λ (j : ℕ). let u : 8 + i + 8 * (0 + j) ≡ 8 + i + 8 * j = omega arith in ap (λ (m : ℕ). get_or bits m 0) u)) ∙ sym e in
    let there : remainder (packed n (λ (j : ℕ). f (suc 0 + j))) ≡ remainder (packed n (λ (j : ℕ). get_or bits (8 + (i + 8) + 8 * j) 0))
    = ap (λ (g : ℕ → ℕ). remainder (packed n g)) (fun_ext (λ (j : ℕ). let u : 8 + i + 8 * (suc 0 + j) ≡ 8 + (i + 8) + 8 * j = omega arith in ap (λ (m : ℕ). get_or bits m 0) u)) in
    let l : i + 8 ≡ 8 + i + 8 * 0 = omega arith in
    let m : i + 8 + 64 * n ≡ 8 + i + 8 * (0 + 8 * n) = omega arith in
    h
    ∙ ap (λ (k : ℕ). next power crc (get_or bits k 0) (get_or bits (i + 8 + 64 * n) 0)) l
    ∙ ap (λ (k : ℕ). next power crc (f 0) (get_or bits k 0)) m
    ∙ ap (λ (x : ℕ). next power x (f 0) (f (0 + 8 * n))) (sym here)
    ∙ ap (bit_xor (bit_xor (bring (remainder (packed n (λ (j : ℕ). f (0 + j)))) 0) (divide (f (0 + 8 * n)) (replicate 24 0)))) (ap (λ (x : ℕ). f 0 * x) p ∙ leaves n (f 0) (d.each (8 + i + 8 * 0)))
    ∙ sym (rolled f (λ k. d.each (8 + i + 8 * k)) n 0)
    ∙ there

pub span : (kind : MessageKind) → Span (message_bytes kind) (8 * last_bit kind)
span Short = record { bytes = omega arith; row = omega arith; ends = omega arith }
span Long = record { bytes = omega arith; row = omega arith; ends = omega arith }
