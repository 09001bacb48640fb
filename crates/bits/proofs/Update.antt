-- A bit of a number of which one bit is set, cleared or placed, and of a field, over the bits' numbers: the mask of one bit has that bit only. Assumes nothing.
use Prim.Native.Nat.{ℕ, zero, suc, ◌+◌, ◌-◌, ◌*◌, ◌/◌, ◌%◌, ◌^◌}
use mathlib.Core.Path.{◌≡◌, refl, sym, ap, ◌∙◌}
use mathlib.Core.Bool.{Bool, true, false, not, ◌&&◌, ◌||◌, beq}
use native.Mathlib.Nat.{mod-lt, div-one, zero-div, zero-mul, one-mul, div-eq_of_lt}
use native.Mathlib.Numerals.{one-add}
use native.Mathlib.Omega.{arith}
use lib.Dec.{eqb, ltb, eqb-zero-suc, eqb-suc-zero, eqb-suc-suc}
use lib.Pow.{pow_pos, pow_mono, shr-shr, mod-mod-pow}
use lib.Pow as pow
use lib.Bits.{bit_and, bit_xor, xor_add_and, and_zero_r, and_comm, or_comm}
use borrow.Author.Tests.{ltb-true, ltb-false}
use Rattle.bits.specs.Bits.{bit_of, bit, place, field, set_bit, clear_bit}
use Rattle.bits.proofs.Laws.{two, bit_lt, and_bit, or_bit, bit-and, bit-or, bit-xor}

-- ---- the mask of one bit

-- the bit above bit j is bit j of the half
bit_half : (j x : ℕ) → bit (suc j) x ≡ bit j (x / 2)
unfolding bit bit_of
bit_half j x = let e : x / 2 ^ suc j ≡ x / 2 / 2 ^ j = rw (← one-add j) (sym (shr-shr x 1 j)) in rw e

pub bit_power : (j k : ℕ) → bit j (2 ^ k) ≡ eqb j k
unfolding bit bit_of
bit_power zero zero = refl
bit_power zero (suc k) = let e : 2 ^ suc k / 1 % 2 ≡ 0 = rw div-one (omega arith) in rw (e, eqb-zero-suc k)
bit_power (suc j) zero = bit_half j 1 ∙ rw (zero-div, eqb-suc-zero j)
bit_power (suc j) (suc k) = let e : 2 ^ suc k / 2 ≡ 2 ^ k = omega arith in bit_half j (2 ^ suc k) ∙ rw (e, eqb-suc-suc) (bit_power j k)

-- the test of the two numbers comes first: at numerals it computes
pub bit_place : (j k x : ℕ) → bit j (place k x) ≡ (eqb j k && bit j x)
bit_place j k x = ap (bit j) (sym (and_bit k x) ∙ and_comm x (2 ^ k)) ∙ bit-and j (2 ^ k) x ∙ rw bit_power

-- ---- one bit set or cleared

pub bit_set : (j k x : ℕ) → bit j (set_bit k x) ≡ (eqb j k || bit j x)
bit_set j k x = ap (bit j) (sym (or_bit k x) ∙ or_comm x (2 ^ k)) ∙ bit-or j (2 ^ k) x ∙ rw bit_power

-- what is taken away is a part of the number
and_place : (k x : ℕ) → bit_and x (place k x) ≡ place k x
unfolding place
and_place k x =
    two (λ d. bit_of k x ≡ d → bit_and x (d * 2 ^ k) ≡ d * 2 ^ k) (λ e. rw zero-mul (and_zero_r x))
    (λ e. rw one-mul (and_bit k x ∙ ap (λ (d : ℕ). d * 2 ^ k) e ∙ one-mul (2 ^ k))) (bit_of k x) (bit_lt k x) refl

-- so to take it away is to differ in it
clear_xor : (k x : ℕ) → bit_xor x (place k x) ≡ clear_bit k x
unfolding clear_bit
clear_xor k x = let e = and_place k x in let s = xor_add_and x (place k x) in omega arith

differs : (a b : Bool) → not (beq a (b && a)) ≡ (not b && a)
differs true true = refl
differs true false = refl
differs false true = refl
differs false false = refl

pub bit_clear : (j k x : ℕ) → bit j (clear_bit k x) ≡ (not (eqb j k) && bit j x)
bit_clear j k x = ap (bit j) (sym (clear_xor k x)) ∙ bit-xor j x (place k x) ∙ rw bit_place (differs (bit j x) (eqb j k))

-- ---- a field

below : (j m y : ℕ) → y % 2 ^ (m + 1 + j) / 2 ^ j % 2 ≡ y / 2 ^ j % 2
below j m y = ap (λ (d : ℕ). d % 2) (pow.field y (m + 1) j) ∙ mod-mod-pow (y / 2 ^ j) m 1

pub bit_field : (j n k x : ℕ) → bit j (field n k x) ≡ (ltb j n && bit (k + j) x)
unfolding field bit bit_of
bit_field j n k x = go (ltb j n) refl
  where
    go : (b : Bool) → ltb j n ≡ b → eqb (x / 2 ^ k % 2 ^ n / 2 ^ j % 2) 1 ≡ (b && eqb (x / 2 ^ (k + j) % 2) 1)
    go true e =
        let l : n ≡ n - suc j + 1 + j = omega (arith, ltb-true j n e) in
        let q : x / 2 ^ k % 2 ^ n / 2 ^ j % 2 ≡ x / 2 ^ (k + j) % 2 = rw (l, below, shr-shr) in
        rw q
    go false e = let h : x / 2 ^ k % 2 ^ n / 2 ^ j ≡ 0 = div-eq_of_lt (omega (arith, mod-lt (x / 2 ^ k) (pow_pos n), pow_mono (ltb-false j n e))) in rw h
