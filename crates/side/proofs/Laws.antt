-- The halves of Interrupt Status, and the search from the highest source to the lowest. Assumes nothing.
use Prim.Native.Nat.{ℕ, zero, suc, ◌+◌, ◌-◌, ◌*◌, ◌/◌, ◌%◌, ◌^◌, ◌<◌, ◌≤◌}
use mathlib.Core.Path.{◌≡◌, refl, sym, ap, ◌∙◌}
use mathlib.Core.Bool.{Bool, true, false, cond, not, ◌&&◌, ◌||◌, beq, true≢false, and-true, and-false}
use native.Mathlib.Nat.{zero-div}
use native.Mathlib.Numerals.{sub-one}
use native.Mathlib.Omega.{arith}
use lib.Dec.{eqb, ltb}
use lib.Pow.{shr-shr}
use lib.Bits.{bit_and}
use borrow.Author.Tests.{ne_eqb, eqb-false}
use Rattle.bits.specs.Bits.{bit, bit_of, every}
use Rattle.bits.proofs.Laws.{bit_lt, bit-and, no_bit, on, off, shift, at, beq_same, bools}
use Rattle.machine.specs.declared.Side.{Side}
use Rattle.machine.specs.Interrupts.{half, command, commanded, highest, any_source, pending, due, acknowledged}

pub half_none : (k : ℕ) (s : Side) → k ≡ 0 → 0 ≡ half k s
unfolding half
half_none k s e = rw e

pub half_at : (k : ℕ) (s : Side) → (k ≡ 0 → ⊥) → bit_of k s.ius * 4 + bit_of k s.ie * 2 + bit_of k s.ip ≡ half k s
unfolding half
half_at zero s h = absurd (h refl)
half_at (suc k) s h = refl

-- three bits
pub half_mod : (k : ℕ) (s : Side) → half k s % 8 ≡ half k s
unfolding half
half_mod zero s = refl
half_mod (suc k) s =
    let a = bit_lt (suc k) s.ius in
    let b = bit_lt (suc k) s.ie in
    let d = bit_lt (suc k) s.ip in
    omega arith

pub commanded_none : (n k : ℕ) (s : Side) → k ≡ 0 → s ≡ commanded n k s
unfolding commanded
commanded_none n k s e = rw e

pub commanded_at : (n k : ℕ) (s : Side) → (k ≡ 0 → ⊥) → command n k s ≡ commanded n k s
unfolding commanded
commanded_at n zero s h = absurd (h refl)
commanded_at n (suc k) s h = refl

-- ---- the search

-- the two answers of `if x & (1 << k) != 0`
pub on_shift : (k x : ℕ) → k < 8 → (bit_and x (1 * 2 ^ k % 256) ≡ 0 → ⊥) → bit k x ≡ true
on_shift k x h t = on k x (rw (shift k h) at t)

pub off_shift : (k x : ℕ) → k < 8 → bit_and x (1 * 2 ^ k % 256) ≡ 0 → bit k x ≡ false
off_shift k x h t = off k x (rw (shift k h) at t)

-- the highest from k down is k if p holds there, and else the highest below
pub highest_here : (p : ℕ → Bool) (k : ℕ) → (k ≡ 0 → ⊥) → p k ≡ true → highest p k ≡ k
unfolding highest
highest_here p zero h e = absurd (h refl)
highest_here p (suc k) h e = rw e

pub highest_below : (p : ℕ → Bool) (k : ℕ) → (k ≡ 0 → ⊥) → p k ≡ false → highest p (k - 1) ≡ highest p k
unfolding highest
highest_below p zero h e = absurd (h refl)
highest_below p (suc k) h e = rw (e, sub-one)

pub highest_zero : (p : ℕ → Bool) (n : ℕ) → n ≡ 0 → 0 ≡ highest p n
unfolding highest
highest_zero p n e = rw e

-- p nowhere
pub highest_none : (p : ℕ → Bool) (n : ℕ) → ((k : ℕ) → p k ≡ false) → 0 ≡ highest p n
unfolding highest
highest_none p zero h = refl
highest_none p (suc n) h = rw h (highest_none p n h)

pub highest_same : (p q : ℕ → Bool) (n : ℕ) → ((k : ℕ) → k ≤ n → p k ≡ q k) → highest p n ≡ highest q n
unfolding highest
highest_same p q zero h = refl
highest_same p q (suc n) h = rw (h (suc n) (omega arith), highest_same p q n (λ k l. h k (omega arith)))

-- nothing from k + 1 up and bit k clear: nothing from k up
pub clear_from : (k x : ℕ) → x / 2 ^ (k + 1) ≡ 0 → bit k x ≡ false → x / 2 ^ k ≡ 0
unfolding bit bit_of
clear_from k x h e =
    let n : (x / 2 ^ k % 2 ≡ 1 → ⊥) = eqb-false (x / 2 ^ k % 2) 1 e in
    let d : x / 2 ^ k / 2 ≡ 0 = shr-shr x k 1 ∙ h in
    omega arith

-- a bit at k: something is left from each place up to k
pub left_below : (j k x : ℕ) → j ≤ k → bit k x ≡ true → x / 2 ^ j ≡ 0 → ⊥
unfolding bit bit_of
left_below j k x h e z =
    let q : k ≡ j + (k - j) = omega arith in
    let d : x / 2 ^ k ≡ 0 = ap (λ (n : ℕ). x / 2 ^ n) q ∙ sym (shr-shr x j (k - j)) ∙ ap (λ (n : ℕ). n / 2 ^ (k - j)) z ∙ zero-div (2 ^ (k - j)) in
    true≢false (sym e ∙ ap (λ (n : ℕ). eqb (n % 2) 1) d)

-- no bit from k up
abbrev pub none_from : ℕ → ℕ → Bool
none_from k x = every (λ j. ltb j k || not (bit j x)) 8

step : every (λ k. every (λ x. beq (none_from k x) (none_from (suc k) x && not (bit k x))) 256) 8 ≡ true
unfolding every bit bit_of
step = refl

-- none from k up: none above it, nor at it
pub none_step : (k x : ℕ) → k < 8 → x < 256 → none_from k x ≡ (none_from (suc k) x && not (bit k x))
none_step k x hk hx =
    beq_same (none_from k x) (none_from (suc k) x && not (bit k x))
    (at (λ x. beq (none_from k x) (none_from (suc k) x && not (bit k x))) 256
    (at (λ k. every (λ x. beq (none_from k x) (none_from (suc k) x && not (bit k x))) 256) 8 step k hk) x hx)

zeros : every (λ k. none_from k 0) 8 ≡ true
unfolding every bit bit_of
zeros = refl

-- a flag at k, and none held from k up
abbrev pub free : ℕ → ℕ → ℕ → Bool
free flags held k = bit k flags && none_from k held

-- by one place down, the place itself decides
pub passed : (m x : ℕ) (b : Bool) → 1 < m → m ≤ 8 → x < 256 → none_from m x ≡ true → bit (m - 1) x ≡ b → none_from (m - 1) x ≡ not b
passed m x b l u f h i = let e : suc (m - 1) ≡ m = omega arith in none_step (m - 1) x (omega arith) f ∙ rw (e, h, i) refl

-- something held from k up: nothing up to k is free
pub none_free : (f x k : ℕ) → k < 8 → x < 256 → none_from k x ≡ false → 0 ≡ highest (free f x) k
unfolding highest
none_free f x zero l b e = refl
none_free f x (suc k) l b e = rw (e, and-false (bit (suc k) f)) (none_free f x k (omega arith) b (none_step k x (omega arith) b ∙ rw e refl))

pub no_flags : (f x n : ℕ) → f ≡ 0 → 0 ≡ highest (free f x) n
no_flags f x n e = highest_none (free f x) n (λ k. rw (e, no_bit k) refl)

due_at : (s : Side) (k : ℕ) → free (bit_and s.ip s.ie) s.ius k ≡ due s k
unfolding due pending
due_at s k = rw (bit-and k s.ip s.ie) refl

pending_at : (s : Side) (k : ℕ) → k ≤ 7 → free (bit_and s.ip s.ie) 0 k ≡ pending s k
unfolding pending
pending_at s k l = rw (bit-and k s.ip s.ie, at (λ k. none_from k 0) 8 zeros k (omega arith), and-true) refl

-- with IP and IE, and IUS held
pub free_due : (s : Side) → highest (free (bit_and s.ip s.ie) s.ius) 7 ≡ acknowledged s
free_due s = highest_same (free (bit_and s.ip s.ie) s.ius) (due s) 7 (λ k l. due_at s k)

-- with none held
pub free_pending : (s : Side) → highest (free (bit_and s.ip s.ie) 0) 7 ≡ highest (pending s) 7
free_pending s = highest_same (free (bit_and s.ip s.ie) 0) (pending s) 7 (pending_at s)

pub highest_le : (p : ℕ → Bool) (n : ℕ) → highest p n ≤ n
unfolding highest
highest_le p zero = omega arith
highest_le p (suc n) = bools (λ b. cond b (suc n) (highest p n) ≤ suc n) (omega arith) (omega (arith, highest_le p n)) (p (suc n))

-- some source is so placed exactly if the highest is not none
pub any_highest : (p : ℕ → Bool) (n : ℕ) → any_source p n ≡ not (eqb (highest p n) 0)
unfolding any_source highest
any_highest p zero = refl
any_highest p (suc n) =
    bools (λ b. (b || any_source p n) ≡ not (eqb (cond b (suc n) (highest p n)) 0)) (ap not (sym (ne_eqb (suc n) 0 (λ z. omega arith))))
    (any_highest p n) (p (suc n))

-- a source's number is its own remainder
pub source_mod : (s : Side) → acknowledged s % 8 ≡ acknowledged s
source_mod s = let h = highest_le (due s) 7 in omega arith
