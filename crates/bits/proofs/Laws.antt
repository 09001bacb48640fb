-- What masks say of bits, over the bit's number. Assumes nothing.
use Prim.Native.Nat.{ℕ, zero, suc, ◌+◌, ◌-◌, ◌*◌, ◌/◌, ◌%◌, ◌^◌, ◌<◌}
use mathlib.Core.Path.{◌≡◌, refl, sym, ap, ap₂, subst, ◌∙◌}
use mathlib.Core.Bool.{Bool, true, false, not, ◌&&◌, ◌||◌, beq, false≢true}
use mathlib.Core.List.{List}
use mathlib.Core.Logic.{⊎_elim}
use native.Mathlib.Nat.{not-suc-le-zero, eq-or-lt_of_le, le_of_suc-le-suc, mod-lt, pow-suc, zero-div, mul-div_cancel}
use native.Mathlib.Numerals.{one-add}
use native.Mathlib.Omega.{arith}
use lib.Dec.{T, eqb, lit<}
use lib.Pow.{pow_pos, split, shr_lt}
use lib.Bits.{bit_and, bit_or, bit_xor, and_high, and_shr, and_mod, xor_shr, xor_mod, or_shr, or_mod, or_add_and, and_mask, and_lt, xor_lt}
use borrow.Author.Tests.{eq-eqb, ne_eqb, eqb-true, eqb-false}
use Rattle.bits.specs.Bits.{bit_of, bit, place, field, set_bit, clear_bit, every, zeros, numbered, matches}

-- ---- cases

-- what holds of 0 and of 1 holds of each number below 2
pub two : (P : ℕ → Type 0) → P 0 → P 1 → (x : ℕ) → x < 2 → P x
two P p q zero h = p
two P p q (suc zero) h = q
two P p q (suc (suc x)) h = absurd (omega arith)

-- what a Bool says, by its two cases
pub bools : (P : Bool → Type 0) → P true → P false → (b : Bool) → P b
bools P p q true = p
bools P p q false = q

pub and_left : (a b : Bool) → (a && b) ≡ true → a ≡ true
and_left true b h = refl
and_left false b h = h

pub and_right : (a b : Bool) → (a && b) ≡ true → b ≡ true
and_right true b h = h
and_right false b h = absurd (subst T (sym h) tt)

pub and_both : (a b : Bool) → a ≡ true → b ≡ true → (a && b) ≡ true
and_both true b h k = k
and_both false b h k = h

pub beq_same : (a b : Bool) → beq a b ≡ true → a ≡ b
beq_same true true h = refl
beq_same true false h = sym h
beq_same false true h = h
beq_same false false h = refl

-- a test that holds of every number below n holds of each
pub at : (p : ℕ → Bool) (n : ℕ) → every p n ≡ true → (k : ℕ) → k < n → p k ≡ true
unfolding every
at p zero h k l = absurd (not-suc-le-zero l)
at p (suc n) h k l =
    ⊎_elim (λ e. ap p e ∙ and_left (p n) (every p n) h) (λ m. at p n (and_right (p n) (every p n) h) k m)
    (eq-or-lt_of_le (le_of_suc-le-suc l))

-- two tests that agree below n
pub every_same : (p q : ℕ → Bool) (n : ℕ) → ((k : ℕ) → k < n → p k ≡ q k) → every p n ≡ every q n
unfolding every
every_same p q zero h = refl
every_same p q (suc n) h = ap₂ ◌&&◌ (h n (omega arith)) (every_same p q n (λ k l. h k (omega arith)))

-- an equation of two numbers at each byte, tested at every byte at once
pub bytes : (f g : ℕ → ℕ) → every (λ x. eqb (f x) (g x)) 256 ≡ true → (x : ℕ) → x < 256 → f x ≡ g x
bytes f g t x h = eqb-true (f x) (g x) (at (λ x. eqb (f x) (g x)) 256 t x h)

-- the same at each byte and each number below n
pub grid : (f g : ℕ → ℕ → ℕ) (n : ℕ) → every (λ k. every (λ x. eqb (f k x) (g k x)) 256) n ≡ true → (k x : ℕ) → k < n → x < 256 → f k x ≡ g k x
grid f g n t k x hk hx = bytes (f k) (g k) (at (λ k. every (λ x. eqb (f k x) (g k x)) 256) n t k hk) x hx

-- ---- one bit

pub bit_lt : (k x : ℕ) → bit_of k x < 2
unfolding bit_of
bit_lt k x = mod-lt _ (lit< tt)

-- a bit is its own remainder
pub bit_mod : (k x : ℕ) → bit_of k x % 2 ≡ bit_of k x
bit_mod k x = let h = bit_lt k x in omega arith

mask_is : (k : ℕ) → 2 ^ (1 + k) - 2 ^ k ≡ 2 ^ k
mask_is k = rw one-add (let e = pow-suc 2 k in omega arith)

-- the mask of one bit keeps that bit in its place
pub and_bit : (k x : ℕ) → bit_and x (2 ^ k) ≡ place k x
unfolding place bit_of
and_bit k x = ap (λ (m : ℕ). bit_and x m) (sym (mask_is k)) ∙ and_high x 1 k

-- `x & MASK != 0` is bit k, MASK being 2 ^ k
pub test : (k x : ℕ) → not (eqb (bit_and x (2 ^ k)) 0) ≡ bit k x
unfolding bit place
test k x =
    ap (λ (y : ℕ). not (eqb y 0)) (and_bit k x)
    ∙ two (λ d. not (eqb (d * 2 ^ k) 0) ≡ eqb d 1) (ap not (eq-eqb (0 * 2 ^ k) 0 (omega arith)))
    (ap not (let p = pow_pos k in ne_eqb (1 * 2 ^ k) 0 (λ e. omega arith))) (bit_of k x) (bit_lt k x)

-- the same from the bit, for a search
pub masked : (k x : ℕ) → bit k x ≡ not (eqb (bit_and x (2 ^ k)) 0)
masked k x = sym (test k x)

pub ruleset masks = (masked, eq-eqb, ne_eqb)

-- what the two answers of `if x & MASK != 0` say
pub on : (k x : ℕ) → (bit_and x (2 ^ k) ≡ 0 → ⊥) → bit k x ≡ true
on k x h = sym (test k x) ∙ ap not (ne_eqb _ _ h)

pub off : (k x : ℕ) → bit_and x (2 ^ k) ≡ 0 → bit k x ≡ false
off k x h = sym (test k x) ∙ ap not (eq-eqb _ _ h)

pub or_bit : (k x : ℕ) → bit_or x (2 ^ k) ≡ set_bit k x
unfolding set_bit place
or_bit k x =
    two (λ d. bit_or x (2 ^ k) + d * 2 ^ k ≡ x + 2 ^ k → bit_or x (2 ^ k) ≡ x + (1 - d) * 2 ^ k) (λ e. omega arith) (λ e. omega arith)
    (bit_of k x) (bit_lt k x) (rw (and_bit k x) at (or_add_and x (2 ^ k)))

-- the j bits from k up, by their mask and moved down
pub field_of : (j k x : ℕ) → bit_and x (2 ^ (j + k) - 2 ^ k) / 2 ^ k ≡ field j k x
unfolding field
field_of j k x = ap (λ (y : ℕ). y / 2 ^ k) (and_high x j k) ∙ mul-div_cancel (x / 2 ^ k % 2 ^ j) (pow_pos k)

-- ---- bits of a mask's result

-- a bit of what an operation on bits gives is that operation on the two bits
pub bit-and : (k x y : ℕ) → bit k (bit_and x y) ≡ (bit k x && bit k y)
unfolding bit bit_of
bit-and k x y =
    ap (λ (n : ℕ). eqb (n % 2) 1) (and_shr x y k) ∙ ap (λ (n : ℕ). eqb n 1) (and_mod (x / 2 ^ k) (y / 2 ^ k) 1)
    ∙ two (λ a. eqb (bit_and a (y / 2 ^ k % 2)) 1 ≡ (eqb a 1 && eqb (y / 2 ^ k % 2) 1)) refl
    (two (λ b. eqb (bit_and 1 b) 1 ≡ eqb b 1) refl refl (y / 2 ^ k % 2) (mod-lt _ (lit< tt))) (x / 2 ^ k % 2) (mod-lt _ (lit< tt))

pub bit-or : (k x y : ℕ) → bit k (bit_or x y) ≡ (bit k x || bit k y)
unfolding bit bit_of
bit-or k x y =
    ap (λ (n : ℕ). eqb (n % 2) 1) (or_shr x y k) ∙ ap (λ (n : ℕ). eqb n 1) (or_mod (x / 2 ^ k) (y / 2 ^ k) 1)
    ∙ two (λ a. eqb (bit_or a (y / 2 ^ k % 2)) 1 ≡ (eqb a 1 || eqb (y / 2 ^ k % 2) 1))
    (two (λ b. eqb (bit_or 0 b) 1 ≡ eqb b 1) refl refl (y / 2 ^ k % 2) (mod-lt _ (lit< tt)))
    (two (λ b. eqb (bit_or 1 b) 1 ≡ true) refl refl (y / 2 ^ k % 2) (mod-lt _ (lit< tt))) (x / 2 ^ k % 2) (mod-lt _ (lit< tt))

pub bit-xor : (k x y : ℕ) → bit k (bit_xor x y) ≡ not (beq (bit k x) (bit k y))
unfolding bit bit_of
bit-xor k x y =
    ap (λ (n : ℕ). eqb (n % 2) 1) (xor_shr x y k) ∙ ap (λ (n : ℕ). eqb n 1) (xor_mod (x / 2 ^ k) (y / 2 ^ k) 1)
    ∙ two (λ a. eqb (bit_xor a (y / 2 ^ k % 2)) 1 ≡ not (beq (eqb a 1) (eqb (y / 2 ^ k % 2) 1)))
    (two (λ b. eqb (bit_xor 0 b) 1 ≡ not (beq false (eqb b 1))) refl refl (y / 2 ^ k % 2) (mod-lt _ (lit< tt)))
    (two (λ b. eqb (bit_xor 1 b) 1 ≡ not (beq true (eqb b 1))) refl refl (y / 2 ^ k % 2) (mod-lt _ (lit< tt))) (x / 2 ^ k % 2) (mod-lt _ (lit< tt))

flipped : every (λ k. every (λ x. eqb (bit_of k (255 - x)) (1 - bit_of k x)) 256) 8 ≡ true
unfolding every bit_of
flipped = refl

pub bit_not : (k x : ℕ) → k < 8 → x < 256 → bit k (255 - x) ≡ not (bit k x)
unfolding bit
bit_not k x hk hx =
    ap (λ (n : ℕ). eqb n 1) (grid (λ k x. bit_of k (255 - x)) (λ k x. 1 - bit_of k x) 8 flipped k x hk hx)
    ∙ two (λ d. eqb (1 - d) 1 ≡ not (eqb d 1)) refl refl (bit_of k x) (bit_lt k x)

-- ---- the whole byte

-- 0 has no bits
pub no_bit : (k : ℕ) → bit k 0 ≡ false
unfolding bit bit_of
no_bit k = ap (λ (n : ℕ). eqb (n % 2) 1) (zero-div (2 ^ k))

zero_bit : (k : ℕ) → bit k 0 ≡ true → ⊥
zero_bit k e = false≢true (sym (no_bit k) ∙ e)

top_clear : (n x : ℕ) → x < 2 ^ suc n → bit n x ≡ false → x < 2 ^ n
unfolding bit bit_of
top_clear n x h e =
    let s = split x n in
    let l = mod-lt x (pow_pos n) in
    let u : x / 2 ^ n < 2 = shr_lt 1 n (rw (one-add n) h) in
    let z : x / 2 ^ n ≡ 0 = omega (arith, eqb-false (x / 2 ^ n % 2) 1 e) in
    omega (arith, ap (λ (d : ℕ). d * 2 ^ n) z)

-- a number below 2 ^ n is 0 exactly if each of its bits is
pub no_bits : (n x : ℕ) → x < 2 ^ n → eqb x 0 ≡ every (λ k. not (bit k x)) n
unfolding every
no_bits zero x h = eq-eqb x 0 (omega arith)
no_bits (suc n) x h = go (bit n x) refl (no_bits n x)
  where
    go : (b : Bool) → bit n x ≡ b → (x < 2 ^ n → eqb x 0 ≡ every (λ k. not (bit k x)) n) → eqb x 0 ≡ (not (bit n x) && every (λ k. not (bit k x)) n)
    go true e r = rw e (ne_eqb x 0 (λ z. zero_bit n (rw z at e)))
    go false e r = rw e (r (top_clear n x h e))

-- ---- the functions

shifted : every (λ k. eqb (1 * 2 ^ k % 256) (2 ^ k)) 8 ≡ true
unfolding every
shifted = refl

-- `1u8 << k` is the mask of bit k
pub shift : (k : ℕ) → k < 8 → 1 * 2 ^ k % 256 ≡ 2 ^ k
shift k h = eqb-true (1 * 2 ^ k % 256) (2 ^ k) (at (λ k. eqb (1 * 2 ^ k % 256) (2 ^ k)) 8 shifted k h)

cleared : every (λ k. every (λ x. eqb (bit_and x (255 - 2 ^ k)) (clear_bit k x)) 256) 8 ≡ true
unfolding every clear_bit
cleared = refl

pub and_not_bit : (k x : ℕ) → k < 8 → x < 256 → bit_and x (255 - 2 ^ k) ≡ clear_bit k x
and_not_bit = grid (λ k x. bit_and x (255 - 2 ^ k)) clear_bit 8 cleared

put_in : every (λ n. every (λ v. eqb (bit_or (bit_and v 241) (n * 2 % 256)) (v / 16 * 16 + n * 2 + v % 2)) 256) 8 ≡ true
unfolding every
put_in = refl

pub number_in : (v n : ℕ) → v < 256 → bit_or (bit_and v 241) (bit_and n 7 * 2 % 256) ≡ numbered v n
unfolding numbered
number_in v n h =
    ap (λ (m : ℕ). bit_or (bit_and v 241) (m * 2 % 256)) (and_mask n 3)
    ∙ grid (λ n v. bit_or (bit_and v 241) (n * 2 % 256)) (λ n v. v / 16 * 16 + n * 2 + v % 2) 8 put_in (n % 8) v (mod-lt n (lit< tt)) h

-- a bit of the difference under the mask is 0 where the mask bit is 1 or the two bits are equal
pub seen : (k b p m : ℕ) → k < 8 → m < 256 → not (bit k (bit_and (bit_xor b p) (255 - m))) ≡ (bit k m || beq (bit k b) (bit k p))
seen k b p m hk hm =
    rw (bit-and, bit-xor, bit_not k m hk hm)
    (bools (λ x. (y : Bool) → not (not x && not y) ≡ (y || x)) (bools (λ y. not (not true && not y) ≡ (y || true)) refl refl) (bools (λ y. not (not false && not y) ≡ (y || false)) refl refl) (beq (bit k b) (bit k p)) (bit k m))

pub match_is : (b p m : ℕ) → b < 256 → p < 256 → m < 256 → eqb (bit_and (bit_xor b p) (255 - m)) 0 ≡ matches b p m
unfolding matches
match_is b p m hb hp hm =
    no_bits 8 _ (and_lt 8 (bit_xor b p) (255 - m) (xor_lt 8 b p hb hp) (omega arith))
    ∙ every_same _ _ 8 (λ k h. seen k b p m h hm)

-- the bits ks are 0 exactly if their mask, m, takes nothing: tested at every byte at once
pub zeros_are : (ks : List ℕ) (m : ℕ) → every (λ x. beq (eqb (bit_and x m) 0) (zeros ks x)) 256 ≡ true → (x : ℕ) → x < 256 → eqb (bit_and x m) 0 ≡ zeros ks x
zeros_are ks m t x h = beq_same _ _ (at (λ x. beq (eqb (bit_and x m) 0) (zeros ks x)) 256 t x h)
