-- Hex digits: what holds of every byte, every hex digit and every number below 16, each tested at all of them at once. Assumes nothing.
use Prim.Native.Nat.{ℕ, ◌+◌, ◌*◌, ◌/◌, ◌%◌, ◌<◌, ◌≤◌}
use mathlib.Core.Path.{◌≡◌, refl, sym}
use mathlib.Core.Bool.{Bool, true, false, not, ◌||◌, false≢true, and-false}
use mathlib.Core.List.{[], ◌∷◌}
use native.Mathlib.Nat.{mod-lt}
use native.Mathlib.Omega.{arith}
use lib.Dec.{eqb, ltb, lit<}
use lib.ListN.{get_or}
use borrow.Author.Tests.{eqb-true, ltb-true, ltb-false, lt-leb}
use Rattle.bits.specs.Bits.{every}
use Rattle.bits.proofs.Laws.{at}
use Rattle.line.specs.Digits.{between, is_hex, nibble, value_of, values_from, digit_values, digit, upper, pair}

-- ---- every byte

value_tests : every (λ x. eqb (get_or digit_values x 0) (value_of x)) 256 ≡ true
unfolding every values_from is_hex nibble
value_tests = refl

pub value_of_lem : (x : ℕ) → x < 256 → get_or digit_values x 0 ≡ value_of x
value_of_lem x h = eqb-true _ _ (at (λ x. eqb (get_or digit_values x 0) (value_of x)) 256 value_tests x h)

-- ---- every hex digit

-- the last hex digit is f
hex_lt : (x : ℕ) → is_hex x ≡ true → x < 0x67
unfolding is_hex
hex_lt x h = go (ltb x 0x67) refl
  where
    go : (b : Bool) → ltb x 0x67 ≡ b → x < 0x67
    go true e = ltb-true x 0x67 e
    go false e =
        let l : 0x67 ≤ x = ltb-false x 0x67 e in
        absurd (false≢true (simp (lt-leb x 0x39 (omega arith), lt-leb x 0x46 (omega arith), lt-leb x 0x66 (omega arith), and-false) at h))

of_hex : (p : ℕ → Bool) → every (λ x. not (is_hex x) || p x) 0x67 ≡ true → (x : ℕ) → is_hex x ≡ true → p x ≡ true
of_hex p t x h = rw h at (at (λ x. not (is_hex x) || p x) 0x67 t x (hex_lt x h))

below : every (λ x. not (is_hex x) || ltb (nibble x) 16) 0x67 ≡ true
unfolding every is_hex nibble
below = refl

capitals : every (λ x. not (is_hex x) || eqb (digit (nibble x)) (upper x)) 0x67 ≡ true
unfolding every is_hex nibble digit upper
capitals = refl

module _ (x : ℕ) (h : is_hex x ≡ true) where
  pub nibble_lt : nibble x < 16
  nibble_lt = ltb-true _ _ (of_hex (λ x. ltb (nibble x) 16) below x h)

  pub digit_nibble : digit (nibble x) ≡ upper x
  digit_nibble = eqb-true _ _ (of_hex (λ x. eqb (digit (nibble x)) (upper x)) capitals x h)

-- ---- every number below 16

digits_hex : every (λ n. is_hex (digit n)) 16 ≡ true
unfolding every is_hex digit
digits_hex = refl

digits_back : every (λ n. eqb (nibble (digit n)) n) 16 ≡ true
unfolding every nibble digit
digits_back = refl

-- the digit of a low half is a hex digit, and reads back to it
pub hex_mod : (x : ℕ) → is_hex (digit (x % 16)) ≡ true
hex_mod x = at (λ n. is_hex (digit n)) 16 digits_hex (x % 16) (mod-lt x (lit< tt))

pub nibble_mod : (x : ℕ) → nibble (digit (x % 16)) ≡ x % 16
nibble_mod x = eqb-true _ _ (at (λ n. eqb (nibble (digit n)) n) 16 digits_back (x % 16) (mod-lt x (lit< tt)))

-- what is no hex digit is none of a to f
none_of : (a b c : Bool) → (a || b || c) ≡ false → c ≡ false
none_of true b c h = absurd (false≢true (sym h))
none_of false true c h = absurd (false≢true (sym h))
none_of false false c h = h

-- a digit and its capital are hex digits together, of one value
pub hex_upper : (x : ℕ) → is_hex (upper x) ≡ is_hex x
unfolding is_hex upper
hex_upper x = go (is_hex x) refl
  where
    go : (b : Bool) → is_hex x ≡ b → is_hex (upper x) ≡ b
    go true h = let n = nibble_lt x h in let m : nibble x % 16 ≡ nibble x = omega arith in rw (← digit_nibble x h, ← m) (hex_mod (nibble x))
    go false h = let n = none_of (between 0x30 0x39 x) (between 0x41 0x46 x) (between 0x61 0x66 x) h in rw n h

pub nibble_upper : (x : ℕ) → is_hex x ≡ true → nibble (upper x) ≡ nibble x
nibble_upper x h = let n = nibble_lt x h in let m : nibble x % 16 ≡ nibble x = omega arith in rw (← digit_nibble x h, ← m) (nibble_mod (nibble x))

-- ---- two digits

-- a byte's two digits read back to it
pub byte_back : (x : ℕ) → x < 256 → nibble (digit (x / 16 % 16)) * 16 + nibble (digit (x % 16)) ≡ x
byte_back x h = rw (nibble_mod (x / 16), nibble_mod x) (omega arith)

-- two digits' byte is written in their capitals
pub pair_upper : (x y : ℕ) → is_hex x ≡ true → is_hex y ≡ true → pair (nibble x * 16 + nibble y) ≡ upper x ∷ upper y ∷ []
unfolding pair
pair_upper x y h k =
    let a = nibble_lt x h in
    let b = nibble_lt y k in
    let p : (nibble x * 16 + nibble y) / 16 % 16 ≡ nibble x = omega arith in
    let q : (nibble x * 16 + nibble y) % 16 ≡ nibble y = omega arith in
    rw (p, q, digit_nibble x h, digit_nibble y k)
