-- The library's digits of base 16 are this paper's, tested at every byte: what a digit, and what none, leaves of a line. Assumes nothing.
use Prim.Native.Nat.{ℕ, ◌+◌, ◌*◌, ◌%◌, ◌<◌}
use mathlib.Core.Path.{◌≡◌, refl}
use mathlib.Core.Bool.{true, false, not, ◌&&◌, ◌||◌, beq, and-false}
use lib.Dec.{eqb, ltb}
use borrow.Author.Tests.{eqb-true, lt-ltb, le-ltb}
use native.Mathlib.Omega.{arith}
use Rattle.std.specs.Char.{digit_value}
use Rattle.bits.specs.Bits.{every}
use Rattle.bits.proofs.Laws.{at, beq_same}
use Rattle.line.specs.declared.Partial.{Partial}
use Rattle.line.specs.Digits.{is_hex, nibble}
use Rattle.line.specs.Unfinished.{partial, longer}

which : every (λ x. beq (is_hex x) (ltb (digit_value x) 16)) 256 ≡ true
unfolding every is_hex
which = refl

values : every (λ x. not (ltb (digit_value x) 16) || eqb (digit_value x) (nibble x)) 256 ≡ true
unfolding every nibble
values = refl

is_hex_lem : (x : ℕ) → x < 256 → is_hex x ≡ ltb (digit_value x) 16
is_hex_lem x h = beq_same _ _ (at (λ x. beq (is_hex x) (ltb (digit_value x) 16)) 256 which x h)

value_lem : (x : ℕ) → x < 256 → ltb (digit_value x) 16 ≡ true → digit_value x ≡ nibble x
value_lem x h l = eqb-true _ _ (rw l at (at (λ x. not (ltb (digit_value x) 16) || eqb (digit_value x) (nibble x)) 256 values x h))

module _ (p : Partial) (x : ℕ) (h : x < 256) where
  pub grows : digit_value x < 16 → (not p.fault && ltb p.digits 6) ≡ true
      → longer p x ≡ partial (p.value % 0x100000 * 16 + digit_value x) (p.digits + 1) false
  unfolding longer
  grows l room =
      let t : ltb (digit_value x) 16 ≡ true = lt-ltb (digit_value x) 16 l in
      rw (room, is_hex_lem x h, t, value_lem x h t)

  pub faults : ¬ (digit_value x < 16) → longer p x ≡ partial p.value p.digits true
  unfolding longer
  faults n = rw (is_hex_lem x h, le-ltb (digit_value x) 16 (omega arith), and-false (not p.fault && ltb p.digits 6))
