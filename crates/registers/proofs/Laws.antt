-- The masks of the bits that ignore what is written, each tested at every byte at once, and of the bits that are tested; and the sources of Interrupt
-- Status. Assumes nothing.
use Prim.Native.Nat.{ℕ, zero, suc, ◌<◌, ◌≤◌, ◌%◌}
use mathlib.Core.Path.{◌≡◌, refl, ◌∙◌}
use mathlib.Core.Bool.{Bool, true, false, cond, not, ◌&&◌, and-false}
use native.Mathlib.Omega.{arith}
use lib.Dec.{eqb, lit<}
use borrow.Author.Tests.{lt-leb}
use lib.Bits.{bit_and, bit_or, bit_xor}
use Rattle.bits.specs.Bits.{bit, every, field, set_bit, clear_bit}
use Rattle.bits.proofs.Laws.{bytes, test, and_bit, bit-xor, or_bit, and_not_bit}
use Rattle.machine.specs.declared.Which.{Which}
use Rattle.machine.specs.declared.Which.TheVariants.{Two}
use Rattle.machine.specs.declared.Side.{Side}
use Rattle.machine.specs.declared.Control.{Control}
use Rattle.machine.specs.Record.{is_one, names, side_of, with_side, with_control1}
use Rattle.machine.specs.Request.{afresh}
use Rattle.machine.specs.Registers.{kept0, kept1, frozen_by, wrote1, owns, chosen, next3, turned, is_status, high_source, low_source}

pub keeps_b : (x : ℕ) → x < 256 → bit_and x 0xF3 ≡ kept0 Two x
unfolding every kept0 clear_bit
keeps_b = bytes (λ x. bit_and x 0xF3) (kept0 Two) refl

pub keeps_1 : (x : ℕ) → x < 256 → bit_and x 0x4F ≡ kept1 x
unfolding every kept1 clear_bit
keeps_1 = bytes (λ x. bit_and x 0x4F) kept1 refl

pub keeps_2 : (x : ℕ) → x < 256 → bit_and x 3 ≡ field 2 0 x
unfolding every field
keeps_2 = bytes (λ x. bit_and x 3) (field 2 0) refl

-- Control 1, the frozen count and the run flag, each by what was found of it
pub wrote1_is
    : (c : Control) (w : Which) (x : ℕ) {s : Side} {frozen : ℕ} {run : Bool} {r : Control}
    → s ≡ side_of c w → frozen ≡ cond (not (eqb (bit_and x 64) 0) && not (not (eqb (bit_and s.control1 64) 0))) c.count s.frozen → run ≡ afresh c w
    → x < 256 → r ≡ with_side w (with_control1 (bit_and x 0x4F) frozen run s) c → r ≡ wrote1 c w x
unfolding wrote1 frozen_by
wrote1_is c w x e f g b h = rw (← e, h, g, f, test 6, test 6, keeps_1 x b)

-- message waiting is bit 5, the message source's flag bit 7, Reset bit 0 and freeze bit 6
pub waiting_is : (x : ℕ) → bit_or x 0x20 ≡ set_bit 5 x
waiting_is = or_bit 5

pub clears_message : (x : ℕ) → x < 256 → bit_and x 0x7F ≡ clear_bit 7 x
clears_message x = and_not_bit 7 x (lit< tt)

pub clears_reset : (x : ℕ) → x < 256 → bit_and x 0xFE ≡ clear_bit 0 x
clears_reset x = and_not_bit 0 x (lit< tt)

pub reset_is : (x : ℕ) → not (eqb (bit_and x 1) 0) ≡ bit 0 x
reset_is = test 0

pub freeze_is : (x : ℕ) → not (eqb (bit_and x 0x40) 0) ≡ bit 6 x
freeze_is = test 6

-- the mask of bit 4 on the difference of two bytes
pub turned_is : (old x : ℕ) → not (eqb (bit_and (bit_xor old x) 16) 0) ≡ turned old x
unfolding turned
turned_is old x = test 4 (bit_xor old x) ∙ bit-xor 4 old x

-- ---- Interrupt Status 0-3

-- the registers 2 to 5, and no others
pub is_status_lem : (n : ℕ) → (n ≡ 0 → ⊥) → (n ≡ 1 → ⊥) → n < 6 → is_status n ≡ true
is_status_lem zero a b h = absurd (a refl)
is_status_lem (suc zero) a b h = absurd (b refl)
is_status_lem (suc (suc zero)) a b h = refl
is_status_lem (suc (suc (suc zero))) a b h = refl
is_status_lem (suc (suc (suc (suc zero)))) a b h = refl
is_status_lem (suc (suc (suc (suc (suc zero))))) a b h = refl
is_status_lem (suc (suc (suc (suc (suc (suc n)))))) a b h = absurd (omega (arith, h))

pub no_status : (n : ℕ) → 6 ≤ n → is_status n ≡ false
no_status n h = rw (lt-leb n 5 (omega (arith, h)), and-false)

-- a source's number is below 8
chosen_small : (a b c : Bool) (w x y z : ℕ) → w % 8 ≡ w → x % 8 ≡ x → y % 8 ≡ y → z % 8 ≡ z
    → cond a w (cond b x (cond c y z)) % 8 ≡ cond a w (cond b x (cond c y z))
chosen_small true b c w x y z p q r s = p
chosen_small false true c w x y z p q r s = q
chosen_small false false true w x y z p q r s = r
chosen_small false false false w x y z p q r s = s

pub high_small : (n : ℕ) → high_source n % 8 ≡ high_source n
high_small n = chosen_small (eqb n 2) (eqb n 3) (eqb n 4) 7 6 4 2 refl refl refl refl

pub low_small : (n : ℕ) → low_source n % 8 ≡ low_source n
low_small n = chosen_small (eqb n 2) (eqb n 3) (eqb n 4) 0 5 3 1 refl refl refl refl

-- ---- Control 3

-- after a write, bit by bit
pub next3_is
    : (c : Control) (w : Which) (x : ℕ)
    → bit_or (cond (is_one w) (bit_and x 128) (bit_and c.control3 128))
    (bit_or (cond (names w (not (eqb (bit_and c.control3 128) 0))) (bit_and x 64) (bit_and c.control3 64))
    (bit_or (cond (is_one w) (bit_and x 32) (bit_and c.control3 32))
    (cond (names w (not (eqb (bit_and c.control3 32) 0))) (bit_and x 16) (bit_and c.control3 16))))
    ≡ next3 c w x
unfolding next3 owns chosen
next3_is c w x = rw (test 7, test 5) (simp (and_bit 7, and_bit 6, and_bit 5, and_bit 4))
