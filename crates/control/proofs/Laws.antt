-- A side chosen field by field, and the masks of the bits that are held at zero, each tested at every byte at once. Assumes nothing.
use Prim.Native.Nat.{ℕ, ◌<◌}
use mathlib.Core.Path.{◌≡◌, refl}
use mathlib.Core.Bool.{Bool, true, false, cond}
use mathlib.Core.List.{[], ◌∷◌}
use lib.Dec.{eqb}
use lib.Bits.{bit_and}
use Rattle.bits.specs.Bits.{every, zeros, bit, bit_of}
use Rattle.bits.proofs.Laws.{zeros_are}
use Rattle.machine.specs.declared.Which.{Which}
use Rattle.machine.specs.declared.Which.TheVariants.{One, Two}
use Rattle.machine.specs.declared.Side.{Side}
use Rattle.machine.specs.declared.Control.{Control}
use Rattle.machine.specs.Record.{mk_side, mk_control, side_of, is_one, with_side}

-- ---- a side, field by field

-- each field is chosen, so the side is
pub chosen_side
    : (first : Bool) (a b : Side)
    → mk_side
    (cond first a.control0 b.control0) (cond first a.control1 b.control1) (cond first a.ip b.ip)
    (cond first a.ie b.ie) (cond first a.ius b.ius) (cond first a.vector b.vector) (cond first a.compare b.compare)
    (cond first a.pattern b.pattern) (cond first a.mask b.mask) (cond first a.pointer b.pointer)
    (cond first a.state1 b.state1) (cond first a.run b.run) (cond first a.frozen b.frozen)
    (cond first a.message b.message) (cond first a.waiting b.waiting)
    ≡ cond first a b
chosen_side true a b = refl
chosen_side false a b = refl

pub chosen_of : (c : Control) (w : Which) → cond (is_one w) c.one c.two ≡ side_of c w
chosen_of c One = refl
chosen_of c Two = refl

pub chosen_with
    : (w : Which) (s : Side) (c : Control)
    → mk_control c.pins (cond (is_one w) s c.one) (cond (is_one w) c.two s) c.control2 c.control3 c.start c.count ≡ with_side w s c
chosen_with One s c = refl
chosen_with Two s c = refl

-- ---- bits held at zero

pub no_source_lem : (x : ℕ) → x < 256 → eqb (bit_and x 0x01) 0 ≡ zeros (0 ∷ []) x
unfolding every zeros bit bit_of
no_source_lem = zeros_are (0 ∷ []) 0x01 refl

pub zero1 : (x : ℕ) → x < 256 → eqb (bit_and x 0xB0) 0 ≡ zeros (7 ∷ 5 ∷ 4 ∷ []) x
unfolding every zeros bit bit_of
zero1 = zeros_are (7 ∷ 5 ∷ 4 ∷ []) 0xB0 refl

pub zero_b : (x : ℕ) → x < 256 → eqb (bit_and x 0x0C) 0 ≡ zeros (3 ∷ 2 ∷ []) x
unfolding every zeros bit bit_of
zero_b = zeros_are (3 ∷ 2 ∷ []) 0x0C refl

pub zero2 : (x : ℕ) → x < 256 → eqb (bit_and x 0xFC) 0 ≡ zeros (7 ∷ 6 ∷ 5 ∷ 4 ∷ 3 ∷ 2 ∷ []) x
unfolding every zeros bit bit_of
zero2 = zeros_are (7 ∷ 6 ∷ 5 ∷ 4 ∷ 3 ∷ 2 ∷ []) 0xFC refl

pub zero3 : (x : ℕ) → x < 256 → eqb (bit_and x 0x0F) 0 ≡ zeros (3 ∷ 2 ∷ 1 ∷ 0 ∷ []) x
unfolding every zeros bit bit_of
zero3 = zeros_are (3 ∷ 2 ∷ 1 ∷ 0 ∷ []) 0x0F refl
