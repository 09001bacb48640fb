-- Side 1's bus by the pins alone, side 2's by B too: the rows of Table 2.
use Prim.Native.Nat.{◌/◌, ◌^◌}
use mathlib.Core.Path.{◌≡◌, sym, ◌∙◌}
use mathlib.Core.Bool.{◌&&◌, ◌||◌, and-true}
use native.Mathlib.Nat.{mod-lt}
use lib.Dec.{eqb, lit<}
use Rattle.bits.specs.Bits.{field}
use Rattle.machine.specs.declared.Control.{Control}
use Rattle.machine.specs.declared.Which.{Which}
use Rattle.machine.specs.declared.Which.TheVariants.{One, Two}
use Rattle.machine.specs.Modes.{b_of, bus_of, is_high}
use Rattle.machine.specs.Record.{is_one}
use Rattle.machine.proofs.Table.{high}
use Rattle.control.proofs.is_on_high.Goals as goal

joined : (c : Control) (w : Which) → (eqb c.pins 1 && (is_one w || eqb (b_of c) 0)) ≡ is_high (bus_of c w)
unfolding bus_of b_of field
joined c One = and-true (eqb c.pins 1) ∙ sym (high c.pins (b_of c) (mod-lt (c.one.control0 / 2 ^ 2) (lit< tt))).0
joined c Two = sym (high c.pins (b_of c) (mod-lt (c.one.control0 / 2 ^ 2) (lit< tt))).1

pub returns : goal.returns
returns c = rw (c.b_of.ensures, c.is_one.ensures) (joined _ _)
