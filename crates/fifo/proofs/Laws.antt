-- A byte is accepted only where there is room, and given only where there is one. Assumes nothing.
use Prim.Native.Nat.{ℕ, ◌+◌, ◌%◌, ◌<◌}
use mathlib.Core.Path.{◌≡◌}
use mathlib.Core.Bool.{true, not, ◌&&◌}
use native.Mathlib.Omega.{arith}
use lib.Dec.{ltb}
use borrow.Author.Tests.{ltb-true}
use Rattle.bits.proofs.Laws.{and_right}
use Rattle.machine.specs.declared.Which.{Which}
use Rattle.machine.specs.declared.Control.{Control}
use Rattle.machine.specs.Modes.{live}
use Rattle.machine.specs.Fifo.{accepted, given, writer, clear}

pub room : (c : Control) (w : Which) → accepted c w ≡ true → c.count < 128
unfolding accepted
room c w h = ltb-true c.count 128 (and_right (live c w && writer c w && clear c) (ltb c.count 128) h)

pub not_empty : (c : Control) (w : Which) → given c w ≡ true → 0 < c.count
unfolding given
not_empty c w h = ltb-true 0 c.count (and_right (live c w && not (writer c w) && clear c) (ltb 0 c.count) h)

-- the place behind n, taken modulo 128 first
pub next_place : (n : ℕ) → (n % 128 + 1) % 128 ≡ (n + 1) % 128
next_place n = omega arith
