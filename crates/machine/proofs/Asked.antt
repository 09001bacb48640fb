-- What holds of each thing that a step can ask for holds of what it asks for. Assumes nothing.
use Rattle.std.specs.Prelude.{Some, None}
use Prim.Native.Nat.{ℕ}
use mathlib.Core.Path.{◌≡◌}
use mathlib.Core.Bool.{Bool, true, false}
use Rattle.bits.specs.Bits.{field}
use Rattle.machine.specs.declared.Which.{Which}
use Rattle.machine.specs.declared.Control.{Control}
use Rattle.machine.specs.declared.Register.{Register}
use Rattle.machine.specs.declared.Step.{Step}
use Rattle.machine.specs.declared.Step.TheVariants.{Write, Read, DmaWrite, DmaRead, Acknowledge, Reset}
use Rattle.machine.specs.declared.Action.{Action}
use Rattle.machine.specs.declared.Action.TheVariants.{Offer, Take, Store, Load, Aim, Grant, Renew, Float, Refuse}
use Rattle.machine.specs.Modes.{connected}
use Rattle.machine.specs.Addresses.{target, Target}
use Rattle.machine.specs.Interrupts.{interrupt}
use Rattle.machine.specs.Step.{writing, reading, by_dma, action, side_in}
use Rattle.machine.proofs.Tests.{test}

-- P of a step and of each thing that it can ask for, on its own side
pub record Asks (c : Control) (P : Step → Action → Type 0) : Type 0 where
  pub offer : (s : Step) (dma : Bool) → P s (Offer dma (side_in s))
  pub take : (s : Step) (dma : Bool) → P s (Take dma (side_in s))
  pub store : (s : Step) (r : Register) (x : ℕ) → connected c (side_in s) ≡ true → P s (Store (side_in s) r x)
  pub load : (s : Step) (r : Register) → P s (Load (side_in s) r)
  pub aim : (s : Step) (x : ℕ) → P s (Aim (side_in s) (field 4 0 x))
  pub grant : (w : Which) → interrupt c w ≡ true → P (Acknowledge w) (Grant w)
  pub renew : (s : Step) → P s (Renew (side_in s))
  pub float : (s : Step) → P s Float
  pub refuse : (s : Step) → P s (Refuse 2)

module _ (c : Control) (P : Step → Action → Type 0) (h : Asks c P) where
  writing_asks : (s : Step) (x : ℕ) (t : Target) → connected c (side_in s) ≡ true → P s (writing (side_in s) x t)
  writing_asks s x (Some r) k = search (test (P s), h.offer, h.store)
  writing_asks s x None k = h.refuse s

  reading_asks : (s : Step) (t : Target) → P s (reading (side_in s) t)
  reading_asks s (Some r) = search (test (P s), h.take, h.load)
  reading_asks s None = h.refuse s

  dma_asks : (s : Step) (own : Bool) → P s (by_dma c (side_in s) own)
  unfolding by_dma
  dma_asks s own = search (test (P s), h.offer, h.take, h.float)

  pub by_action : (s : Step) → P s (action c s)
  unfolding action
  by_action (Write w a x) =
      let s : Step = Write w a x in
      search (test (P s), h.aim s x, writing_asks s x (target c w a), h.float)
  by_action (Read w a) = let s : Step = Read w a in search (test (P s), reading_asks s (target c w a), h.float)
  by_action (DmaWrite w x) = dma_asks (DmaWrite w x) true
  by_action (DmaRead w) = dma_asks (DmaRead w) false
  by_action (Acknowledge w) = search (test (P (Acknowledge w)), h.grant, h.float)
  by_action (Reset w) = let s : Step = Reset w in search (test (P s), h.renew s, h.float)
