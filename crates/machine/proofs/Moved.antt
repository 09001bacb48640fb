-- An accepted byte is not held up and is placed, and a given byte is not held up and is the answer; so it is of DMA by the step's own way. Assumes
-- nothing.
use Prim.Native.Nat.{ℕ}
use mathlib.Core.Path.{◌≡◌, refl}
use mathlib.Core.Bool.{Bool, true, false, cond, not, and-false}
use native.Mathlib.Omega.{arith}
use lib.Dec.{ltb}
use borrow.Author.Tests.{ltb-true, ne_eqb, not-true}
use Rattle.bits.proofs.Laws.{and_left, and_right}
use Rattle.machine.specs.declared.Which.{Which}
use Rattle.machine.specs.declared.Control.{Control}
use Rattle.machine.specs.declared.Step.TheVariants.{DmaWrite, DmaRead}
use Rattle.machine.specs.declared.Answer.TheVariants.{Done}
use Rattle.machine.specs.declared.Effect.TheVariants.{Keep, Place}
use Rattle.machine.specs.declared.Reply.TheVariants.{Says, Front}
use Rattle.machine.specs.Modes.{connected, in_reset, live}
use Rattle.machine.specs.Addresses.{closes}
use Rattle.machine.specs.Fifo.{writer, accepted, given, at_end, waits}
use Rattle.machine.specs.Moves.{stored_at, after_accepted, after_given}
use Rattle.machine.specs.Step.{plan3, offering, taking, fits, goes_in, by_dma, action, plan, verdict, ended, planned}

same : (b x : Bool) → cond b x x ≡ x
same true x = refl
same false x = refl

module _ (c : Control) (w : Which) where
  live_released : live c w ≡ true → in_reset c w ≡ false
  unfolding live
  live_released h = not-true (in_reset c w) (and_right (connected c w) (not (in_reset c w)) h)

  -- short of the end of its way no side is held up
  goes_on : at_end c w c.count ≡ false → waits c w ≡ false
  unfolding waits
  goes_on h = rw (h, and-false)

  pub offer_moved : (dma u : Bool) → accepted c w ≡ true → offering c dma w u ≡ plan3 (after_accepted c w u) (Place (stored_at c)) (Says Done)
  unfolding offering accepted at_end
  offer_moved dma u h =
      let l : live c w ≡ true = search (and_left, and_right) in
      let i : writer c w ≡ true = search (and_left, and_right) in
      let n : ltb c.count 128 ≡ true = search (and_left, and_right) in
      let e : at_end c w c.count ≡ false = rw i (ne_eqb c.count 128 (λ z. omega (arith, ltb-true c.count 128 n))) in
      rw (live_released l, goes_on e, and-false, h)

  pub take_moved : (dma u : Bool) → given c w ≡ true → taking c dma w u ≡ plan3 (after_given c w u) Keep Front
  unfolding taking given at_end
  take_moved dma u h =
      let l : live c w ≡ true = search (and_left, and_right) in
      let i : writer c w ≡ false = not-true (writer c w) (search (and_left, and_right)) in
      let n : ltb 0 c.count ≡ true = search (and_left, and_right) in
      let e : at_end c w c.count ≡ false = rw i (ne_eqb c.count 0 (λ z. omega (arith, ltb-true 0 c.count n))) in
      rw (live_released l, goes_on e, and-false, h)

  pub planned_in : (x front : ℕ) → accepted c w ≡ true → planned c (DmaWrite w x) front ≡ plan3 (after_accepted c w (fits c w x)) (Place (stored_at c)) (Says Done)
  unfolding planned ended closes action by_dma goes_in plan verdict accepted
  planned_in x front a =
      let l : live c w ≡ true = search (and_left, and_right) in
      let i : writer c w ≡ true = search (and_left, and_right) in
      rw (l, i, same, offer_moved true _ a)

  pub planned_out : (front : ℕ) → given c w ≡ true → planned c (DmaRead w) front ≡ plan3 (after_given c w (fits c w front)) Keep Front
  unfolding planned ended closes action by_dma goes_in plan verdict given
  planned_out front g =
      let l : live c w ≡ true = search (and_left, and_right) in
      let i : writer c w ≡ false = not-true (writer c w) (search (and_left, and_right)) in
      rw (l, i, same, take_moved true _ g)
