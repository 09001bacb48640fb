-- A byte that DMA moves by the step's own way is placed as it comes in, and is the answer as it goes out. Assumes nothing.
use Prim.Native.Nat.{ℕ}
use mathlib.Core.Path.{◌≡◌, sym}
use mathlib.Core.Bool.{Bool, cond}
use Rattle.std.specs.Prelude.{Option, Some, None}
use Rattle.std.proofs.lemmas.Option.{same_Some, cond_some, none-some}
use Rattle.machine.specs.declared.Which.{Which}
use Rattle.machine.specs.declared.Control.{Control}
use Rattle.machine.specs.declared.Payload.{Payload}
use Rattle.machine.specs.declared.Step.{Step}
use Rattle.machine.specs.declared.Step.TheVariants.{DmaWrite, DmaRead}
use Rattle.machine.specs.declared.Answer.TheVariants.{Done}
use Rattle.machine.specs.declared.Effect.TheVariants.{Keep, Place}
use Rattle.machine.specs.declared.Reply.TheVariants.{Says, Front}
use Rattle.machine.specs.Record.{chip}
use Rattle.machine.specs.Fifo.{accepted, given}
use Rattle.machine.specs.Moves.{stored_at}
use Rattle.machine.specs.Step.{plan3, fits, front_of, carried, proceeded}
use Rattle.machine.proofs.Apart.{by_dma}
use Rattle.machine.proofs.Moved.{planned_in, planned_out}
use Rattle.fifo.specs.Transfers.{transferred}
use Rattle.chip.specs.declared.Dma.{Dma}
use Rattle.chip.specs.Dma.{dma_in}

-- d: the DMA asked for; x: the byte that it moves; m: whether that matches; n: the record that its transfer leaves
abbrev DmaMoves : Control → Payload → Dma → ℕ → Bool → Control → Step → Option Dma → Type 0
DmaMoves c p d x m n s asks =
    Some d ≡ asks → x ≡ cond d.inward d.byte (front_of c p) → m ≡ fits c d.side x → Some n ≡ transferred c d.side d.inward m
    → proceeded (chip c p) s ≡ carried (plan3 n (cond d.inward (Place (stored_at c)) Keep) (cond d.inward (Says Done) Front)) x (front_of c p) p

pub dma_moves : (c : Control) (p : Payload) (s : Step) {d : Dma} {x : ℕ} {m : Bool} {n : Control} → DmaMoves c p d x m n s (dma_in s)
unfolding proceeded transferred
dma_moves c p s {d} {x} {m} {n} = by_dma (DmaMoves c p d x m n) into out none s
  where
    into : (w : Which) (y : ℕ) → DmaMoves c p d x m n (DmaWrite w y) (dma_in (DmaWrite w y))
    into w y o x m t =
        let d = same_Some _ _ o in
        let i = cond_some (accepted c w) _ _ (sym (rw d at t)) in
        rw (planned_in c w y _ i.0, ← i.1, m, x, d)

    out : (w : Which) → DmaMoves c p d x m n (DmaRead w) (dma_in (DmaRead w))
    out w o x m t =
        let d = same_Some _ _ o in
        let g = cond_some (given c w) _ _ (sym (rw d at t)) in
        rw (planned_out c w _ g.0, ← g.1, m, x, d)

    none : (s : Step) → DmaMoves c p d x m n s None
    none s o x m t = absurd (none-some _ (sym o))
