-- Two sessions with the same steps, except that bytes offered to the FIFO may differ, and with the same verdicts on the bytes moved.
use Rattle.std.specs.Prelude.{ℕ, ◌≡◌, Bool, true, false, cond, ◌&&◌, ◌||◌, List, [], ◌∷◌}
use Rattle.std.proofs.Math.Option.{Option, none, some}
use Rattle.machine.specs.declared.Which.{Which}
use Rattle.machine.specs.declared.Control.{Control}
use Rattle.machine.specs.declared.Chip.{Chip}
use Rattle.machine.specs.declared.Step.{Step}
use Rattle.machine.specs.declared.Step.TheVariants.{Write, DmaWrite}
use Rattle.machine.specs.declared.Action.{Action}
use Rattle.machine.specs.declared.Answer.TheVariants.{Done, Byte}
use Rattle.machine.specs.declared.Effect.TheVariants.{Place}
use Rattle.machine.specs.Apart.{on_byte, on_move}
use Rattle.machine.specs.Fifo.{offered, accepted, given}
use Rattle.machine.specs.Moves.{stored_at}
use Rattle.machine.specs.Validity.{valid}
use Rattle.machine.specs.Step.{action, carries, side_in, fits, on_payload, front_of, step}

-- ---- the same steps

-- a step with y in place of the byte that it carries
abbrev pub carrying : ℕ → Step → Step
carrying y s = on_byte s (λ make x. make y) s

-- the byte is offered to the FIFO in one of the two, and so it may differ; c and d are the records that the steps meet
abbrev pub free : Control → Control → Step → Step → Bool
free c d s t = offered c s || offered d t

-- the same step, except that a byte offered to the FIFO may differ
pub record SameStep (c d : Control) (s t : Step) : Type 0 where
  pub but_byte : carrying 0 s ≡ carrying 0 t
  pub byte : free c d s t ≡ false → carries s ≡ carries t

-- ---- the bytes moved

-- what is asked for brings a byte to the FIFO
abbrev pub is_offer : Action → Bool
is_offer a = on_move a (λ dma w. true) (λ dma w. false) false

-- what is asked for is a byte of the FIFO
abbrev pub is_take : Action → Bool
is_take a = on_move a (λ dma w. false) (λ dma w. true) false

-- a byte goes into the FIFO: the record is valid, the step brings one, and it is accepted
unfoldable pub moves_in : Control → Step → Bool
moves_in c s = valid c && is_offer (action c s) && accepted c (side_in s)

-- a byte is taken out of the FIFO: the record is valid, the step asks for one, and it is given
unfoldable pub moves_out : Control → Step → Bool
moves_out c s = valid c && is_take (action c s) && given c (side_in s)

-- the byte that a step moves, if it moves one: the one accepted, or the one given, which is that at start
unfoldable pub moved : Chip → Step → Option ℕ
moved k s =
    cond (moves_in k.control s) (some (carries s)) (cond (moves_out k.control s) (some (front_of k.control k.payload)) none)

-- a byte matches the pattern of the side that the step names, which is the one that moves it
abbrev pub matched : Control → Step → ℕ → Bool
matched c s x = fits c (side_in s) x

-- the byte moved in one matches the moving side's pattern exactly when the byte moved in the other does; where one moves none, nothing is asked
pub record SameVerdict (k l : Chip) (s t : Step) : Type 0 where
  pub verdict : (x y : ℕ) → moved k s ≡ some x → moved l t ≡ some y → matched k.control s x ≡ matched l.control t y

-- ---- two sessions

-- two steps, at the chips that they meet
pub record Alike (k l : Chip) (s t : Step) : Type 0 where
  pub same_step : SameStep k.control l.control s t
  pub same_verdict : SameVerdict k l s t

-- the same-numbered steps are alike, each at the chip that the steps before it left
abbrev pub Sessions : Chip → Chip → List Step → List Step → Type 0
Sessions k l [] [] = Unit {0}
Sessions k l [] (t ∷ ts) = ⊥
Sessions k l (s ∷ ss) [] = ⊥
Sessions k l (s ∷ ss) (t ∷ ts) = Alike k l s t × Sessions (step k s).chip (step l t).chip ss ts

-- ---- what is offered is what the step brings, and what is moved is what it moves

-- a write offers a byte exactly if what it asks for brings one, and a DMA write always does. A step that has no byte to change offers none
pub record Offers (c : Control) : Type 0 where
  pub by_write : (w : Which) (a x : ℕ) → offered c (Write w a x) ≡ is_offer (action c (Write w a x))
  pub by_dma : (w : Which) (x : ℕ) → offered c (DmaWrite w x) ≡ true
  pub by_none : (s : Step) → carrying 0 s ≡ carrying 1 s → offered c s ≡ false

-- where a byte goes in, it is stored and the answer is Done; where one is taken out, it is the answer
abbrev pub Moves : Type 0
Moves =
    (k : Chip) (s : Step)
    → (moves_in k.control s ≡ true
    → ((step k s).answer ≡ Done) × ((step k s).chip.payload ≡ on_payload (Place (stored_at k.control)) (carries s) k.payload))
    × (moves_out k.control s ≡ true → (step k s).answer ≡ Byte (front_of k.control k.payload))
