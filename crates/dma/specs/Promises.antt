-- What T-01 says of a burst, as statements.
use Rattle.machine.specs.declared.Answer.{Answer}
use Rattle.std.specs.Prelude.{ℕ, ◌+◌, ◌≤◌, ◌<◌, ◌≡◌, true, false, ◌⊎◌, Ok, Err, List, [], ◌∷◌, length, drop, take}
use Rattle.bits.specs.Bits.{bit}
use Rattle.machine.specs.declared.Which.{Which}
use Rattle.machine.specs.declared.Control.{Control}
use Rattle.machine.specs.declared.Chip.{Chip}
use Rattle.machine.specs.declared.Step.{Step}
use Rattle.machine.specs.declared.Answer.TheVariants.{Done, Byte}
use Rattle.machine.specs.declared.Effect.TheVariants.{Place}
use Rattle.machine.specs.declared.Stepped.{Stepped}
use Rattle.machine.specs.Record.{chip, side_of}
use Rattle.machine.specs.Modes.{live}
use Rattle.machine.specs.Events.{error_source}
use Rattle.machine.specs.Request.{request}
use Rattle.machine.specs.Moves.{stored_at, after_accepted, after_given}
use Rattle.machine.specs.Validity.{valid}
use Rattle.machine.specs.Step.{carries, fits, on_payload, front_of, step}
use Rattle.machine.specs.History.{history}
use Rattle.dma.specs.declared.Way.{Way}
use Rattle.dma.specs.declared.Way.TheVariants.{In, Out}
use Rattle.dma.specs.declared.BurstAnswer.{BurstAnswer}
use Rattle.dma.specs.declared.BurstAnswer.TheVariants.{Moved, Floating, Refused}
use Rattle.dma.specs.Burst.{role, begins, single, steps, burst_count, burst, bytes_of, filled}
use Rattle.dma.specs.Sequences.{memory_after}

-- ---- whether it begins

-- n bytes of memory: what is answered before the first step, and exactly when
pub record InOrder (way : Way) (c : Control) (w : Which) (n : ℕ) : Type 0 where
  pub one : valid c ≡ false → begins way c w n ≡ Err (Refused 1)
  pub floating : valid c ≡ true → live c w ≡ false → begins way c w n ≡ Err Floating
  pub six : valid c ≡ true → live c w ≡ true → 4096 < n → begins way c w n ≡ Err (Refused 6)
  pub seven : valid c ≡ true → live c w ≡ true → n ≤ 4096 → role way c w ≡ false → begins way c w n ≡ Err (Refused 7)
  pub else : valid c ≡ true → live c w ≡ true → n ≤ 4096 → role way c w ≡ true → begins way c w n ≡ Ok tt

abbrev pub BeginsInOrder : Type 0
BeginsInOrder = (way : Way) (c : Control) (w : Which) (n : ℕ) → InOrder way c w n

-- ---- each step moves a byte and raises no error

-- a byte x moved by side w: accepted into the FIFO, or given out of it
abbrev pub moved_by : Way → Chip → Which → ℕ → Stepped Answer
moved_by In k w x =
    record { chip = chip (after_accepted k.control w (fits k.control w x)) (on_payload (Place (stored_at k.control)) x k.payload); answer = Done }
moved_by Out k w x =
    let front : ℕ = front_of k.control k.payload in
    record { chip = chip (after_given k.control w (fits k.control w front)) k.payload; answer = Byte front }

-- n bytes moved: what the count says
abbrev pub Tallied : Way → ℕ → Chip → Chip → Type 0
Tallied In n k l = l.control.count ≡ k.control.count + n
Tallied Out n k l = l.control.count + n ≡ k.control.count

-- s is the DMA step of the way, REQUEST is active before it, it moves a byte, and no side's error IP changes
pub record Moves (way : Way) (w : Which) (k : Chip) (s : Step) : Type 0 where
  pub requested : request k.control w ≡ true
  pub is_single : s ≡ single way w (carries s)
  pub moves : step k s ≡ moved_by way k w (carries s)
  pub tallied : Tallied way 1 k (step k s).chip
  pub no_error : (v : Which) → bit error_source (side_of (step k s).chip.control v).ip ≡ bit error_source (side_of k.control v).ip

-- with REQUEST active and the role held, the DMA step moves a byte and raises no error
abbrev pub RequestMoves : Type 0
RequestMoves =
    (way : Way) (k : Chip) (w : Which) (x : ℕ) → valid k.control ≡ true → request k.control w ≡ true → role way k.control w ≡ true
    → Moves way w k (single way w x)

-- each step in a row does, at the record that it meets
abbrev pub AllMove : Way → Which → Chip → List Step → Type 0
AllMove way w k [] = Unit {0}
AllMove way w k (s ∷ ss) = Moves way w k s × AllMove way w (step k s).chip ss

-- so do all of a burst's
abbrev pub EachMoves : Type 0
EachMoves = (way : Way) (k : Chip) (w : Which) (memory : List ℕ) → AllMove way w k (steps way k w memory)

-- ---- how many

-- of a burst that begins: its answer is Moved with the number of its steps, which the count shows too; it is no more than memory has, nor than the FIFO has
-- room or bytes for; and it ended because no memory remained or because REQUEST is inactive
pub record Counts (way : Way) (k : Chip) (w : Which) (memory : List ℕ) : Type 0 where
  pub answer : (burst way k w memory).answer ≡ Moved (burst_count way k w memory)
  pub tallied : Tallied way (burst_count way k w memory) k (burst way k w memory).chip
  pub within : burst_count way k w memory ≤ length memory
  pub at_most : burst_count way k w memory ≤ 128
  pub ended : (burst_count way k w memory ≡ length memory) ⊎ (request (burst way k w memory).chip.control w ≡ false)

abbrev pub BurstCounts : Type 0
BurstCounts =
    (way : Way) (k : Chip) (w : Which) (memory : List ℕ) → begins way k.control w (length memory) ≡ Ok tt → Counts way k w memory

-- ---- what memory has

-- a burst out of the FIFO: in front the bytes that its steps give, behind them what was there
pub record Fills (k : Chip) (w : Which) (memory : List ℕ) : Type 0 where
  pub long : length (filled k w memory) ≡ length memory
  pub in_front : take (burst_count Out k w memory) (filled k w memory) ≡ bytes_of (history k (steps Out k w memory))
  pub behind : drop (burst_count Out k w memory) (filled k w memory) ≡ drop (burst_count Out k w memory) memory

abbrev pub BurstFills : Type 0
BurstFills = (k : Chip) (w : Which) (memory : List ℕ) → Fills k w memory

-- Floating and every refusal leave record and memory
abbrev pub BurstKeeps : Type 0
BurstKeeps =
    (way : Way) (k : Chip) (w : Which) (memory : List ℕ) (a : BurstAnswer) → begins way k.control w (length memory) ≡ Err a
    → (burst way k w memory ≡ record { chip = k; answer = a }) × (memory_after way k w memory ≡ memory)
