-- A burst does what single DMA steps do with nothing between them, going on while REQUEST is active and memory remains.
use Rattle.std.specs.Prelude.{ℕ, Bool, cond, Result, Ok, Err, List, [], ◌∷◌, ◌++◌, map, leb, length, drop}
use Rattle.machine.specs.declared.Which.{Which}
use Rattle.machine.specs.declared.Control.{Control}
use Rattle.machine.specs.declared.Chip.{Chip}
use Rattle.machine.specs.declared.Step.{Step}
use Rattle.machine.specs.declared.Step.TheVariants.{DmaWrite, DmaRead}
use Rattle.machine.specs.declared.Stepped.{Stepped}
use Rattle.machine.specs.Modes.{live}
use Rattle.machine.specs.Fifo.{writer, reader}
use Rattle.machine.specs.Request.{request}
use Rattle.machine.specs.Validity.{valid}
use Rattle.machine.specs.Answers.{value}
use Rattle.machine.specs.Step.{step}
use Rattle.machine.specs.History.{Entry, history, ran}
use Rattle.dma.specs.declared.Way.{Way}
use Rattle.dma.specs.declared.Way.TheVariants.{In, Out}
use Rattle.dma.specs.declared.BurstAnswer.{BurstAnswer}
use Rattle.dma.specs.declared.BurstAnswer.TheVariants.{Moved, Floating, Refused}

-- ---- whether it begins

-- the role that it needs: writer for a burst into the FIFO, reader for one out of it
abbrev pub role : Way → Control → Which → Bool
role In c w = writer c w
role Out c w = reader c w

-- the most bytes of memory
abbrev pub limit : ℕ
limit = 4096

-- it begins, or that is answered before its first step
abbrev pub Begins : Type 0
Begins = Result (Unit {0}) BurstAnswer

-- n bytes of memory. Order: 1 (not a valid record), Floating (side not live), 6 (memory too long), 7 (the side hasn't the role)
unfoldable pub begins : Way → Control → Which → ℕ → Begins
begins way c w n =
    cond (valid c)
    (cond (live c w)
    (cond (leb n limit)
    (cond (role way c w) (Ok tt) (Err (Refused 7)))
    (Err (Refused 6)))
    (Err Floating))
    (Err (Refused 1))

-- ---- its single steps

-- the DMA step at a place of memory. Into the FIFO it carries the byte there
abbrev pub single : Way → Which → ℕ → Step
single In w x = DmaWrite w x
single Out w x = DmaRead w

-- one for each byte of memory
abbrev pub singles : Way → Which → List ℕ → List Step
singles way w memory = map (single way w) memory

-- of steps in a row, those up to the first that finds the side's REQUEST inactive. It is asked before each, the first too
unfoldable pub while_requested : Which → Chip → List Step → List Step
while_requested w k [] = []
while_requested w k (s ∷ ss) = cond (request k.control w) (s ∷ while_requested w (step k s).chip ss) []

-- of one step for each byte of memory, those that are taken while REQUEST is active
abbrev pub taken : Way → Which → Chip → List ℕ → List Step
taken way w k memory = while_requested w k (singles way w memory)

-- no step is taken where it doesn't begin
abbrev pub if_begun : Begins → List Step → List Step
if_begun (Ok u) ss = ss
if_begun (Err a) ss = []

-- the single steps of a burst: while REQUEST is active and memory remains
unfoldable pub steps : Way → Chip → Which → List ℕ → List Step
steps way k w memory = if_begun (begins way k.control w (length memory)) (taken way w k memory)

-- the number of single DMA steps while REQUEST holds and memory remains
abbrev pub burst_count : Way → Chip → Which → List ℕ → ℕ
burst_count way k w memory = length (steps way k w memory)

-- ---- what it does

-- their number, or what is answered before the first
abbrev pub answer_of : Begins → ℕ → BurstAnswer
answer_of (Ok u) n = Moved n
answer_of (Err a) n = a

-- the record that those steps leave, and their number
unfoldable pub burst : Way → Chip → Which → List ℕ → Stepped BurstAnswer
burst way k w memory =
    record { chip = ran k (steps way k w memory); answer = answer_of (begins way k.control w (length memory)) (burst_count way k w memory) }

-- the bytes that the steps of a history answer
abbrev pub bytes_of : List Entry → List ℕ
bytes_of = map (λ e. value e.answer)

-- memory after steps: the bytes that they give, and behind them what was there
abbrev pub overwritten : Chip → List Step → List ℕ → List ℕ
overwritten k ss memory = bytes_of (history k ss) ++ drop (length ss) memory

-- the memory that a burst out of the FIFO leaves
unfoldable pub filled : Chip → Which → List ℕ → List ℕ
filled k w memory = overwritten k (steps Out k w memory) memory
