-- A burst over a Control by value and a lent buffer hands back all of it but the buffer, and its loop takes the single steps.
use Rattle.std.specs.Prelude.{ℕ, ◌≡◌, List, length}
use Rattle.machine.specs.declared.Which.{Which}
use Rattle.machine.specs.declared.Chip.{Chip}
use Rattle.machine.specs.declared.Stepped.{Stepped}
use Rattle.machine.specs.History.{ran}
use Rattle.chip.specs.declared.BesideBuffer.{BesideBuffer}
use Rattle.chip.specs.Lent.{LeavesParts}
use Rattle.dma.specs.declared.Way.{Way}
use Rattle.dma.specs.declared.Way.TheVariants.{Out}
use Rattle.dma.specs.declared.BurstAnswer.{BurstAnswer}
use Rattle.dma.specs.Answers.{paper}
use Rattle.dma.specs.Burst.{taken, overwritten}

-- it leaves the burst b, and on paper its answer is that of b
abbrev pub LeavesBurst : Stepped BurstAnswer → BesideBuffer BurstAnswer → List ℕ → Type 0
LeavesBurst b r buffer = LeavesParts paper b r buffer

-- l is the chip after the single steps for memory, and n is their number
abbrev pub Runs : Way → Which → Chip → List ℕ → Chip → ℕ → Type 0
Runs way w k memory l n = (l ≡ ran k (taken way w k memory)) × (n ≡ length (taken way w k memory))

-- new is memory with the bytes that they give in front
abbrev pub Fills : Which → Chip → List ℕ → List ℕ → Type 0
Fills w k memory new = new ≡ overwritten k (taken Out w k memory) memory
