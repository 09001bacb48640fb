-- What is over a Control by value and a lent buffer hands back all but the buffer.
use Rattle.std.specs.Prelude.{◌≡◌, List, ℕ}
use Rattle.machine.specs.declared.Answer.{Answer}
use Rattle.machine.specs.declared.Stepped.{Stepped}
use Rattle.machine.specs.Record.{chip_over}
use Rattle.machine.specs.Answers.{paper}
use Rattle.machine.specs.Step.{buffer_of}
use Rattle.machine.specs.Leaves.{Leaves}
use Rattle.chip.specs.declared.BesideBuffer.{BesideBuffer}

abbrev pub beside_buffer : {A : Type 0} → Stepped A → BesideBuffer A
beside_buffer t = record { control = t.chip.control; answer = t.answer }

-- both together
abbrev pub joined : {A : Type 0} → BesideBuffer A → List ℕ → Stepped A
joined r buffer = record { chip = chip_over r.control buffer; answer = r.answer }

-- it leaves the step or the burst t, and by what answers are on paper its answer is that of t
pub record LeavesParts {A : Type 0} (paper : A → ℕ × ℕ) (t : Stepped A) (r : BesideBuffer A) (buffer : List ℕ) : Type 0 where
  pub leaves : Leaves (beside_buffer t) (buffer_of t.chip) r buffer
  pub on_paper : paper r.answer ≡ paper t.answer

-- of a step
abbrev pub LeavesStep : Stepped Answer → BesideBuffer Answer → List ℕ → Type 0
LeavesStep t r buffer = LeavesParts paper t r buffer
