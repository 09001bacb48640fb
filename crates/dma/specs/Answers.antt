-- What a burst's answer is on paper: its number and the value beside it.
use Rattle.std.specs.Prelude.{ℕ}
use Rattle.machine.specs.Answers as OfStep
use Rattle.machine.specs.declared.Refusal.{Refusal}
use Rattle.machine.specs.declared.Answer.TheVariants as A
use Rattle.dma.specs.declared.BurstAnswer.{BurstAnswer}
use Rattle.dma.specs.declared.BurstAnswer.TheVariants.{Moved, Floating, Refused}

-- a burst that goes its way is Done; Floating and refusals have the number that a step's have
abbrev pub number : BurstAnswer → ℕ
number (Moved n) = OfStep.number A.Done
number Floating = OfStep.number A.Floating
number (Refused n) = OfStep.number (A.Refused n)

abbrev pub refused : Refusal → BurstAnswer
refused r = Refused (OfStep.refusal_number r)

-- the number of bytes moved, or 0
abbrev pub value : BurstAnswer → ℕ
value (Moved n) = n
value Floating = 0
value (Refused n) = 0

-- this paper's number and value of an answer
abbrev pub paper : BurstAnswer → ℕ × ℕ
paper a = (number a, value a)
