-- Case by case, the definition.
use Rattle.dma.proofs.BurstAnswer.number_of.Goals as goal

pub returns-in-Refused : goal.returns-in-Refused
returns-in-Refused c = rw c.in-Refused.is
