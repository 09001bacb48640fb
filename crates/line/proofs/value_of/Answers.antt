-- A fault by its number and column, an answer as it is.
use Rattle.line.proofs.value_of.Goals as goal

pub returns-in-Err : goal.returns-in-Err
returns-in-Err c = cc
