-- Of kind 00 the address has a use.
use Rattle.std.proofs.Common.{rules}
use Rattle.line.specs.Faults.{unused, first}
use Rattle.line.specs.Frames.{kind_of, meant, meaning}
use Rattle.frame.proofs.decode.Goals as goal

pub returns-then-kind-eq0 : goal.returns-then-kind-eq0
unfolding kind_of meant meaning unused first
returns-then-kind-eq0 c = search rules
