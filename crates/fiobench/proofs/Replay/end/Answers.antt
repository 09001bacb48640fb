-- The last line is answered where the input ended.
use Rattle.std.proofs.Common.{◌≡◌, Ok, rules}
use Rattle.fiobench.specs.declared.Went.TheVariants.{Ended}
use Rattle.fiobench.specs.Lent.{state_in}
use Rattle.fiobench.proofs.Laws.{finish_leaves}
use Rattle.fiobench.proofs.Replay.end.Goals as goal

pub returns-in-Ok-Ended : goal.returns-in-Ok-Ended
returns-in-Ok-Ended g c =
    let s = c.args.self.now in
    let f = c.finish-r in
    let ended : c.args.went ≡ Ok Ended = search rules in
    rw ended (finish_leaves (state_in s) _ _ _ s.room f.ensures.result f.ensures.buffer)
