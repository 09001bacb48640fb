-- Each feed takes a byte or more.
use mathlib.Core.Path.{ap}
use Rattle.std.proofs.Common.{◌-◌, length, take, drop, length-drop, length-take, rules}
use Rattle.session.specs.declared.Fed.{Fed}
use Rattle.whole.proofs.Pieces.{taken_some}
use Rattle.vectors.proofs.replay.Goals as goal

pub loop-rest-smaller : goal.loop-rest-smaller
loop-rest-smaller c =
    let l = c.loop-rest in
    let piece = take c.min.result l.rest.now in
    let room = length (take (c.min-end.result - l.done) (drop l.done l.came)) in
    let used = ap (λ (f : Fed). f.used) c.feed-r.ensures.result in
    search (rules, used, taken_some room piece (search rules), length-take c.min.result l.rest.now, length-drop c.feed-r.result.used l.rest.now)
