-- Each feed goes on where the one before it stopped, and takes a byte or more.
use Rattle.std.proofs.Common.{rules}
use Rattle.fiobench.specs.Lent.{state_in}
use Rattle.fiobench.proofs.Laws.{feeds_on, gains, all_fed, some_fed}
use Rattle.fiobench.proofs.Replay.pass.Goals as goal

pub returns-in_err-write_out : goal.returns-in_err-write_out
returns-in_err-write_out g c =
    let l = c.loop-rest in
    let f = c.feed-r in
    some_fed _ _ _ _ _ c.from_residual.ensures.0 (feeds_on _ (state_in l.self) _ _ _ _ f.result l.invariant f.ensures.result f.ensures.buffer)

pub loop-rest-smaller : goal.loop-rest-smaller
loop-rest-smaller g c =
    let l = c.loop-rest in
    let f = c.feed-r in
    gains (state_in l.self) l.rest.now _ f.result f.ensures.result (search rules) l.self.room

pub loop-rest-preserved : goal.loop-rest-preserved
loop-rest-preserved g c =
    let l = c.loop-rest in
    let f = c.feed-r in
    feeds_on _ (state_in l.self) _ _ _ _ f.result l.invariant f.ensures.result f.ensures.buffer

pub returns : goal.returns
returns g c = all_fed _ _ _ _ _ (search rules) c.loop-rest.invariant
