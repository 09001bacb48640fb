-- A line that was begun is fed its LF; else nothing is done.
use mathlib.Core.Path.{refl, ap}
use native.Mathlib.Omega.{arith}
use Rattle.session.specs.declared.Fed.{Fed}
use Rattle.session.specs.Feed.{part, finished}
use Rattle.session.proofs.finish.Goals as goal

pub returns-then-not-is_begun : goal.returns-then-not-is_begun
unfolding part
returns-then-not-is_begun c = rw (← c.is_begun.ensures, c.if-not-is_begun.true) (record { result = refl; output = refl; buffer = refl; within = omega arith })

pub returns : goal.returns
returns c =
    let e = c.feed-written.ensures in
    rw (← c.is_begun.ensures, c.if-not-is_begun.false)
    (record { result = ap (λ (f : Fed). finished f.session f.written) e.result; output = e.output; buffer = e.buffer; within = e.within.1 })
