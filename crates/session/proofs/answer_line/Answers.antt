-- The line as it is read, what it does, and its report.
use Rattle.line.specs.Readings.{Reading}
use mathlib.Core.Path.{ap, ◌∙◌}
use Rattle.session.specs.Bench.{turned}
use Rattle.session.specs.Feed.{bench_of}
use Rattle.session.specs.Turns.{answered_of, buffer_after}
use Rattle.session.proofs.Turns.{answered_by}
use Rattle.session.proofs.answer_line.Goals as goal

pub returns : goal.returns
returns c =
    let start = c in
    let s = start.args.session in
    let b = bench_of s start.args.buffer.now in
    let e = rw c.new.ensures at c.turn-t.ensures in
    let r = c.read_line-read.ensures in
    record {
      result = answered_by s b _ _ e.result _ c.report.ensures ∙ ap (λ (x : Reading). answered_of s (turned b x)) r;
      content = e.content ∙ ap (λ (x : Reading). buffer_after (turned b x)) r;
    }
