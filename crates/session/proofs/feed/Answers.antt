-- Each turn takes a line's six digits at once or one byte: the loop's state is that of the bytes taken, and the output that of their answers.
use mathlib.Core.Path.{◌∙◌}
use native.Mathlib.Omega.{arith}
use lib.ListN.{length-drop}
use Rattle.line.specs.declared.Partial.{Partial}
use Rattle.session.specs.declared.Session.{Session}
use Rattle.session.specs.Feed.{reply}
use Rattle.session.proofs.Laws.{begins, line, byte, full, ended, strode, moved, done, same_length as same-length-of}
use Rattle.session.proofs.Laws.{state_held, rest_whole, put_front, length_reply}
use Rattle.session.proofs.Turns.{closed_by_lem, reply_by}
use Rattle.session.proofs.feed.Goals as goal
use Rattle.session.proofs.feed.Goals.{then-b-eq-LF+else-output-o-lt-REPORT, else-b-eq-LF, else-loop-i-test, then-loop-i-test+then-b-eq-LF+then-output-o-lt-REPORT}

pub loop-i-init : goal.loop-i-init
loop-i-init c = begins _ _ _

pub bounds-input-i : goal.bounds-input-i
bounds-input-i c = let a = strode c.loop-i.invariant c.loop-i-test.true _ c.look_ahead-ahead.ensures in omega (arith, a.1.0)

pub overflow_sub-output : goal.overflow_sub-output
overflow_sub-output c = let u = c.loop-i.invariant in omega (arith, same-length-of u, u.room)

pub put_report-requires : goal.put_report-requires
put_report-requires c = let l = c.loop-i in rw (rest_whole l.output l.o, length-drop l.o l.output) (omega (arith, c.if-output-o-lt-REPORT.false))

pub overflow_add-o : goal.overflow_add-o
overflow_add-o c =
    let u = c.loop-i.invariant in
    let start = c in
    record { fits = omega (arith, same-length-of u, u.room, c.if-output-o-lt-REPORT.false, start.well_formed.1.1.1.0.0) }

pub overflow_add-i : goal.overflow_add-i
overflow_add-i c =
    let a = strode c.loop-i.invariant c.loop-i-test.true _ c.look_ahead-ahead.ensures in
    let start = c in
    record { fits = omega (arith, a.1.0, start.well_formed.1.1.0.0) }

pub loop-i-smaller : goal.loop-i-smaller
loop-i-smaller c = let a = strode c.loop-i.invariant c.loop-i-test.true _ c.look_ahead-ahead.ensures in omega (arith, a.1.0, a.1.1)

pub loop-i-preserved : goal.loop-i-preserved
loop-i-preserved c =
    let l = c.loop-i in
    let r = c.look_ahead-ahead in
    let a = strode l.invariant c.loop-i-test.true _ r.ensures in
    let s = state_held r.result.partial l.held l.buffer in
    elim c.if-b-eq-LF.branch [
      | then-b-eq-LF+else-output-o-lt-REPORT w ↦
          let read = w.read_partial.ensures in
          let turn = w.turn-t.ensures in
          let reports = w.report.ensures ∙ reply_by s _ read _ turn.result in
          moved (line a.0 a.1.0 w.if-b-eq-LF.true w.if-output-o-lt-REPORT.false)
          ((λ j. state_held (w.partial-is j) (w.held-is j) (w.buffer-is j))
          ∙ closed_by_lem s _ read _ turn.result _ _ w.blank_line-partial.ensures turn.content)
          (w.output-is ∙ rw (w.put_report.ensures, reports) (put_front l.output l.o (reply s) (length_reply s)))
          w.o-is
      | else-b-eq-LF w ↦
          moved (byte a.0 a.1.0 w.if-b-eq-LF.false)
          (λ j. state_held ((w.partial-is ∙ w.more-partial.ensures) j) (w.held-is j) (w.buffer-is j))
          w.output-is
          w.o-is
    ]

pub shape_of-output : goal.shape_of-output
shape_of-output c = same-length-of c.loop-i.invariant

-- the loop is left at the input's end, or before an LF whose answer has no room
pub returns : goal.returns
returns c =
    let l = c.loop-i in
    let u = rw c.new-held.ensures at l.invariant in
    let s : Partial → Session = λ p. record { partial = p; present = l.held.present; control = l.held.control } in
    elim c.loop-i-test.branch [
      | else-loop-i-test w ↦
          let d = done (s l.partial) l.buffer u (ended u w.loop-i-test.false) in
          rw (w.partial-is, w.i-is) (record { result = d.result; output = d.out; buffer = d.buf; within = (u.within, u.room) })
      | then-loop-i-test+then-b-eq-LF+then-output-o-lt-REPORT w ↦
          let a = strode u w.loop-i-test.true _ w.look_ahead-ahead.ensures in
          let d = done (s w.look_ahead-ahead.result.partial) l.buffer a.0 (full a.0 a.1.0 w.if-b-eq-LF.true w.if-output-o-lt-REPORT.true) in
          rw (w.partial-is, w.i-is) (record { result = d.result; output = d.out; buffer = d.buf; within = (a.0.within, a.0.room) })
    ]
