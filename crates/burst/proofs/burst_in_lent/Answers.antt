-- Refused or Floating, or its steps.
use mathlib.Core.Path.{◌≡◌, refl, sym, ◌∙◌}
use mathlib.Core.List.{[]}
use native.Mathlib.Omega.{arith}
use lib.ListN.{get_or, drop}
use Rattle.machine.specs.Record.{chip_over}
use Rattle.machine.specs.Step.{proceeded}
use Rattle.dma.specs.Burst.{single, taken}
use Rattle.dma.specs.declared.Way.TheVariants.{In}
use Rattle.dma.proofs.Bursts.{begun}
use Rattle.burst.proofs.Laws.{begins_at, left, moves_on, quiet, over, done, did, stayed, in_parts}
use Rattle.burst.proofs.burst_in_lent.Goals as goal
use Rattle.burst.proofs.burst_in_lent.Goals.{else-loop-byte-test, then-loop-byte-test+then-not-goes_on}

pub returns-in-Err : goal.returns-in-Err
returns-in-Err c =
    let a = c.args in
    in_parts _ (stayed In (chip_over a.control a.buffer.now) a.side a.memory.now (sym c.in-Err.ensures))

pub loop-byte-init : goal.loop-byte-init
loop-byte-init c =
    let a = c.args in
    let e = sym c.may_begin.ensures ∙ c.in_default.is in
    record { underway = begins_at _ _ _ _ (begun In a.control a.side _ e).fits; counted = refl }

pub single-requires : goal.single-requires
single-requires c =
    let a = c.args in
    let e = sym c.may_begin.ensures ∙ c.in_default.is in
    omega (arith, c.loop-byte.invariant.counted, c.loop-byte-test.true, (begun In a.control a.side _ e).short)

pub loop-byte-preserved : goal.loop-byte-preserved
loop-byte-preserved c =
    let a = c.args in
    let l = c.loop-byte in
    let s = single In a.side (get_or a.memory.now l.byte-index 0) in
    let q = sym c.goes_on.ensures ∙ c.if-not-goes_on.false in
    record {
      underway = moves_on l.invariant.underway c.loop-byte-test.true q (left (proceeded (chip_over l.sent.control l.buffer) s) c.single.ensures.step.leaves);
      counted = rw (c.single.ensures.moved, l.invariant.counted);
    }

pub returns : goal.returns
returns c =
    let a = c.args in
    let l = c.loop-byte in
    let k = chip_over a.control a.buffer.now in
    let e = sym c.may_begin.ensures ∙ c.in_default.is in
    let no_more : taken In a.side (chip_over l.sent.control l.buffer) (drop l.byte-index a.memory.now) ≡ [] =
    elim c.loop-byte-test.branch [
      | else-loop-byte-test w ↦ over In _ _ _ l.invariant.underway.within w.loop-byte-test.false
      | then-loop-byte-test+then-not-goes_on w ↦ quiet In _ _ _ (sym w.goes_on.ensures ∙ w.if-not-goes_on.true)
    ]
    in
    let d = rw (← l.invariant.counted) at (did In k a.side a.memory.now e (done l.invariant.underway no_more)) in
    rw c.ended.ensures (in_parts _ d)
