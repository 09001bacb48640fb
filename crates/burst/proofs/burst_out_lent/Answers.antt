-- Refused or Floating, or its steps.
use mathlib.Core.Path.{◌≡◌, refl, sym, ap, ◌∙◌}
use mathlib.Core.List.{[]}
use native.Mathlib.Omega.{arith}
use lib.ListN.{drop}
use Rattle.std.proofs.lemmas.List.{set-get_or}
use Rattle.machine.specs.declared.Answer.{Answer}
use Rattle.machine.specs.declared.Step.TheVariants.{DmaRead}
use Rattle.machine.specs.Record.{chip_over}
use Rattle.machine.specs.Answers.{value}
use Rattle.machine.specs.Step.{proceeded}
use Rattle.chip.specs.declared.BesideBuffer.{BesideBuffer}
use Rattle.dma.specs.Burst.{taken}
use Rattle.dma.specs.declared.Way.TheVariants.{Out}
use Rattle.dma.proofs.Bursts.{begun}
use Rattle.burst.proofs.Laws.{begins_at, left, moves_on, quiet, over, done, did, stayed, in_parts}
use Rattle.burst.proofs.Laws.{begins_filling, fills_one, filled_up, filled_did, filled_stayed}
use Rattle.burst.proofs.burst_out_lent.Goals as goal
use Rattle.burst.proofs.burst_out_lent.Goals.{else-loop-place-test, then-loop-place-test+then-not-goes_on}

pub returns-in-Err : goal.returns-in-Err
returns-in-Err c =
    let a = c.args in
    let k = chip_over a.control a.buffer.now in
    let e = sym c.in-Err.ensures in
    record { burst = in_parts _ (stayed Out k a.side a.memory.now e); memory = filled_stayed k a.side a.memory.now e }

pub loop-place-init : goal.loop-place-init
loop-place-init c =
    let a = c.args in
    let e = sym c.may_begin.ensures ∙ c.in_default.is in
    record { underway = begins_at _ _ _ _ (begun Out a.control a.side _ e).fits; filling = begins_filling _ _ _; counted = refl }

pub single-requires : goal.single-requires
single-requires c =
    let a = c.args in
    let e = sym c.may_begin.ensures ∙ c.in_default.is in
    omega (arith, c.loop-place.invariant.counted, c.loop-place-test.true, (begun Out a.control a.side _ e).short)

pub loop-place-preserved : goal.loop-place-preserved
loop-place-preserved c =
    let a = c.args in
    let l = c.loop-place in
    let i = l.invariant in
    let h = c.loop-place-test.true in
    let q = sym c.goes_on.ensures ∙ c.if-not-goes_on.false in
    let r = c.single.ensures.step in
    let e = left (proceeded (chip_over l.got.control l.buffer) (DmaRead a.side)) r.leaves in
    let v = c.value_of.ensures ∙ ap (λ (x : BesideBuffer Answer). value x.answer) r.leaves.result in
    record {
      underway = moves_on i.underway h q e;
      filling = fills_one i.underway i.filling h q e v;
      counted = rw (c.single.ensures.moved, i.counted);
    }

pub returns : goal.returns
returns c =
    let a = c.args in
    let l = c.loop-place in
    let i = l.invariant in
    let k = chip_over a.control a.buffer.now in
    let e = sym c.may_begin.ensures ∙ c.in_default.is in
    let end : (taken Out a.side (chip_over l.got.control l.buffer) (drop l.place-index a.memory.now) ≡ []) × (c.loop-place-test.memory ≡ l.memory) =
    elim c.loop-place-test.branch [
      | else-loop-place-test w ↦ (over Out _ _ _ i.underway.within w.loop-place-test.false, w.memory-is)
      | then-loop-place-test+then-not-goes_on w ↦
          (quiet Out _ _ _ (sym w.goes_on.ensures ∙ w.if-not-goes_on.true), w.memory-is ∙ set-get_or l.memory l.place-index 0)
    ]
    in
    record {
      burst = rw (c.ended.ensures, i.counted) (in_parts _ (did Out k a.side a.memory.now e (done i.underway end.0)));
      memory = end.1 ∙ filled_did k a.side a.memory.now e (filled_up i.underway i.filling end.0);
    }
