-- Each turn leaves out a source that has no flag, and nothing is held above it.
use Prim.Native.Nat.{ℕ, ◌-◌}
use mathlib.Core.Path.{◌≡◌, refl, sym, ◌∙◌}
use mathlib.Core.Bool.{true, false}
use native.Mathlib.Omega.{arith}
use Rattle.bits.specs.Bits.{bit, every}
use Rattle.bits.proofs.Laws.{and_both}
use Rattle.side.proofs.Laws.{free, highest_here, highest_below, highest_zero, no_flags, none_free, on_shift, off_shift, passed}
use Rattle.side.proofs.search.Goals as goal

pub returns-then-flags-eq0 : goal.returns-then-flags-eq0
returns-then-flags-eq0 c = no_flags c.args.flags c.args.held 7 c.if-flags-eq0.true

pub loop-k-init : goal.loop-k-init
unfolding every
loop-k-init c = (refl, refl)

pub loop-k-preserved : goal.loop-k-preserved
loop-k-preserved c =
    let l = c.loop-k in
    let a = c.args in
    let k : ℕ = l.k - 1 in
    let off : bit k a.flags ≡ false = off_shift k a.flags (omega arith) c.if-flags-m-ne0.false in (
      passed l.k a.held false c.loop-k-test.true l.auto.k c.ranges.held.fits l.invariant.0 (off_shift k a.held (omega arith) c.if-held-m-ne0.false),
      highest_below (free a.flags a.held) k (λ z. omega arith) (rw off refl) ∙ l.invariant.1,
    )

pub returns-then-held-m-ne0 : goal.returns-then-held-m-ne0
returns-then-held-m-ne0 c =
    let l = c.loop-k in
    let a = c.args in
    let k : ℕ = l.k - 1 in
    none_free a.flags a.held k (omega arith) c.ranges.held.fits
    (passed l.k a.held true c.loop-k-test.true l.auto.k c.ranges.held.fits l.invariant.0 (on_shift k a.held (omega arith) c.if-held-m-ne0.true))
    ∙ l.invariant.1

pub returns-then-flags-m-ne0 : goal.returns-then-flags-m-ne0
returns-then-flags-m-ne0 c =
    let l = c.loop-k in
    let a = c.args in
    let k : ℕ = l.k - 1 in
    sym
    (highest_here (free a.flags a.held) k (λ z. omega arith)
    (and_both _ _ (on_shift k a.flags (omega arith) c.if-flags-m-ne0.true)
    (passed l.k a.held false c.loop-k-test.true l.auto.k c.ranges.held.fits l.invariant.0 (off_shift k a.held (omega arith) c.if-held-m-ne0.false))))
    ∙ l.invariant.1

pub returns-after-loop-k : goal.returns-after-loop-k
returns-after-loop-k c = let l = c.loop-k in highest_zero (free c.args.flags c.args.held) (l.k - 1) (omega arith) ∙ l.invariant.1
