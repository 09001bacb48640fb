-- The answer's number and value, and the record's lines and count.
use Prim.Native.Nat.{ℕ}
use mathlib.Core.Path.{◌≡◌, ◌∙◌}
use mathlib.Core.Bool.{cond}
use Rattle.machine.specs.History.{lines}
use Rattle.session.specs.Bench.{fields}
use Rattle.session.proofs.Turns.{fields_are}
use Rattle.session.proofs.held.Held.report.Goals as goal
use Rattle.session.proofs.held.Held.report.Goals.{then-self, else-self}

pub returns : goal.returns
returns c =
    let h = c.args.self in
    let shown : ◌≡◌ {A = ℕ × ℕ} c.if-self.lines (cond h.present (lines h.control) 0, cond h.present h.control.count 0) =
    elim c.if-self.branch [
      | then-self w ↦ rw (w.lines-is, w.lines_of.ensures, w.if-self.true)
      | else-self w ↦ rw (w.lines-is, w.if-self.false)
    ]
    in
    fields_are _ _ _ _ c.hex_digit.ensures c.hex_digit-2.ensures c.hex_digit-3.ensures c.hex_digit-4.ensures c.hex_digit-5.ensures c.hex_digit-6.ensures
    c.hex_digit-7.ensures c.hex_digit-8.ensures
    ∙ (λ j. fields (c.number_of-n.ensures j) (c.value_of-v.ensures j) (shown j).0 (shown j).1)
