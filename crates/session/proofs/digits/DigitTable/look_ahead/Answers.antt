-- By whether the line is blank, whether seven bytes are there, and whether six of them are digits.
use Prim.Native.Nat.{◌+◌, ◌-◌}
use mathlib.Core.Path.{◌≡◌, sym, ◌∙◌}
use native.Mathlib.Omega.{arith}
use Rattle.session.proofs.Laws.{whole_ahead, faulty_ahead, short_ahead}
use Rattle.session.proofs.digits.DigitTable.look_ahead.Goals as goal

pub returns-in-Some : goal.returns-in-Some
returns-in-Some c =
    let six : c.args.at + 6 - c.args.at ≡ 6 = omega arith in
    let e = rw six at c.value_of.ensures in
    whole_ahead _ _ _ c.is_blank.ensures c.if-is_blank-input.true (sym e ∙ c.in-Some.is)

pub returns-in_default : goal.returns-in_default
returns-in_default c =
    let six : c.args.at + 6 - c.args.at ≡ 6 = omega arith in
    let e = rw six at c.value_of.ensures in
    faulty_ahead _ _ _ (sym e ∙ c.in_default.is)

pub returns-else-is_blank-input : goal.returns-else-is_blank-input
returns-else-is_blank-input c = short_ahead _ _ _ c.is_blank.ensures c.if-is_blank-input.false
