-- What a line does, and the line that is printed for it.
use Rattle.machine.specs.declared.Answer.{Answer}
use Rattle.line.specs.Readings.{Reading, LineAnswer}
use Rattle.std.specs.Prelude.{ℕ, Bool, true, cond, List, [], ◌∷◌, ◌++◌, Ok, Err}
use Rattle.machine.specs.declared.Control.{Control}
use Rattle.machine.specs.declared.Chip.{Chip}
use Rattle.machine.specs.declared.Stepped.{Stepped}
use Rattle.machine.specs.declared.Answer.TheVariants.{Refused}
use Rattle.machine.specs.Record.{chip}
use Rattle.machine.specs.Answers.{start_answer}
use Rattle.machine.specs.Reset.{started, zero_payload, Started}
use Rattle.machine.specs.Step.{step}
use Rattle.machine.specs.History.{lines}
use Rattle.line.specs.declared.Frame.TheVariants.{Begin, Does}
use Rattle.line.specs.Digits.{pair}
use Rattle.line.specs.Answers.{number, value}

-- whether there is a chip, and the chip; without one the record is not looked at
pub record Bench : Type 0 where
  pub present : Bool
  pub chip : Chip

abbrev pub bench : Bool → Chip → Bench
bench p k = record { present = p; chip = k }

-- a line's answer, and the bench after it
pub record Turned : Type 0 where
  pub answer : LineAnswer
  pub after : Bench

abbrev pub turn : LineAnswer → Bench → Turned
turn a b = record { answer = a; after = b }

-- a start: a new chip with 128 zeros, or a refusal, which keeps any earlier chip
abbrev pub begins : Bench → Started → Turned
begins b (Ok c) = turn (Ok (start_answer (Ok c))) (bench true (chip c zero_payload))
begins b (Err r) = turn (Ok (start_answer (Err r))) b

-- a step of the chip that is there
abbrev pub steps : Stepped Answer → Turned
steps r = turn (Ok r.answer) (bench true r.chip)

-- refusals 41 to 45, then 3 or 5, then the step's
unfoldable pub turned : Bench → Reading → Turned
turned b (Err f) = turn (Err f) b
turned b (Ok (Begin pins)) = begins b (started pins)
turned b (Ok (Does s)) = cond b.present (steps (step b.chip s)) (turn (Ok (Refused 5)) b)

-- without a chip, lines and count are 00
unfoldable pub lines_of : Bench → ℕ
lines_of b = cond b.present (lines b.chip.control) 0

unfoldable pub count_of : Bench → ℕ
count_of b = cond b.present b.chip.control.count 0

-- four bytes, two capital hex digits each, and LF
unfoldable pub fields : ℕ → ℕ → ℕ → ℕ → List ℕ
unfolding pair
fields n v l c = pair n ++ pair v ++ pair l ++ pair c ++ (10 ∷ [])

-- answer, its byte, lines, count
unfoldable pub printed : Turned → List ℕ
printed t = fields (number t.answer) (value t.answer) (lines_of t.after) (count_of t.after)

-- the same by its parts, as the code has them
abbrev pub report_of : LineAnswer → Bool → Control → List ℕ
report_of a present c = fields (number a) (value a) (cond present (lines c) 0) (cond present c.count 0)
