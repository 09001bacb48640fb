-- A session without a chip, one that is handed in with a record that refusal 1 forbids, and a line that is no frame.
use Rattle.line.specs.Readings.{Reading, LineAnswer}
use Rattle.std.specs.Prelude.{ℕ, ◌+◌, ◌-◌, ◌*◌, ◌≤◌, ◌≡◌, Bool, false, cond, ◌&&◌, List, [], ◌∷◌, map, Ok, Err}
use Rattle.machine.specs.declared.Answer.TheVariants.{Refused}
use Rattle.machine.specs.Validity.{valid}
use Rattle.line.specs.declared.Frame.TheVariants.{Begin, Does}
use Rattle.line.specs.declared.Fault.{Fault}
use Rattle.line.specs.Faults.{refusal, column}
use Rattle.line.specs.Frames.{reading}
use Rattle.session.specs.Bench.{Bench, turn, turned, lines_of, count_of, fields, printed}
use Rattle.whole.specs.Whole.{turns}

-- no line begins a new chip: each is a step, no frame, or a start that is refused
abbrev pub KeepsChip : Reading → Type 0
KeepsChip (Err f) = Unit {0}
KeepsChip (Ok (Begin pins)) = 3 ≤ pins
KeepsChip (Ok (Does s)) = Unit {0}

abbrev pub OneChip : List (List ℕ) → Type 0
OneChip [] = Unit {0}
OneChip (l ∷ ls) = KeepsChip (reading l) × OneChip ls

-- how a line is refused: 41 to 45, then 3 or 5, then the step's, which begins with 1
abbrev pub refused_as : Bool → Reading → LineAnswer
refused_as present (Err f) = Err f
refused_as present (Ok (Begin pins)) = Ok (Refused 3)
refused_as present (Ok (Does s)) = Ok (Refused (cond present 1 5))

-- without a chip, and with one whose record isn't valid, up to an accepted start: each line is refused, a step as E5 or as E1, and nothing changes
abbrev pub RefusedByLine : Type 0
RefusedByLine =
    (b : Bench) (ls : List (List ℕ)) → (b.present && valid b.chip.control) ≡ false → OneChip ls
    → turns b ls ≡ map (λ (l : List ℕ). turn (refused_as b.present (reading l)) b) ls

-- ---- no frame

-- a line that is no frame changes nothing, with a chip or without; it prints E4, its refusal's second digit and its column, and the lines and the count that
-- there are
abbrev pub PrintsFault : Type 0
PrintsFault =
    (b : Bench) (l : List ℕ) (f : Fault) → reading l ≡ Err f
    → ((turned b (reading l)).after ≡ b) × (printed (turned b (reading l)) ≡ fields 0xE4 ((refusal f - 40) * 16 + column f) (lines_of b) (count_of b))
