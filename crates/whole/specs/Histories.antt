-- The steps among a session's lines, and the machine's history of them.
use Rattle.line.specs.Readings.{Reading, LineAnswer}
use Rattle.std.specs.Prelude.{ℕ, ◌≡◌, cond, List, [], ◌∷◌, ◌++◌, leb, Ok, Err}
use Rattle.machine.specs.declared.Chip.{Chip}
use Rattle.machine.specs.declared.Step.{Step}
use Rattle.machine.specs.Answers.{number, value}
use Rattle.machine.specs.Reset.{new_chip}
use Rattle.machine.specs.History.{Entry, history, lines}
use Rattle.line.specs.declared.Frame.TheVariants.{Begin, Does}
use Rattle.line.specs.Frames.{reading}
use Rattle.session.specs.Bench.{Bench, Turned, fields, printed}
use Rattle.whole.specs.Whole.{turns}

-- ---- what a session shows of its steps

-- a step, the answer to it, and the chip after it
abbrev pub entry_by : Step → LineAnswer → Chip → List Entry
entry_by s (Err f) k = []
entry_by s (Ok a) k = record { asked = s; answer = a; after_lines = lines k.control; after = k } ∷ []

-- a step's entry, as its line shows it; without a chip a step is refusal 5, and no step of a machine
abbrev pub entry_of : Turned → Reading → List Entry
entry_of t (Err f) = []
entry_of t (Ok (Begin pins)) = []
entry_of t (Ok (Does s)) = cond t.after.present (entry_by s t.answer t.after.chip) []

-- the entries of the steps among lines, of what the lines did
abbrev pub entries_of : List Turned → List (List ℕ) → List Entry
entries_of [] ls = []
entries_of (t ∷ ts) [] = []
entries_of (t ∷ ts) (l ∷ ls) = entry_of t (reading l) ++ entries_of ts ls

abbrev pub entries : Bench → List (List ℕ) → List Entry
entries b ls = entries_of (turns b ls) ls

-- what is printed for a step's line is its entry: the answer's number and value, the lines and the count after it
abbrev pub PrintsEntry : Type 0
PrintsEntry =
    (t : Turned) (r : Reading) (e : Entry) → entry_of t r ≡ e ∷ []
    → printed t ≡ fields (number e.answer) (value e.answer) e.after_lines e.after.control.count

-- ---- what the machine makes of them

-- an accepted start, and the steps up to the next one
pub record Chapter : Type 0 where
  pub pins : ℕ
  pub steps : List Step

-- the steps of lines: those before the first accepted start, and the chapters
pub record Chapters : Type 0 where
  pub before : List Step
  pub begun : List Chapter

abbrev pub chapters : List Step → List Chapter → Chapters
chapters ss cs = record { before = ss; begun = cs }

-- a line in front: pins of 0, 1 or 2 begin a chapter
abbrev pub with_line : Reading → Chapters → Chapters
with_line (Err f) c = c
with_line (Ok (Begin pins)) c = cond (leb pins 2) (chapters [] (record { pins = pins; steps = c.before } ∷ c.begun)) c
with_line (Ok (Does s)) c = chapters (s ∷ c.before) c.begun

abbrev pub chapters_in : List (List ℕ) → Chapters
chapters_in [] = chapters [] []
chapters_in (l ∷ ls) = with_line (reading l) (chapters_in ls)

-- the history of a new chip, for each accepted start
abbrev pub histories_of : List Chapter → List Entry
histories_of [] = []
histories_of (c ∷ cs) = history (new_chip c.pins) c.steps ++ histories_of cs

-- ---- the promises

-- from any record, with or without a chip: answers, lines and records of a session's steps are those of the machine's history of these steps, from the
-- record at hand up to the first accepted start, and from a new chip after each
abbrev pub Histories : Type 0
Histories =
    (b : Bench) (ls : List (List ℕ))
    → entries b ls ≡ cond b.present (history b.chip (chapters_in ls).before) [] ++ histories_of (chapters_in ls).begun
