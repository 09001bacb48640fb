-- Bytes in, bytes out: what a call takes of its input, and what it leaves.
use Rattle.std.specs.Prelude.{ℕ, suc, ◌+◌, ◌-◌, Bool, cond, List, [], ◌∷◌, ◌++◌, eqb, ltb, length, take, drop}
use Rattle.machine.specs.declared.Control.{Control}
use Rattle.machine.specs.Record.{chip_over}
use Rattle.machine.specs.Step.{buffer_of}
use Rattle.line.specs.declared.Partial.{Partial}
use Rattle.line.specs.Unfinished.{blank, longer, begun, reading_of}
use Rattle.session.specs.declared.Session.{Session}
use Rattle.session.specs.declared.Fed.{Fed}
use Rattle.session.specs.declared.Finished.{Finished}
use Rattle.session.specs.Bench.{Bench, bench, turned, printed}

-- the line that is being read, and the bench
pub record State : Type 0 where
  pub line : Partial
  pub bench : Bench

abbrev pub state : Partial → Bench → State
state p b = record { line = p; bench = b }

-- a session and the buffer that is lent beside it
abbrev pub bench_of : Session → List ℕ → Bench
bench_of s b = bench s.present (chip_over s.control b)

abbrev pub state_of : Session → List ℕ → State
state_of s b = state s.partial (bench_of s b)

abbrev pub session_of : State → Session
session_of s = record { partial = s.line; present = s.bench.present; control = s.bench.chip.control }

-- the line is answered
unfoldable pub closed : State → State
closed s = state blank (turned s.bench (reading_of s.line)).after

unfoldable pub reply : State → List ℕ
reply s = printed (turned s.bench (reading_of s.line))

-- a byte: LF ends the line
unfoldable pub ate : State → ℕ → State
ate s b = cond (eqb b 10) (closed s) (state (longer s.line b) s.bench)

unfoldable pub told : State → ℕ → List ℕ
told s b = cond (eqb b 10) (reply s) []

-- bytes, one after the other: the state after them, and the answers that they bring
abbrev pub after : State → List ℕ → State
after s [] = s
after s (b ∷ bs) = after (ate s b) bs

abbrev pub said : State → List ℕ → List ℕ
said s [] = []
said s (b ∷ bs) = told s b ++ said (ate s b) bs

-- how many bytes are taken where there is so much room for answers: those before the first LF whose answer has no room
abbrev pub taken : ℕ → List ℕ → ℕ
taken room [] = 0
taken room (b ∷ bs) = cond (eqb b 10) (cond (ltb room 9) 0 (suc (taken (room - 9) bs))) (suc (taken room bs))

-- the bytes that are taken
unfoldable pub part : List ℕ → List ℕ → List ℕ
part input output = take (taken (length output) input) input

-- l with vs from index i on
abbrev pub put : List ℕ → ℕ → List ℕ → List ℕ
put l i vs = take i l ++ vs ++ drop (i + length vs) l

abbrev pub fed_by : Partial → Bool → Control → ℕ → ℕ → Fed
fed_by p b c used written = record { session = record { partial = p; present = b; control = c }; used = used; written = written }

-- what a feed leaves: the session with how much it took and wrote, the output, and the lent buffer
abbrev pub fed_of : State → List ℕ → List ℕ → Fed
fed_of s input output =
    record {
      session = session_of (after s (part input output));
      used = taken (length output) input;
      written = length (said s (part input output));
    }

abbrev pub output_of : State → List ℕ → List ℕ → List ℕ
output_of s input output = said s (part input output) ++ drop (length (said s (part input output))) output

abbrev pub buffer_left : State → List ℕ → List ℕ → List ℕ
buffer_left s input output = buffer_of (after s (part input output)).bench.chip

-- a last line that has no LF, if one was begun, ends here
abbrev pub last : State → List ℕ
last s = cond (begun s.line) (10 ∷ []) []

abbrev pub finished : Session → ℕ → Finished
finished s n = record { session = s; written = n }

abbrev pub finished_of : State → List ℕ → Finished
finished_of s output = finished (fed_of s (last s) output).session (fed_of s (last s) output).written

abbrev pub last_output : State → List ℕ → List ℕ
last_output s output = output_of s (last s) output

abbrev pub last_buffer : State → List ℕ → List ℕ
last_buffer s output = buffer_left s (last s) output
