-- What the calls of a host leave. A flag's byte above 1 is a bit that is held at zero: refusal 1, and all stays as it was.
use Rattle.line.specs.Readings.{Reading, LineAnswer}
use Rattle.std.specs.Prelude.{ℕ, ◌+◌, ◌/◌, ◌%◌, ◌<◌, ◌≡◌, true, cond, List, [], ◌∷◌, replicate, Ok, Err}
use Rattle.machine.specs.declared.Control.{Control}
use Rattle.machine.specs.declared.Step.{Step}
use Rattle.machine.specs.declared.Stepped.{Stepped}
use Rattle.machine.specs.declared.Answer.{Answer}
use Rattle.machine.specs.declared.Answer.TheVariants.{Done, Byte, Refused}
use Rattle.machine.specs.Record.{chip_over}
use Rattle.machine.specs.Answers.{refused}
use Rattle.machine.specs.Reset.{fresh, started, Started}
use Rattle.machine.specs.Step.{step, buffer_of}
use Rattle.machine.specs.Leaves.{Leaves}
use Rattle.machine.specs.History.{lines}
use Rattle.line.specs.declared.Frame.TheVariants.{Begin, Does}
use Rattle.line.specs.declared.Frame.{Frame}
use Rattle.line.specs.declared.Fault.{Fault}
use Rattle.line.specs.Faults.{refusal, column}
use Rattle.line.specs.Frames.{reading}
use Rattle.line.specs.Answers.{number, value}
use Rattle.session.specs.declared.Fed.{Fed}
use Rattle.session.specs.declared.Finished.{Finished}
use Rattle.session.specs.Bench.{Bench, Turned, bench, turned, fields, printed}
use Rattle.session.specs.Feed.{State, state_of, fed_of, output_of, buffer_left, last, finished_of}
use Rattle.host.specs.declared.HostControl.{HostControl}
use Rattle.host.specs.declared.HostSession.{HostSession}
use Rattle.host.specs.declared.HostAnswer.{HostAnswer}
use Rattle.host.specs.declared.HostStepped.{HostStepped}
use Rattle.host.specs.declared.HostFed.{HostFed}
use Rattle.host.specs.declared.HostFault.{HostFault}
use Rattle.host.specs.Records.{plain, meant, shown, plain_session, session_meant, session_shown}

-- an answer, by this paper's number and value
abbrev pub line_answer_shown : LineAnswer → HostAnswer
line_answer_shown a = record { number = number a; value = value a }

-- one that isn't a line's: as the answer to a frame is shown
abbrev pub answer_shown : Answer → HostAnswer
answer_shown a = line_answer_shown (Ok a)

-- ---- a start and a step

-- what is handed back, and the lent buffer
pub record Left : Type 0 where
  pub back : HostStepped
  pub buffer : List ℕ

abbrev pub handed_back : HostControl → LineAnswer → HostStepped
handed_back h a = record { control = h; answer = line_answer_shown a }

abbrev pub left : HostControl → LineAnswer → List ℕ → Left
left h a l = record { back = handed_back h a; buffer = l }

-- a call that leaves it
abbrev pub LeavesCall : Left → HostStepped → List ℕ → Type 0
LeavesCall o r buffer = Leaves o.back o.buffer r buffer

-- a start: the new chip with 128 zeros, or refusal 3, which keeps what there was
abbrev pub left_by_start : HostControl → List ℕ → Started → Left
left_by_start h l (Ok c) = left (shown c) (Ok Done) (replicate 128 0)
left_by_start h l (Err r) = left h (Ok (refused r)) l

abbrev pub left_by_step : Stepped Answer → Left
left_by_step r = left (shown r.chip.control) (Ok r.answer) (buffer_of r.chip)

-- a frame: refusals 44 and 45, then 3, then the step's, of which refusal 1 comes first
unfoldable pub framed : HostControl → List ℕ → Reading → Left
framed h l (Err f) = left h (Err f) l
framed h l (Ok (Begin pins)) = left_by_start h l (started pins)
framed h l (Ok (Does s)) = cond (plain h) (left_by_step (step (chip_over (meant h) l) s)) (left h (Ok (Refused 1)) l)

-- a start where nothing was before: with refusal 3 the record handed back has those pins, which refusal 1 forbids
unfoldable pub begun : ℕ → List ℕ → Left
begun pins l = left_by_start (shown (fresh pins)) l (started pins)

-- on what a refused start hands back, every step is refusal 1
abbrev pub NoChipSteps : Type 0
NoChipSteps =
    (pins : ℕ) (l m : List ℕ) (s : Step) → 2 < pins
    → framed (begun pins l).back.control m (Ok (Does s)) ≡ left (shown (fresh pins)) (Ok (Refused 1)) m

-- ---- a line

-- the refusal and the column of a line's first fault; of a frame 0 and 0
abbrev pub fault_shown : Reading → HostFault
fault_shown (Ok f) = record { refusal = 0; column = 0 }
fault_shown (Err x) = record { refusal = refusal x; column = column x }

-- of a line, what is shown as its fault, and what its frame is answered on any record: none is 0 and 0; one changes nothing, forbidden record or not, and the
-- byte that is answered tells the same
pub record ToldAlike (l : List ℕ) : Type 0 where
  pub of_frame : (f : Frame) → reading l ≡ Ok f → fault_shown (reading l) ≡ record { refusal = 0; column = 0 }
  pub of_fault :
      (x : Fault) (h : HostControl) (b : List ℕ) → reading l ≡ Err x
      → (framed h b (reading l) ≡ left h (Err x) b)
      × ((fault_shown (reading l)).refusal ≡ 40 + (framed h b (reading l)).back.answer.value / 16)
      × ((fault_shown (reading l)).column ≡ (framed h b (reading l)).back.answer.value % 16)

abbrev pub FaultTold : Type 0
FaultTold = (l : List ℕ) → ToldAlike l

-- ---- a look

-- a number of the record
unfoldable pub looked : (Control → ℕ) → HostControl → HostAnswer
looked f h = cond (plain h) (answer_shown (Byte (f (meant h)))) (answer_shown (Refused 1))

-- ---- a session

abbrev pub fed_back : HostSession → ℕ → ℕ → Answer → HostFed
fed_back s used written a = record { session = s; used = used; written = written; answer = answer_shown a }

-- of a feed and of a finish: Done and what it leaves; a finish uses no input
abbrev pub fed_shown : Fed → HostFed
fed_shown f = fed_back (session_shown f.session) f.used f.written Done

abbrev pub finished_shown : Finished → HostFed
finished_shown f = fed_back (session_shown f.session) 0 f.written Done

-- the state that a session and the lent buffer mean
abbrev pub state_meant : HostSession → List ℕ → State
state_meant s l = state_of (session_meant s) l

unfoldable pub host_fed : HostSession → List ℕ → List ℕ → List ℕ → HostFed
host_fed s l input output = cond (plain_session s) (fed_shown (fed_of (state_meant s l) input output)) (fed_back s 0 0 (Refused 1))

unfoldable pub host_finished : HostSession → List ℕ → List ℕ → HostFed
host_finished s l output = cond (plain_session s) (finished_shown (finished_of (state_meant s l) output)) (fed_back s 0 0 (Refused 1))

-- the lent output and the lent buffer, where so much input comes
unfoldable pub host_output : HostSession → List ℕ → List ℕ → List ℕ → List ℕ
host_output s l input output = cond (plain_session s) (output_of (state_meant s l) input output) output

unfoldable pub host_buffer : HostSession → List ℕ → List ℕ → List ℕ → List ℕ
host_buffer s l input output = cond (plain_session s) (buffer_left (state_meant s l) input output) l

-- the LF that a finish brings, if a line was begun
abbrev pub last_of : HostSession → List ℕ → List ℕ
last_of s l = last (state_meant s l)

-- so a finish leaves the output and the buffer
abbrev pub host_last_output : HostSession → List ℕ → List ℕ → List ℕ
host_last_output s l output = host_output s l (last_of s l) output

abbrev pub host_last_buffer : HostSession → List ℕ → List ℕ → List ℕ
host_last_buffer s l output = host_buffer s l (last_of s l) output

-- ---- frames and lines

-- what a line leaves on a bench with a chip, as a host sees it
abbrev pub left_by_turn : Turned → Left
left_by_turn t = left (shown t.after.chip.control) t.answer (buffer_of t.after.chip)

-- of a record whose flags are in range, a frame does what its line does in a session that has that chip
abbrev pub FramedIsTurned : Type 0
FramedIsTurned = (h : HostControl) (l : List ℕ) (x : Reading) → plain h ≡ true → framed h l x ≡ left_by_turn (turned (bench true (chip_over (meant h) l)) x)

-- the line that a host prints for a frame: the answer, and a look at the record after it
abbrev pub reported : Left → List ℕ
reported r =
    fields r.back.answer.number r.back.answer.value (looked lines r.back.control).value
    (looked (λ c. c.count) r.back.control).value

-- frames one after the other, each on the record and the buffer that the one before left
unfoldable pub reports : HostControl → List ℕ → List Reading → List (List ℕ)
reports h l [] = []
reports h l (x ∷ xs) = reported (framed h l x) ∷ reports (framed h l x).back.control (framed h l x).buffer xs

-- what a session prints for the same lines
unfoldable pub prints : Bench → List Reading → List (List ℕ)
prints b [] = []
prints b (x ∷ xs) = printed (turned b x) ∷ prints (turned b x).after xs

-- a host that steps frame by frame, and hands over what it was handed back, prints what a session prints
abbrev pub ReportsArePrints : Type 0
ReportsArePrints = (xs : List Reading) (h : HostControl) (l : List ℕ) → plain h ≡ true → reports h l xs ≡ prints (bench true (chip_over (meant h) l)) xs
