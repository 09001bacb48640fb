-- A whole input: its lines, one by one, and what a sequence of calls makes of it.
use Rattle.std.specs.Prelude.{ℕ, ◌<◌, ◌≤◌, ◌≡◌, cond, List, [], ◌∷◌, ◌++◌, map, eqb, length, take, drop, Ok}
use Rattle.line.specs.declared.Frame.{Frame}
use Rattle.line.specs.Frames.{reading, written, Small}
use Rattle.line.specs.Unfinished.{blank}
use Rattle.session.specs.Bench.{Bench, Turned, turned, printed}
use Rattle.session.specs.Feed.{State, state, state_of, session_of, after, said, fed_of, output_of, buffer_left, last, finished, finished_of}

-- ---- the lines of an input

-- a first line with one character more in front
abbrev pub onto : ℕ → List (List ℕ) → List (List ℕ)
onto b [] = (b ∷ []) ∷ []
onto b (l ∷ ls) = (b ∷ l) ∷ ls

-- LF ends a line, and the last one may lack it
abbrev pub lines_in : List ℕ → List (List ℕ)
lines_in [] = []
lines_in (b ∷ bs) = cond (eqb b 10) ([] ∷ lines_in bs) (onto b (lines_in bs))

-- a frame written is one line, and it reads back as the frame
abbrev pub OneLine : Type 0
OneLine = (f : Frame) → Small f → map reading (lines_in (written f)) ≡ Ok f ∷ []

-- what lines do, one after the other
abbrev pub turns : Bench → List (List ℕ) → List Turned
turns b [] = []
turns b (l ∷ ls) = turned b (reading l) ∷ turns (turned b (reading l)).after ls

-- the output of a whole input: a line for each of its lines
abbrev pub printed_all : List Turned → List ℕ
printed_all [] = []
printed_all (t ∷ ts) = printed t ++ printed_all ts

abbrev pub answers : Bench → List (List ℕ) → List ℕ
answers b ls = printed_all (turns b ls)

-- the bench that lines leave
abbrev pub left : Bench → List (List ℕ) → Bench
left b [] = b
left b (l ∷ ls) = left (turned b (reading l)).after ls

-- ---- calls

-- one call of feed: how many bytes it is offered, of those that were not taken yet, and the output that it is lent
pub record Call : Type 0 where
  pub offered : ℕ
  pub lent : List ℕ

-- what calls leave: the state, the bytes that were not taken, and what was written, in one
pub record Ran : Type 0 where
  pub state_after : State
  pub rest : List ℕ
  pub wrote : List ℕ

abbrev pub ran_then : List ℕ → Ran → Ran
ran_then w r = record { state_after = r.state_after; rest = r.rest; wrote = w ++ r.wrote }

-- what the contract of feed says of one call after the other
abbrev pub ran : State → List ℕ → List Call → Ran
ran s input [] = record { state_after = s; rest = input; wrote = [] }
ran s input (c ∷ cs) =
    ran_then (take (fed_of s (take c.offered input) c.lent).written (output_of s (take c.offered input) c.lent))
    (ran (state_of (fed_of s (take c.offered input) c.lent).session (buffer_left s (take c.offered input) c.lent))
    (drop (fed_of s (take c.offered input) c.lent).used input) cs)

-- and of finish: what it writes, and what it leaves
abbrev pub finish_wrote : State → List ℕ → List ℕ
finish_wrote s lent = take (finished_of s lent).written (output_of s (last s) lent)

abbrev pub finish_left : State → List ℕ → State
finish_left s lent = state_of (finished_of s lent).session (buffer_left s (last s) lent)

-- ---- the promises

-- whatever the state and the calls, nothing is lost: what was written and what the bytes not taken still bring are what all bytes bring, and the
-- state that they then reach is the same
abbrev pub NothingLost : Type 0
NothingLost =
    (s : State) (input : List ℕ) (calls : List Call)
    → (said s input ≡ (ran s input calls).wrote ++ said (ran s input calls).state_after (ran s input calls).rest)
    × (after s input ≡ after (ran s input calls).state_after (ran s input calls).rest)

-- whatever the pieces and the outputs: once all is taken, what was written, with what finish then writes, is the lines' answers, and the record is
-- the one that the lines leave
abbrev pub Pieces : Type 0
Pieces =
    (b : Bench) (input : List ℕ) (calls : List Call) (lent : List ℕ) → 9 ≤ length lent → (ran (state blank b) input calls).rest ≡ []
    → ((ran (state blank b) input calls).wrote ++ finish_wrote (ran (state blank b) input calls).state_after lent ≡ answers b (lines_in input))
    × (finish_left (ran (state blank b) input calls).state_after lent ≡ state blank (left b (lines_in input)))

-- a finish that is lent less than nine bytes changes nothing, and may be called again
abbrev pub FinishWaits : Type 0
FinishWaits =
    (s : State) (lent : List ℕ) → length lent < 9
    → (finished_of s lent ≡ finished (session_of s) 0) × (output_of s (last s) lent ≡ lent) × (finish_left s lent ≡ s)

-- each call is offered a byte or more, and lent nine or more
abbrev pub Fair : List Call → Type 0
Fair [] = Unit {0}
Fair (c ∷ cs) = (1 ≤ c.offered) × (9 ≤ length c.lent) × Fair cs

-- such calls take all, if there are as many as bytes
abbrev pub Progress : Type 0
Progress = (s : State) (input : List ℕ) (calls : List Call) → Fair calls → length input ≤ length calls → (ran s input calls).rest ≡ []
