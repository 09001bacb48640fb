-- Demand 3, of the bytes that a session prints.
use Rattle.std.specs.Prelude.{ℕ, ◌/◌, ◌%◌, ◌≤◌, ◌≡◌, Bool, false, ◌&&◌, ◌||◌, List, [], ◌∷◌, ◌++◌, eqb, length, get_or, Err}
use Rattle.line.specs.declared.Fault.{Fault}
use Rattle.line.specs.Digits.{capital}
use Rattle.line.specs.Frames.{reading}
use Rattle.line.specs.Unfinished.{blank}
use Rattle.session.specs.Bench.{Bench, turned, printed}
use Rattle.session.specs.Feed.{state}
use Rattle.whole.specs.Whole.{lines_in, answers, left, Call, ran, finish_wrote, finish_left}
use Rattle.masked.specs.Lines.{takes_out, next, Inputs}

-- which lines take a byte out of the FIFO
abbrev pub takes : Bench → List (List ℕ) → List Bool
takes b [] = []
takes b (l ∷ ls) = takes_out b l ∷ takes (next b l) ls

-- a place in an output, nine bytes to a line, where a digit of the value of a byte taken out stands: the third or fourth of such a line
unfoldable pub of_value : List Bool → ℕ → Bool
of_value ts i = get_or ts (i / 9) false && (eqb (i % 9) 2 || eqb (i % 9) 3)

-- outputs of one length that are equal but at such places
pub record EqualBut (ts : List Bool) (x y : List ℕ) : Type 0 where
  pub same_length : length x ≡ length y
  pub elsewhere : (i : ℕ) → of_value ts i ≡ false → get_or x i 0 ≡ get_or y i 0

-- a chip is there or not, and the record is the same but for the buffer's bytes
pub record EqualBenches (b d : Bench) : Type 0 where
  pub same_present : b.present ≡ d.present
  pub same_control : b.chip.control ≡ d.chip.control

-- of two inputs' lines: the same lines take a byte out, the outputs are equal but for the values of these bytes, and so are the records left
pub record EqualSessions (b d : Bench) (ls ms : List (List ℕ)) : Type 0 where
  pub same_takes : takes b ls ≡ takes d ms
  pub outputs : EqualBut (takes b ls) (answers b ls) (answers d ms)
  pub benches : EqualBenches (left b ls) (left d ms)

-- from any bench, with a chip or without, valid or not
abbrev pub Masked : Type 0
Masked = (b : Bench) (ls ms : List (List ℕ)) → Inputs b b ls ms → EqualSessions b b ls ms

-- ---- a refused line

-- what is printed for a line that is no frame comes of its text, whatever the case of its digits, and of the record but for its payload
abbrev pub RefusedAlike : Type 0
RefusedAlike =
    (b d : Bench) (l m : List ℕ) (f : Fault) → EqualBenches b d → capital l ≡ capital m → reading l ≡ Err f
    → printed (turned b (reading l)) ≡ printed (turned d (reading m))

-- ---- whole inputs

-- an input's bytes, the calls of feed that take all of it, in whatever pieces, and what finish is lent after them, nine bytes or more
pub record Feeding (b : Bench) : Type 0 where
  pub input : List ℕ
  pub calls : List Call
  pub lent : List ℕ
  pub room : 9 ≤ length lent
  pub all_taken : (ran (state blank b) input calls).rest ≡ []

-- what the calls and finish write, and the bench that they leave
abbrev pub output : (b : Bench) → Feeding b → List ℕ
output b f = (ran (state blank b) f.input f.calls).wrote ++ finish_wrote (ran (state blank b) f.input f.calls).state_after f.lent

abbrev pub leaves : (b : Bench) → Feeding b → Bench
leaves b f = (finish_left (ran (state blank b) f.input f.calls).state_after f.lent).bench

-- of two inputs, each fed in its own pieces: all that is written is equal but for the values of bytes taken out, and so are the records left
abbrev pub MaskedInput : Type 0
MaskedInput =
    (b : Bench) (f g : Feeding b) → Inputs b b (lines_in f.input) (lines_in g.input)
    → EqualBut (takes b (lines_in f.input)) (output b f) (output b g) × EqualBenches (leaves b f) (leaves b g)
