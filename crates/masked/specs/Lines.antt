-- Two inputs of lines that are equal but for the bytes offered and the case of digits, with the same verdicts on the bytes moved.
use Rattle.line.specs.Readings.{Reading}
use Rattle.std.specs.Prelude.{ℕ, ◌≡◌, Bool, false, cond, ◌&&◌, List, [], ◌∷◌, take, Ok, Err}
use Rattle.std.proofs.Math.Option.{Option, none, some}
use Rattle.machine.specs.declared.Step.{Step}
use Rattle.machine.specs.Fifo.{offered}
use Rattle.line.specs.declared.Frame.TheVariants.{Begin, Does}
use Rattle.line.specs.Digits.{capital}
use Rattle.line.specs.Frames.{reading}
use Rattle.session.specs.Bench.{Bench, turned}
use Rattle.masking.specs.Premises.{moves_out, SameVerdict}

-- ---- a line and the step that it is

abbrev pub step_of : Reading → Option Step
step_of (Err f) = none
step_of (Ok (Begin pins)) = none
step_of (Ok (Does s)) = some s

-- the step that a line takes, if there is a chip to take it
unfoldable pub step_at : Bench → List ℕ → Option Step
step_at b l = cond b.present (step_of (reading l)) none

-- what is asked of a step; a line that takes none has no part in it
abbrev pub of_step : (Step → Bool) → Option Step → Bool
of_step p none = false
of_step p (some s) = p s

-- a line offers a byte, by the chip as it stands at that line
unfoldable pub offers : Bench → List ℕ → Bool
offers b l = of_step (offered b.chip.control) (step_at b l)

-- a line takes a byte out of the FIFO
unfoldable pub takes_out : Bench → List ℕ → Bool
takes_out b l = of_step (moves_out b.chip.control) (step_at b l)

-- ---- two lines

-- each offers a byte, by its own chip
abbrev pub both_offer : Bench → Bench → List ℕ → List ℕ → Bool
both_offer b d l m = offers b l && offers d m

-- equal but for the case of digits: in kind and address, which are four characters, and unless both offer a byte, in all
pub record SameLine (b d : Bench) (l m : List ℕ) : Type 0 where
  pub kind_address : take 4 (capital l) ≡ take 4 (capital m)
  pub all : both_offer b d l m ≡ false → capital l ≡ capital m

-- the byte moved by one matches the moving side's pattern exactly when the byte moved by the other does
pub record SameVerdicts (b d : Bench) (l m : List ℕ) : Type 0 where
  pub verdicts : (s t : Step) → step_at b l ≡ some s → step_at d m ≡ some t → SameVerdict b.chip d.chip s t

pub record AlikeLines (b d : Bench) (l m : List ℕ) : Type 0 where
  pub same_line : SameLine b d l m
  pub same_verdicts : SameVerdicts b d l m

-- ---- two inputs

-- the bench that a line leaves
abbrev pub next : Bench → List ℕ → Bench
next b l = (turned b (reading l)).after

-- the same-numbered lines are alike, each at the bench that the lines before it left
abbrev pub Inputs : Bench → Bench → List (List ℕ) → List (List ℕ) → Type 0
Inputs b d [] [] = Unit {0}
Inputs b d [] (m ∷ ms) = ⊥
Inputs b d (l ∷ ls) [] = ⊥
Inputs b d (l ∷ ls) (m ∷ ms) = AlikeLines b d l m × Inputs (next b l) (next d m) ls ms
