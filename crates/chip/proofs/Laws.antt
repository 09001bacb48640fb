-- What is equal is answered alike. Assumes nothing.
use Rattle.machine.specs.Reset.{Started}
use Prim.Native.Nat.{ℕ}
use mathlib.Core.Path.{◌≡◌, ap, ap₂}
use mathlib.Core.List.{List}
use Rattle.machine.specs.declared.Answer.{Answer}
use Rattle.machine.specs.declared.Stepped.{Stepped}
use Rattle.machine.specs.Answers.{paper, start_answer}
use Rattle.machine.specs.Step.{buffer_of}
use Rattle.machine.specs.Leaves.{Leaves}
use Rattle.chip.specs.declared.BesideBuffer.{BesideBuffer}
use Rattle.chip.specs.Lent.{beside_buffer, joined, LeavesParts}

-- what was taken apart is left
pub apart : {A : Type 0} {paper : A → ℕ × ℕ} (t : Stepped A) {r : BesideBuffer A} {buffer : List ℕ} → r ≡ beside_buffer t → buffer ≡ buffer_of t.chip
    → LeavesParts paper t r buffer
apart {A} {paper} t e f =
    record { leaves = record { result = e; content = search f }; on_paper = ap (λ (x : BesideBuffer A). paper x.answer) e }

-- and the parts make it again
pub together : {A : Type 0} (t : Stepped A) {r : BesideBuffer A} {b : List ℕ} → Leaves (beside_buffer t) (buffer_of t.chip) r b → joined r b ≡ t
together t e = ap₂ joined e.result e.content

pub start_alike : {r d : Started} → r ≡ d → (r ≡ d) × (paper (start_answer r) ≡ paper (start_answer d))
start_alike e = (e, ap (λ (x : Started). paper (start_answer x)) e)

pub step_alike : {r d : Stepped Answer} → r ≡ d → (r ≡ d) × (paper r.answer ≡ paper d.answer)
step_alike e = (e, ap (λ (x : Stepped Answer). paper x.answer) e)
