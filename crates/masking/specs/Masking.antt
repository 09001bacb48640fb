-- Demand 3, of the machine's history.
use Rattle.std.specs.Prelude.{◌≡◌, List, map}
use Rattle.machine.specs.declared.Control.{Control}
use Rattle.machine.specs.declared.Chip.{Chip}
use Rattle.machine.specs.declared.Step.{Step}
use Rattle.machine.specs.History.{Entry, history}
use Rattle.masking.specs.Premises.{Sessions}
use Rattle.masking.specs.Sight.{sights}

-- the record after each step, but for the buffer's bytes
abbrev pub controls : List Entry → List Control
controls = map (λ e. e.after.control)

-- from any record, valid or not: every answer, refusal, line and count is equal at every step; only the value of a byte taken out of the FIFO may differ.
-- And the whole record but for the buffer's bytes is equal at every step
abbrev pub Masking : Type 0
Masking =
    (k : Chip) (ss ts : List Step) → Sessions k k ss ts
    → (sights k (history k ss) ≡ sights k (history k ts)) × (controls (history k ss) ≡ controls (history k ts))
