-- Without a chip, or with a record that isn't valid, each line is refused and nothing changes. Assumes nothing.
use Rattle.std.specs.Prelude.{Ok, Err}
use Rattle.line.specs.Readings.{Reading}
use Prim.Native.Nat.{◌+◌, ◌-◌, ◌*◌}
use native.Mathlib.Omega.{arith}
use mathlib.Core.Path.{◌≡◌, refl, ap}
use mathlib.Core.Bool.{Bool, true, false, ◌&&◌}
use mathlib.Core.List.{List, [], ◌∷◌}
use borrow.Author.Tests.{lt-leb}
use Rattle.machine.specs.declared.Chip.{Chip}
use Rattle.machine.specs.Reset.{started}
use Rattle.machine.specs.Validity.{valid}
use Rattle.machine.proofs.Refused.{refused_is}
use Rattle.line.specs.declared.Frame.TheVariants.{Begin, Does}
use Rattle.line.specs.Frames.{reading}
use Rattle.line.specs.Faults.{refusal, column}
use Rattle.line.specs.Answers.{value}
use Rattle.line.proofs.Refused.{told}
use Rattle.session.specs.Bench.{bench, Turned, turn, turned, printed}
use Rattle.whole.specs.Refused.{KeepsChip, refused_as, RefusedByLine, PrintsFault}

refused_once : (p : Bool) (k : Chip) (r : Reading) → (p && valid k.control) ≡ false → KeepsChip r → turned (bench p k) r ≡ turn (refused_as p r) (bench p k)
unfolding turned started
refused_once p k (Err f) v h = refl
refused_once p k (Ok (Begin pins)) v h = rw (lt-leb pins 2 h)
refused_once true k (Ok (Does s)) v h = rw (refused_is k s v)
refused_once false k (Ok (Does s)) v h = refl

pub refused_by_line : RefusedByLine
refused_by_line b [] v h = refl
refused_by_line b (l ∷ ls) v h =
    rw (refused_once b.present b.chip (reading l) v h.0)
    (ap (λ (ts : List Turned). turn (refused_as b.present (reading l)) b ∷ ts) (refused_by_line b ls v h.1))

-- ---- no frame

pub prints_fault : PrintsFault
unfolding turned printed
prints_fault b l f e =
    let t = told l f e in
    let v : value (Err f) ≡ (refusal f - 40) * 16 + column f = omega (arith, t.0, t.1) in
    rw (e, v) (refl, refl)
