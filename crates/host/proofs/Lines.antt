-- A frame does what its line does in a session that has the chip that is meant, so do frames one after the other, and a refused start leaves no chip to step. Assumes nothing.
use Rattle.std.specs.Prelude.{Ok, Err}
use Rattle.line.specs.Readings.{Reading}
use mathlib.Core.Path.{◌≡◌, refl, sym, ap, ap₂, ◌∙◌}
use mathlib.Core.List.{List, [], ◌∷◌}
use Prim.Native.Nat.{ℕ, ◌<◌}
use mathlib.Core.Bool.{Bool, true, false}
use borrow.Author.Tests.{lt-leb}
use Rattle.machine.specs.Record.{chip_over}
use Rattle.machine.specs.Answers.{refused}
use Rattle.machine.specs.Reset.{fresh, started, Started}
use Rattle.machine.specs.Step.{step, buffer_of}
use Rattle.machine.specs.Validity.{valid, in_range}
use Rattle.machine.proofs.Refused.{refused_is}
use Rattle.machine.specs.declared.Control.{Control}
use Rattle.machine.specs.declared.Chip.{Chip}
use Rattle.line.specs.declared.Frame.TheVariants.{Begin, Does}
use Rattle.line.proofs.Refused.{told}
use Rattle.session.specs.Bench.{Turned, bench, begins, turned, printed, lines_of, count_of}
use Rattle.host.specs.declared.HostControl.{HostControl}
use Rattle.host.specs.Records.{plain, meant, shown}
use Rattle.host.specs.Calls.{fault_shown, FaultTold, left, left_by_start, left_by_step, left_by_turn, framed, begun, looked, reported, reports, prints, FramedIsTurned, ReportsArePrints, NoChipSteps}
use Rattle.host.proofs.BothWays.{means_shown, shows_meant}

start_is_line : (h : HostControl) (l : List ℕ) (r : Started) → plain h ≡ true → left_by_start h l r ≡ left_by_turn (begins (bench true (chip_over (meant h) l)) r)
start_is_line h l (Ok c) p = refl
start_is_line h l (Err r) p = sym (ap (λ (x : HostControl). left x (Ok (refused r)) l) (shows_meant h p))

pub framed_is_turned : FramedIsTurned
unfolding framed turned
framed_is_turned h l (Err f) p = sym (ap (λ (x : HostControl). left x (Err f) l) (shows_meant h p))
framed_is_turned h l (Ok (Begin pins)) p = start_is_line h l (started pins) p
framed_is_turned h l (Ok (Does s)) p = rw p

-- ---- a line's fault

pub fault_told : FaultTold
unfolding framed
fault_told l =
    record {
      of_frame = λ f e. ap fault_shown e;
      of_fault = λ x h b e. let t = told l x e in rw e (refl, sym t.0, sym t.1);
    }

-- ---- frames one after the other

starts_present : (k : Chip) (r : Started) → (begins (bench true k) r).after.present ≡ true
starts_present k (Ok c) = refl
starts_present k (Err r) = refl

-- a chip that is there stays there
stays_present : (k : Chip) (x : Reading) → (turned (bench true k) x).after.present ≡ true
unfolding turned
stays_present k (Err f) = refl
stays_present k (Ok (Begin pins)) = starts_present k (started pins)
stays_present k (Ok (Does s)) = refl

reported_is_printed : (t : Turned) → t.after.present ≡ true → reported (left_by_turn t) ≡ printed t
unfolding looked printed lines_of count_of
reported_is_printed t p = let c = means_shown t.after.chip.control in rw (c.0, c.1, p)

pub reports_are_prints : ReportsArePrints
unfolding reports prints
reports_are_prints [] h l p = refl
reports_are_prints (x ∷ xs) h l p =
    let t = turned (bench true (chip_over (meant h) l)) x in
    let k = t.after.chip in
    let there = stays_present (chip_over (meant h) l) x in
    let c = means_shown k.control in
    rw (framed_is_turned h l x p)
    (ap₂ ◌∷◌ (reported_is_printed t there)
    (reports_are_prints xs (shown k.control) (buffer_of k) c.0
    ∙ ap (λ (y : Control). prints (bench true (chip_over y (buffer_of k))) xs) c.1
    ∙ ap (λ (b : Bool). prints (bench b k) xs) (sym there)))

-- ---- a refused start

unknown_pins : (pins : ℕ) → 2 < pins → valid (fresh pins) ≡ false
unfolding valid in_range
unknown_pins pins h = rw (lt-leb pins 2 h)

pub no_chip_steps : NoChipSteps
unfolding framed begun started
no_chip_steps pins l m s h =
    let c = means_shown (fresh pins) in
    rw (lt-leb pins 2 h, c.0) (ap left_by_step (ap (λ (x : Control). step (chip_over x m) s) c.1 ∙ refused_is (chip_over (fresh pins) m) s (unknown_pins pins h)))
