-- A burst of a host, either way: that of the record that is meant, and all as it was where it answers Floating or a refusal. Assumes nothing.
use Prim.Native.Nat.{ℕ}
use mathlib.Core.Path.{◌≡◌, refl, ap}
use mathlib.Core.Bool.{true}
use mathlib.Core.List.{List}
use mathlib.Core.Logic.{inl, inr}
use lib.ListN.{length}
use Rattle.std.specs.Prelude.{Result, Ok, Err}
use Rattle.machine.specs.declared.Which.{Which}
use Rattle.machine.specs.Record.{chip_over}
use Rattle.machine.proofs.Tests.{test}
use Rattle.dma.specs.declared.Way.{Way}
use Rattle.dma.specs.declared.BurstAnswer.{BurstAnswer}
use Rattle.dma.specs.declared.BurstAnswer.TheVariants.{Moved, Floating, Refused}
use Rattle.dma.specs.Answers.{number}
use Rattle.dma.specs.Burst.{Begins, begins}
use Rattle.dma.proofs.Bursts.{burst_counts, burst_keeps}
use Rattle.machine.specs.declared.Refusal.{Refusal}
use Rattle.host.specs.declared.HostControl.{HostControl}
use Rattle.host.specs.Records.{plain, meant}
use Rattle.host.specs.Bursts.{burst_left, left_by_burst, is_side, side_numbered, asked, left_by_asked, host_burst, DoneOrKept, BurstsKeep}
use Rattle.host.proofs.BothWays.{shows_meant}

-- ---- what is kept

answered : (h : HostControl) (l memory : List ℕ) (a : BurstAnswer) → DoneOrKept h l memory (burst_left h a l memory)
answered h l memory (Moved n) = inl refl
answered h l memory Floating = inr refl
answered h l memory (Refused n) = inr refl

by_begins : (way : Way) (h : HostControl) (l : List ℕ) (w : Which) (memory : List ℕ) → plain h ≡ true → (b : Begins) → begins way (meant h) w (length memory) ≡ b
    → DoneOrKept h l memory (left_by_burst way (chip_over (meant h) l) w memory)
by_begins way h l w memory p (Ok u) e = inl (ap number (burst_counts way (chip_over (meant h) l) w memory e).answer)
by_begins way h l w memory p (Err a) e =
    let k = burst_keeps way (chip_over (meant h) l) w memory a e in
    rw (k.0, k.1, shows_meant h p) (answered h l memory a)

pub bursts_keep : BurstsKeep
unfolding host_burst asked
bursts_keep way h l side memory =
    let P : Result Which Refusal → Type 0 = λ x. DoneOrKept h l memory (left_by_asked way h l x memory) in
    let w : Which = side_numbered side in
    test P (is_side side)
    (λ _. test P (plain h) (λ p. by_begins way h l w memory p (begins way (meant h) w (length memory)) refl) (λ _. inr refl))
    (λ _. inr refl)
