-- The promises hold: what a step is planned to do, for each thing that it can ask for. Assumes nothing.
use Rattle.std.specs.Prelude.{Some, None}
use Prim.Native.Nat.{ℕ}
use mathlib.Core.Path.{◌≡◌, refl, sym, ap, ◌∙◌}
use mathlib.Core.Bool.{Bool, true, false, not, ◌&&◌, false≢true, not-not}
use borrow.Author.Tests.{eqb-true}
use Rattle.bits.specs.Bits.{bit, field}
use Rattle.bits.proofs.Laws.{and_left, and_right}
use Rattle.machine.specs.declared.Which.{Which}
use Rattle.machine.specs.declared.Which.TheVariants.{One, Two}
use Rattle.machine.specs.declared.Side.{Side}
use Rattle.machine.specs.declared.Control.{Control}
use Rattle.machine.specs.declared.Payload.{Payload}
use Rattle.machine.specs.declared.Step.{Step}
use Rattle.machine.specs.declared.Step.TheVariants.{Write, Read, DmaWrite, DmaRead, Acknowledge, Reset}
use Rattle.machine.specs.declared.Action.{Action}
use Rattle.machine.specs.declared.Action.TheVariants.{Offer, Take, Store, Load, Aim, Grant, Renew, Float, Refuse}
use Rattle.machine.specs.declared.Effect.{Effect}
use Rattle.machine.specs.declared.Effect.TheVariants.{Keep}
use Rattle.machine.specs.declared.Reply.{Reply}
use Rattle.machine.specs.declared.Plan.{Plan}
use Rattle.machine.specs.Record.{chip, side_of, with_side, with_pointer, with_state1}
use Rattle.machine.specs.Modes.{connected, in_reset, live}
use Rattle.machine.specs.Addresses.{control0_reg, is_data, target, aims, closes, Target}
use Rattle.machine.specs.Fifo.{clear}
use Rattle.machine.specs.Interrupts.{interrupt}
use Rattle.machine.specs.Request.{both_afresh}
use Rattle.machine.specs.Reset.{emptied, reset}
use Rattle.machine.specs.Moves.{moved, after_accepted, after_given}
use Rattle.machine.specs.Registers.{wrote0, wrote1, wrote2, told, drained, rerun, set3, wrote3, sent, received, after_read, wrote_status, wrote, released}
use Rattle.machine.specs.Validity.{valid}
use Rattle.machine.specs.Step.{writing, by_dma, action, carries, plan3, failed, offering, taking, renewed, storing, loading, aimed, granted, plan, verdict, is_waiting, ended, planned, decided, carried, front_of, step}
use Rattle.machine.specs.Promises.{PinsFixed, UnconnectedFloats, ResetTwoOnly, ResetZeroes, names_control0, releases, WriteResets, AllBut, InResetKeeps}
use Rattle.machine.proofs.Tests.{test, second_off}

-- ---- an unconnected side

pub unconnected_floats : UnconnectedFloats
unfolding step decided planned ended closes action by_dma interrupt live plan
unconnected_floats k (Write w a x) v h = rw (v, h)
unconnected_floats k (Read w a) v h = rw (v, h)
unconnected_floats k (DmaWrite w x) v h = rw (v, h)
unconnected_floats k (DmaRead w) v h = rw (v, h)
unconnected_floats k (Acknowledge w) v h = rw (v, h)
unconnected_floats k (Reset w) v h = rw (v, h)

-- ---- reset

pub reset_two_only : ResetTwoOnly
unfolding step decided planned ended closes action plan renewed reset
reset_two_only k v h = rw (v, h)

pub reset_zeroes : ResetZeroes
unfolding step decided planned ended closes action plan renewed reset emptied
reset_zeroes k One v h = rw (v, h) (record { bytes = refl; bits = refl })
reset_zeroes k Two v h = rw (v, h) (record { bytes = refl; bits = refl })

-- a Control 0 write with bit 0 set, out of reset, is planned as a reset
writing_renews : (c : Control) (w : Which) (x : ℕ) (t : Target) (matched : Bool) → in_reset c w ≡ false → names_control0 t ≡ true → bit 0 x ≡ true
    → plan c (writing w x t) matched ≡ renewed c w
unfolding plan storing renewed
writing_renews c w x (Some r) matched z n h = rw (eqb-true r.number control0_reg n, z, h) refl
writing_renews c w x None matched z n h = absurd (false≢true n)

-- a reset leaves State 0, so a return to it changes nothing
renewed_ended : (c : Control) (w : Which) (back : Bool) → ended back w (renewed c w) ≡ renewed c w
unfolding ended renewed reset emptied
renewed_ended c One true = refl
renewed_ended c Two true = refl
renewed_ended c w false = refl

-- what a reset does on the payload does not depend on the byte in hand
renewed_carried : (c : Control) (w : Which) (x y front : ℕ) (l : Payload) → carried (renewed c w) x front l ≡ carried (renewed c w) y front l
unfolding renewed
renewed_carried c One x y front l = refl
renewed_carried c Two x y front l = refl

pub write_resets : WriteResets
unfolding step decided planned action live plan
write_resets k w a x v l m n h =
    let p : connected k.control w ≡ true = search and_left in
    let q : not (in_reset k.control w) ≡ true = search and_right in
    let z : in_reset k.control w ≡ false = sym (not-not (in_reset k.control w)) ∙ ap not q in
    rw (v, p, m, writing_renews, renewed_ended k.control w (closes k.control (Write w a x)), renewed_ended) (renewed_carried k.control w x 0 _ _)

-- ---- the pins

-- d has the pins of c
record Pinned (c d : Control) : Type 0 where
  pinned : d.pins ≡ c.pins

pinned_same : {c : Control} → Pinned c c
pinned_same = record { pinned = refl }

pinned_side : {c : Control} (w : Which) (s : Side) (d : Control) → Pinned c d → Pinned c (with_side w s d)
pinned_side One s d h = record { pinned = h.pinned }
pinned_side Two s d h = record { pinned = h.pinned }

module _ (c : Control) where
  wrote2_pinned : (w : Which) (x : ℕ) → Pinned c (wrote2 c w x)
  unfolding wrote2
  wrote2_pinned One x = record { pinned = refl }
  wrote2_pinned Two x = pinned_same

  drained_pinned : (d : Control) → Pinned c d → Pinned c (drained d)
  unfolding drained emptied
  drained_pinned d h = test (Pinned c) (clear d) (λ _. h) (λ _. record { pinned = h.pinned })

  afresh_pinned : (d : Control) → Pinned c d → Pinned c (both_afresh d)
  afresh_pinned d h = record { pinned = h.pinned }

  rerun_pinned : (change : Bool) (d : Control) → Pinned c d → Pinned c (rerun change d)
  unfolding rerun
  rerun_pinned change d h = search (test (Pinned c), afresh_pinned)

  wrote3_pinned : (w : Which) (x : ℕ) → Pinned c (wrote3 c w x)
  unfolding wrote3 set3 told
  wrote3_pinned w x = rerun_pinned _ _ (drained_pinned _ (record { pinned = refl }))

  sent_pinned : (w : Which) (x : ℕ) → Pinned c (sent c w x)
  unfolding sent
  sent_pinned w x = search (pinned_side, pinned_same)

  wrote_pinned : (w : Which) (n x : ℕ) → Pinned c (wrote c w n x)
  unfolding wrote wrote0 wrote1 wrote_status
  wrote_pinned w n x = search (test (Pinned c), pinned_side, pinned_same, wrote2_pinned, wrote3_pinned, sent_pinned) depth 18

  accepted_pinned : (w : Which) (matched : Bool) → Pinned c (after_accepted c w matched)
  unfolding after_accepted moved
  accepted_pinned w matched = record { pinned = refl }

  given_pinned : (w : Which) (matched : Bool) → Pinned c (after_given c w matched)
  unfolding after_given moved
  given_pinned w matched = record { pinned = refl }

  reset_pinned : (w : Which) → Pinned c (reset c w)
  unfolding reset emptied
  reset_pinned One = record { pinned = refl }
  reset_pinned Two = record { pinned = refl }

-- a plan that keeps the pins
record Fixed (c : Control) (p : Plan) : Type 0 where
  fixed : Pinned c p.next

fixed_so : {c d : Control} {e : Effect} {r : Reply} → Pinned c d → Fixed c (plan3 d e r)
fixed_so h = record { fixed = h }

module _ (c : Control) where
  plan_fixed : (a : Action) (matched : Bool) → Fixed c (plan c a matched)
  unfolding plan offering taking storing loading granted renewed failed released aimed after_read received
  plan_fixed (Offer dma w) matched = search (test (Fixed c), fixed_so, pinned_side, pinned_same, accepted_pinned) depth 8
  plan_fixed (Take dma w) matched = search (test (Fixed c), fixed_so, pinned_side, pinned_same, given_pinned) depth 8
  plan_fixed (Store w r x) matched = search (test (Fixed c), test (Pinned c), fixed_so, pinned_side, pinned_same, reset_pinned, wrote_pinned)
  plan_fixed (Load w r) matched = search (test (Fixed c), test (Pinned c), fixed_so, pinned_side, pinned_same) depth 8
  plan_fixed (Aim w p) matched = search (fixed_so, pinned_side, pinned_same)
  plan_fixed (Grant w) matched = search (fixed_so, pinned_side, pinned_same)
  plan_fixed (Renew w) matched = fixed_so (reset_pinned c w)
  plan_fixed Float matched = fixed_so pinned_same
  plan_fixed (Refuse n) matched = fixed_so pinned_same

  decided_fixed : (s : Step) (front : ℕ) → Fixed c (decided c s front)
  unfolding decided planned ended
  decided_fixed s front =
      let h = plan_fixed (action c s) (verdict c (action c s) (carries s) front) in
      search (test (Fixed c), fixed_so, pinned_side, pinned_same)

pub pins_fixed : PinsFixed
unfolding step
pins_fixed k s = (decided_fixed k.control s (front_of k.control k.payload)).fixed.pinned

-- ---- writes in reset

-- c with the pointer and state of side w anew
abbrev aimed_at : Control → Which → ℕ → Bool → Control
aimed_at c w pointer state = with_side w (with_pointer pointer state (side_of c w)) c

-- a plan that changes no more than these
record Rests (c : Control) (w : Which) (p : Plan) : Type 0 where
  pointer : ℕ
  state : Bool
  next_is : p.next ≡ aimed_at c w pointer state
  keeps : p.effect ≡ Keep

rests_so : {c d : Control} {w : Which} {r : Reply} (pointer : ℕ) (state : Bool) → d ≡ aimed_at c w pointer state → Rests c w (plan3 d Keep r)
rests_so pointer state h = record { pointer = pointer; state = state; next_is = h; keeps = refl }

as_it_was : (c : Control) (w : Which) → c ≡ aimed_at c w (side_of c w).pointer (side_of c w).state1
as_it_was c One = refl
as_it_was c Two = refl

rests_same : {c : Control} {w : Which} {r : Reply} → Rests c w (plan3 c Keep r)
rests_same {c} {w} = rests_so (side_of c w).pointer (side_of c w).state1 (as_it_was c w)

module _ (c : Control) (w : Which) (z : in_reset c w ≡ true) where
  writing_rests : (x : ℕ) (t : Target) (matched : Bool) → (names_control0 t && not (bit 0 x)) ≡ false → Rests c w (plan c (writing w x t) matched)
  unfolding plan offering storing released
  writing_rests x (Some r) matched h =
      test (λ a. Rests c w (plan c a matched)) (is_data r) (λ _. rw z rests_same) (λ _. rw (z, h) rests_same)
  writing_rests x None matched h = rests_same

  write_rests : (a x : ℕ) (matched : Bool) → releases c w a x ≡ false → Rests c w (plan c (action c (Write w a x)) matched)
  unfolding action plan aimed
  write_rests a x matched h =
      test (λ b. Rests c w (plan c b matched)) (connected c w)
      (λ _. test (λ b. Rests c w (plan c b matched)) (aims c w a) (λ _. rests_so (field 4 0 x) true refl)
      (λ e. writing_rests x (target c w a) matched (second_off (not (aims c w a)) (names_control0 (target c w a) && not (bit 0 x)) h (ap not e))))
      (λ _. rests_same)

closed : (c : Control) (w : Which) (pointer : ℕ) (state : Bool) → let d : Control = aimed_at c w pointer state in
    with_side w (with_state1 false (side_of d w)) d ≡ aimed_at c w pointer false
closed c One pointer state = refl
closed c Two pointer state = refl

ended_rests : (c : Control) (w : Which) (back : Bool) (p : Plan) → Rests c w p → Rests c w (ended back w p)
unfolding ended
ended_rests c w back p h =
    test (Rests c w) (back && not (is_waiting p.reply))
    (λ _. record {
      pointer = h.pointer;
      state = false;
      next_is = ap (λ d. with_side w (with_state1 false (side_of d w)) d) h.next_is ∙ closed c w h.pointer h.state;
      keeps = h.keeps;
    })
    (λ _. h)

-- the pointer and state are the new record's own
own : (c d : Control) (w : Which) (pointer : ℕ) (state : Bool) → d ≡ aimed_at c w pointer state
    → d ≡ aimed_at c w (side_of d w).pointer (side_of d w).state1
own c d One pointer state h = rw h
own c d Two pointer state h = rw h

pub in_reset_keeps : InResetKeeps
unfolding step decided planned
in_reset_keeps k w a x z h = finish (decided c s front) decided_rests
  where
    c : Control
    c = k.control

    s : Step
    s = Write w a x

    front : ℕ
    front = front_of c k.payload

    matched : Bool
    matched = verdict c (action c s) x front

    decided_rests : Rests c w (decided c s front)
    decided_rests = test (Rests c w) (valid c) (λ _. ended_rests c w (closes c s) (plan c (action c s) matched) (write_rests c w z a x matched h)) (λ _. rests_same)

    finish : (p : Plan) → Rests c w p → AllBut w k (carried p x front k.payload).chip
    finish p r = rw r.keeps (ap (λ d. chip d k.payload) (own c p.next w r.pointer r.state r.next_is))
