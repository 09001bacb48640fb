-- A step that is refused or waits leaves the chip as it was, and so does one answered Floating but for an acknowledge that is granted. Assumes nothing.
use Rattle.std.specs.Prelude.{Some}
use Prim.Native.Nat.{ℕ}
use mathlib.Core.Path.{◌≡◌, refl, sym, ap, ◌∙◌}
use mathlib.Core.Bool.{Bool, true, false, not, ◌&&◌, false≢true}
use lib.Dec.{eqb}
use borrow.Author.Tests.{eqb-true}
use Rattle.bits.specs.Bits.{bit}
use Rattle.bits.proofs.Laws.{and_left, and_right}
use Rattle.machine.specs.declared.Which.{Which}
use Rattle.machine.specs.declared.Side.{Side}
use Rattle.machine.specs.declared.Control.{Control}
use Rattle.machine.specs.declared.Chip.{Chip}
use Rattle.machine.specs.declared.Register.{Register}
use Rattle.machine.specs.declared.Step.{Step}
use Rattle.machine.specs.declared.Step.TheVariants.{Write}
use Rattle.machine.specs.declared.Answer.{Answer}
use Rattle.machine.specs.declared.Answer.TheVariants.{Done, Byte, Floating, Waiting, Refused}
use Rattle.machine.specs.declared.Action.{Action}
use Rattle.machine.specs.declared.Action.TheVariants.{Offer, Take, Store, Load, Aim, Grant, Renew, Float, Refuse}
use Rattle.machine.specs.declared.Effect.{Effect}
use Rattle.machine.specs.declared.Effect.TheVariants.{Keep}
use Rattle.machine.specs.declared.Reply.{Reply}
use Rattle.machine.specs.declared.Plan.{Plan}
use Rattle.machine.specs.Record.{side_of}
use Rattle.machine.specs.Apart.{on_acknowledge}
use Rattle.machine.specs.Modes.{bus_of, is_non_z_bus, connected}
use Rattle.machine.specs.Addresses.{is_data, pointed, behind_cd, target_on, target, aims, closes}
use Rattle.machine.specs.Interrupts.{interrupt, vector_answer}
use Rattle.machine.specs.Validity.{valid}
use Rattle.machine.specs.Step.{writing, action, carries, side_in, plan3, failed, offering, taking, renewed, storing, loading, granted, plan, verdict, is_waiting, ended, planned, answered, front_of, proceeded, step}
use Rattle.machine.proofs.Tests.{test}
use Rattle.machine.proofs.Apart.{by_write}
use Rattle.machine.proofs.Asked.{by_action}
use Rattle.machine.proofs.Refused.{proceeded_is, refused_is, non_z}

-- ---- the answers

-- an acknowledge that finds INT active
abbrev pub grants : Control → Step → Bool
grants c s = on_acknowledge s (λ w. interrupt c w) false

-- the answers that leave the chip; g: an acknowledge is granted
abbrev leaves : Bool → Answer → Bool
leaves g Done = false
leaves g (Byte b) = false
leaves g Floating = not g
leaves g Waiting = true
leaves g (Refused n) = true

-- ---- a plan

-- where its answer leaves the chip, it is the plan that keeps all
record Calm (c : Control) (g : Bool) (front : ℕ) (p : Plan) : Type 0 where
  calm : leaves g (answered p.reply front) ≡ true → p ≡ plan3 c Keep p.reply

calm_so : {c : Control} {g : Bool} {front : ℕ} {r : Reply} → Calm c g front (plan3 c Keep r)
calm_so = record { calm = λ _. refl }

calm_loud : {c d : Control} {g : Bool} {front : ℕ} {e : Effect} {r : Reply} → leaves g (answered r front) ≡ false
    → Calm c g front (plan3 d e r)
calm_loud h = record { calm = λ k. absurd (false≢true (sym h ∙ k)) }

-- an action with such a plan
record Fair (c : Control) (g : Bool) (a : Action) : Type 0 where
  fair : (matched : Bool) (front : ℕ) → Calm c g front (plan c a matched)

-- a granted acknowledge gives the vector, or Floating
loud_vector : (s : Side) (k : ℕ) → leaves true (vector_answer s k) ≡ false
unfolding vector_answer
loud_vector s k = test (λ a. leaves true a ≡ false) (bit 5 s.control0) (λ _. refl) (λ _. refl)

module _ (c : Control) (g : Bool) where
  offer_fair : (dma : Bool) (w : Which) → Fair c g (Offer dma w)
  unfolding plan offering failed
  offer_fair dma w = record { fair = λ matched front. search (test (Calm c g front), calm_so, calm_loud) }

  take_fair : (dma : Bool) (w : Which) → Fair c g (Take dma w)
  unfolding plan taking failed
  take_fair dma w = record { fair = λ matched front. search (test (Calm c g front), calm_so, calm_loud) }

  store_fair : (w : Which) (r : Register) (x : ℕ) → Fair c g (Store w r x)
  unfolding plan storing renewed
  store_fair w r x = record { fair = λ matched front. search (test (Calm c g front), calm_loud) }

  load_fair : (w : Which) (r : Register) → Fair c g (Load w r)
  unfolding plan loading
  load_fair w r = record { fair = λ matched front. search (test (Calm c g front), calm_loud) }

  aim_fair : (w : Which) (p : ℕ) → Fair c g (Aim w p)
  unfolding plan
  aim_fair w p = record { fair = λ matched front. calm_loud refl }

  renew_fair : (w : Which) → Fair c g (Renew w)
  unfolding plan renewed
  renew_fair w = record { fair = λ matched front. calm_loud refl }

  float_fair : Fair c g Float
  unfolding plan
  float_fair = record { fair = λ matched front. calm_so }

  refuse_fair : (n : ℕ) → Fair c g (Refuse n)
  unfolding plan
  refuse_fair n = record { fair = λ matched front. calm_so }

  grant_fair : (w : Which) → g ≡ true → Fair c g (Grant w)
  unfolding plan granted
  grant_fair w h = record { fair = λ matched front. calm_loud (rw h (loud_vector _ _)) }

action_fair : (c : Control) (s : Step) → Fair c (grants c s) (action c s)
action_fair c =
    by_action c (λ s a. Fair c (grants c s) a)
    (record {
      offer = λ s dma. offer_fair c _ dma _;
      take = λ s dma. take_fair c _ dma _;
      store = λ s r x h. store_fair c _ _ r x;
      load = λ s r. load_fair c _ _ r;
      aim = λ s x. aim_fair c _ _ _;
      grant = λ w h. grant_fair c _ w h;
      renew = λ s. renew_fair c _ _;
      float = λ s. float_fair c _;
      refuse = λ s. refuse_fair c _ 2;
    })

-- ---- the end of the step

-- a write that returns a side to State 0 is to the pointed register
closing_action : (c : Control) (w : Which) (a x : ℕ) → closes c (Write w a x) ≡ true
    → action c (Write w a x) ≡ writing w x (Some (pointed (side_of c w).pointer))
unfolding closes action aims target target_on behind_cd
closing_action c w a x h =
    let p : connected c w ≡ true = search (and_left, and_right) in
    let q : is_non_z_bus (bus_of c w) ≡ true = search (and_left, and_right) in
    let r : eqb a 1 ≡ true = search (and_left, and_right) in
    let t : (side_of c w).state1 ≡ true = search (and_left, and_right) in
    rw (p, non_z (bus_of c w) q, eqb-true a 1 r, t)

-- of the answers that leave the chip it has Waiting alone
record Patient (g : Bool) (front : ℕ) (p : Plan) : Type 0 where
  patient : leaves g (answered p.reply front) ≡ true → is_waiting p.reply ≡ true

patient_so : {g : Bool} {front : ℕ} {c : Control} {e : Effect} {r : Reply} → is_waiting r ≡ true → Patient g front (plan3 c e r)
patient_so h = record { patient = λ _. h }

patient_loud : {g : Bool} {front : ℕ} {c : Control} {e : Effect} {r : Reply} → leaves g (answered r front) ≡ false → Patient g front (plan3 c e r)
patient_loud h = record { patient = λ k. absurd (false≢true (sym h ∙ k)) }

named_patient : (c : Control) (g : Bool) (w : Which) (x : ℕ) (r : Register) (matched : Bool) (front : ℕ)
    → Patient g front (plan c (writing w x (Some r)) matched)
unfolding plan offering failed storing renewed
named_patient c g w x r matched front =
    test (λ a. Patient g front (plan c a matched)) (is_data r) (λ _. search (test (Patient g front), patient_so, patient_loud))
    (λ _. search (test (Patient g front), patient_loud))

patient : (c : Control) (s : Step) (matched : Bool) (front : ℕ) → closes c s ≡ true → Patient (grants c s) front (plan c (action c s) matched)
unfolding closes
patient c s matched front =
    by_write (λ s back. back ≡ true → Patient (grants c s) front (plan c (action c s) matched))
    (λ w a x h. rw (closing_action c w a x h) (named_patient c false w x (pointed (side_of c w).pointer) matched front))
    (λ s h. absurd (false≢true h))
    s

-- so the end of the step, too, is the plan that keeps all
ended_calm : (c : Control) (g back : Bool) (w : Which) (front : ℕ) (p : Plan) → Calm c g front p → (back ≡ true → Patient g front p)
    → Calm c g front (ended back w p)
unfolding ended
ended_calm c g back w front p h k =
    let waits : Bool = is_waiting p.reply in
    test (Calm c g front) (back && not waits)
    (λ e. record { calm = λ l. absurd (false≢true (sym (ap not ((k (and_left back (not waits) e)).patient l)) ∙ and_right back (not waits) e)) })
    (λ _. h)

planned_calm : (c : Control) (s : Step) (front : ℕ) → Calm c (grants c s) front (planned c s front)
unfolding planned
planned_calm c s front =
    let matched : Bool = verdict c (action c s) (carries s) front in
    ended_calm c (grants c s) (closes c s) (side_in s) front (plan c (action c s) matched) ((action_fair c s).fair matched front)
    (patient c s matched front)

-- ---- a step

proceeded_kept : (k : Chip) (s : Step) → leaves (grants k.control s) (proceeded k s).answer ≡ true → (proceeded k s).chip ≡ k
unfolding proceeded
proceeded_kept k s h = rw ((planned_calm k.control s (front_of k.control k.payload)).calm h)

kept : (k : Chip) (s : Step) → leaves (grants k.control s) (step k s).answer ≡ true → (step k s).chip ≡ k
kept k s = go (valid k.control) refl
  where
    go : (b : Bool) → valid k.control ≡ b → leaves (grants k.control s) (step k s).answer ≡ true → (step k s).chip ≡ k
    go true e = rw (← proceeded_is k s e) (proceeded_kept k s)
    go false e = rw (refused_is k s e) (λ _. refl)

pub refused_keeps : (k : Chip) (s : Step) (n : ℕ) → (step k s).answer ≡ Refused n → (step k s).chip ≡ k
refused_keeps k s n e = kept k s (rw e)

pub waiting_keeps : (k : Chip) (s : Step) → (step k s).answer ≡ Waiting → (step k s).chip ≡ k
waiting_keeps k s e = kept k s (rw e)

pub floating_keeps : (k : Chip) (s : Step) → grants k.control s ≡ false → (step k s).answer ≡ Floating → (step k s).chip ≡ k
floating_keeps k s g e = kept k s (rw (e, g))
