-- Refusal 1 is given exactly to a record that is not valid, and refusal 2 exactly to a read or write beyond what its side can address. Assumes nothing.
use Rattle.std.specs.Prelude.{Some, None}
use Prim.Native.Nat.{ℕ, ◌/◌, ◌%◌, ◌^◌, ◌<◌}
use mathlib.Core.Path.{◌≡◌, refl, sym, ◌∙◌}
use mathlib.Core.Bool.{Bool, true, false, not, ◌&&◌, ◌||◌, false≢true, and-false, and-true}
use native.Mathlib.Nat.{div-one}
use native.Mathlib.Omega.{arith}
use lib.Dec.{eqb, ltb, leb}
use borrow.Author.Tests.{eqb-true, eqb-false, ltb-true, leb-true, leb-false, lt-ltb, le-ltb}
use Rattle.bits.specs.Bits.{field}
use Rattle.bits.proofs.Laws.{two, and_left, and_right}
use Rattle.machine.specs.declared.Which.{Which}
use Rattle.machine.specs.declared.Which.TheVariants.{One, Two}
use Rattle.machine.specs.declared.Bus.{Bus}
use Rattle.machine.specs.declared.Bus.TheVariants.{Low, High, NonZBus, ThreeWire, TwoWire, NoBus}
use Rattle.machine.specs.declared.Side.{Side}
use Rattle.machine.specs.declared.Control.{Control}
use Rattle.machine.specs.declared.Chip.{Chip}
use Rattle.machine.specs.declared.Step.{Step}
use Rattle.machine.specs.declared.Step.TheVariants.{Write, Read, DmaWrite, DmaRead, Acknowledge, Reset}
use Rattle.machine.specs.declared.Answer.{Answer}
use Rattle.machine.specs.declared.Answer.TheVariants.{Done, Byte, Floating, Waiting, Refused}
use Rattle.machine.specs.declared.Action.{Action}
use Rattle.machine.specs.declared.Action.TheVariants.{Offer, Take, Store, Load, Aim, Grant, Renew, Float, Refuse}
use Rattle.machine.specs.declared.Effect.{Effect}
use Rattle.machine.specs.declared.Reply.{Reply}
use Rattle.machine.specs.declared.Plan.{Plan}
use Rattle.machine.specs.Record.{side_of}
use Rattle.machine.specs.Apart.{on_refusal}
use Rattle.machine.specs.Modes.{b_of, bus_of, is_z_bus, is_high, is_non_z_bus, connected, live}
use Rattle.machine.specs.Addresses.{is_data, behind_cd, target_on, target, aims, beyond, outside, Target}
use Rattle.machine.specs.Interrupts.{interrupt, vector_answer}
use Rattle.machine.specs.Validity.{valid}
use Rattle.machine.specs.Step.{writing, reading, goes_in, by_dma, action, carries, plan3, failed, offering, taking, renewed, storing, loading, granted, plan, verdict, is_waiting, ended, planned, decided, answered, front_of, proceeded, step}
use Rattle.machine.proofs.Table.{column_two, columns}
use Rattle.machine.proofs.Tests.{test}

-- ---- refusal 1 comes first

pub proceeded_is : (k : Chip) (s : Step) → valid k.control ≡ true → proceeded k s ≡ step k s
unfolding proceeded step decided
proceeded_is k s h = rw h

pub refused_is : (k : Chip) (s : Step) → valid k.control ≡ false → step k s ≡ record { chip = k; answer = Refused 1 }
unfolding step decided
refused_is k s h = rw h

-- ---- a plan

-- the answer is refusal n
abbrev pub refusal : ℕ → Answer → Bool
refusal n Done = false
refusal n (Byte b) = false
refusal n Floating = false
refusal n Waiting = false
refusal n (Refused m) = eqb m n

-- what is asked for is refusal n
abbrev refuses : ℕ → Action → Bool
refuses n a = on_refusal a (λ m. eqb m n) false

-- the answer of a plan is not refusal n
record Plain (n front : ℕ) (p : Plan) : Type 0 where
  plain : refusal n (answered p.reply front) ≡ false

plain_so : {n front : ℕ} {c : Control} {e : Effect} {r : Reply} → refusal n (answered r front) ≡ false → Plain n front (plan3 c e r)
plain_so h = record { plain = h }

vector_plain : (n : ℕ) (s : Side) (k : ℕ) → refusal n (vector_answer s k) ≡ false
unfolding vector_answer
vector_plain n s k = search (test (λ a. refusal n a ≡ false))

module _ (c : Control) (n front : ℕ) (matched : Bool) where
  plan_refuses : (a : Action) → refusal n (answered (plan c a matched).reply front) ≡ refuses n a
  unfolding plan offering taking storing loading granted renewed failed
  plan_refuses (Offer dma w) = let p : Plain n front (plan c (Offer dma w) matched) = search (test (Plain n front), plain_so) in p.plain
  plan_refuses (Take dma w) = let p : Plain n front (plan c (Take dma w) matched) = search (test (Plain n front), plain_so) in p.plain
  plan_refuses (Store w r x) = let p : Plain n front (plan c (Store w r x) matched) = search (test (Plain n front), plain_so) in p.plain
  plan_refuses (Load w r) = let p : Plain n front (plan c (Load w r) matched) = search (test (Plain n front), plain_so) in p.plain
  plan_refuses (Aim w p) = refl
  plan_refuses (Grant w) = vector_plain n _ _
  plan_refuses (Renew w) = refl
  plan_refuses Float = refl
  plan_refuses (Refuse m) = refl

-- ---- what is asked for

-- a bus with addresses
abbrev addressed : Bus → Bool
addressed b = is_z_bus b || is_non_z_bus b

-- a connected side has one
wired : (c : Control) (w : Which) → connected c w ≡ true → addressed (bus_of c w) ≡ true
unfolding connected bus_of field
wired c One h =
    rw (columns c.pins (b_of c) (leb-true c.pins 2 h), bus_of)
    (test (λ b. addressed b ≡ true) (eqb c.pins 0) (λ _. refl) (λ _. test (λ b. addressed b ≡ true) (eqb c.pins 1) (λ _. refl) (λ _. refl)))
wired c Two h =
    let p : leb c.pins 2 ≡ true = search (and_left, and_right) in
    let q : ltb (b_of c) 2 ≡ true = search (and_left, and_right) in
    let l : b_of c / 2 ^ 0 % 2 ^ 2 < 2 = simp div-one (omega (arith, ltb-true (b_of c) 2 q)) in
    rw (columns c.pins (b_of c) (leb-true c.pins 2 p), bus_of)
    (two (λ b. addressed (column_two c.pins b) ≡ true) (test (λ b. addressed b ≡ true) (eqb c.pins 1) (λ _. refl) (λ _. refl)) refl (field 2 0 (b_of c)) l)

abbrev is_beyond : Target → Bool
is_beyond (Some r) = false
is_beyond None = true

beyond_on : (b : Bus) (s : Side) (a : ℕ) → addressed b ≡ true
    → is_beyond (target_on b s a) ≡ ((is_non_z_bus b && ltb 1 a) || (is_high b && ltb 15 a))
unfolding target_on behind_cd
beyond_on Low s a h = refl
beyond_on High s a h =
    test (λ t. is_beyond t ≡ ltb 15 a) (leb a 15) (λ e. sym (le-ltb 15 a (leb-true a 15 e))) (λ e. sym (lt-ltb 15 a (leb-false a 15 e)))
beyond_on NonZBus s a h =
    test (λ t. is_beyond t ≡ (ltb 1 a || false)) (eqb a 0) (λ e. rw (le-ltb 1 a (omega (arith, eqb-true a 0 e))))
    (λ z. test (λ t. is_beyond t ≡ (ltb 1 a || false)) (eqb a 1) (λ e. rw (le-ltb 1 a (omega (arith, eqb-true a 1 e))))
    (λ e. rw (lt-ltb 1 a (omega (arith, eqb-false a 0 z, eqb-false a 1 e)))))
beyond_on ThreeWire s a h = absurd (false≢true h)
beyond_on TwoWire s a h = absurd (false≢true h)
beyond_on NoBus s a h = absurd (false≢true h)

beyond_is : (c : Control) (w : Which) (a : ℕ) → connected c w ≡ true → is_beyond (target c w a) ≡ beyond c w a
unfolding target beyond
beyond_is c w a h = beyond_on (bus_of c w) (side_of c w) a (wired c w h) ∙ rw h

pub non_z : (b : Bus) → is_non_z_bus b ≡ true → b ≡ NonZBus
non_z Low h = absurd (false≢true h)
non_z High h = absurd (false≢true h)
non_z NonZBus h = refl
non_z ThreeWire h = absurd (false≢true h)
non_z TwoWire h = absurd (false≢true h)
non_z NoBus h = absurd (false≢true h)

-- neither an unconnected side nor the pointer has a beyond
apart : (c : Control) (w : Which) (a : ℕ) → connected c w ≡ false → beyond c w a ≡ false
unfolding beyond
apart c w a e = rw e

aims_within : (c : Control) (w : Which) (a : ℕ) → aims c w a ≡ true → beyond c w a ≡ false
unfolding aims beyond
aims_within c w a h =
    let p : is_non_z_bus (bus_of c w) ≡ true = search (and_left, and_right) in
    let q : eqb a 1 ≡ true = search (and_left, and_right) in
    rw (non_z (bus_of c w) p, eqb-true a 1 q) (and-false (connected c w))

writing_refuses : (n : ℕ) (w : Which) (x : ℕ) (t : Target) → refuses n (writing w x t) ≡ (is_beyond t && eqb 2 n)
writing_refuses n w x (Some r) = test (λ a. refuses n a ≡ false) (is_data r) (λ _. refl) (λ _. refl)
writing_refuses n w x None = refl

reading_refuses : (n : ℕ) (w : Which) (t : Target) → refuses n (reading w t) ≡ (is_beyond t && eqb 2 n)
reading_refuses n w (Some r) = test (λ a. refuses n a ≡ false) (is_data r) (λ _. refl) (λ _. refl)
reading_refuses n w None = refl

dma_refuses : (n : ℕ) (c : Control) (w : Which) (own : Bool) → refuses n (by_dma c w own) ≡ false
unfolding by_dma
dma_refuses n c w own =
    test (λ a. refuses n a ≡ false) (live c w) (λ _. test (λ a. refuses n a ≡ false) (goes_in c w own) (λ _. refl) (λ _. refl)) (λ _. refl)

action_refuses : (n : ℕ) (c : Control) (s : Step) → refuses n (action c s) ≡ (outside c s && eqb 2 n)
unfolding action
action_refuses n c (Write w a x) =
    test (λ t. refuses n t ≡ (beyond c w a && eqb 2 n)) (connected c w)
    (λ e. test (λ t. refuses n t ≡ (beyond c w a && eqb 2 n)) (aims c w a) (λ h. rw (aims_within c w a h))
    (λ _. writing_refuses n w x (target c w a) ∙ rw (beyond_is c w a e)))
    (λ e. rw (apart c w a e))
action_refuses n c (Read w a) =
    test (λ t. refuses n t ≡ (beyond c w a && eqb 2 n)) (connected c w)
    (λ e. reading_refuses n w (target c w a) ∙ rw (beyond_is c w a e)) (λ e. rw (apart c w a e))
action_refuses n c (DmaWrite w x) = dma_refuses n c w true
action_refuses n c (DmaRead w) = dma_refuses n c w false
action_refuses n c (Acknowledge w) = test (λ t. refuses n t ≡ false) (interrupt c w) (λ _. refl) (λ _. refl)
action_refuses n c (Reset w) = test (λ t. refuses n t ≡ false) (connected c w) (λ _. refl) (λ _. refl)

-- ---- a step

ended_reply : (back : Bool) (w : Which) (p : Plan) → (ended back w p).reply ≡ p.reply
unfolding ended
ended_reply back w p = test (λ (q : Plan). q.reply ≡ p.reply) (back && not (is_waiting p.reply)) (λ _. refl) (λ _. refl)

proceeded_refuses : (n : ℕ) (k : Chip) (s : Step) → refusal n (proceeded k s).answer ≡ (outside k.control s && eqb 2 n)
unfolding proceeded planned
proceeded_refuses n k s =
    let front : ℕ = front_of k.control k.payload in
    let matched : Bool = verdict k.control (action k.control s) (carries s) front in
    rw ended_reply (plan_refuses k.control n front matched (action k.control s) ∙ action_refuses n k.control s)

pub refusal_1 : (k : Chip) (s : Step) → refusal 1 (step k s).answer ≡ not (valid k.control)
refusal_1 k s = go (valid k.control) refl
  where
    go : (b : Bool) → valid k.control ≡ b → refusal 1 (step k s).answer ≡ not b
    go true e = rw (← proceeded_is k s e) (proceeded_refuses 1 k s ∙ and-false (outside k.control s))
    go false e = rw (refused_is k s e)

pub refusal_2 : (k : Chip) (s : Step) → refusal 2 (step k s).answer ≡ (valid k.control && outside k.control s)
refusal_2 k s = go (valid k.control) refl
  where
    go : (b : Bool) → valid k.control ≡ b → refusal 2 (step k s).answer ≡ (b && outside k.control s)
    go true e = rw (← proceeded_is k s e) (proceeded_refuses 2 k s ∙ and-true (outside k.control s))
    go false e = rw (refused_is k s e)
