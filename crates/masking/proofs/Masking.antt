-- Payload reaches the record only as the verdict on a byte that moves, and an answer only as the value of a byte taken out. Assumes nothing.
use Rattle.std.specs.Prelude.{Some, None}
use Prim.Native.Nat.{ℕ}
use mathlib.Core.Path.{◌≡◌, refl, sym, ap, ap₂, subst, ◌∙◌}
use mathlib.Core.Bool.{Bool, true, false, not, ◌&&◌, false≢true, not-not}
use mathlib.Core.List.{List, [], ◌∷◌}
use mathlib.Core.Option.{some}
use Rattle.bits.proofs.Laws.{and_left, and_right}
use Rattle.machine.specs.declared.Which.{Which}
use Rattle.machine.specs.declared.Control.{Control}
use Rattle.machine.specs.declared.Payload.{Payload}
use Rattle.machine.specs.declared.Chip.{Chip}
use Rattle.machine.specs.declared.Step.{Step}
use Rattle.machine.specs.declared.Step.TheVariants.{Write, Read, DmaWrite, DmaRead, Acknowledge, Reset}
use Rattle.machine.specs.declared.Action.{Action}
use Rattle.machine.specs.declared.Action.TheVariants.{Offer, Take, Store, Load, Aim, Grant, Renew, Float, Refuse}
use Rattle.machine.specs.declared.Answer.TheVariants.{Byte}
use Rattle.machine.specs.declared.Plan.{Plan}
use Rattle.machine.specs.declared.Reply.{Reply}
use Rattle.machine.specs.declared.Reply.TheVariants.{Says, Front}
use Rattle.machine.specs.Record.{chip}
use Rattle.machine.specs.Apart.{on_move}
use Rattle.machine.specs.Modes.{connected}
use Rattle.machine.specs.Addresses.{names_data, target, aims, closes, Target}
use Rattle.machine.specs.Fifo.{offered, accepted, given}
use Rattle.machine.specs.Validity.{valid}
use Rattle.machine.specs.Step.{writing, action, carries, side_in, failed, offering, taking, renewed, storing, loading, granted, plan, fits, verdict, is_waiting, ended, planned, decided, front_of, step}
use Rattle.machine.specs.History.{Entry, entry, history, lines}
use Rattle.machine.proofs.Tests.{test}
use Rattle.machine.proofs.Apart.{by_move}
use Rattle.machine.proofs.Asked.{by_action}
use Rattle.masking.specs.Premises.{carrying, SameStep, is_offer, is_take, moves_in, moves_out, moved, Alike, Sessions}
use Rattle.masking.specs.Sight.{Sight, sight, sights}
use Rattle.masking.specs.Masking.{Masking, controls}
use Rattle.masking.proofs.Carrying.{but_byte, carrying_own, carrying_again}

-- ---- an offered byte is no part of what is asked for

writing_data : (w : Which) (x y : ℕ) (t : Target) → names_data t ≡ true → writing w y t ≡ writing w x t
writing_data w x y (Some r) h = rw h
writing_data w x y None h = refl

write_carrying : (c : Control) (w : Which) (a x y : ℕ) → offered c (Write w a x) ≡ true → action c (Write w a y) ≡ action c (Write w a x)
unfolding action offered
write_carrying c w a x y h =
    let k : (connected c w && not (aims c w a) && names_data (target c w a)) ≡ true = h in
    let q : not (aims c w a) ≡ true = search (and_left, and_right) in
    let r : names_data (target c w a) ≡ true = search (and_left, and_right) in
    let z : aims c w a ≡ false = sym (not-not (aims c w a)) ∙ ap not q in
    rw (z, writing_data w x y (target c w a) r)

-- what a step is of and asks for, if it is to be the same with another byte
record Unaltered (c : Control) (t s : Step) : Type 0 where
  side : side_in t ≡ side_in s
  closing : closes c t ≡ closes c s
  offers : offered c t ≡ offered c s
  asks : offered c s ≡ true → action c t ≡ action c s

unaltered_same : {c : Control} {s : Step} → Unaltered c s s
unaltered_same = record { side = refl; closing = refl; offers = refl; asks = λ h. refl }

unaltered : (c : Control) (y : ℕ) (s : Step) → Unaltered c (carrying y s) s
unfolding closes offered action
unaltered c y (Write w a x) = record { side = refl; closing = refl; offers = refl; asks = write_carrying c w a x y }
unaltered c y (DmaWrite w x) = record { side = refl; closing = refl; offers = refl; asks = λ h. refl }
unaltered c y (Read w a) = unaltered_same
unaltered c y (DmaRead w) = unaltered_same
unaltered c y (Acknowledge w) = unaltered_same
unaltered c y (Reset w) = unaltered_same

same_action : (c : Control) (s t : Step) → SameStep c c s t → action c s ≡ action c t
same_action c s t h = go (offered c s) refl
  where
    also : offered c s ≡ offered c t
    also = but_byte (offered c) (λ y s. (unaltered c y s).offers) s t h.but_byte

    go : (b : Bool) → offered c s ≡ b → action c s ≡ action c t
    go true e = sym ((unaltered c (carries t) s).asks e) ∙ ap (action c) (carrying_again s t h.but_byte)
    go false e =
        ap (action c) (sym (carrying_own s) ∙ ap (λ (x : ℕ). carrying x s) (h.byte (rw (e, sym also ∙ e))) ∙ carrying_again s t h.but_byte)

-- ---- the verdict has a say only where a byte moves

-- the side that a byte is brought or asked for on
abbrev pub side_for : Action → Which → Which
side_for a v = on_move a (λ dma w. w) (λ dma w. w) v

pub record OnSide (w : Which) (a : Action) : Type 0 where
  pub on_side : side_for a w ≡ w

on_so : {w : Which} {a : Action} → side_for a w ≡ w → OnSide w a
on_so h = record { on_side = h }

pub action_side : (c : Control) (s : Step) → OnSide (side_in s) (action c s)
action_side c =
    by_action c (λ s a. OnSide (side_in s) a)
    (record {
      offer = λ s dma. on_so refl;
      take = λ s dma. on_so refl;
      store = λ s r x h. on_so refl;
      load = λ s r. on_so refl;
      aim = λ s x. on_so refl;
      grant = λ w h. on_so refl;
      renew = λ s. on_so refl;
      float = λ s. on_so refl;
      refuse = λ s. on_so refl;
    })

module _ (c : Control) (w : Which) (x y f g : ℕ) where
  -- on the byte brought, x or y, and on the one in front, f or g, if it moves
  record Verdicts (a : Action) : Type 0 where
    on_brought : is_offer a ≡ true → accepted c w ≡ true → fits c w x ≡ fits c w y
    on_front : is_take a ≡ true → given c w ≡ true → fits c w f ≡ fits c w g

  offer_plan : (dma : Bool) → (accepted c w ≡ true → fits c w x ≡ fits c w y) → plan c (Offer dma w) (fits c w x) ≡ plan c (Offer dma w) (fits c w y)
  unfolding plan offering
  offer_plan dma h = go (accepted c w) refl
    where
      go : (b : Bool) → accepted c w ≡ b → plan c (Offer dma w) (fits c w x) ≡ plan c (Offer dma w) (fits c w y)
      go true e = ap (plan c (Offer dma w)) (h e)
      go false e = rw e

  take_plan : (dma : Bool) → (given c w ≡ true → fits c w f ≡ fits c w g) → plan c (Take dma w) (fits c w f) ≡ plan c (Take dma w) (fits c w g)
  unfolding plan taking
  take_plan dma h = go (given c w) refl
    where
      go : (b : Bool) → given c w ≡ b → plan c (Take dma w) (fits c w f) ≡ plan c (Take dma w) (fits c w g)
      go true e = ap (plan c (Take dma w)) (h e)
      go false e = rw e

  same_plan : (a : Action) → OnSide w a → Verdicts a → plan c a (verdict c a x f) ≡ plan c a (verdict c a y g)
  unfolding verdict
  same_plan =
      by_move (λ a. OnSide w a → Verdicts a → plan c a (verdict c a x f) ≡ plan c a (verdict c a y g))
      (λ dma v o h. rw o.on_side (offer_plan dma (h.on_brought refl))) (λ dma v o h. rw o.on_side (take_plan dma (h.on_front refl)))
      (λ a no o h. ap (plan c a) (no.other_is _ _ _ ∙ sym (no.other_is _ _ _)))

-- ---- two steps of one record

take_brings_none : (a : Action) → is_take a ≡ true → is_offer a ≡ false
take_brings_none =
    by_move (λ a. is_take a ≡ true → is_offer a ≡ false) (λ dma w h. absurd (false≢true h)) (λ dma w h. refl) (λ a no h. no.other_is _ _ _)

module _ (k : Chip) (s : Step) (v : valid k.control ≡ true) where
  moved_in : is_offer (action k.control s) ≡ true → accepted k.control (side_in s) ≡ true → moved k s ≡ some (carries s)
  unfolding moved moves_in
  moved_in p q = simp (v, p, q)

  moved_out : is_take (action k.control s) ≡ true → given k.control (side_in s) ≡ true → moved k s ≡ some (front_of k.control k.payload)
  unfolding moved moves_in moves_out
  moved_out p q = simp (v, p, q, take_brings_none (action k.control s) p)

module _ (c : Control) (m n : Payload) (s t : Step) (h : Alike (chip c m) (chip c n) s t) where
  same_act : action c s ≡ action c t
  same_act = same_action c s t h.same_step

  same_side : side_in s ≡ side_in t
  same_side = but_byte side_in (λ y s. (unaltered c y s).side) s t h.same_step.but_byte

  same_close : closes c s ≡ closes c t
  same_close = but_byte (closes c) (λ y s. (unaltered c y s).closing) s t h.same_step.but_byte

  -- the premise on verdicts, of the action
  same_verdicts : valid c ≡ true → Verdicts c (side_in t) (carries s) (carries t) (front_of c m) (front_of c n) (action c t)
  same_verdicts v =
      record {
        on_brought = λ p q.
            rw same_side at
            (h.same_verdict.verdict _ _ (moved_in (chip c m) s v (rw same_act p) (rw same_side q)) (moved_in (chip c n) t v p q));
        on_front = λ p q.
            rw same_side at
            (h.same_verdict.verdict _ _ (moved_out (chip c m) s v (rw same_act p) (rw same_side q)) (moved_out (chip c n) t v p q));
      }

  same_decided : decided c s (front_of c m) ≡ decided c t (front_of c n)
  unfolding decided planned
  same_decided = go (valid c) refl
    where
      go : (b : Bool) → valid c ≡ b → decided c s (front_of c m) ≡ decided c t (front_of c n)
      go true e =
          rw (e, same_close, same_act, same_side)
          (ap (ended (closes c t) (side_in t))
          (same_plan c (side_in t) (carries s) (carries t) (front_of c m) (front_of c n) (action c t) (action_side c t) (same_verdicts e)))
      go false e = rw e

-- ---- what may be seen of them

-- the reply is the byte in front
abbrev is_front : Reply → Bool
is_front (Says a) = false
is_front Front = true

record Plain (p : Plan) : Type 0 where
  plain : is_front p.reply ≡ false

plain_so : {p : Plan} → is_front p.reply ≡ false → Plain p
plain_so h = record { plain = h }

-- where none is given, no byte comes out
plan_plain : (c : Control) (a : Action) (w : Which) (u : Bool) → OnSide w a → (is_take a && given c w) ≡ false → Plain (plan c a u)
unfolding plan offering taking storing loading granted renewed failed
plan_plain c (Offer dma v) w u o h = search (test Plain, plain_so)
plan_plain c (Take dma v) w u o h = rw (o.on_side, h) (search (test Plain, plain_so))
plan_plain c (Store v r z) w u o h = search (test Plain, plain_so)
plan_plain c (Load v r) w u o h = search (test Plain, plain_so)
plan_plain c (Aim v p) w u o h = plain_so refl
plan_plain c (Grant v) w u o h = plain_so refl
plan_plain c (Renew v) w u o h = plain_so refl
plan_plain c Float w u o h = plain_so refl
plan_plain c (Refuse n) w u o h = plain_so refl

ended_plain : (back : Bool) (w : Which) (p : Plan) → Plain p → Plain (ended back w p)
unfolding ended
ended_plain back w p h = test Plain (back && not (is_waiting p.reply)) (λ _. plain_so h.plain) (λ _. h)

decided_plain : (c : Control) (s : Step) (front : ℕ) → moves_out c s ≡ false → Plain (decided c s front)
unfolding decided planned moves_out
decided_plain c s front = go (valid c) refl
  where
    go : (b : Bool) → valid c ≡ b → moves_out c s ≡ false → Plain (decided c s front)
    go true e h = rw e (ended_plain (closes c s) (side_in s) _ (plan_plain c (action c s) (side_in s) _ (action_side c s) (rw e at h)))
    go false e h = rw e (plain_so refl)

-- entries of two steps, with the same lines and record after them
record SameEntry (c : Control) (e d : Entry) : Type 0 where
  out : moves_out c e.asked ≡ moves_out c d.asked
  same_lines : e.after_lines ≡ d.after_lines
  same_after : e.after.control ≡ d.after.control

module _ (c : Control) (m n : Payload) (e d : Entry) (h : SameEntry c e d) where
  -- with the same answer they are seen as the same
  sight_answer : e.answer ≡ d.answer → sight (chip c m) e ≡ sight (chip c n) d
  unfolding sight
  sight_answer a = simp (h.out, h.same_lines, h.same_after, a)

  -- and so are bytes taken out
  sight_byte : (x y : ℕ) → moves_out c d.asked ≡ true → e.answer ≡ Byte x → d.answer ≡ Byte y → sight (chip c m) e ≡ sight (chip c n) d
  unfolding sight
  sight_byte x y o a b = simp (h.out, o, h.same_lines, h.same_after, a, b)

module _ (c : Control) (m n : Payload) (s t : Step) (h : Alike (chip c m) (chip c n) s t) where
  same_control : (step (chip c m) s).chip.control ≡ (step (chip c n) t).chip.control
  unfolding step
  same_control = ap (λ (p : Plan). p.next) (same_decided c m n s t h)

  same_entry : SameEntry c (entry (chip c m) s) (entry (chip c n) t)
  unfolding moves_out
  same_entry = record { out = rw (same_act c m n s t h, same_side c m n s t h); same_lines = ap lines same_control; same_after = same_control }

  -- a byte in front is the reply only where one comes out
  out_front : (decided c t (front_of c n)).reply ≡ Front → moves_out c t ≡ true
  out_front r = go (moves_out c t) refl
    where
      go : (b : Bool) → moves_out c t ≡ b → b ≡ true
      go true e = refl
      go false e = absurd (false≢true (sym (decided_plain c t (front_of c n) e).plain ∙ rw r))

  same_sight : sight (chip c m) (entry (chip c m) s) ≡ sight (chip c n) (entry (chip c n) t)
  unfolding step
  same_sight = go (decided c t (front_of c n)).reply refl
    where
      go : (r : Reply) → (decided c t (front_of c n)).reply ≡ r → sight (chip c m) (entry (chip c m) s) ≡ sight (chip c n) (entry (chip c n) t)
      go (Says a) r = sight_answer c m n _ _ same_entry (rw (same_decided c m n s t h, r))
      go Front r =
          sight_byte c m n _ _ same_entry (front_of c m) (front_of c n) (out_front r) (rw (same_decided c m n s t h, r)) (rw r)

-- ---- the sessions

-- two steps and what they leave
pub record SameAfter (k l : Chip) (s t : Step) : Type 0 where
  pub seen : sight k (entry k s) ≡ sight l (entry l t)
  pub control : (step k s).chip.control ≡ (step l t).chip.control
  pub out : moves_out k.control s ≡ moves_out l.control t

-- the same of chips that differ in the buffer's bytes
pub alike : (k l : Chip) → k.control ≡ l.control → (s t : Step) → Alike k l s t → SameAfter k l s t
alike k l e s t =
    subst (λ (c : Control). Alike k (chip c l.payload) s t → SameAfter k (chip c l.payload) s t) e (λ h. same k.payload l.payload h)
  where
    same : (m n : Payload) → Alike (chip k.control m) (chip k.control n) s t → SameAfter (chip k.control m) (chip k.control n) s t
    same m n h =
        record {
          seen = same_sight k.control m n s t h;
          control = same_control k.control m n s t h;
          out = (same_entry k.control m n s t h).out;
        }

pub same_sights : (k l : Chip) → k.control ≡ l.control → (ss ts : List Step) → Sessions k l ss ts → sights k (history k ss) ≡ sights l (history l ts)
unfolding sights history
same_sights k l e [] [] h = refl
same_sights k l e [] (t ∷ ts) h = absurd h
same_sights k l e (s ∷ ss) [] h = absurd h
same_sights k l e (s ∷ ss) (t ∷ ts) h =
    let a = alike k l e s t h.0 in
    ap₂ (λ (x : Sight) (xs : List Sight). x ∷ xs) a.seen (same_sights (step k s).chip (step l t).chip a.control ss ts h.1)

pub same_controls : (k l : Chip) → k.control ≡ l.control → (ss ts : List Step) → Sessions k l ss ts → controls (history k ss) ≡ controls (history l ts)
unfolding history
same_controls k l e [] [] h = refl
same_controls k l e [] (t ∷ ts) h = absurd h
same_controls k l e (s ∷ ss) [] h = absurd h
same_controls k l e (s ∷ ss) (t ∷ ts) h =
    let a = alike k l e s t h.0 in
    ap₂ (λ (x : Control) (xs : List Control). x ∷ xs) a.control (same_controls (step k s).chip (step l t).chip a.control ss ts h.1)

pub masking : Masking
masking k ss ts h = (same_sights k k refl ss ts h, same_controls k k refl ss ts h)
