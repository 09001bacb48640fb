-- Where a step moves a byte in, it is placed and the answer is Done, and where it moves one out, it is the answer. Assumes nothing.
use Prim.Native.Nat.{ℕ}
use mathlib.Core.Path.{◌≡◌, refl}
use mathlib.Core.Bool.{Bool, true, false, not, ◌&&◌, false≢true}
use Rattle.bits.proofs.Laws.{and_left, and_right}
use Rattle.machine.specs.declared.Which.{Which}
use Rattle.machine.specs.declared.Control.{Control}
use Rattle.machine.specs.declared.Step.{Step}
use Rattle.machine.specs.declared.Action.{Action}
use Rattle.machine.specs.declared.Answer.TheVariants.{Done, Byte}
use Rattle.machine.specs.declared.Effect.{Effect}
use Rattle.machine.specs.declared.Effect.TheVariants.{Place}
use Rattle.machine.specs.declared.Plan.{Plan}
use Rattle.machine.specs.declared.Reply.{Reply}
use Rattle.machine.specs.declared.Reply.TheVariants.{Says, Front}
use Rattle.machine.specs.Addresses.{closes}
use Rattle.machine.specs.Fifo.{accepted, given}
use Rattle.machine.specs.Moves.{stored_at}
use Rattle.machine.specs.Validity.{valid}
use Rattle.machine.specs.Step.{action, carries, side_in, plan, is_waiting, ended, planned, decided, on_payload, front_of, step}
use Rattle.machine.proofs.Tests.{test}
use Rattle.masking.specs.Premises.{is_offer, is_take, moves_in, moves_out, Moves}
use Rattle.machine.proofs.Moved.{offer_moved, take_moved}
use Rattle.machine.proofs.Apart.{by_move}
use Rattle.masking.proofs.Masking.{OnSide, action_side}

-- ---- the plan of a step that moves a byte

-- of what happens to the buffer and of the reply: a byte that goes in is placed, with Done, and one that is taken out is the reply
record MovesAs (c : Control) (a : Action) (w : Which) (e : Effect) (r : Reply) : Type 0 where
  goes_in_lem : (is_offer a && accepted c w) ≡ true → (e ≡ Place (stored_at c)) × (r ≡ Says Done)
  comes_out : (is_take a && given c w) ≡ true → r ≡ Front

-- nothing is to be shown where no byte is brought or asked for
moves_none : (c : Control) (a : Action) (w : Which) (e : Effect) (r : Reply) → is_offer a ≡ false → is_take a ≡ false → MovesAs c a w e r
moves_none c a w e r p q = record { goes_in_lem = λ h. absurd (false≢true (rw p at h)); comes_out = λ h. absurd (false≢true (rw q at h)) }

plan_moves : (c : Control) (a : Action) (w : Which) (u : Bool) → OnSide w a → MovesAs c a w (plan c a u).effect (plan c a u).reply
unfolding plan
plan_moves c a w u =
    by_move (λ a. OnSide w a → MovesAs c a w (plan c a u).effect (plan c a u).reply)
    (λ dma v o. record { goes_in_lem = λ h. rw (o.on_side, offer_moved c w dma u h) (refl, refl); comes_out = λ h. absurd (false≢true h) })
    (λ dma v o. record { goes_in_lem = λ h. absurd (false≢true h); comes_out = λ h. rw (o.on_side, take_moved c w dma u h) })
    (λ a no o. moves_none c a w _ _ (no.other_is _ _ _) (no.other_is _ _ _))
    a

-- the end of the step alters neither
ended_moves : (c : Control) (a : Action) (w v : Which) (back : Bool) (p : Plan) → MovesAs c a w p.effect p.reply
    → MovesAs c a w (ended back v p).effect (ended back v p).reply
unfolding ended
ended_moves c a w v back p h = test (λ (q : Plan). MovesAs c a w q.effect q.reply) (back && not (is_waiting p.reply)) (λ _. h) (λ _. h)

decided_moves : (c : Control) (s : Step) (front : ℕ) → valid c ≡ true
    → MovesAs c (action c s) (side_in s) (decided c s front).effect (decided c s front).reply
unfolding decided planned
decided_moves c s front v =
    rw v (ended_moves c (action c s) (side_in s) (side_in s) (closes c s) _ (plan_moves c (action c s) (side_in s) _ (action_side c s)))

pub moves : Moves
unfolding step moves_in moves_out
moves k s = (λ h. stored (search (and_left, and_right)) h, λ h. taken (search (and_left, and_right)) h)
  where
    m : valid k.control ≡ true → MovesAs k.control (action k.control s) (side_in s) (decided k.control s (front_of k.control k.payload)).effect (decided k.control s (front_of k.control k.payload)).reply
    m = decided_moves k.control s (front_of k.control k.payload)

    stored : valid k.control ≡ true → moves_in k.control s ≡ true
        → ((step k s).answer ≡ Done) × ((step k s).chip.payload ≡ on_payload (Place (stored_at k.control)) (carries s) k.payload)
    stored v h = let e = (m v).goes_in_lem (rw v at h) in (rw e.1, rw e.0)

    taken : valid k.control ≡ true → moves_out k.control s ≡ true → (step k s).answer ≡ Byte (front_of k.control k.payload)
    taken v h = rw ((m v).comes_out (rw v at h))
