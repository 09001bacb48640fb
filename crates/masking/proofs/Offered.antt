-- A write names the Data Buffer exactly where what it asks for is an offer. Assumes nothing.
use Rattle.std.specs.Prelude.{Some, None}
use Prim.Native.Nat.{ℕ}
use mathlib.Core.Path.{◌≡◌, refl, sym, ap, ◌∙◌}
use mathlib.Core.Bool.{Bool, true, false, cond, not, ◌&&◌}
use native.Mathlib.Omega.{arith}
use Rattle.bits.specs.Bits.{field}
use Rattle.machine.specs.declared.Which.{Which}
use Rattle.machine.specs.declared.Control.{Control}
use Rattle.machine.specs.declared.Step.{Step}
use Rattle.machine.specs.declared.Step.TheVariants.{Write}
use Rattle.machine.specs.declared.Action.TheVariants.{Offer, Store, Aim, Float}
use Rattle.machine.specs.Addresses.{is_data, names_data, target, aims, Target}
use Rattle.machine.specs.Modes.{connected}
use Rattle.machine.specs.Fifo.{offered}
use Rattle.machine.specs.Step.{writing, action, carries}
use Rattle.machine.proofs.Apart.{by_byte}
use Rattle.masking.specs.Premises.{carrying, is_offer, Offers}

target_offers : (w : Which) (x : ℕ) (t : Target) → names_data t ≡ is_offer (writing w x t)
target_offers w x (Some r) = go (is_data r)
  where
    go : (b : Bool) → b ≡ is_offer (cond b (Offer false w) (Store w r x))
    go true = refl
    go false = refl
target_offers w x None = refl

write_offers : (c : Control) (w : Which) (a x : ℕ) → offered c (Write w a x) ≡ is_offer (action c (Write w a x))
unfolding offered action
write_offers c w a x = go (connected c w) (aims c w a)
  where
    go : (p q : Bool) → (p && not q && names_data (target c w a)) ≡ is_offer (cond p (cond q (Aim w (field 4 0 x)) (writing w x (target c w a))) Float)
    go true true = refl
    go true false = target_offers w x (target c w a)
    go false q = refl

none_offers : (c : Control) (s : Step) → carrying 0 s ≡ carrying 1 s → offered c s ≡ false
unfolding offered
none_offers c =
    by_byte (λ s. carrying 0 s ≡ carrying 1 s → offered c s ≡ false)
    (λ make own x h.
    let e : make 0 ≡ make 1 = sym (own.byte_is _ _ x) ∙ h ∙ own.byte_is _ _ x in
    let z : ◌≡◌ {A = ℕ} 0 1 = sym (own.byte_is _ _ 0) ∙ ap carries e ∙ own.byte_is _ _ 1 in
    absurd (omega arith))
    (λ s no h. rw (no.other_is _ _))

pub offers : (c : Control) → Offers c
unfolding offered
offers c = record { by_write = write_offers c; by_dma = λ w x. refl; by_none = none_offers c }
