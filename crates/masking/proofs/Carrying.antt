-- A step with another byte in place of its own. Assumes nothing.
use Prim.Native.Nat.{ℕ}
use mathlib.Core.Path.{◌≡◌, sym, ap, ◌∙◌}
use Rattle.machine.specs.declared.Step.{Step}
use Rattle.machine.specs.Step.{carries}
use Rattle.machine.proofs.Apart.{by_byte}
use Rattle.masking.specs.Premises.{carrying}

-- what no byte alters is the same of steps that are the same but for it
pub but_byte : {A : Type 0} (f : Step → A) → ((y : ℕ) (s : Step) → f (carrying y s) ≡ f s) → (s t : Step) → carrying 0 s ≡ carrying 0 t → f s ≡ f t
but_byte f h s t e = sym (h 0 s) ∙ ap f e ∙ h 0 t

pub carrying_own : (s : Step) → carrying (carries s) s ≡ s
carrying_own =
    by_byte (λ s. carrying (carries s) s ≡ s) (λ make own x. own.byte_is _ _ x ∙ ap make (own.byte_is _ _ x)) (λ s no. no.other_is _ _)

pub carrying_twice : (x y : ℕ) (s : Step) → carrying x (carrying y s) ≡ carrying x s
carrying_twice x y =
    by_byte (λ s. carrying x (carrying y s) ≡ carrying x s)
    (λ make own z. rw (own.byte_is _ _ z) (own.byte_is _ _ y) ∙ sym (own.byte_is _ _ z)) (λ s no. rw (no.other_is _ _))

-- the step with a byte of its own again
pub carrying_again : (s t : Step) → carrying 0 s ≡ carrying 0 t → carrying (carries t) s ≡ t
carrying_again s t e =
    sym (carrying_twice (carries t) 0 s) ∙ ap (carrying (carries t)) e ∙ carrying_twice (carries t) 0 t ∙ carrying_own t
