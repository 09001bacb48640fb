-- What holds of the steps or actions that a rule names, and of every other, holds of all. Assumes nothing.
use Prim.Native.Nat.{ℕ}
use mathlib.Core.Path.{◌≡◌, refl}
use mathlib.Core.Bool.{Bool}
use Rattle.machine.specs.declared.Which.{Which}
use Rattle.machine.specs.declared.Step.{Step}
use Rattle.machine.specs.declared.Step.TheVariants.{Write, Read, DmaWrite, DmaRead, Acknowledge, Reset}
use Rattle.machine.specs.declared.Action.{Action}
use Rattle.machine.specs.declared.Action.TheVariants.{Offer, Take, Store, Load, Aim, Grant, Renew, Float, Refuse}
use Rattle.machine.specs.Apart.{on_step, on_write, on_dma, on_byte, on_move}

-- ---- a step

-- what holds of each step that is named, with what is so of it, and of any step with what is so else
pub by_step : {A : Type 0} (P : Step → A → Type 0) {write : Which → ℕ → ℕ → A} {read dmaWrite : Which → ℕ → A} {dmaRead acknowledge : Which → A} {other : A}
    → ((w : Which) (a x : ℕ) → P (Write w a x) (write w a x)) → ((w : Which) (a : ℕ) → P (Read w a) (read w a))
    → ((w : Which) (x : ℕ) → P (DmaWrite w x) (dmaWrite w x)) → ((w : Which) → P (DmaRead w) (dmaRead w))
    → ((w : Which) → P (Acknowledge w) (acknowledge w)) → ((s : Step) → P s other)
    → (s : Step) → P s (on_step s write read dmaWrite dmaRead acknowledge other)
by_step P write read dmaWrite dmaRead acknowledge other (Write w a x) = write w a x
by_step P write read dmaWrite dmaRead acknowledge other (Read w a) = read w a
by_step P write read dmaWrite dmaRead acknowledge other (DmaWrite w x) = dmaWrite w x
by_step P write read dmaWrite dmaRead acknowledge other (DmaRead w) = dmaRead w
by_step P write read dmaWrite dmaRead acknowledge other (Acknowledge w) = acknowledge w
by_step P write read dmaWrite dmaRead acknowledge other (Reset w) = other (Reset w)

pub by_write : {A : Type 0} (P : Step → A → Type 0) {write : Which → ℕ → ℕ → A} {other : A} → ((w : Which) (a x : ℕ) → P (Write w a x) (write w a x))
    → ((s : Step) → P s other) → (s : Step) → P s (on_write s write other)
by_write P write other =
    by_step P write (λ w a. other (Read w a)) (λ w x. other (DmaWrite w x)) (λ w. other (DmaRead w)) (λ w. other (Acknowledge w)) other

pub by_dma : {A : Type 0} (P : Step → A → Type 0) {write : Which → ℕ → A} {read : Which → A} {other : A} → ((w : Which) (x : ℕ) → P (DmaWrite w x) (write w x))
    → ((w : Which) → P (DmaRead w) (read w)) → ((s : Step) → P s other) → (s : Step) → P s (on_dma s write read other)
by_dma P write read other =
    by_step P (λ w a x. other (Write w a x)) (λ w a. other (Read w a)) write read (λ w. other (Acknowledge w)) other

-- a step as it is with any byte
pub record Carries (make : ℕ → Step) : Type 1 where
  pub byte_is : {A : Type 0} (byte : (ℕ → Step) → ℕ → A) (other : A) (x : ℕ) → on_byte (make x) byte other ≡ byte make x

-- it carries no byte
pub record NoByte (s : Step) : Type 1 where
  pub other_is : {A : Type 0} (byte : (ℕ → Step) → ℕ → A) (other : A) → on_byte s byte other ≡ other

pub by_byte : (P : Step → Type 0) → ((make : ℕ → Step) → Carries make → (x : ℕ) → P (make x)) → ((s : Step) → NoByte s → P s) → (s : Step) → P s
by_byte P byte other (Write w a x) = byte (Write w a) (record { byte_is = λ f e y. refl }) x
by_byte P byte other (Read w a) = other (Read w a) (record { other_is = λ f e. refl })
by_byte P byte other (DmaWrite w x) = byte (DmaWrite w) (record { byte_is = λ f e y. refl }) x
by_byte P byte other (DmaRead w) = other (DmaRead w) (record { other_is = λ f e. refl })
by_byte P byte other (Acknowledge w) = other (Acknowledge w) (record { other_is = λ f e. refl })
by_byte P byte other (Reset w) = other (Reset w) (record { other_is = λ f e. refl })

-- ---- an action

-- it neither brings a byte nor asks for one
pub record NoMove (a : Action) : Type 1 where
  pub other_is : {A : Type 0} (brought asked : Bool → Which → A) (other : A) → on_move a brought asked other ≡ other

pub by_move : (P : Action → Type 0) → ((dma : Bool) (w : Which) → P (Offer dma w)) → ((dma : Bool) (w : Which) → P (Take dma w))
    → ((a : Action) → NoMove a → P a) → (a : Action) → P a
by_move P brought asked other (Offer dma w) = brought dma w
by_move P brought asked other (Take dma w) = asked dma w
by_move P brought asked other (Store w r x) = other (Store w r x) (record { other_is = λ f g e. refl })
by_move P brought asked other (Load w r) = other (Load w r) (record { other_is = λ f g e. refl })
by_move P brought asked other (Aim w p) = other (Aim w p) (record { other_is = λ f g e. refl })
by_move P brought asked other (Grant w) = other (Grant w) (record { other_is = λ f g e. refl })
by_move P brought asked other (Renew w) = other (Renew w) (record { other_is = λ f g e. refl })
by_move P brought asked other Float = other Float (record { other_is = λ f g e. refl })
by_move P brought asked other (Refuse n) = other (Refuse n) (record { other_is = λ f g e. refl })
