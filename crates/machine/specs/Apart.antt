-- A step and an action taken apart: a rule names the few that it speaks of, and says what is so else.
use Rattle.std.specs.Prelude.{ℕ, Bool, true, false}
use Rattle.machine.specs.declared.Which.{Which}
use Rattle.machine.specs.declared.Step.{Step}
use Rattle.machine.specs.declared.Step.TheVariants.{Write, Read, DmaWrite, DmaRead, Acknowledge, Reset}
use Rattle.machine.specs.declared.Action.{Action}
use Rattle.machine.specs.declared.Action.TheVariants.{Offer, Take, Store, Load, Aim, Grant, Renew, Float, Refuse}

-- ---- a step

-- a write, a read, the two by DMA, and an acknowledge, each with what it names; else
abbrev pub on_step : {A : Type 0} → Step → (Which → ℕ → ℕ → A) → (Which → ℕ → A) → (Which → ℕ → A) → (Which → A) → (Which → A) → A → A
on_step (Write w a x) write read dmaWrite dmaRead acknowledge other = write w a x
on_step (Read w a) write read dmaWrite dmaRead acknowledge other = read w a
on_step (DmaWrite w x) write read dmaWrite dmaRead acknowledge other = dmaWrite w x
on_step (DmaRead w) write read dmaWrite dmaRead acknowledge other = dmaRead w
on_step (Acknowledge w) write read dmaWrite dmaRead acknowledge other = acknowledge w
on_step (Reset w) write read dmaWrite dmaRead acknowledge other = other

-- a write, with its side, address and byte; else
abbrev pub on_write : {A : Type 0} → Step → (Which → ℕ → ℕ → A) → A → A
on_write s write other = on_step s write (λ w a. other) (λ w x. other) (λ w. other) (λ w. other) other

-- a read or write, with its side and address; else
abbrev pub on_address : {A : Type 0} → Step → (Which → ℕ → A) → A → A
on_address s at other = on_step s (λ w a x. at w a) at (λ w x. other) (λ w. other) (λ w. other) other

-- a DMA write, with its side and byte, and a DMA read, with its side; else
abbrev pub on_dma : {A : Type 0} → Step → (Which → ℕ → A) → (Which → A) → A → A
on_dma s write read other = on_step s (λ w a x. other) (λ w a. other) write read (λ w. other) other

-- an acknowledge, with its side; else
abbrev pub on_acknowledge : {A : Type 0} → Step → (Which → A) → A → A
on_acknowledge s acknowledge other = on_step s (λ w a x. other) (λ w a. other) (λ w x. other) (λ w. other) acknowledge other

-- what carries a byte: the step as it is with any byte, and its own; else
abbrev pub on_byte : {A : Type 0} → Step → ((ℕ → Step) → ℕ → A) → A → A
on_byte (Write w a x) byte other = byte (Write w a) x
on_byte (Read w a) byte other = other
on_byte (DmaWrite w x) byte other = byte (DmaWrite w) x
on_byte (DmaRead w) byte other = other
on_byte (Acknowledge w) byte other = other
on_byte (Reset w) byte other = other

-- it carries a byte
abbrev pub has_byte : Step → Bool
has_byte s = on_byte s (λ make x. true) false

-- ---- an action

-- a byte brought to the FIFO and a byte asked of it, by DMA or not, with the side, and a refusal, with its number; else
abbrev pub on_action : {A : Type 0} → Action → (Bool → Which → A) → (Bool → Which → A) → (ℕ → A) → A → A
on_action (Offer dma w) brought asked refused other = brought dma w
on_action (Take dma w) brought asked refused other = asked dma w
on_action (Store w r x) brought asked refused other = other
on_action (Load w r) brought asked refused other = other
on_action (Aim w p) brought asked refused other = other
on_action (Grant w) brought asked refused other = other
on_action (Renew w) brought asked refused other = other
on_action Float brought asked refused other = other
on_action (Refuse n) brought asked refused other = refused n

-- a byte brought, and a byte asked for; else
abbrev pub on_move : {A : Type 0} → Action → (Bool → Which → A) → (Bool → Which → A) → A → A
on_move a brought asked other = on_action a brought asked (λ n. other) other

-- a refusal; else
abbrev pub on_refusal : {A : Type 0} → Action → (ℕ → A) → A → A
on_refusal a refused other = on_action a (λ dma w. other) (λ dma w. other) refused other
