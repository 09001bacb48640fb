-- Frames, as document 01's "Frames and a session" has them, and what a line is. A line is meant without its LF.
use Rattle.line.specs.Readings.{Reading}
use Rattle.std.specs.Prelude.{ℕ, ◌+◌, ◌*◌, ◌/◌, ◌%◌, ◌<◌, ◌≡◌, Bool, true, false, cond, ◌||◌, List, [], ◌∷◌, ◌++◌, eqb, length, take, get_or, Ok, Err}
use Rattle.std.proofs.Math.Option.{Option, none, some}
use Rattle.machine.specs.declared.Which.{Which}
use Rattle.machine.specs.declared.Which.TheVariants.{One, Two}
use Rattle.machine.specs.declared.Step.{Step}
use Rattle.machine.specs.declared.Step.TheVariants.{Write, Read, DmaWrite, DmaRead, Acknowledge, Reset}
use Rattle.machine.specs.Apart.{on_address}
use Rattle.machine.specs.Step.{carries, side_in}
use Rattle.line.specs.declared.Frame.{Frame}
use Rattle.line.specs.declared.Frame.TheVariants.{Begin, Does}
use Rattle.line.specs.declared.Fault.{Fault}
use Rattle.line.specs.declared.Fault.TheVariants.{UnknownKind}
use Rattle.line.specs.Digits.{nibble, capital, pair}
use Rattle.line.specs.Faults.{misshapen, unused, first}

-- ---- kinds

-- a kind of frame: whether it uses the address, whether it uses the data, and its frame of them
pub record Kind : Type 0 where
  pub uses_address : Bool
  pub uses_data : Bool
  pub frame : ℕ → ℕ → Frame

abbrev pub kind : Bool → Bool → (ℕ → ℕ → Frame) → Option Kind
kind a d f = some (record { uses_address = a; uses_data = d; frame = f })

-- the low digit of a kind: 1 write, 2 read, 3 DMA write, 4 DMA read, 5 acknowledge, 6 reset. Write uses both bytes, read the address, DMA write the data
unfoldable pub on_side : Which → ℕ → Option Kind
on_side w n =
    cond (eqb n 1) (kind true true (λ a d. Does (Write w a d)))
    (cond (eqb n 2) (kind true false (λ a d. Does (Read w a)))
    (cond (eqb n 3) (kind false true (λ a d. Does (DmaWrite w d)))
    (cond (eqb n 4) (kind false false (λ a d. Does (DmaRead w)))
    (cond (eqb n 5) (kind false false (λ a d. Does (Acknowledge w)))
    (cond (eqb n 6) (kind false false (λ a d. Does (Reset w))) none)))))

-- the side that a kind's high digit names, which is 1 or 2
abbrev pub side_named : ℕ → Which
side_named n = cond (eqb n 1) One Two

-- kind 00 is a start, pins in address; 11 to 16 are steps on side 1, 21 to 26 on side 2
unfoldable pub kind_of : ℕ → Option Kind
kind_of n =
    cond (eqb n 0x00) (kind true false (λ a d. Begin a))
    (cond (eqb (n / 16) 1 || eqb (n / 16) 2) (on_side (side_named (n / 16)) (n % 16)) none)

-- ---- reading

-- the byte of the two digits from a place on
unfoldable pub byte_at : List ℕ → ℕ → ℕ
byte_at l i = nibble (get_or l i 0) * 16 + nibble (get_or l (i + 1) 0)

-- the faults of a kind's bytes: the address begins at column 3, the data at column 5
abbrev pub unused_in : Kind → ℕ → ℕ → List Fault
unused_in k a d = unused 3 k.uses_address a ++ unused 5 k.uses_data d

-- 44, then 45
unfoldable pub meant : Option Kind → ℕ → ℕ → Reading
meant none a d = Err UnknownKind
meant (some k) a d = first (unused_in k a d) (Ok (k.frame a d))

-- what a kind, an address and data are
unfoldable pub meaning : ℕ → ℕ → ℕ → Reading
meaning n a d = meant (kind_of n) a d

-- what a line is: the leftmost of 41 to 43, then 44, then 45; without a fault it is the frame of its three bytes
unfoldable pub reading : List ℕ → Reading
reading l = first (misshapen l) (meaning (byte_at l 0) (byte_at l 2) (byte_at l 4))

-- ---- writing

abbrev pub side_digit : Which → ℕ
side_digit One = 1
side_digit Two = 2

-- the kind with this low digit, on a side
unfoldable pub kind_on : Which → ℕ → ℕ
kind_on w n = side_digit w * 16 + n

-- kind, address, data
unfoldable pub in_capitals : ℕ → ℕ → ℕ → List ℕ
in_capitals kind a d = pair kind ++ pair a ++ pair d

-- the low digit of a step's kind
abbrev pub low_digit : Step → ℕ
low_digit (Write w a d) = 1
low_digit (Read w a) = 2
low_digit (DmaWrite w d) = 3
low_digit (DmaRead w) = 4
low_digit (Acknowledge w) = 5
low_digit (Reset w) = 6

-- the address of a step, or 00
abbrev pub address_in : Step → ℕ
address_in s = on_address s (λ w a. a) 0x00

-- the line of a frame; bytes without a use are 00
unfoldable pub line_of : Frame → List ℕ
line_of (Begin pins) = in_capitals 0x00 pins 0x00
line_of (Does s) = in_capitals (kind_on (side_in s) (low_digit s)) (address_in s) (carries s)

-- a line with its LF
abbrev pub with_lf : List ℕ → List ℕ
with_lf l = l ++ (10 ∷ [])

-- a frame written: the seven bytes of the capital form with LF
unfoldable pub written : Frame → List ℕ
written f = with_lf (line_of f)

-- ---- both ways

-- the bytes of a frame are bytes
abbrev pub Small : Frame → Type 0
Small (Begin pins) = pins < 256
Small (Does s) = (address_in s < 256) × (carries s < 256)

-- three bytes are what their line is
abbrev pub BytesRead : Type 0
BytesRead = (k a d : ℕ) → k < 256 → a < 256 → d < 256 → reading (in_capitals k a d) ≡ meaning k a d

-- a frame written is seven bytes, and the line that LF ends there reads back as the frame
abbrev pub ReadWritten : Type 0
ReadWritten = (f : Frame) → Small f → (length (written f) ≡ 7) × (reading (take 6 (written f)) ≡ Ok f) × (get_or (written f) 6 0 ≡ 10)

-- a line that reads as a frame is written back as its capital form, with LF
abbrev pub WrittenRead : Type 0
WrittenRead = (l : List ℕ) (f : Frame) → reading l ≡ Ok f → written f ≡ with_lf (capital l)

-- digits of either case: a line is what its capital form is
abbrev pub EitherCase : Type 0
EitherCase = (l : List ℕ) → reading (capital l) ≡ reading l
