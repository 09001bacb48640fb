-- What is promised of a line that is refused: which lines are, what is told, and at which column.
use Rattle.line.specs.Readings.{Reading}
use Rattle.std.specs.Prelude.{ℕ, ◌+◌, ◌<◌, ◌≤◌, ◌≡◌, Bool, true, false, ◌&&◌, ◌||◌, List, eqb, length, take, get_or, Ok, Err}
use Rattle.std.proofs.Math.Option.{none, some}
use Rattle.line.specs.declared.Frame.{Frame}
use Rattle.line.specs.declared.Fault.TheVariants.{NotHex, TooShort, TooLong, UnknownKind, UnusedByte}
use Rattle.line.specs.Digits.{is_hex, all_hex, capital}
use Rattle.line.specs.Faults.{column}
use Rattle.line.specs.Frames.{Kind, kind_of, byte_at, reading, line_of, Small}

-- ---- which lines

-- a line is a frame: in capitals it is the frame's line
abbrev pub IsFrame : List ℕ → Frame → Type 0
IsFrame l f = Small f × (capital l ≡ line_of f)

-- a line reads as a frame exactly if it is that frame. So the lines that are refused are those that are no frame, and telling the fault alters none of it
abbrev pub AsBefore : Type 0
AsBefore = (l : List ℕ) (f : Frame) → (reading l ≡ Ok f → IsFrame l f) × (IsFrame l f → reading l ≡ Ok f)

-- ---- at which column

-- a refused line's column is 1 to 7
abbrev pub ColumnFits : Reading → Type 0
ColumnFits (Ok f) = Unit {0}
ColumnFits (Err x) = (1 ≤ column x) × (column x ≤ 7)

abbrev pub Columns : Type 0
Columns = (l : List ℕ) → ColumnFits (reading l)

-- ---- which fault

-- bytes without a use are 00
abbrev pub unused_are_zero : Kind → ℕ → ℕ → Bool
unused_are_zero k a d = (k.uses_address || eqb a 0) && (k.uses_data || eqb d 0)

-- which fault is told, sentence by sentence
pub record ToldFirst (l : List ℕ) : Type 0 where
  -- 41: the first of the first six characters that isn't a hex digit
  pub not_hex : (n : ℕ) → n < 6 → n < length l → all_hex (take n l) ≡ true → is_hex (get_or l n 0) ≡ false → reading l ≡ Err (NotHex (n + 1))
  -- 42: fewer than six characters, each a hex digit
  pub too_short : length l < 6 → all_hex l ≡ true → reading l ≡ Err (TooShort (length l + 1))
  -- 43: more than six, and the first six are hex digits
  pub too_long : 6 < length l → all_hex (take 6 l) ≡ true → reading l ≡ Err TooLong
  -- 44: six hex digits, and no kind
  pub unknown_kind : length l ≡ 6 → all_hex l ≡ true → kind_of (byte_at l 0) ≡ none → reading l ≡ Err UnknownKind
  -- 45: a kind that doesn't use the address, which isn't 00; then the same of the data
  pub unused_address :
      length l ≡ 6 → all_hex l ≡ true → (k : Kind) → kind_of (byte_at l 0) ≡ some k → k.uses_address ≡ false → eqb (byte_at l 2) 0 ≡ false
      → reading l ≡ Err (UnusedByte 3)
  pub unused_data :
      length l ≡ 6 → all_hex l ≡ true → (k : Kind) → kind_of (byte_at l 0) ≡ some k → (k.uses_address || eqb (byte_at l 2) 0) ≡ true → k.uses_data ≡ false
      → eqb (byte_at l 4) 0 ≡ false → reading l ≡ Err (UnusedByte 5)
  -- and else it is the kind's frame
  pub framed :
      length l ≡ 6 → all_hex l ≡ true → (k : Kind) → kind_of (byte_at l 0) ≡ some k → unused_are_zero k (byte_at l 2) (byte_at l 4) ≡ true
      → reading l ≡ Ok (k.frame (byte_at l 2) (byte_at l 4))

abbrev pub InOrder : Type 0
InOrder = (l : List ℕ) → ToldFirst l
