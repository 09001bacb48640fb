-- A line that has not ended: what is kept of its characters as they come.
use Rattle.line.specs.Readings.{Reading}
use Rattle.std.specs.Prelude.{ℕ, zero, suc, ◌+◌, ◌*◌, ◌/◌, ◌%◌, ◌≡◌, Bool, true, false, cond, not, ◌&&◌, ◌||◌, List, [], ◌∷◌, eqb, ltb, length, take, Err}
use Rattle.line.specs.declared.Partial.{Partial}
use Rattle.line.specs.declared.Fault.TheVariants.{NotHex, TooShort, TooLong}
use Rattle.line.specs.Digits.{nibble, is_hex}
use Rattle.line.specs.Frames.{meaning, reading}
use Rattle.line.specs.Refused.{ColumnFits}

-- the maker of the struct
abbrev pub partial : ℕ → ℕ → Bool → Partial
partial v n f = record { value = v; digits = n; fault = f }

-- no character came
abbrev pub blank : Partial
blank = partial 0 0 false

-- one character more: a digit joins the value, of six digits at most, and anything else is a fault that stays. The remainder changes no value that
-- five digits make; it keeps what no line made in range
unfoldable pub longer : Partial → ℕ → Partial
longer p b =
    cond (not p.fault && ltb p.digits 6 && is_hex b)
    (partial (p.value % 0x100000 * 16 + nibble b) (p.digits + 1) false)
    (partial p.value p.digits true)

-- some character came
abbrev pub begun : Partial → Bool
begun p = p.fault || not (eqb p.digits 0)

-- no character came, and there is no value
abbrev pub is_blank : Partial → Bool
is_blank p = not (begun p) && eqb p.value 0

-- what the line is, if it ends here. Behind less than six digits stands what is no digit, or nothing; behind six, nothing or one character too many
unfoldable pub reading_of : Partial → Reading
reading_of p =
    cond (ltb p.digits 6)
    (Err (cond p.fault (NotHex (p.digits + 1)) (TooShort (p.digits + 1))))
    (cond (not p.fault && eqb p.digits 6)
    (meaning (p.value / 0x10000) (p.value / 0x100 % 0x100) (p.value % 0x100))
    (Err TooLong))

-- characters, one after the other
abbrev pub grown : Partial → List ℕ → Partial
grown p [] = p
grown p (b ∷ bs) = grown (longer p b) bs

-- ---- the same of the whole line

-- how many hex digits a line begins with, n at most
unfoldable pub lead : ℕ → List ℕ → ℕ
lead n [] = 0
lead zero (b ∷ bs) = 0
lead (suc n) (b ∷ bs) = cond (is_hex b) (suc (lead n bs)) 0

-- the value of hex digits, behind a value that is there
unfoldable pub valued : ℕ → List ℕ → ℕ
valued v [] = v
valued v (b ∷ bs) = valued (v * 16 + nibble b) bs

-- the hex digits that a line begins with, six at most, and whether it goes on behind them
unfoldable pub kept : List ℕ → Partial
kept l = partial (valued 0 (take (lead 6 l) l)) (lead 6 l) (ltb (lead 6 l) (length l))

-- what is kept character by character is that
abbrev pub Kept : Type 0
Kept = (l : List ℕ) → grown blank l ≡ kept l

-- it is read as the whole line
abbrev pub ReadGrown : Type 0
ReadGrown = (l : List ℕ) → reading_of (grown blank l) ≡ reading l

abbrev pub is_empty : List ℕ → Bool
is_empty [] = true
is_empty (b ∷ bs) = false

-- a line is begun exactly if it has a character
abbrev pub BegunGrown : Type 0
BegunGrown = (l : List ℕ) → begun (grown blank l) ≡ not (is_empty l)

-- whatever is handed in as kept, the column is 1 to 7
abbrev pub ColumnsKept : Type 0
ColumnsKept = (p : Partial) → ColumnFits (reading_of p)
