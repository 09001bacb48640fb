-- What is wrong with a line that is no frame: its faults, and which of them is told. A line is meant without its LF.
use Rattle.line.specs.Readings.{Reading}
use Rattle.std.specs.Prelude.{ℕ, ◌+◌, ◌≤◌, ◌≡◌, Bool, cond, ◌||◌, ◌⊎◌, List, [], ◌∷◌, ◌++◌, eqb, ltb, length, take, Err}
use Rattle.line.specs.declared.Fault.{Fault}
use Rattle.line.specs.declared.Fault.TheVariants.{NotHex, TooShort, TooLong, UnknownKind, UnusedByte}
use Rattle.line.specs.Digits.{is_hex}

-- ---- a fault's number and column

-- 41 one of the first six characters isn't a hex digit, 42 too short, 43 too long, 44 kind unknown, 45 an unused byte that isn't 00
abbrev pub refusal : Fault → ℕ
refusal (NotHex c) = 41
refusal (TooShort c) = 42
refusal TooLong = 43
refusal UnknownKind = 44
refusal (UnusedByte c) = 45

-- that of the character, of the place behind the last one, 7, 1, that of the byte's first digit
abbrev pub column : Fault → ℕ
column (NotHex c) = c
column (TooShort c) = c
column TooLong = 7
column UnknownKind = 1
column (UnusedByte c) = c

-- ---- the faults that there are

-- from a column on, each character that isn't a hex digit
abbrev pub not_hex : ℕ → List ℕ → List Fault
not_hex c [] = []
not_hex c (x ∷ xs) = cond (is_hex x) (not_hex (c + 1) xs) (NotHex c ∷ not_hex (c + 1) xs)

-- fewer than six characters: at the column behind the last one
abbrev pub too_short : List ℕ → List Fault
too_short l = cond (ltb (length l) 6) (TooShort (length l + 1) ∷ []) []

-- more than six
abbrev pub too_long : List ℕ → List Fault
too_long l = cond (ltb 6 (length l)) (TooLong ∷ []) []

-- 41 to 43: all of them that a line has
unfoldable pub misshapen : List ℕ → List Fault
misshapen l = not_hex 1 (take 6 l) ++ too_short l ++ too_long l

-- 45: a byte whose digits begin at a column, unless it has a use or is 00
unfoldable pub unused : ℕ → Bool → ℕ → List Fault
unused c used b = cond (used || eqb b 0) [] (UnusedByte c ∷ [])

-- ---- the one that is told

-- the leftmost of faults
abbrev pub leftmost : Fault → List Fault → Fault
leftmost f [] = f
leftmost f (g ∷ gs) = cond (ltb (column g) (column f)) (leftmost g gs) (leftmost f gs)

-- the leftmost, if there is any; if there is none, what the line is otherwise
unfoldable pub first : List Fault → Reading → Reading
first [] r = r
first (f ∷ fs) r = Err (leftmost f fs)

-- no fault of these lies left of a column
abbrev pub NoneLeftOf : ℕ → List Fault → Type 0
NoneLeftOf c [] = Unit {0}
NoneLeftOf c (f ∷ fs) = (c ≤ column f) × NoneLeftOf c fs

abbrev pub OneOf : Fault → List Fault → Type 0
OneOf f [] = ⊥
OneOf f (g ∷ gs) = (f ≡ g) ⊎ OneOf f gs

-- the leftmost of faults is one of them and has none left of it
abbrev pub Leftmost : Type 0
Leftmost = (f : Fault) (fs : List Fault) → OneOf (leftmost f fs) (f ∷ fs) × NoneLeftOf (column (leftmost f fs)) (f ∷ fs)
