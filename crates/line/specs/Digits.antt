-- Hex digits, of either case and in capitals.
use Rattle.std.specs.Prelude.{ℕ, zero, suc, ◌+◌, ◌-◌, ◌/◌, ◌%◌, Bool, true, cond, ◌&&◌, ◌||◌, List, [], ◌∷◌, map, ltb, leb}

abbrev pub between : ℕ → ℕ → ℕ → Bool
between low high x = leb low x && leb x high

-- 0 to 9, A to F, a to f
unfoldable pub is_hex : ℕ → Bool
is_hex x = between 0x30 0x39 x || between 0x41 0x46 x || between 0x61 0x66 x

-- the value of a hex digit
unfoldable pub nibble : ℕ → ℕ
nibble x = cond (leb x 0x39) (x - 0x30) (cond (leb x 0x46) (x - 0x37) (x - 0x57))

-- what a byte is as a hex digit, and 16 for what is none
abbrev pub value_of : ℕ → ℕ
value_of x = cond (is_hex x) (nibble x) 16

-- the table of that, for each byte
unfoldable pub values_from : ℕ → ℕ → List ℕ
values_from x zero = []
values_from x (suc n) = value_of x ∷ values_from (suc x) n

abbrev pub digit_values : List ℕ
digit_values = values_from 0 256

-- the capital hex digit of a number below 16
unfoldable pub digit : ℕ → ℕ
digit n = cond (ltb n 10) (0x30 + n) (0x37 + n)

-- a to f as A to F
unfoldable pub upper : ℕ → ℕ
upper x = cond (between 0x61 0x66 x) (x - 0x20) x

-- each character is a hex digit
unfoldable pub all_hex : List ℕ → Bool
all_hex [] = true
all_hex (x ∷ xs) = is_hex x && all_hex xs

-- the capital form of a line
abbrev pub capital : List ℕ → List ℕ
capital l = map upper l

-- a byte in two capital digits
unfoldable pub pair : ℕ → List ℕ
pair x = digit (x / 16 % 16) ∷ digit (x % 16) ∷ []
