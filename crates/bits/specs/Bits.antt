-- Bits by their numbers, bit 0 the lowest.
use Rattle.std.specs.Prelude.{ℕ, zero, suc, ◌+◌, ◌-◌, ◌*◌, ◌/◌, ◌%◌, ◌^◌, Bool, true, cond, not, ◌&&◌, ◌||◌, List, [], ◌∷◌, eqb}
use Rattle.std.specs.Bool.{beq}

-- bit k of x, as a number
unfoldable pub bit_of : ℕ → ℕ → ℕ
bit_of k x = x / 2 ^ k % 2

-- bit k of x is 1
unfoldable pub bit : ℕ → ℕ → Bool
unfolding bit_of
bit k x = eqb (bit_of k x) 1

-- bit k of x where it stands, every other bit 0
unfoldable pub place : ℕ → ℕ → ℕ
unfolding bit_of
place k x = bit_of k x * 2 ^ k

-- bit k at 1 if b, every other bit 0
abbrev pub bit_if : ℕ → Bool → ℕ
bit_if k b = cond b (2 ^ k) 0

-- the j bits of x from bit k up, as a number
unfoldable pub field : ℕ → ℕ → ℕ → ℕ
field j k x = x / 2 ^ k % 2 ^ j

-- x with bit k set
unfoldable pub set_bit : ℕ → ℕ → ℕ
unfolding bit_of
set_bit k x = x + (1 - bit_of k x) * 2 ^ k

-- x with bit k clear
unfoldable pub clear_bit : ℕ → ℕ → ℕ
unfolding place
clear_bit k x = x - place k x

-- what p says holds of every number below n
unfoldable pub every : (ℕ → Bool) → ℕ → Bool
every p zero = true
every p (suc n) = p n && every p n

-- each of the bits ks of x is 0
unfoldable pub zeros : List ℕ → ℕ → Bool
zeros [] x = true
zeros (k ∷ ks) x = not (bit k x) && zeros ks x

-- bits 3-1 of a vector replaced by a number
unfoldable pub numbered : ℕ → ℕ → ℕ
numbered vector n = vector / 16 * 16 + n % 8 * 2 + vector % 2

-- every bit whose mask bit is 0 equals the match bit
unfoldable pub matches : ℕ → ℕ → ℕ → Bool
unfolding every
matches byte pattern mask = every (λ k. bit k mask || beq (bit k byte) (bit k pattern)) 8
