-- Interrupts: Interrupt Status 0-3, INT, acknowledge and the vector.
use Rattle.std.specs.Prelude.{ℕ, zero, suc, ◌+◌, ◌*◌, Bool, false, cond, not, ◌&&◌, ◌||◌, eqb, ltb}
use Rattle.bits.specs.Bits.{bit, bit_of, field, set_bit, clear_bit, every, numbered}
use Rattle.machine.specs.declared.Which.{Which}
use Rattle.machine.specs.declared.Side.{Side}
use Rattle.machine.specs.declared.Control.{Control}
use Rattle.machine.specs.declared.Answer.{Answer}
use Rattle.machine.specs.declared.Answer.TheVariants.{Byte, Floating}
use Rattle.machine.specs.Record.{side_of, with_flags}
use Rattle.machine.specs.Modes.{live, bus_of, is_high}
use Rattle.machine.specs.Events.{message_source}

-- ---- Interrupt Status

-- a half reads IUS, IE, IP of its source. Source 0 is none
unfoldable pub half : ℕ → Side → ℕ
half zero s = 0
half (suc k) s = bit_of (suc k) s.ius * 4 + bit_of (suc k) s.ie * 2 + bit_of (suc k) s.ip

-- the high half in bits 7-5, the low one in bits 3-1
unfoldable pub status : ℕ → ℕ → Side → ℕ
status high low s = half high s * 32 + half low s * 2

-- 0 nothing, 1 clear IP and IUS, 2 set IUS, 3 clear IUS, 4 set IP, 5 clear IP, 6 set IE, 7 clear IE
unfoldable pub command : ℕ → ℕ → Side → Side
command n k s =
    cond (eqb n 1) (with_flags (clear_bit k s.ip) s.ie (clear_bit k s.ius) s)
    (cond (eqb n 2) (with_flags s.ip s.ie (set_bit k s.ius) s)
    (cond (eqb n 3) (with_flags s.ip s.ie (clear_bit k s.ius) s)
    (cond (eqb n 4) (with_flags (set_bit k s.ip) s.ie s.ius s)
    (cond (eqb n 5) (with_flags (clear_bit k s.ip) s.ie s.ius s)
    (cond (eqb n 6) (with_flags s.ip (set_bit k s.ie) s.ius s)
    (cond (eqb n 7) (with_flags s.ip (clear_bit k s.ie) s.ius s)
    s))))))

-- a command to a half, which is to its source; there is none to source 0
unfoldable pub commanded : ℕ → ℕ → Side → Side
commanded n zero s = s
commanded n (suc k) s = command n (suc k) s

-- both halves of a byte written act
unfoldable pub commands : ℕ → ℕ → ℕ → Side → Side
commands high low byte s = commanded (field 3 1 byte) low (commanded (field 3 5 byte) high s)

-- ---- INT

-- among the sources 1 to n, the highest that p holds of, or 0
unfoldable pub highest : (ℕ → Bool) → ℕ → ℕ
highest p zero = 0
highest p (suc n) = let lower : ℕ = highest p n in cond (p (suc n)) (suc n) lower

-- among the sources 1 to n there is one that p holds of
unfoldable pub any_source : (ℕ → Bool) → ℕ → Bool
any_source p zero = false
any_source p (suc n) = p (suc n) || any_source p n

-- IP and IE
unfoldable pub pending : Side → ℕ → Bool
pending s k = bit k s.ip && bit k s.ie

-- IP and IE with no IUS at its own or a higher place
unfoldable pub due : Side → ℕ → Bool
due s k = pending s k && every (λ j. ltb j k || not (bit j s.ius)) 8

unfoldable pub mie : Side → Bool
mie s = bit 7 s.control0

-- live, not Z-BUS High, MIE 1, and some source is due
unfoldable pub interrupt : Control → Which → Bool
interrupt c w = live c w && not (is_high (bus_of c w)) && mie (side_of c w) && any_source (due (side_of c w)) message_source

-- ---- acknowledge and the vector

-- acknowledge takes the first source in that order that is so placed
abbrev pub acknowledged : Side → ℕ
acknowledged s = highest (due s) message_source

-- it sets its IUS
unfoldable pub served : ℕ → Side → Side
served k s = with_flags s.ip s.ie (set_bit k s.ius) s

-- with VIS 1, bits 3-1 of the vector given are replaced by the source's number
unfoldable pub vector_of : Side → ℕ → ℕ
vector_of s k = cond (bit 4 s.control0) (numbered s.vector k) s.vector

-- it gives the vector, or Floating with NV 1
unfoldable pub vector_answer : Side → ℕ → Answer
vector_answer s k = cond (bit 5 s.control0) Floating (Byte (vector_of s k))

-- reading Vector: MIE 0 the plain vector; MIE 1 with the number of the highest source having IP and IE, 0 if none
unfoldable pub vector_read : Side → ℕ
vector_read s = cond (mie s) (numbered s.vector (highest (pending s) message_source)) s.vector
