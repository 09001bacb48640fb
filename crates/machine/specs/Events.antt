-- Events: they set IP.
use Rattle.std.specs.Prelude.{ℕ, Bool, cond}
use Rattle.std.specs.Int.Bits.{bit_or}
use Rattle.bits.specs.Bits.{bit_if}
use Rattle.machine.specs.declared.Which.{Which}
use Rattle.machine.specs.declared.Side.{Side}
use Rattle.machine.specs.declared.Control.{Control}
use Rattle.machine.specs.Record.{side_of, with_ip}
use Rattle.machine.specs.Modes.{live}

-- the sources, highest first; 0 is none
abbrev pub message_source : ℕ
message_source = 7

abbrev pub direction_source : ℕ
direction_source = 6

abbrev pub pattern_source : ℕ
pattern_source = 5

abbrev pub status_source : ℕ
status_source = 4

abbrev pub error_source : ℕ
error_source = 3

abbrev pub full_source : ℕ
full_source = 2

abbrev pub empty_source : ℕ
empty_source = 1

abbrev pub no_source : ℕ
no_source = 0

-- a set of sources is a byte with a bit for each, by its number: bit k, if source k is in it
abbrev pub source : ℕ → Bool → ℕ
source = bit_if

-- an event sets IP on a live side only, whatever IE is
unfoldable pub raised_ip : Bool → ℕ → ℕ → ℕ
raised_ip isLive sources ip = cond isLive (bit_or ip sources) ip

-- a side with these events: what raises an event says so by this alone
abbrev pub raised : Control → Which → ℕ → Side
raised c w sources = with_ip (raised_ip (live c w) sources (side_of c w).ip) (side_of c w)
