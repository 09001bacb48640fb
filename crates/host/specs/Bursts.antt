-- What a burst of a host leaves: that of the record that is meant, by side 1 or 2. Floating and every refusal leave all as it was.
use Rattle.std.specs.Prelude.{ℕ, ◌≡◌, Bool, cond, ◌||◌, List, ◌⊎◌, eqb, Result, Ok, Err}
use Rattle.machine.specs.declared.Which.{Which}
use Rattle.machine.specs.declared.Which.TheVariants.{One, Two}
use Rattle.machine.specs.declared.Chip.{Chip}
use Rattle.machine.specs.declared.Refusal.{Refusal}
use Rattle.machine.specs.declared.Refusal.TheVariants.{NotValid, Malformed}
use Rattle.machine.specs.Record.{chip_over}
use Rattle.machine.specs.Step.{buffer_of}
use Rattle.machine.specs.Leaves.{Leaves}
use Rattle.dma.specs.declared.Way.{Way}
use Rattle.dma.specs.declared.BurstAnswer.{BurstAnswer}
use Rattle.dma.specs.Answers.{number, value, refused}
use Rattle.dma.specs.Burst.{burst}
use Rattle.dma.specs.Sequences.{memory_after}
use Rattle.host.specs.declared.HostControl.{HostControl}
use Rattle.host.specs.declared.HostBurst.{HostBurst}
use Rattle.host.specs.Records.{plain, meant, shown}

-- what is handed back, the lent buffer and the lent memory
pub record BurstLeft : Type 0 where
  pub back : HostBurst
  pub buffer : List ℕ
  pub memory : List ℕ

abbrev pub burst_shown : HostControl → BurstAnswer → HostBurst
burst_shown h a = record { control = h; number = number a; moved = value a }

abbrev pub burst_left : HostControl → BurstAnswer → List ℕ → List ℕ → BurstLeft
burst_left h a l memory = record { back = burst_shown h a; buffer = l; memory = memory }

-- a call that leaves it, beside memory
abbrev pub LeavesBurstCall : BurstLeft → HostBurst → List ℕ → Type 0
LeavesBurstCall o r buffer = Leaves o.back o.buffer r buffer

-- the machine's burst, shown
abbrev pub left_by_burst : Way → Chip → Which → List ℕ → BurstLeft
left_by_burst way k w memory =
    burst_left (shown (burst way k w memory).chip.control) (burst way k w memory).answer (buffer_of (burst way k w memory).chip) (memory_after way k w memory)

-- ---- which side

abbrev pub is_side : ℕ → Bool
is_side n = eqb n 1 || eqb n 2

abbrev pub side_numbered : ℕ → Which
side_numbered n = cond (eqb n 1) One Two

-- Order: 4 (no side has the number), 1 (a flag above 1)
unfoldable pub asked : HostControl → ℕ → Result Which Refusal
asked h side = cond (is_side side) (cond (plain h) (Ok (side_numbered side)) (Err NotValid)) (Err Malformed)

-- ---- the burst

-- that of the record that is meant, with an order of its own (1, Floating, 6, 7), or the refusal
abbrev pub left_by_asked : Way → HostControl → List ℕ → Result Which Refusal → List ℕ → BurstLeft
left_by_asked way h l (Ok w) memory = left_by_burst way (chip_over (meant h) l) w memory
left_by_asked way h l (Err r) memory = burst_left h (refused r) l memory

unfoldable pub host_burst : Way → HostControl → List ℕ → ℕ → List ℕ → BurstLeft
host_burst way h l side memory = left_by_asked way h l (asked h side) memory

-- ---- what is kept

-- all as it was, and no byte moved
abbrev pub kept : HostControl → ℕ → List ℕ → List ℕ → BurstLeft
kept h n l memory = record { back = record { control = h; number = n; moved = 0 }; buffer = l; memory = memory }

-- Done, or all as it was
abbrev pub DoneOrKept : HostControl → List ℕ → List ℕ → BurstLeft → Type 0
DoneOrKept h l memory o = (o.back.number ≡ 0) ⊎ (o ≡ kept h o.back.number l memory)

abbrev pub BurstsKeep : Type 0
BurstsKeep = (way : Way) (h : HostControl) (l : List ℕ) (side : ℕ) (memory : List ℕ) → DoneOrKept h l memory (host_burst way h l side memory)
