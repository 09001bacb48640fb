-- Records that are handed in, which need not come from a start: refusal 1's conditions, each with records just beyond it and one at it, and a side in reset
-- that still holds something.
use Rattle.machine.specs.declared.Answer.{Answer}
use Rattle.std.specs.Prelude.{ℕ, ◌+◌, ◌*◌, ◌^◌, true, false, ◌≡◌, replicate}
use mathlib.Core.List.{List, [], ◌∷◌, ◌++◌, map, flat_map}
use Rattle.machine.specs.declared.Which.{Which}
use Rattle.machine.specs.declared.Which.TheVariants.{One, Two}
use Rattle.machine.specs.declared.Side.{Side}
use Rattle.machine.specs.declared.Control.{Control}
use Rattle.machine.specs.declared.Chip.{Chip}
use Rattle.machine.specs.declared.Step.TheVariants.{Read, Reset}
use Rattle.machine.specs.declared.Answer.TheVariants.{Byte}
use Rattle.machine.specs.declared.Stepped.{Stepped}
use Rattle.machine.specs.Record.{chip_over, side_of, with_side, with_sides, with_control0, with_control1, with_flags, with_vector, with_pointer, with_state1}
use Rattle.machine.specs.Record.{with_run, with_control2, with_control3, with_place}
use Rattle.machine.specs.Answers.{number}
use Rattle.machine.specs.Reset.{reset_side, fresh}
use Rattle.machine.specs.Step.{step}
use Rattle.machine.specs.History.{lines}

-- ---- records

-- a record with a buffer, whose bytes are no matter here
abbrev pub handed : Control → Chip
handed c = chip_over c (replicate 128 0x55)

-- as a start leaves it, with the pins 0
abbrev pub begun : Control
begun = fresh 0

-- the same with both sides out of reset
abbrev pub out : Control
out = with_sides (with_control0 0x00 reset_side) (with_control0 0x00 reset_side) begun

-- a side of a record anew
abbrev pub anew : Which → (Side → Side) → Control → Control
anew w f c = with_side w (f (side_of c w)) c

-- start place and count, with Control 3 beside them
abbrev pub placed : ℕ → ℕ → ℕ → Control
placed control3 start count = with_control3 control3 (with_place start count out)

abbrev pub both_sides : List Which
both_sides = One ∷ Two ∷ []

-- ---- refusal 1

-- a condition: a record at its bound, and those just beyond
pub record Bound : Type 0 where
  pub at : Control
  pub beyond : List Control

infix 68 ◌but_not◌
abbrev pub ◌but_not◌ : Control → List Control → Bound
c but_not l = record { at = c; beyond = l }

-- a number that some part of a record is made of: at n, not at the next
abbrev pub up_to : ℕ → (ℕ → Control) → Bound
up_to n f = f n but_not (f (n + 1) ∷ [])

-- a byte with all the bits that it may have, not with one of the bits ks beside them
abbrev pub zero_bits : ℕ → List ℕ → (ℕ → Control) → Bound
zero_bits rest ks f = f rest but_not map (λ k. f (rest + 2 ^ k)) ks

-- start place > 127, count > 128, pins > 2
abbrev pub ranges : List Bound
ranges = up_to 127 (λ n. placed 0x40 n 0) ∷ up_to 128 (λ n. placed 0x40 0 n) ∷ up_to 2 fresh ∷ []

-- frozen count > 128, a pointer > 15
abbrev pub own_ranges : Which → List Bound
own_ranges w = up_to 128 (λ n. anew w (with_control1 0x00 n false) out) ∷ up_to 15 (λ n. anew w (with_pointer n false) out) ∷ []

-- a bit that document 01 holds at zero, set: of Control 1, and in a byte of flags the bit of no source
abbrev pub own_zeros : Which → List Bound
own_zeros w =
    zero_bits 0x4F (7 ∷ 5 ∷ 4 ∷ []) (λ x. anew w (with_control1 x 0 false) out)
    ∷ zero_bits 0xFE (0 ∷ []) (λ x. anew w (with_flags x 0 0) out) ∷ zero_bits 0xFE (0 ∷ []) (λ x. anew w (with_flags 0 x 0) out)
    ∷ zero_bits 0xFE (0 ∷ []) (λ x. anew w (with_flags 0 0 x) out) ∷ []

-- of Control 0, where only side 2 has such bits; of Control 2; of Control 3
abbrev pub shared_zeros : List Bound
shared_zeros =
    zero_bits 0xFE [] (λ x. anew One (with_control0 x) out) ∷ zero_bits 0xF2 (3 ∷ 2 ∷ []) (λ x. anew Two (with_control0 x) out)
    ∷ zero_bits 0x03 (7 ∷ 6 ∷ 5 ∷ 4 ∷ 3 ∷ 2 ∷ []) (λ x. with_control2 x out) ∷ zero_bits 0xF0 (3 ∷ 2 ∷ 1 ∷ 0 ∷ []) (λ x. with_control3 x out) ∷ []

-- CLEAR 0 with count > 0
abbrev pub clears : List Bound
clears = up_to 0 (λ n. placed 0x00 0 n) ∷ []

-- a run flag 1 on the writer at count 128 or the reader at 0: with direction 0, side 1 is the writer
abbrev pub runs : List Bound
runs =
    up_to 127 (running One 0x40) ∷ running Two 0x40 1 but_not (running Two 0x40 0 ∷ [])
    ∷ up_to 127 (running Two 0x50) ∷ running One 0x50 1 but_not (running One 0x50 0 ∷ []) ∷ []
  where
    running : Which → ℕ → ℕ → Control
    running w control3 n = anew w (with_run true) (placed control3 0 n)

-- a Reset bit 1 beside another bit of that Control 0
abbrev pub reset_bits : Which → List Bound
reset_bits w = zero_bits 0x01 (7 ∷ 6 ∷ 5 ∷ 4 ∷ 3 ∷ 2 ∷ 1 ∷ []) (λ x. anew w (with_control0 x) begun) ∷ []

-- side 1's Reset bit 1 with side 2's Reset bit 0 or Control 2 not 00; side 2's own may be 1 alone
abbrev pub resets : List Bound
resets =
    begun but_not (anew Two (with_control0 0x00) begun ∷ with_control2 0x01 begun ∷ with_control2 0x02 begun ∷ [])
    ∷ with_control2 0x03 (anew Two (with_control0 0x01) out) but_not [] ∷ []

-- what reset zeroed is not meant: Reset 1 beside a vector, CLEAR 0 beside a start place, State 1 on a Z-BUS side
abbrev pub unmeant : List Bound
unmeant =
    anew One (with_vector 0x09) begun but_not [] ∷ anew Two (with_vector 0x09) begun but_not [] ∷ placed 0x00 5 0 but_not []
    ∷ anew One (with_state1 true) out but_not [] ∷ anew Two (with_state1 true) out but_not [] ∷ []

unfoldable pub bounds : List Bound
bounds =
    ranges ++ flat_map own_ranges both_sides ++ flat_map own_zeros both_sides ++ shared_zeros ++ clears ++ runs ++ flat_map reset_bits both_sides
    ++ resets ++ unmeant

-- what a hardware reset of side 1 does: a valid record obeys it
abbrev pub tried : Control → Stepped Answer
tried c = step (handed c) (Reset One)

-- the number of its answer: E1 is refusal 1, 00 Done
abbrev pub tried_number : Control → ℕ
tried_number c = number (tried c).answer

-- all records just beyond a condition
abbrev pub forbidden : List Control
forbidden = flat_map (λ b. b.beyond) bounds

-- ---- a side in reset that still holds something

-- a side with something in all it owns, but for Control 0
abbrev pub laden : ℕ → Side
laden control0 =
    record {
      control0 = control0;
      control1 = 0x43;
      ip = 0xFE;
      ie = 0xFE;
      ius = 0x80;
      vector = 0x09;
      compare = 0x01;
      pattern = 0x41;
      mask = 0x20;
      pointer = 0x0F;
      state1 = true;
      run = false;
      frozen = 0x02;
      message = 0xA5;
      waiting = true;
    }

-- the record in which side w is so and in reset, the other side sent it a message, and it is the reader of one byte
abbrev pub resting : Which → Control
resting One = with_control3 0x50 (with_place 0 1 (with_sides (laden 0x01) (laden 0x01) begun))
resting Two = with_control2 0x01 (with_control3 0x40 (with_place 0 1 (with_sides (laden 0x02) (laden 0x01) begun)))

-- the sixteen registers' addresses with RJA 0
abbrev pub addresses : List ℕ
addresses = map (λ r. r * 2) (0 ∷ 1 ∷ 2 ∷ 3 ∷ 4 ∷ 5 ∷ 6 ∷ 7 ∷ 8 ∷ 9 ∷ 10 ∷ 11 ∷ 12 ∷ 13 ∷ 14 ∷ 15 ∷ [])

-- what reading each of them does
abbrev pub read_all : Which → List (Stepped Answer)
read_all w = map (λ a. step (handed (resting w)) (Read w a)) addresses

-- bytes given, all else as it was
abbrev pub given : Which → List ℕ → List (Stepped Answer)
given w = map (λ x. record { chip = handed (resting w); answer = Byte x })

-- a side with REQUEST enabled that is the writer of an empty FIFO, with this Control 0
abbrev pub asking : Which → ℕ → Control
asking One x = with_control3 0x40 (anew One (λ s. with_control0 x (with_control1 0x03 0 false s)) begun)
asking Two x = with_control2 0x01 (with_control3 0x50 (anew Two (λ s. with_control0 x (with_control1 0x03 0 false s)) out))

-- ---- all of it

pub record Handed : Type 0 where
  -- a record just beyond a condition is refused, and one at it is not
  pub beyond_refused : map tried_number forbidden ≡ map (λ c. 0xE1) forbidden
  pub at_obeyed : map (λ b. tried_number b.at) bounds ≡ map (λ b. 0x00) bounds
  -- the refused record is unchanged
  pub beyond_kept : map (λ c. (tried c).chip) forbidden ≡ map handed forbidden
  -- in reset, Control 0 reads 01 and the rest 00 without side effects
  pub rest_reads : map read_all both_sides ≡ map (λ w. given w (0x01 ∷ replicate 15 0x00)) both_sides
  -- REQUEST is active only if live
  pub rest_quiet : map (λ w. lines (asking w 0x01)) both_sides ≡ 0x00 ∷ 0x00 ∷ []
  pub live_asks : map (λ w. lines (asking w 0x00)) both_sides ≡ 0x02 ∷ 0x08 ∷ []
