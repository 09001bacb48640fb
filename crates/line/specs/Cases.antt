-- Worked lines: a row for every kind, every use of a byte, every fault and every order of faults.
use Rattle.line.specs.Readings.{Reading}
use Rattle.std.specs.Prelude.{ℕ, ◌≡◌, List, [], ◌∷◌, map, replicate, Ok, Err}
use Prim.Native.Char.{code}
use Prim.Native.String.{String, [] as []ˢ, ◌∷◌ as ◌∷ˢ◌}
use Rattle.std.proofs.Math.Option.{Option, none, some}
use Rattle.machine.specs.declared.Which.TheVariants.{One, Two}
use Rattle.machine.specs.declared.Step.{Step}
use Rattle.machine.specs.declared.Step.TheVariants.{Write, Read, DmaWrite, DmaRead, Acknowledge, Reset}
use Rattle.line.specs.declared.Frame.{Frame}
use Rattle.line.specs.declared.Frame.TheVariants.{Begin, Does}
use Rattle.line.specs.Frames.{reading, written}
use Rattle.line.specs.Answers.{paper}

-- the characters of a text
unfoldable pub chars : String → List ℕ
chars []ˢ = []
chars (c ∷ˢ s) = code c ∷ chars s

-- ---- frames

-- a line, and the frame that it is
pub record Row : Type 0 where
  pub line : List ℕ
  pub wants : Frame

abbrev pub starts : String → ℕ → Row
starts s pins = record { line = chars s; wants = Begin pins }

abbrev pub steps : String → Step → Row
steps s step = record { line = chars s; wants = Does step }

-- the kinds, in either case and in both
abbrev pub frames : List Row
frames =
    starts "000000" 0x00 ∷ starts "000200" 0x02 ∷ starts "00fF00" 0xFF
    ∷ steps "110A40" (Write One 0x0A 0x40) ∷ steps "110a40" (Write One 0x0A 0x40) ∷ steps "11bCdE" (Write One 0xBC 0xDE)
    ∷ steps "12FF00" (Read One 0xFF) ∷ steps "1300fa" (DmaWrite One 0xFA)
    ∷ steps "140000" (DmaRead One) ∷ steps "150000" (Acknowledge One) ∷ steps "160000" (Reset One)
    ∷ steps "210103" (Write Two 0x01 0x03) ∷ steps "220F00" (Read Two 0x0F) ∷ steps "230041" (DmaWrite Two 0x41)
    ∷ steps "240000" (DmaRead Two) ∷ steps "250000" (Acknowledge Two) ∷ steps "260000" (Reset Two) ∷ []

-- ---- faults

-- a line, and the byte that is printed behind E4: the refusal's second digit, and the column
pub record Wrong : Type 0 where
  pub line : List ℕ
  pub byte : ℕ

abbrev pub bad : String → ℕ → Wrong
bad s b = record { line = chars s; byte = b }

-- a line with its first character as given
abbrev pub bad_from : ℕ → String → ℕ → Wrong
bad_from x s b = record { line = x ∷ chars s; byte = b }

-- 41: beside the hex digits, at each of the six columns. The last four begin with NUL, and with 1, A and a with bit 7 set
abbrev pub not_digits : List Wrong
not_digits =
    bad " 11000" 0x11 ∷ bad "0x1100" 0x12 ∷ bad "11 000" 0x13 ∷ bad "110g00" 0x14 ∷ bad "1100-0" 0x15 ∷ bad "11000\r" 0x16
    ∷ bad "11000/" 0x16 ∷ bad "11000:" 0x16 ∷ bad "11000@" 0x16 ∷ bad "11000G" 0x16 ∷ bad "11000`" 0x16 ∷ bad "11000g" 0x16
    ∷ bad_from 0x00 "10000" 0x11 ∷ bad_from 0xB1 "10000" 0x11 ∷ bad_from 0xC1 "10000" 0x11 ∷ bad_from 0xE1 "10000" 0x11 ∷ []

-- 42 and 43; the last line is 70 digits
abbrev pub other_lengths : List Wrong
other_lengths =
    bad "" 0x21 ∷ bad "1" 0x22 ∷ bad "11" 0x23 ∷ bad "110" 0x24 ∷ bad "1100" 0x25 ∷ bad "11000" 0x26
    ∷ bad "1100000" 0x37 ∷ bad "11000000" 0x37 ∷ bad "110000\r" 0x37 ∷ record { line = replicate 70 0x31; byte = 0x37 } ∷ []

-- 44, and 45 at each byte that has no use
abbrev pub meaningless : List Wrong
meaningless =
    bad "010000" 0x41 ∷ bad "100000" 0x41 ∷ bad "170000" 0x41 ∷ bad "1F0000" 0x41
    ∷ bad "200000" 0x41 ∷ bad "270000" 0x41 ∷ bad "310000" 0x41 ∷ bad "A10000" 0x41
    ∷ bad "000001" 0x55 ∷ bad "120001" 0x55 ∷ bad "130100" 0x53 ∷ bad "140001" 0x55 ∷ bad "140100" 0x53
    ∷ bad "150001" 0x55 ∷ bad "150100" 0x53 ∷ bad "160001" 0x55 ∷ bad "160100" 0x53 ∷ bad "120080" 0x55 ∷ bad "148000" 0x53
    ∷ bad "22001A" 0x55 ∷ bad "23A100" 0x53 ∷ bad "240010" 0x55 ∷ bad "241000" 0x53
    ∷ bad "250080" 0x55 ∷ bad "258000" 0x53 ∷ bad "2600FF" 0x55 ∷ bad "26FF00" 0x53 ∷ []

-- more than one fault: the leftmost of 41 to 43, then 44, then 45, its leftmost byte first
abbrev pub several : List Wrong
several =
    bad "G1000G" 0x11 ∷ bad "1G" 0x12 ∷ bad "11000G0" 0x16 ∷ bad "110000G" 0x37
    ∷ bad "70000G" 0x16 ∷ bad "17000" 0x26 ∷ bad "1700000" 0x37 ∷ bad "1401G1" 0x15 ∷ bad "14010" 0x26 ∷ bad "1401010" 0x37
    ∷ bad "170001" 0x41 ∷ bad "140101" 0x53 ∷ []

-- the examples of README.md's card
abbrev pub card : List Wrong
card = bad "12O700" 0x13 ∷ bad "12070" 0x26 ∷ bad "1207000" 0x37 ∷ bad "170000" 0x41 ∷ bad "130141" 0x53 ∷ []

-- what is printed for a line that is refused
abbrev pub told_for : Reading → Option (ℕ × ℕ)
told_for (Ok f) = none
told_for (Err f) = some (paper (Err f))

-- each is refused so
abbrev pub Refused : List Wrong → Type 0
Refused ws = map (λ w. told_for (reading w.line)) ws ≡ map (λ w. some (0xE4, w.byte)) ws

-- ---- writing

-- a frame, and the text that it is
pub record Text : Type 0 where
  pub frame : Frame
  pub text : List ℕ

abbrev pub writes : Frame → String → Text
writes f s = record { frame = f; text = chars s }

abbrev pub texts : List Text
texts =
    writes (Begin 0x02) "000200\n" ∷ writes (Does (Write One 0xBC 0xDE)) "11BCDE\n" ∷ writes (Does (Read Two 0x0F)) "220F00\n"
    ∷ writes (Does (DmaWrite One 0xFA)) "1300FA\n" ∷ writes (Does (DmaRead Two)) "240000\n" ∷ writes (Does (Acknowledge One)) "150000\n"
    ∷ writes (Does (Reset Two)) "260000\n" ∷ []

-- ---- all

-- each line is what its row says, and each frame is written as its row says
pub record Cases : Type 0 where
  pub are_frames : map (λ r. reading r.line) frames ≡ map (λ r. Ok r.wants) frames
  pub are_not_digits : Refused not_digits
  pub are_other_lengths : Refused other_lengths
  pub are_meaningless : Refused meaningless
  pub are_several : Refused several
  pub on_card : Refused card
  pub are_written : map (λ t. written t.frame) texts ≡ map (λ t. t.text) texts
