-- A capture and its masked form, and what shows that the premises can be met and that nothing but values is hidden: each is computed.
use Rattle.std.specs.Prelude.{ℕ, ◌≡◌, Bool, true, false, List, [], ◌∷◌, ◌++◌, map}
use Prim.Native.String.{String}
use Rattle.machine.specs.declared.Which.TheVariants.{One}
use Rattle.machine.specs.declared.Step.TheVariants.{Write}
use Rattle.machine.specs.Fifo.{offered}
use Rattle.machine.specs.Reset.{new_chip}
use Rattle.machine.specs.History.{ran}
use Rattle.line.specs.Digits
use Rattle.line.specs.Faults
use Rattle.line.specs.Frames
use Rattle.line.specs.Cases.{chars}
use Rattle.session.specs.Bench
use Rattle.session.specs.Bench.{Bench, bench}
use Rattle.whole.specs.Whole.{lines_in, answers, left}
use Rattle.masking.specs.Premises.{moved}
use Rattle.masking.specs.Showings.{seen}
use Rattle.masked.specs.Lines.{step_at, offers, takes_out, SameLine, SameVerdicts, Inputs}
use Rattle.masked.specs.Masked.{takes, of_value}

-- ---- a capture and its masked form

-- a line with what it prints, in the one and in the other, and whether it takes a byte out
pub record Beside : Type 0 where
  pub line : String
  pub prints : String
  pub other : String
  pub other_prints : String
  pub takes_one : Bool

abbrev pub beside : String → String → String → String → Bool → Beside
beside l p m q t = record { line = l; prints = p; other = m; other_prints = q; takes_one = t }

-- the same line, which prints the same
abbrev pub kept : String → String → Beside
kept l p = beside l p l p false

-- another line, which prints the same
abbrev pub masked : String → String → String → Beside
masked l m p = beside l p m p false

-- the same line, which takes out the one byte and the other
abbrev pub taken : String → String → String → Beside
taken l p q = beside l p l q true

-- both sides are made live, side 2 with Match 0D and its interrupt, and two bytes go in
abbrev pub opening : List Beside
opening =
    kept "000000" "00000000"
    ∷ kept "110000" "00000000"
    ∷ kept "110002" "00000000"
    ∷ kept "110901" "00000000"
    ∷ kept "210000" "00000000"
    ∷ kept "210002" "00000000"
    ∷ masked "110a40" "110A40" "00000000"
    ∷ kept "210D0D" "00000000"
    ∷ kept "21030C" "00000000"
    ∷ kept "210082" "00000000"
    ∷ masked "110F4A" "110F58" "00000001"
    ∷ masked "13006F" "130058" "00000002"
    ∷ []

-- they come out
abbrev pub two_out : List Beside
two_out =
    taken "240000" "014A0002" "01580002"
    ∷ taken "220F00" "016F0001" "01580001"
    ∷ []

-- CLEAR 0, a byte that is not accepted, a read of the FIFO that fails, a register read, and a line that is no frame
abbrev pub closing : List Beside
closing =
    kept "110A00" "00000000"
    ∷ masked "110F51" "110F00" "00000000"
    ∷ kept "220F00" "01000000"
    ∷ kept "120400" "01220000"
    ∷ kept "1101" "E4250000"
    ∷ []

-- a third byte goes in after the two and comes out after them, and matches; its interrupt is read and acknowledged
abbrev pub capture : List Beside
capture =
    opening ++ (kept "110F0D" "00000003" ∷ two_out)
    ++ (taken "240000" "010D0400" "010D0400"
    ∷ kept "220300" "01060400"
    ∷ kept "250000" "01000000"
    ∷ closing)

-- lines, each with its LF
abbrev pub text : List String → List ℕ
text [] = []
text (s ∷ ss) = chars s ++ (10 ∷ text ss)

-- the one capture and the other
abbrev pub firsts : List Beside → List ℕ
firsts rs = text (map (λ r. r.line) rs)

abbrev pub seconds : List Beside → List ℕ
seconds rs = text (map (λ r. r.other) rs)

-- no chip was started
abbrev pub unstarted : Bench
unstarted = bench false (new_chip 0)

-- what an input prints, from a bench. To open it opens lines, benches and the machine
unfoldable pub printed : Bench → List ℕ → List ℕ
unfolding
    Digits.is_hex Digits.nibble Digits.digit Digits.upper Digits.all_hex Digits.pair Faults.misshapen Faults.unused Faults.first Frames.on_side Frames.kind_of
    Frames.meant
    Frames.meaning Frames.byte_at Frames.reading chars
    Bench.turned Bench.lines_of Bench.count_of Bench.fields Bench.printed step_at offers takes_out offered moved seen
printed b input = answers b (lines_in input)

-- what they print, and which lines take a byte out
pub record Prints (rs : List Beside) : Type 0 where
  pub first_prints : printed unstarted (firsts rs) ≡ text (map (λ r. r.prints) rs)
  pub second_prints : printed unstarted (seconds rs) ≡ text (map (λ r. r.other_prints) rs)
  pub these_take : takes unstarted (lines_in (firsts rs)) ≡ map (λ r. r.takes_one) rs

-- the premises are met, from two benches
abbrev pub Met : Bench → Bench → List Beside → Type 0
Met b d rs = Inputs b d (lines_in (firsts rs)) (lines_in (seconds rs))

-- the premises are met, and the outputs differ in the values of the bytes taken out
pub record Captures : Type 0 where
  pub met : Met unstarted unstarted capture
  pub both_print : Prints capture

-- ---- a capture that is masked carelessly: the byte that matches is masked as well

-- it goes in, and on side 1 neither it nor what is put for it matches
abbrev pub until : List Beside
until = opening ++ (masked "110F0D" "110F58" "00000003" ∷ two_out)

-- it comes out, and what was put for it doesn't match on side 2
abbrev pub matchless : Beside
matchless = taken "240000" "010D0400" "01580000"

-- from there on the session is another one, with the same lines
abbrev pub since : List Beside
since =
    beside "220300" "01060400" "220300" "01040000" false
    ∷ beside "250000" "01000000" "250000" "02000000" false
    ∷ closing

-- the benches that lines leave
abbrev pub at_first : List Beside → Bench
at_first rs = left unstarted (lines_in (firsts rs))

abbrev pub at_second : List Beside → Bench
at_second rs = left unstarted (lines_in (seconds rs))

-- the premise on the verdict of that line
abbrev pub Judged : Type 0
Judged = SameVerdicts (at_first until) (at_second until) (chars matchless.line) (chars matchless.other)

-- only that verdict breaks the premises: the lines before and after it meet them all, and that line itself is the same
pub record Careless : Type 0 where
  pub both_print : Prints (until ++ (matchless ∷ since))
  pub met_until : Met unstarted unstarted until
  pub same_line : SameLine (at_first until) (at_second until) (chars matchless.line) (chars matchless.other)
  pub breaks_verdict : Judged → ⊥
  pub met_since : Met (at_first (until ++ (matchless ∷ []))) (at_second (until ++ (matchless ∷ []))) since
  pub not_met : Met unstarted unstarted (until ++ (matchless ∷ since)) → ⊥

-- ---- what is hidden

-- the places of two lines
abbrev pub places : List ℕ
places = 0 ∷ 1 ∷ 2 ∷ 3 ∷ 4 ∷ 5 ∷ 6 ∷ 7 ∷ 8 ∷ 9 ∷ 10 ∷ 11 ∷ 12 ∷ 13 ∷ 14 ∷ 15 ∷ 16 ∷ 17 ∷ []

-- of a line that takes no byte out, nothing; of one that does, the third and the fourth
abbrev pub Hidden : Type 0
Hidden =
    map (of_value (false ∷ true ∷ [])) places
    ≡ false ∷ false ∷ false ∷ false ∷ false ∷ false ∷ false ∷ false ∷ false
    ∷ false ∷ false ∷ true ∷ true ∷ false ∷ false ∷ false ∷ false ∷ false ∷ []

-- ---- which lines offer

-- side 1 out of reset with RJA 0, where address 1E is the Data Buffer, and with RJA 1, where it is Mask
abbrev pub rja_0 : Bench
rja_0 = bench true (ran (new_chip 0) (Write One 0x00 0x00 ∷ []))

abbrev pub rja_1 : Bench
rja_1 = bench true (ran (new_chip 0) (Write One 0x00 0x00 ∷ Write One 0x00 0x02 ∷ []))

-- a new chip, where side 1 is connected and in reset, and side 2 is not connected
abbrev pub begun : Bench
begun = bench true (new_chip 0)

-- a Non-Z-BUS side 1 with the pointer at the Data Buffer, in State 1, and after a write there in State 0
abbrev pub state_1 : Bench
state_1 = bench true (ran (new_chip 2) (Write One 0x01 0x0F ∷ []))

abbrev pub state_0 : Bench
state_0 = bench true (ran (new_chip 2) (Write One 0x01 0x0F ∷ Write One 0x01 0x41 ∷ []))

-- it goes by the chip as it stands at the line; without a chip no line offers a byte, and a line that is no frame never does
pub record Offers : Type 0 where
  pub to_buffer : offers rja_0 (chars "111E41") ≡ true
  pub to_mask : offers rja_1 (chars "111E41") ≡ false
  pub to_no_chip : offers unstarted (chars "111E41") ≡ false
  pub in_reset : offers begun (chars "111E41") ≡ true
  pub unconnected : offers begun (chars "211E41") ≡ false
  pub through_pointer : offers state_1 (chars "110141") ≡ true
  pub to_pointer : offers state_0 (chars "110141") ≡ false
  pub by_dma : offers rja_1 (chars "230041") ≡ true
  pub dma_to_no_chip : offers unstarted (chars "230041") ≡ false
  pub no_frame : offers rja_1 (chars "230141") ≡ false

-- ---- lines that are not the same, and what they print

-- what lines print, from a bench
abbrev pub Printing : Bench → List String → List String → Type 0
Printing b ls ps = printed b (text ls) ≡ text ps

-- a byte that is no offer, in a write of the compare register that is read back; and an offered byte on the other side
pub record Unlike : Type 0 where
  pub one_byte : Printing rja_1 ("110801" ∷ "120800" ∷ []) ("00000000" ∷ "01010000" ∷ [])
  pub another : Printing rja_1 ("110802" ∷ "120800" ∷ []) ("00000000" ∷ "01020000" ∷ [])
  pub bytes_break : SameLine rja_1 rja_1 (chars "110801") (chars "110802") → ⊥
  pub one_side : Printing rja_1 ("130041" ∷ []) ("00000000" ∷ [])
  pub other_side : Printing rja_1 ("230041" ∷ []) ("02000000" ∷ [])
  pub sides_break : SameLine rja_1 rja_1 (chars "130041") (chars "230041") → ⊥

pub record Showings : Type 0 where
  pub captures : Captures
  pub careless : Careless
  pub hidden : Hidden
  pub offering : Offers
  pub unlike : Unlike
