-- A frame written is one line. Assumes nothing.
use Rattle.line.specs.Readings.{Reading}
use Prim.Native.Nat.{ℕ}
use mathlib.Core.Path.{◌≡◌, refl, sym, ap, ◌∙◌}
use mathlib.Core.Bool.{true, false≢true}
use mathlib.Core.List.{List, [], ◌∷◌, map}
use lib.Seq.{take_at}
use borrow.Author.Tests.{ne_eqb}
use Rattle.bits.proofs.Laws.{and_left, and_right}
use Rattle.line.specs.Digits.{is_hex, all_hex}
use Rattle.line.specs.Frames.{reading, line_of, with_lf, written}
use Rattle.line.proofs.RoundTrip.{line_six, line_hex, read_written}
use Rattle.whole.specs.Whole.{onto, lines_in, OneLine}

-- LF is no hex digit
hex_no_lf : (x : ℕ) → is_hex x ≡ true → x ≡ 10 → ⊥
unfolding is_hex
hex_no_lf x h e = false≢true (rw e at h)

-- hex digits and LF are one line
hex_line : (l : List ℕ) → all_hex l ≡ true → lines_in (with_lf l) ≡ l ∷ []
unfolding all_hex
hex_line [] h = refl
hex_line (x ∷ xs) h = rw (ne_eqb x 10 (hex_no_lf x (and_left (is_hex x) (all_hex xs) h))) (ap (onto x) (hex_line xs (and_right (is_hex x) (all_hex xs) h)))

pub one_line : OneLine
unfolding written
one_line f h =
    ap (map reading) (hex_line (line_of f) (line_hex f))
    ∙ ap (λ (r : Reading). r ∷ []) (ap reading (sym (take_at (line_of f) (10 ∷ []) 6 (line_six f))) ∙ (read_written f h).1)
