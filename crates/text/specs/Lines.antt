-- Where the lines of a text end.
use Rattle.std.specs.Prelude.{ℕ, ◌+◌, ◌==◌, ◌≡◌, ◌<◌, min, List, length, take, drop, slice_range, Option, MatchOption}
use denote.Ref.{Bor}
use Rattle.std.specs.List.{position_or_len}

-- the place of the first such byte, or the length where there is none
abbrev pub index_of : ℕ → List ℕ → ℕ
index_of byte text = position_or_len (λ b. b == byte) text

-- the part from a place to another
abbrev pub slice : ℕ → ℕ → List ℕ → List ℕ
slice from to text = slice_range text from to

-- behind the first LF from a place on, or the end
abbrev pub line_end : ℕ → List ℕ → ℕ
line_end at text = min (at + index_of 10 (slice at (length text) text) + 1) (length text)

-- a text with nothing left has no line more; another gives its first line, to where that ends, and what is behind is left
abbrev pub GivesLine : List ℕ → Option (Bor (List ℕ)) → List ℕ → Type 0
GivesLine text r left = MatchOption r ((length text ≡ 0) × (left ≡ text))
    (λ x. (0 < length text) × (x.now ≡ take (line_end 0 text) text) × (left ≡ drop (line_end 0 text) text))
