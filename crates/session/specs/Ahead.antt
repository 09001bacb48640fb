-- No rule of document 01: how far a feed may look ahead. What it takes at once it could take byte by byte (`strode` of proofs/Laws).
use Rattle.std.specs.Prelude.{ℕ, ◌+◌, ◌-◌, ◌*◌, ◌%◌, Bool, cond, ◌&&◌, List, [], ◌∷◌, Option, ltb, length, take, drop}
use Rattle.std.specs.Bool.{then_some}
use Rattle.line.specs.declared.Partial.{Partial}
use Rattle.line.specs.Digits.{value_of, all_hex}
use Rattle.line.specs.Unfinished.{is_blank, grown}
use Rattle.session.specs.declared.Ahead.{Ahead}

-- the values of characters, put one behind the other
unfoldable pub joined : ℕ → List ℕ → ℕ
joined v [] = v
joined v (b ∷ bs) = joined (v % 0x100000 * 16 + value_of b) bs

-- the value of characters, if each is a hex digit
abbrev pub six_of : List ℕ → Option ℕ
six_of l = then_some (all_hex l) (joined 0 l)

-- six digits stand at a line's beginning, and a byte behind them
unfoldable pub stands_whole : Partial → List ℕ → ℕ → Bool
stands_whole p l i = is_blank p && ltb 6 (length l - i) && all_hex (take 6 (drop i l))

-- then they may be taken at once
abbrev pub stride : Partial → List ℕ → ℕ → ℕ
stride p l i = cond (stands_whole p l i) 6 0

abbrev pub ahead : Partial → ℕ → Ahead
ahead p i = record { partial = p; at = i }

abbrev pub ahead_of : Partial → List ℕ → ℕ → Ahead
ahead_of p l i = ahead (grown p (take (stride p l i) (drop i l))) (i + stride p l i)
