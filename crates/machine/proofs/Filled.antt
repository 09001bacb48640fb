-- The rows that fill the buffer hold, by computation: what they begin with, a byte 41 and 125 bytes 00, is computed once. Assumes nothing.
use Rattle.std.specs.Prelude.{Ok}
use Prim.Native.Nat.{ℕ}
use mathlib.Core.Path.{◌≡◌, refl, ap, ◌∙◌}
use mathlib.Core.List.{List, [], ◌∷◌, ◌++◌}
use lib.ListN.{get_or}
use Rattle.machine.specs.declared.Which.TheVariants.{Two}
use Rattle.machine.specs.declared.Chip.{Chip}
use Rattle.machine.specs.declared.Step.{Step}
use Rattle.machine.specs.Step.{step}
use Rattle.machine.specs.declared.Step.TheVariants.{Write}
use Rattle.machine.specs.Reset.{fresh, new_chip}
use Rattle.machine.specs.History.{ran}
use Rattle.machine.specs.Worked.{Turn, views_from, printed, observed, wanted, from, byte, filled}
use Rattle.machine.specs.Cases.{case_a, case_b, slip_seven_bits}
use Rattle.machine.specs.Rules.{cleared_afresh}

-- what is seen of a row from pins 0, by the chip after the steps that go before
abbrev seen_at : Chip → List Turn → List (List ℕ)
seen_at k ts = printed (Ok (fresh 0)) ∷ views_from k ts

-- what the rows do after what they share
abbrev then_b : List Step
then_b = byte 0x00 ∷ []

abbrev then_seven_bits : List Step
then_seven_bits = byte 0x00 ∷ byte 0x00 ∷ []

abbrev then_cleared : List Step
then_cleared = byte 0x00 ∷ Write Two 0x08 0x80 ∷ []

-- what is seen of each
seen : Chip → List (List (List ℕ))
seen k =
    seen_at k case_a.turns ∷ seen_at (ran k then_b) case_b.turns ∷ seen_at (ran k then_seven_bits) slip_seven_bits.turns
    ∷ seen_at (ran k then_cleared) cleared_afresh.turns ∷ []

together : seen (ran (new_chip 0) (filled 125)) ≡ wanted case_a ∷ wanted case_b ∷ wanted slip_seven_bits ∷ wanted cleared_afresh ∷ []
unfolding observed seen
together = refl

ran_append : (k : Chip) (xs ys : List Step) → ran k (xs ++ ys) ≡ ran (ran k xs) ys
unfolding ran
ran_append k [] ys = refl
ran_append k (x ∷ xs) ys = ran_append (step k x).chip xs ys

-- a row that begins so, by what is seen of it
row : (l : List Step) (ts : List Turn) → seen_at (ran (ran (new_chip 0) (filled 125)) l) ts ≡ wanted (from 0 (filled 125 ++ l) ts)
    → observed (from 0 (filled 125 ++ l) ts) ≡ wanted (from 0 (filled 125 ++ l) ts)
unfolding observed
row l ts h = ap (λ k. seen_at k ts) (ran_append (new_chip 0) (filled 125) l) ∙ h

-- the i-th of them
nth : (i : ℕ) → get_or (seen (ran (new_chip 0) (filled 125))) i [] ≡ get_or (wanted case_a ∷ wanted case_b ∷ wanted slip_seven_bits ∷ wanted cleared_afresh ∷ []) i []
nth i = ap (λ l. get_or l i []) together

pub row_a : observed case_a ≡ wanted case_a
unfolding seen ran
row_a = row [] case_a.turns (nth 0)

pub row_b : observed case_b ≡ wanted case_b
unfolding seen
row_b = row then_b case_b.turns (nth 1)

pub row_seven_bits : observed slip_seven_bits ≡ wanted slip_seven_bits
unfolding seen
row_seven_bits = row then_seven_bits slip_seven_bits.turns (nth 2)

pub row_cleared : observed cleared_afresh ≡ wanted cleared_afresh
unfolding seen
row_cleared = row then_cleared cleared_afresh.turns (nth 3)
