-- The showings of sequences with bursts hold: the premises by a test that is proved to give them, the rest by computation. Assumes nothing.
use mathlib.Core.Path.{◌≡◌, refl}
use mathlib.Core.Bool.{Bool, true, ◌&&◌, true≢false}
use mathlib.Core.List.{List, [], ◌∷◌}
use native.Mathlib.Omega.{arith}
use lib.Dec.{eqb}
use lib.ListN.{length}
use borrow.Author.Tests.{eqb-true}
use Rattle.bits.proofs.Laws.{and_left, and_right}
use Rattle.machine.specs.declared.Which.TheVariants.{One}
use Rattle.machine.specs.declared.Chip.{Chip}
use Rattle.machine.specs.declared.Step.{Step}
use Rattle.machine.specs.Fifo.{offered}
use Rattle.machine.specs.Step.{step}
use Rattle.dma.specs.declared.Way.TheVariants.{In}
use Rattle.dma.specs.Burst.{steps}
use Rattle.dma.specs.Sequences.{Burst, after}
use Rattle.masking.specs.Premises.{moved}
use Rattle.masking.specs.Bursts.{SameVerdicts, Sequences}
use Rattle.masking.specs.SequenceShowings.{Pair, twin, memories, first, second, firsts, seconds, writing, payload, short, other, deeds_seen, Breaks, SequenceShowings}
use Rattle.masking.proofs.Showings as Steps
use Rattle.masking.proofs.Showings.{judges, judges_so}

-- the premise on the verdicts of steps in a row, tested
abbrev judges_all : Chip → Chip → List Step → List Step → Bool
judges_all k l [] ts = true
judges_all k l (s ∷ ss) [] = true
judges_all k l (s ∷ ss) (t ∷ ts) = judges k l s t && judges_all (step k s).chip (step l t).chip ss ts

all_so : (ss ts : List Step) (k l : Chip) → judges_all k l ss ts ≡ true → SameVerdicts k l ss ts
all_so [] ts k l h = tt
all_so (s ∷ ss) [] k l h = tt
all_so (s ∷ ss) (t ∷ ts) k l h =
    (judges_so k l s t (and_left _ _ h), all_so ss ts (step k s).chip (step l t).chip (and_right (judges k l s t) _ h))

-- all the premises, tested
unfoldable meets : Chip → Chip → List Pair → Bool
meets k l [] = true
meets k l (twin t ∷ ps) = Steps.meets k l (t ∷ []) && meets (after k (first (twin t))) (after l (second (twin t))) ps
meets k l (memories way w m n ∷ ps) =
    eqb (length m) (length n) && judges_all k l (steps way k w m) (steps way l w n) && meets (after k (Burst way w m)) (after l (Burst way w n)) ps

meets_so : (ps : List Pair) (k l : Chip) → meets k l ps ≡ true → Sequences k l (firsts ps) (seconds ps)
unfolding meets
meets_so [] k l h = tt
meets_so (twin t ∷ ps) k l h = (
  (Steps.meets_so k l (t ∷ []) (and_left _ _ h)).0,
  meets_so ps (after k (first (twin t))) (after l (second (twin t))) (search (and_left, and_right)),
)
meets_so (memories way w m n ∷ ps) k l h = (
  record {
    same_way = refl;
    same_side = refl;
    same_length = eqb-true (length m) (length n) (search (and_left, and_right));
    same_verdicts = all_so (steps way k w m) (steps way l w n) k l (search (and_left, and_right));
  },
  meets_so ps (after k (Burst way w m)) (after l (Burst way w n)) (search (and_left, and_right)),
)

breaks : Breaks
unfolding offered moved deeds_seen
breaks =
    record {
      in_stops = refl;
      in_goes_on = refl;
      in_breaks = (refl, λ h. true≢false (h.1.0.verdict 0x41 0x42 refl refl));
      out_stops = refl;
      out_goes_on = refl;
      out_breaks = (refl, λ h. true≢false (h.1.0.verdict 0x41 0x42 refl refl));
      short_ends = refl;
      short_breaks = (λ h. omega (arith, h), all_so (steps In writing One short) (steps In writing One other) writing writing refl);
    }

pub sequence_showings : SequenceShowings
unfolding offered moved deeds_seen meets Steps.meets
sequence_showings =
    record {
      meets = record { met = meets_so payload writing writing refl; first_replies = refl; second_replies = refl; first_seen = refl; second_seen = refl };
      breaks = breaks;
    }
