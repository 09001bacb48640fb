-- A sequence with bursts is the history of its single steps. Assumes nothing.
use Prim.Native.Nat.{ℕ}
use mathlib.Core.Path.{◌≡◌, refl, ap, sym, ◌∙◌}
use mathlib.Core.List.{List, [], ◌∷◌, ◌++◌}
use Rattle.machine.specs.declared.Chip.{Chip}
use Rattle.machine.specs.declared.Step.{Step}
use Rattle.machine.specs.Step.{step}
use Rattle.machine.specs.History.{Entry, entry, history, ran}
use lib.ListN.{length, drop}
use Rattle.machine.specs.declared.Which.{Which}
use Rattle.dma.specs.declared.Way.{Way}
use Rattle.dma.specs.declared.Way.TheVariants.{In, Out}
use Rattle.dma.specs.Burst.{begins, steps, answer_of, burst, bytes_of, overwritten, filled}
use Rattle.dma.specs.Sequences.{Deed, Single, Burst, steps_of, after, reply, replies, left, flat, entries, memory_with, ReadOff, AllReadOff, SequencesAreSingles}
use Rattle.dma.proofs.Bursts.{history_long, bytes_long}

pub history_append : (ss ts : List Step) (k : Chip) → history k (ss ++ ts) ≡ history k ss ++ history (ran k ss) ts
unfolding history ran
history_append [] ts k = refl
history_append (s ∷ ss) ts k = ap (λ (l : List Entry). entry k s ∷ l) (history_append ss ts (step k s).chip)

pub ran_append : (ss ts : List Step) (k : Chip) → ran k (ss ++ ts) ≡ ran (ran k ss) ts
unfolding ran
ran_append [] ts k = refl
ran_append (s ∷ ss) ts k = ran_append ss ts (step k s).chip

-- the record after a deed is that of its single steps
pub after_is : (k : Chip) (d : Deed) → after k d ≡ ran k (steps_of k d)
unfolding ran burst
after_is k (Single s) = refl
after_is k (Burst way w memory) = refl

same_entries : (ds : List Deed) (k : Chip) → entries k ds ≡ history k (flat k ds)
unfolding entries flat history
same_entries [] k = refl
same_entries (d ∷ ds) k =
    ap (λ (l : List Entry). history k (steps_of k d) ++ l) (same_entries ds (after k d))
    ∙ ap (λ (l : Chip). history k (steps_of k d) ++ history l (flat (after k d) ds)) (after_is k d)
    ∙ sym (history_append (steps_of k d) (flat (after k d) ds) k)

same_left : (ds : List Deed) (k : Chip) → left k ds ≡ ran k (flat k ds)
unfolding left flat ran
same_left [] k = refl
same_left (d ∷ ds) k =
    same_left ds (after k d) ∙ ap (λ (l : Chip). ran l (flat (after k d) ds)) (after_is k d) ∙ sym (ran_append (steps_of k d) (flat (after k d) ds) k)

-- ---- what is handed back

with_bytes : (k : Chip) (ss : List Step) (memory : List ℕ) → overwritten k ss memory ≡ memory_with Out (bytes_of (history k ss)) memory
with_bytes k ss memory = ap (λ (n : ℕ). bytes_of (history k ss) ++ drop n memory) (sym (bytes_long ss k))

answer_is : (way : Way) (k : Chip) (w : Which) (memory : List ℕ)
    → (burst way k w memory).answer ≡ answer_of (begins way k.control w (length memory)) (length (history k (steps way k w memory)))
unfolding burst
answer_is way k w memory = ap (answer_of (begins way k.control w (length memory))) (sym (history_long (steps way k w memory) k))

reads_off : (k : Chip) (d : Deed) → ReadOff k d (reply k d) (history k (steps_of k d))
unfolding history filled
reads_off k (Single s) = refl
reads_off k (Burst In w memory) = (answer_is In k w memory, refl)
reads_off k (Burst Out w memory) = (answer_is Out k w memory, with_bytes k (steps Out k w memory) memory)

all_read_off : (ds : List Deed) (k : Chip) → AllReadOff k ds (replies k ds)
unfolding replies
all_read_off [] k = tt
all_read_off (d ∷ ds) k = (reads_off k d, all_read_off ds (after k d))

pub as_singles : SequencesAreSingles
as_singles k ds = record { same_entries = same_entries ds k; same_left = same_left ds k; read_off = all_read_off ds k }
