-- A burst meets the premises step by step, so a sequence with bursts is masked as its single steps are. Assumes nothing.
use Prim.Native.Nat.{ℕ, suc}
use mathlib.Core.Path.{◌≡◌, refl, sym, ap, ap₂, subst, ◌∙◌}
use mathlib.Core.Bool.{Bool, true, false, cond, true≢false}
use mathlib.Core.List.{List, [], ◌∷◌, ◌++◌, map}
use native.Mathlib.Omega.{arith}
use lib.ListN.{length, drop, take, length-drop, length-take, take-append-drop}
use Rattle.std.specs.Prelude.{Ok, Err}
use Rattle.machine.specs.declared.Which.{Which}
use Rattle.machine.specs.declared.Control.{Control}
use Rattle.machine.specs.declared.Chip.{Chip}
use Rattle.machine.specs.declared.Step.{Step}
use Rattle.machine.specs.Fifo.{offered}
use Rattle.machine.specs.Request.{request}
use Rattle.machine.specs.Step.{step}
use Rattle.machine.specs.History.{history, ran}
use Rattle.dma.specs.declared.Way.{Way}
use Rattle.dma.specs.declared.Way.TheVariants.{In, Out}
use Rattle.dma.specs.Burst.{Begins, begins, single, singles, while_requested, if_begun, steps, burst, bytes_of, filled}
use Rattle.dma.specs.Sequences.{Deed, Single, Burst, steps_of, after, flat}
use Rattle.dma.proofs.Bursts.{bytes_long, steps_within}
use Rattle.dma.proofs.Sequences.{after_is}
use Rattle.masking.specs.Premises.{SameStep, Alike, Sessions}
use Rattle.masking.specs.Sight.{Sight, sights}
use Rattle.masking.specs.Bursts.{SameVerdicts, AlikeDeed, Sequences, Place, gets, keeps, places, Kept, PlacesKeep, DeedSight, of_step, deed_sight, deed_sights, MaskingBursts}
use Rattle.masking.proofs.Masking.{alike, same_sights, same_controls}

-- ---- two sessions, put together and at their end

sessions_append : (ss ts us vs : List Step) (k l : Chip) → Sessions k l ss ts → Sessions (ran k ss) (ran l ts) us vs → Sessions k l (ss ++ us) (ts ++ vs)
unfolding ran
sessions_append [] [] us vs k l h j = j
sessions_append [] (t ∷ ts) us vs k l h j = absurd h
sessions_append (s ∷ ss) [] us vs k l h j = absurd h
sessions_append (s ∷ ss) (t ∷ ts) us vs k l h j = (h.0, sessions_append ss ts us vs (step k s).chip (step l t).chip h.1 j)

-- they have as many steps, and leave the same record but for the buffer's bytes
record SameEnd (k l : Chip) (ss ts : List Step) : Type 0 where
  control : (ran k ss).control ≡ (ran l ts).control
  long : length ss ≡ length ts

sessions_end : (ss ts : List Step) (k l : Chip) → k.control ≡ l.control → Sessions k l ss ts → SameEnd k l ss ts
unfolding ran
sessions_end [] [] k l e h = record { control = e; long = refl }
sessions_end [] (t ∷ ts) k l e h = absurd h
sessions_end (s ∷ ss) [] k l e h = absurd h
sessions_end (s ∷ ss) (t ∷ ts) k l e h =
    let r = sessions_end ss ts (step k s).chip (step l t).chip (alike k l e s t h.0).control h.1 in
    record { control = r.control; long = ap suc r.long }

-- ---- a burst's single steps

-- a DMA write offers its byte, and a DMA read carries none
same_single : (way : Way) (w : Which) (x y : ℕ) (c d : Control) → SameStep c d (single way w x) (single way w y)
unfolding offered
same_single In w x y c d = record { but_byte = refl; byte = λ p. absurd (true≢false p) }
same_single Out w x y c d = record { but_byte = refl; byte = λ p. refl }

-- REQUEST asks nothing of the buffer's bytes, so both rows go on together
requested_alike : (way : Way) (w : Which) (m n : List ℕ) → length m ≡ length n → (k l : Chip) → k.control ≡ l.control
    → SameVerdicts k l (while_requested w k (singles way w m)) (while_requested w l (singles way w n))
    → Sessions k l (while_requested w k (singles way w m)) (while_requested w l (singles way w n))
unfolding while_requested
requested_alike way w [] [] z k l e h = tt
requested_alike way w [] (y ∷ n) z k l e h = absurd (omega (arith, z))
requested_alike way w (x ∷ m) [] z k l e h = absurd (omega (arith, z))
requested_alike way w (x ∷ m) (y ∷ n) z k l e h =
    go (request k.control w) (request l.control w) (ap (λ (c : Control). request c w) e)
    (λ a. requested_alike way w m n (omega (arith, z)) (step k s).chip (step l t).chip (alike k l e s t a).control) h
  where
    s : Step
    s = single way w x

    t : Step
    t = single way w y

    ss : List Step
    ss = while_requested w (step k s).chip (singles way w m)

    ts : List Step
    ts = while_requested w (step l t).chip (singles way w n)

    go : (a b : Bool) → a ≡ b
        → (Alike k l s t → SameVerdicts (step k s).chip (step l t).chip ss ts → Sessions (step k s).chip (step l t).chip ss ts)
        → SameVerdicts k l (cond a (s ∷ ss) []) (cond b (t ∷ ts) []) → Sessions k l (cond a (s ∷ ss) []) (cond b (t ∷ ts) [])
    go true true q f j =
        let a : Alike k l s t = record { same_step = same_single way w x y k.control l.control; same_verdict = j.0 } in (a, f a j.1)
    go true false q f j = absurd (true≢false q)
    go false true q f j = absurd (true≢false (sym q))
    go false false q f j = tt

-- nor does whether they begin
steps_alike : (way : Way) (w : Which) (m n : List ℕ) → length m ≡ length n → (k l : Chip) → k.control ≡ l.control
    → SameVerdicts k l (steps way k w m) (steps way l w n) → Sessions k l (steps way k w m) (steps way l w n)
unfolding steps
steps_alike way w m n z k l e =
    subst (λ (b : Begins). SameVerdicts k l (if_begun begin ss) (if_begun b ts) → Sessions k l (if_begun begin ss) (if_begun b ts))
    (ap₂ (λ (c : Control) (i : ℕ). begins way c w i) e z) (go begin)
  where
    begin : Begins
    begin = begins way k.control w (length m)

    ss : List Step
    ss = while_requested w k (singles way w m)

    ts : List Step
    ts = while_requested w l (singles way w n)

    go : (b : Begins) → SameVerdicts k l (if_begun b ss) (if_begun b ts) → Sessions k l (if_begun b ss) (if_begun b ts)
    go (Ok u) h = requested_alike way w m n z k l e h
    go (Err a) h = tt

deed_alike : (k l : Chip) → k.control ≡ l.control → (d f : Deed) → AlikeDeed k l d f → Sessions k l (steps_of k d) (steps_of l f)
deed_alike k l e (Single s) (Single t) h = (h, tt)
deed_alike k l e (Single s) (Burst q v n) h = absurd h
deed_alike k l e (Burst p w m) (Single t) h = absurd h
deed_alike k l e (Burst p w m) (Burst q v n) h =
    rw (h.same_way, h.same_side) (steps_alike q v m n h.same_length k l e (rw (h.same_way, h.same_side) at h.same_verdicts))

-- the record after two deeds is the same but for the buffer's bytes
deed_end : (k l : Chip) → k.control ≡ l.control → (d f : Deed) → AlikeDeed k l d f → (after k d).control ≡ (after l f).control
deed_end k l e d f h = rw (after_is k d, after_is l f) (sessions_end (steps_of k d) (steps_of l f) k l e (deed_alike k l e d f h)).control

-- ---- the sequences

pub sequences_alike : (ds es : List Deed) (k l : Chip) → k.control ≡ l.control → Sequences k l ds es → Sessions k l (flat k ds) (flat l es)
unfolding flat
sequences_alike [] [] k l e h = tt
sequences_alike [] (f ∷ es) k l e h = absurd h
sequences_alike (d ∷ ds) [] k l e h = absurd h
sequences_alike (d ∷ ds) (f ∷ es) k l e h =
    sessions_append (steps_of k d) (steps_of l f) (flat (after k d) ds) (flat (after l f) es) k l (deed_alike k l e d f h.0)
    (rw (← after_is k d, ← after_is l f) (sequences_alike ds es (after k d) (after l f) (deed_end k l e d f h.0) h.1))

-- ---- what may be seen

all_keep : (m n : List ℕ) → length m ≡ length n → map (λ x. keeps) m ≡ map (λ x. keeps) n
all_keep [] [] z = refl
all_keep [] (y ∷ n) z = absurd (omega (arith, z))
all_keep (x ∷ m) [] z = absurd (omega (arith, z))
all_keep (x ∷ m) (y ∷ n) z = ap (λ (l : List Place). keeps ∷ l) (all_keep m n (omega (arith, z)))

-- ---- of the memory that is left

kept_all : (m : List ℕ) → Kept (map (λ x. keeps) m) m m
kept_all [] = tt
kept_all (x ∷ m) = (refl, kept_all m)

kept_behind : (ss : List Sight) (xs ys m : List ℕ) → length ss ≡ length xs → length ss ≡ length ys
    → Kept (map (λ s. gets s.answer) ss ++ map (λ x. keeps) m) (xs ++ m) (ys ++ m)
kept_behind [] [] [] m p q = kept_all m
kept_behind [] [] (y ∷ ys) m p q = absurd (omega (arith, q))
kept_behind [] (x ∷ xs) ys m p q = absurd (omega (arith, p))
kept_behind (s ∷ ss) [] ys m p q = absurd (omega (arith, p))
kept_behind (s ∷ ss) (x ∷ xs) [] m p q = absurd (omega (arith, q))
kept_behind (s ∷ ss) (x ∷ xs) (y ∷ ys) m p q = kept_behind ss xs ys m (omega (arith, p)) (omega (arith, q))

sights_long : (ss : List Step) (k : Chip) → length (sights k (history k ss)) ≡ length ss
unfolding sights history
sights_long [] k = refl
sights_long (s ∷ ss) k = ap suc (sights_long ss (step k s).chip)

pub places_keep : PlacesKeep
unfolding filled
places_keep In k w memory = kept_all memory
places_keep Out k w memory =
    let ss : List Step = steps Out k w memory in
    let n = sights_long ss k in
    let t : length (take (length ss) memory) ≡ length ss = rw (length-take (length ss) memory) (omega (arith, steps_within Out k w memory)) in
    subst (λ (m : List ℕ). Kept (places Out k w memory) m (filled k w memory)) (take-append-drop (length ss) memory)
    (kept_behind (sights k (history k ss)) (take (length ss) memory) (bytes_of (history k ss)) (drop (length ss) memory) (n ∙ sym t) (n ∙ sym (bytes_long ss k)))

module _ (w : Which) (m n : List ℕ) (z : length m ≡ length n) (k l : Chip) (e : k.control ≡ l.control) where
  same_places : (way : Way) → Sessions k l (steps way k w m) (steps way l w n) → places way k w m ≡ places way l w n
  same_places In h = all_keep m n z
  same_places Out h =
      let long : length (drop (length (steps Out k w m)) m) ≡ length (drop (length (steps Out l w n)) n) =
      simp (length-drop, z, (sessions_end (steps Out k w m) (steps Out l w n) k l e h).long) in
      simp (same_sights k l e (steps Out k w m) (steps Out l w n) h, all_keep (drop (length (steps Out k w m)) m) (drop (length (steps Out l w n)) n) long)

  same_burst : (way : Way) → Sessions k l (steps way k w m) (steps way l w n) → deed_sight k (Burst way w m) ≡ deed_sight l (Burst way w n)
  unfolding deed_sight burst
  same_burst way h =
      let end = sessions_end (steps way k w m) (steps way l w n) k l e h in
      simp (e, z, end.control, end.long, same_places way h)

same_deed : (k l : Chip) → k.control ≡ l.control → (d f : Deed) → AlikeDeed k l d f → deed_sight k d ≡ deed_sight l f
unfolding deed_sight
same_deed k l e (Single s) (Single t) h = ap of_step (alike k l e s t h).seen
same_deed k l e (Single s) (Burst q v n) h = absurd h
same_deed k l e (Burst p w m) (Single t) h = absurd h
same_deed k l e (Burst p w m) (Burst q v n) h =
    rw (h.same_way, h.same_side)
    (same_burst v m n h.same_length k l e q (rw (h.same_way, h.same_side) at (deed_alike k l e (Burst p w m) (Burst q v n) h)))

same_deeds : (ds es : List Deed) (k l : Chip) → k.control ≡ l.control → Sequences k l ds es → deed_sights k ds ≡ deed_sights l es
unfolding deed_sights
same_deeds [] [] k l e h = refl
same_deeds [] (f ∷ es) k l e h = absurd h
same_deeds (d ∷ ds) [] k l e h = absurd h
same_deeds (d ∷ ds) (f ∷ es) k l e h =
    ap₂ (λ (x : DeedSight) (xs : List DeedSight). x ∷ xs) (same_deed k l e d f h.0)
    (same_deeds ds es (after k d) (after l f) (deed_end k l e d f h.0) h.1)

pub masking_bursts : MaskingBursts
masking_bursts k ds es h =
    let j = sequences_alike ds es k k refl h in
    record {
      same_sights = same_sights k k refl (flat k ds) (flat k es) j;
      same_controls = same_controls k k refl (flat k ds) (flat k es) j;
      same_deeds = same_deeds ds es k k refl h;
    }
