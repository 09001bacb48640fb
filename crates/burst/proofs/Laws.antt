-- The loop of a burst: each turn takes one single step, while REQUEST is active and memory remains. Assumes nothing.
use Prim.Native.Nat.{ℕ, suc, ◌+◌, ◌≤◌, ◌<◌}
use mathlib.Core.Path.{◌≡◌, refl, sym, ap, ◌∙◌}
use mathlib.Core.Bool.{true, false}
use mathlib.Core.List.{List, [], ◌∷◌, ◌++◌, append_assoc, append-nil}
use native.Mathlib.Omega.{arith}
use native.Mathlib.Numerals.{add-one}
use lib.ListN.{length, drop, get_or, set, length-append, length-drop}
use lib.Seq.{drop-cons, drop-length, set-append_seam}
use Rattle.std.specs.Prelude.{Ok, Err}
use Rattle.machine.specs.declared.Which.{Which}
use Rattle.machine.specs.declared.Chip.{Chip}
use Rattle.machine.specs.declared.Step.{Step}
use Rattle.machine.specs.declared.Step.TheVariants.{DmaRead}
use Rattle.machine.specs.declared.Answer.{Answer}
use Rattle.machine.specs.declared.Stepped.{Stepped}
use Rattle.machine.specs.Request.{request}
use Rattle.machine.specs.Validity.{valid}
use Rattle.machine.specs.Answers.{value}
use Rattle.machine.specs.Record.{chip_over}
use Rattle.machine.specs.Step.{buffer_of, step, proceeded}
use Rattle.machine.specs.Leaves.{Leaves}
use Rattle.machine.specs.History.{history, ran}
use Rattle.machine.proofs.Refused.{proceeded_is}
use Rattle.chip.specs.declared.BesideBuffer.{BesideBuffer}
use Rattle.chip.specs.Lent.{beside_buffer}
use Rattle.chip.proofs.Laws.{apart, together}
use Rattle.dma.specs.declared.Way.{Way}
use Rattle.dma.specs.declared.Way.TheVariants.{Out}
use Rattle.dma.specs.declared.BurstAnswer.{BurstAnswer}
use Rattle.dma.specs.declared.BurstAnswer.TheVariants.{Moved}
use Rattle.dma.specs.Burst.{begins, single, while_requested, taken, steps, burst, bytes_of, filled}
use Rattle.dma.proofs.Bursts.{step_valid, burst_counts, burst_keeps}
use Rattle.burst.specs.Lent.{LeavesBurst, Runs, Fills}

-- after i turns, which left the chip at l: what is still to be taken makes the whole
pub record Underway (way : Way) (w : Which) (k : Chip) (memory : List ℕ) (l : Chip) (i : ℕ) : Type 0 where
  pub fits : valid l.control ≡ true
  pub within : i ≤ length memory
  pub counts : i + length (taken way w l (drop i memory)) ≡ length (taken way w k memory)
  pub leaves : ran l (taken way w l (drop i memory)) ≡ ran k (taken way w k memory)

pub begins_at : (way : Way) (w : Which) (k : Chip) (memory : List ℕ) → valid k.control ≡ true → Underway way w k memory k 0
begins_at way w k memory v = record { fits = v; within = omega arith; counts = omega arith; leaves = refl }

-- one more is taken
takes_one : (way : Way) (w : Which) (l : Chip) (memory : List ℕ) (i : ℕ) → i < length memory → request l.control w ≡ true
    → taken way w l (drop i memory) ≡ single way w (get_or memory i 0) ∷ taken way w (step l (single way w (get_or memory i 0))).chip (drop (i + 1) memory)
unfolding while_requested
takes_one way w l memory i h r = rw (add-one i, drop-cons memory i 0 h, r)

-- what a step over the lent buffer leaves, as a chip
pub left : (t : Stepped Answer) {r : BesideBuffer Answer} {b : List ℕ} → Leaves (beside_buffer t) (buffer_of t.chip) r b → chip_over r.control b ≡ t.chip
left t e = ap (λ (x : Stepped Answer). x.chip) (together t e)

pub moves_on : {way : Way} {w : Which} {k : Chip} {memory : List ℕ} {l m : Chip} {i : ℕ} → Underway way w k memory l i → i < length memory
    → request l.control w ≡ true → m ≡ (proceeded l (single way w (get_or memory i 0))).chip → Underway way w k memory m (i + 1)
unfolding ran
moves_on {way} {w} {k} {memory} {l} {m} {i} u h r q =
    let s : Step = single way w (get_or memory i 0) in
    let e = takes_one way w l memory i h r in
    rw (q, proceeded_is l s u.fits)
    (record {
      fits = step_valid l s u.fits;
      within = omega (arith, h);
      counts = omega (arith, ap length e, u.counts);
      leaves = ap (ran l) (sym e) ∙ u.leaves;
    })

-- ---- the end

-- REQUEST is inactive
pub quiet : (way : Way) (w : Which) (l : Chip) (memory : List ℕ) → request l.control w ≡ false → taken way w l memory ≡ []
unfolding while_requested
quiet way w l [] r = refl
quiet way w l (x ∷ xs) r = rw r

-- nothing is still to be taken
pub done : {way : Way} {w : Which} {k : Chip} {memory : List ℕ} {l : Chip} {i : ℕ} → Underway way w k memory l i → taken way w l (drop i memory) ≡ []
    → Runs way w k memory l i
unfolding ran
done {l = l} {i} u e = (ap (ran l) (sym e) ∙ u.leaves, omega (arith, ap length e, u.counts))

-- memory has ended
pub over : (way : Way) (w : Which) (l : Chip) (memory : List ℕ) {i : ℕ} → i ≤ length memory → length memory ≤ i → taken way w l (drop i memory) ≡ []
unfolding while_requested
over way w l memory {i} h t = let z : i ≡ length memory = omega (arith, h, t) in rw (z, drop-length memory)

-- ---- memory

-- after i turns: in front the bytes that they gave, behind them what was there, and what is still to be given makes the whole
pub record Filling (w : Which) (k : Chip) (memory : List ℕ) (l : Chip) (new : List ℕ) (i : ℕ) : Type 0 where
  pub front : List ℕ
  pub so_far : length front ≡ i
  pub gives : front ++ bytes_of (history l (taken Out w l (drop i memory))) ≡ bytes_of (history k (taken Out w k memory))
  pub is : new ≡ front ++ drop i memory

pub begins_filling : (w : Which) (k : Chip) (memory : List ℕ) → Filling w k memory k memory 0
begins_filling w k memory = record { front = []; so_far = refl; gives = refl; is = refl }

pub fills_one : {w : Which} {k : Chip} {memory : List ℕ} {l m : Chip} {new : List ℕ} {i y : ℕ} → Underway Out w k memory l i → Filling w k memory l new i
    → i < length memory → request l.control w ≡ true → m ≡ (proceeded l (DmaRead w)).chip → y ≡ value (proceeded l (DmaRead w)).answer
    → Filling w k memory m (set new i y) (i + 1)
unfolding history
fills_one {w} {k} {memory} {l} {m} {new} {i} {y} u f h r p q =
    let x : ℕ = value (step l (DmaRead w)).answer in
    rw (p, q, proceeded_is l (DmaRead w) u.fits)
    (record {
      front = f.front ++ x ∷ [];
      so_far = length-append f.front (x ∷ []) ∙ ap (λ (n : ℕ). n + 1) f.so_far;
      gives = append_assoc f.front (x ∷ []) _ ∙ ap (λ (ss : List Step). f.front ++ bytes_of (history l ss)) (sym (takes_one Out w l memory i h r)) ∙ f.gives;
      is =
          ap (λ (m : List ℕ). set m i x) (f.is ∙ ap (λ (m : List ℕ). f.front ++ m) (drop-cons memory i 0 h))
          ∙ ap (λ (j : ℕ). set (f.front ++ get_or memory i 0 ∷ drop (suc i) memory) j x) (sym f.so_far)
          ∙ set-append_seam f.front (get_or memory i 0) (drop (suc i) memory) x
          ∙ rw (add-one i) (sym (append_assoc f.front (x ∷ []) (drop (suc i) memory)));
    })

pub filled_up : {w : Which} {k : Chip} {memory : List ℕ} {l : Chip} {new : List ℕ} {i : ℕ} → Underway Out w k memory l i → Filling w k memory l new i
    → taken Out w l (drop i memory) ≡ [] → Fills w k memory new
unfolding history
filled_up {w} {k} {memory} {l} {new} {i} u f e =
    let n = (done u e).1 in
    let g : f.front ≡ bytes_of (history k (taken Out w k memory)) =
    sym (append-nil f.front) ∙ ap (λ (ss : List Step). f.front ++ bytes_of (history l ss)) (sym e) ∙ f.gives in
    f.is ∙ ap (λ (m : List ℕ). m ++ drop i memory) g ∙ ap (λ (j : ℕ). bytes_of (history k (taken Out w k memory)) ++ drop j memory) n

pub filling_long : {w : Which} {k : Chip} {memory : List ℕ} {l : Chip} {new : List ℕ} {i : ℕ} → Underway Out w k memory l i → Filling w k memory l new i
    → length new ≡ length memory
filling_long {memory = memory} {i = i} u f =
    ap length f.is ∙ length-append f.front (drop i memory) ∙ rw (length-drop i memory) (omega (arith, f.so_far, u.within))

-- ---- the whole burst

-- one that begins, by what its steps did
pub did : (way : Way) (k : Chip) (w : Which) (memory : List ℕ) {l : Chip} {n : ℕ} → begins way k.control w (length memory) ≡ Ok tt → Runs way w k memory l n
    → record { chip = l; answer = Moved n } ≡ burst way k w memory
unfolding burst steps
did way k w memory e r = rw (e, r.0, r.1)

-- one that doesn't
pub stayed : (way : Way) (k : Chip) (w : Which) (memory : List ℕ) {a : BurstAnswer} → begins way k.control w (length memory) ≡ Err a
    → record { chip = k; answer = a } ≡ burst way k w memory
stayed way k w memory {a} e = sym (burst_keeps way k w memory a e).0

-- how many is a number of sixteen bits
pub few : (way : Way) (k : Chip) (w : Which) (memory : List ℕ) {l : Chip} {n : ℕ} → begins way k.control w (length memory) ≡ Ok tt → Runs way w k memory l n
    → n ≤ 128
unfolding steps
few way k w memory e r = omega (arith, r.1, rw e at (burst_counts way k w memory e).at_most)

-- what its memory has
pub filled_did : (k : Chip) (w : Which) (memory : List ℕ) {new : List ℕ} → begins Out k.control w (length memory) ≡ Ok tt → Fills w k memory new
    → new ≡ filled k w memory
unfolding filled steps
filled_did k w memory e f = f ∙ rw e

pub filled_stayed : (k : Chip) (w : Which) (memory : List ℕ) {a : BurstAnswer} → begins Out k.control w (length memory) ≡ Err a → memory ≡ filled k w memory
filled_stayed k w memory {a} e = sym (burst_keeps Out k w memory a e).1

-- over a lent buffer it is handed back in parts
pub in_parts : (d : Stepped BurstAnswer) {l : Chip} {a : BurstAnswer} → record { chip = l; answer = a } ≡ d
    → LeavesBurst d (record { control = l.control; answer = a }) (buffer_of l)
in_parts d e = apart d (ap beside_buffer e) (ap (λ (r : Stepped BurstAnswer). buffer_of r.chip) e)
