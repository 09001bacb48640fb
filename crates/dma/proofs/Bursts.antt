-- What a burst's single steps do: each moves a byte, their number is what the count says, and memory has their bytes. Assumes nothing.
use Prim.Native.Nat.{ℕ, suc, ◌≤◌}
use mathlib.Core.Path.{◌≡◌, refl, sym, ap, ◌∙◌}
use mathlib.Core.Bool.{Bool, true, false, cond, false≢true}
use mathlib.Core.Logic.{◌⊎◌, inl, inr}
use mathlib.Core.List.{List, [], ◌∷◌, ◌++◌}
use native.Mathlib.Omega.{arith}
use lib.Dec.{leb}
use lib.ListN.{length, drop, take, length-append, length-drop, length-map}
use lib.Seq.{take-append_seam, drop-append_seam}
use borrow.Author.Tests.{leb-true, le-leb, lt-leb}
use Rattle.machine.specs.declared.Answer.{Answer}
use Rattle.std.specs.Prelude.{Ok, Err}
use Rattle.bits.proofs.Laws.{and_left, and_right}
use Rattle.machine.specs.declared.Which.{Which}
use Rattle.machine.specs.declared.Control.{Control}
use Rattle.machine.specs.declared.Chip.{Chip}
use Rattle.machine.specs.declared.Step.{Step}
use Rattle.machine.specs.declared.Stepped.{Stepped}
use Rattle.machine.specs.Modes.{live}
use Rattle.machine.specs.Fifo.{writer}
use Rattle.machine.specs.Request.{request}
use Rattle.machine.specs.Moves.{moved, after_accepted, after_given}
use Rattle.machine.specs.Validity.{valid, in_range}
use Rattle.machine.specs.Step.{decided, step}
use Rattle.machine.specs.History.{history, ran}
use Rattle.machine.proofs.Tests.{test}
use Rattle.machine.proofs.Valid.{planned_valid}
use Rattle.dma.specs.declared.Way.{Way}
use Rattle.dma.specs.declared.Way.TheVariants.{In, Out}
use Rattle.dma.specs.declared.BurstAnswer.{BurstAnswer}
use Rattle.dma.specs.Burst.{Begins, role, limit, begins, single, singles, while_requested, if_begun, steps, burst, bytes_of, filled}
use Rattle.dma.specs.Promises.{BeginsInOrder, Moves, AllMove, EachMoves, Tallied, BurstCounts, BurstFills, BurstKeeps}
use Rattle.dma.proofs.Moves.{request_moves}

-- ---- a burst that begins

-- the record is valid, the side is live, there is no more memory than a burst takes, and the side has the role
pub record Begun (way : Way) (c : Control) (w : Which) (n : ℕ) : Type 0 where
  pub fits : valid c ≡ true
  pub awake : live c w ≡ true
  pub short : n ≤ 4096
  pub apt : role way c w ≡ true

-- behind a test that leads to no answer
passed : (b : Bool) (x : Begins) (a : BurstAnswer) → cond b x (Err a) ≡ Ok tt → (b ≡ true) × (x ≡ Ok tt)
passed true x a e = (refl, e)
passed false x a e = let z : false ≡ true = cc in absurd (false≢true z)

pub begun : (way : Way) (c : Control) (w : Which) (n : ℕ) → begins way c w n ≡ Ok tt → Begun way c w n
unfolding begins
begun way c w n h =
    let p = passed (valid c) _ _ h in
    let q = passed (live c w) _ _ p.1 in
    let s = passed (leb n limit) _ _ q.1 in
    let r = passed (role way c w) _ _ s.1 in
    let n_fits = leb-true n limit s.0 in
    record { fits = p.0; awake = q.0; short = omega (arith, n_fits); apt = r.0 }

-- the answers before the first step are given in the request's order
pub in_order : BeginsInOrder
unfolding begins
in_order way c w n =
    record {
      one = λ v. rw v;
      floating = λ v l. rw (v, l);
      six = λ v l h. rw (v, l, lt-leb n 4096 h);
      seven = λ v l h r. rw (v, l, le-leb n 4096 h, r);
      else = λ v l h r. rw (v, l, le-leb n 4096 h, r);
    }

-- ---- what holds on

pub step_valid : (k : Chip) (s : Step) → valid k.control ≡ true → valid (step k s).chip.control ≡ true
unfolding step decided
step_valid k s h = rw h (planned_valid k.control s _ h)

moved_role : (way : Way) (c : Control) (w v : Which) (m : Bool) (start n : ℕ) → role way (moved c v m start n) w ≡ role way c w
unfolding moved writer
moved_role In c w v m start n = refl
moved_role Out c w v m start n = refl

role_kept : (way : Way) (k : Chip) (w : Which) (s : Step) → Moves way w k s → role way (step k s).chip.control w ≡ role way k.control w
unfolding after_accepted after_given
role_kept In k w s m = ap (λ (r : Stepped Answer). role In r.chip.control w) m.moves ∙ moved_role In k.control w w _ _ _
role_kept Out k w s m = ap (λ (r : Stepped Answer). role Out r.chip.control w) m.moves ∙ moved_role Out k.control w w _ _ _

-- ---- each moves

all_move : (way : Way) (w : Which) (memory : List ℕ) (k : Chip) → valid k.control ≡ true → role way k.control w ≡ true
    → AllMove way w k (while_requested w k (singles way w memory))
unfolding while_requested
all_move way w [] k v r = tt
all_move way w (x ∷ xs) k v r =
    test (AllMove way w k) (request k.control w)
    (λ q.
    let m = request_moves way k w x v q r in
    (m, all_move way w xs (step k (single way w x)).chip (step_valid k (single way w x) v) (role_kept way k w (single way w x) m ∙ r)))
    (λ _. tt)

if_begun_lem : (P : List Step → Type 0) (b : Begins) (ss : List Step) → P [] → (b ≡ Ok tt → P ss) → P (if_begun b ss)
if_begun_lem P (Ok u) ss e f = f refl
if_begun_lem P (Err a) ss e f = e

pub each_moves : EachMoves
unfolding steps
each_moves way k w memory =
    if_begun_lem (AllMove way w k) (begins way k.control w (length memory)) (while_requested w k (singles way w memory)) tt
    (λ e. let b = begun way k.control w (length memory) e in all_move way w memory k b.fits b.apt)

-- ---- how many

tally : (way : Way) (w : Which) (ss : List Step) (k : Chip) → AllMove way w k ss → Tallied way (length ss) k (ran k ss)
unfolding ran
tally In w [] k h = omega arith
tally Out w [] k h = omega arith
tally In w (s ∷ ss) k h = omega (arith, h.0.tallied, tally In w ss (step k s).chip h.1)
tally Out w (s ∷ ss) k h = omega (arith, h.0.tallied, tally Out w ss (step k s).chip h.1)

ran_valid : (ss : List Step) (k : Chip) → valid k.control ≡ true → valid (ran k ss).control ≡ true
unfolding ran
ran_valid [] k h = h
ran_valid (s ∷ ss) k h = ran_valid ss (step k s).chip (step_valid k s h)

count_fits : (c : Control) → valid c ≡ true → c.count ≤ 128
unfolding valid in_range
count_fits c h = leb-true c.count 128 (search (and_left, and_right) depth 9)

few : (way : Way) (n : ℕ) (k l : Chip) → Tallied way n k l → k.control.count ≤ 128 → l.control.count ≤ 128 → n ≤ 128
few In n k l t p q = omega (arith, t, q)
few Out n k l t p q = omega (arith, t, p)

no_more : (way : Way) (w : Which) (memory : List ℕ) (k : Chip) → length (while_requested w k (singles way w memory)) ≤ length memory
unfolding while_requested
no_more way w [] k = omega arith
no_more way w (x ∷ xs) k =
    let ss : List Step = while_requested w (step k (single way w x)).chip (singles way w xs) in
    test (λ l. length l ≤ suc (length xs)) (request k.control w) {x = single way w x ∷ ss} {y = []}
    (λ _. omega (arith, no_more way w xs (step k (single way w x)).chip))
    (λ _. omega arith)

-- no memory remains, or REQUEST is inactive
abbrev Ended : Which → ℕ → Chip → List Step → Type 0
Ended w n k ss = (length ss ≡ n) ⊎ (request (ran k ss).control w ≡ false)

ends : (way : Way) (w : Which) (memory : List ℕ) (k : Chip) → Ended w (length memory) k (while_requested w k (singles way w memory))
unfolding while_requested ran
ends way w [] k = inl refl
ends way w (x ∷ xs) k =
    test (Ended w (suc (length xs)) k) (request k.control w)
    (λ _. further (ends way w xs (step k (single way w x)).chip))
    (λ q. inr q)
  where
    further : {n m : ℕ} {P : Type 0} → (n ≡ m) ⊎ P → (suc n ≡ suc m) ⊎ P
    further (inl e) = inl (ap suc e)
    further (inr p) = inr p

pub burst_counts : BurstCounts
unfolding burst steps
burst_counts way k w memory e =
    let b = begun way k.control w (length memory) e in
    let ss : List Step = while_requested w k (singles way w memory) in
    let t : Tallied way (length ss) k (ran k ss) = tally way w ss k (all_move way w memory k b.fits b.apt) in
    record {
      answer = rw e;
      tallied = rw e t;
      within = rw e (no_more way w memory k);
      at_most = rw e (few way (length ss) k (ran k ss) t (count_fits k.control b.fits) (count_fits (ran k ss).control (ran_valid ss k b.fits)));
      ended = rw e (ends way w memory k);
    }

-- ---- what memory has

pub history_long : (ss : List Step) (k : Chip) → length (history k ss) ≡ length ss
unfolding history
history_long [] k = refl
history_long (s ∷ ss) k = ap suc (history_long ss (step k s).chip)

pub bytes_long : (ss : List Step) (k : Chip) → length (bytes_of (history k ss)) ≡ length ss
bytes_long ss k = length-map (history k ss) _ ∙ history_long ss k

pub steps_within : (way : Way) (k : Chip) (w : Which) (memory : List ℕ) → length (steps way k w memory) ≤ length memory
unfolding steps
steps_within way k w memory =
    if_begun_lem (λ ss. length ss ≤ length memory) (begins way k.control w (length memory)) (while_requested w k (singles way w memory)) (omega arith)
    (λ _. no_more way w memory k)

pub burst_fills : BurstFills
unfolding filled
burst_fills k w memory =
    let ss : List Step = steps Out k w memory in
    let bs : List ℕ = bytes_of (history k ss) in
    let n = bytes_long ss k in
    record {
      long = length-append bs (drop (length ss) memory) ∙ rw (length-drop (length ss) memory) (omega (arith, n, steps_within Out k w memory));
      in_front = ap (λ (i : ℕ). take i (bs ++ drop (length ss) memory)) (sym n) ∙ take-append_seam bs (drop (length ss) memory);
      behind = ap (λ (i : ℕ). drop i (bs ++ drop (length ss) memory)) (sym n) ∙ drop-append_seam bs (drop (length ss) memory);
    }

pub burst_keeps : BurstKeeps
unfolding burst steps filled ran history
burst_keeps In k w memory a e = (rw e, refl)
burst_keeps Out k w memory a e = (rw e, rw e)
