-- With REQUEST active and the role held, the DMA step moves a byte and raises no error. Assumes nothing.
use Prim.Native.Nat.{ℕ, ◌+◌}
use mathlib.Core.Path.{◌≡◌, refl, ap, ◌∙◌}
use mathlib.Core.Bool.{Bool, true, false, cond, not, ◌||◌, or-false}
use native.Mathlib.Omega.{arith}
use lib.Dec.{eqb, ltb, leb}
use lib.Bits.{bit_or}
use borrow.Author.Tests.{ltb-true, leb-true, eqb-false, lt-ltb, not-true}
use Rattle.machine.specs.declared.Answer.{Answer}
use Rattle.bits.specs.Bits.{bit}
use Rattle.bits.proofs.Laws.{and_left, and_right, and_both, bit-or, no_bit}
use Rattle.bits.proofs.Update.{bit_power}
use Rattle.machine.specs.declared.Which.{Which}
use Rattle.machine.specs.declared.Which.TheVariants.{One, Two}
use Rattle.machine.specs.declared.Side.{Side}
use Rattle.machine.specs.declared.Control.{Control}
use Rattle.machine.specs.declared.Chip.{Chip}
use Rattle.machine.specs.declared.Step.TheVariants.{DmaWrite, DmaRead}
use Rattle.machine.specs.declared.Stepped.{Stepped}
use Rattle.machine.specs.Record.{side_of}
use Rattle.machine.specs.Fifo.{writer, accepted, given, at_end}
use Rattle.machine.specs.Events.{error_source, source, raised_ip}
use Rattle.machine.specs.Request.{going, request}
use Rattle.machine.specs.Moves.{events, moved_side, moved, after_accepted, after_given}
use Rattle.machine.specs.Validity.{valid, in_range, run_fits}
use Rattle.machine.specs.Step.{decided, step}
use Rattle.machine.proofs.Moved.{planned_in, planned_out}
use Rattle.dma.specs.declared.Way.TheVariants.{In, Out}
use Rattle.dma.specs.Promises.{moved_by, Moves, RequestMoves}

-- ---- REQUEST is active only short of the end of the side's way

run_short : (c : Control) (w : Which) → run_fits c w ≡ true → (side_of c w).run ≡ true → at_end c w c.count ≡ false
unfolding run_fits
run_short c w f r = not-true (at_end c w c.count) (rw r at f)

fits_run : (c : Control) (w : Which) → valid c ≡ true → run_fits c w ≡ true
unfolding valid
fits_run c One h = search (and_left, and_right) depth 9
fits_run c Two h = search (and_left, and_right) depth 9

module _ (c : Control) (w : Which) (v : valid c ≡ true) (r : request c w ≡ true) where
  goes : going c w ≡ true
  unfolding request
  goes = search (and_left, and_right) depth 7

  writer_room : writer c w ≡ true → ltb c.count 128 ≡ true
  unfolding going valid in_range at_end
  writer_room i = go (bit 2 (side_of c w).control1) (rw i at goes)
    where
      short : (side_of c w).run ≡ true → eqb c.count 128 ≡ false
      short e = rw i at (run_short c w (fits_run c w v) e)

      most : leb c.count 128 ≡ true
      most = search (and_left, and_right) depth 9

      go : (b : Bool) → cond b (side_of c w).run (ltb c.count 128) ≡ true → ltb c.count 128 ≡ true
      go true e = lt-ltb c.count 128 (omega (arith, leb-true c.count 128 most, eqb-false c.count 128 (short e)))
      go false e = e

  reader_bytes : writer c w ≡ false → ltb 0 c.count ≡ true
  unfolding going at_end
  reader_bytes i = go (bit 2 (side_of c w).control1) (rw i at goes)
    where
      short : (side_of c w).run ≡ true → eqb c.count 0 ≡ false
      short e = rw i at (run_short c w (fits_run c w v) e)

      go : (b : Bool) → cond b (side_of c w).run (ltb 0 c.count) ≡ true → ltb 0 c.count ≡ true
      go true e = lt-ltb 0 c.count (omega (arith, eqb-false c.count 0 (short e)))
      go false e = e

  takes_in : writer c w ≡ true → accepted c w ≡ true
  unfolding accepted request
  takes_in i = let n = writer_room i in search (and_both, and_left, and_right) depth 8

  gives_out : writer c w ≡ false → given c w ≡ true
  unfolding given request
  gives_out i = let n = reader_bytes i in let j : not (writer c w) ≡ true = rw i in search (and_both, and_left, and_right) depth 8

-- ---- the step

step_in : (k : Chip) (w : Which) (x : ℕ) → valid k.control ≡ true → accepted k.control w ≡ true → step k (DmaWrite w x) ≡ moved_by In k w x
unfolding step decided
step_in k w x v a = rw (v, planned_in k.control w x _ a)

step_out : (k : Chip) (w : Which) → valid k.control ≡ true → given k.control w ≡ true → step k (DmaRead w) ≡ moved_by Out k w 0
unfolding step decided
step_out k w v g = rw (v, planned_out k.control w _ g)

-- ---- no error

-- a source's bit is that of no other
source_bit : (k j : ℕ) (b : Bool) → eqb k j ≡ false → bit k (source j b) ≡ false
source_bit k j true h = bit_power k j ∙ h
source_bit k j false h = no_bit k

none_of : (a b : Bool) → a ≡ false → b ≡ false → (a || b) ≡ false
none_of a b h k = rw (h, k)

or_none : (k x y : ℕ) → bit k x ≡ false → bit k y ≡ false → bit k (bit_or x y) ≡ false
or_none k x y h j = bit-or k x y ∙ none_of (bit k x) (bit k y) h j

events_no_error : (m : Bool) (n : ℕ) (s : Side) → bit error_source (events m n s) ≡ false
unfolding events
events_no_error m n s = search (or_none, source_bit)

raised_no_error : (l : Bool) (e ip : ℕ) → bit error_source e ≡ false → bit error_source (raised_ip l e ip) ≡ bit error_source ip
unfolding raised_ip
raised_no_error true e ip h = rw (bit-or, h, or-false)
raised_no_error false e ip h = refl

moved_no_error : (c : Control) (w : Which) (m : Bool) (start n : ℕ) (v : Which) → bit error_source (side_of (moved c w m start n) v).ip ≡ bit error_source (side_of c v).ip
unfolding moved moved_side
moved_no_error c w m start n One = raised_no_error _ _ c.one.ip (events_no_error _ n c.one)
moved_no_error c w m start n Two = raised_no_error _ _ c.two.ip (events_no_error _ n c.two)

-- ---- both ways

moved_count : (c : Control) (w : Which) (m : Bool) (start n : ℕ) → (moved c w m start n).count ≡ n
unfolding moved
moved_count c w m start n = refl

-- a step that leaves what a moved byte leaves
in_moves : (k : Chip) (w : Which) (x : ℕ) → request k.control w ≡ true → step k (DmaWrite w x) ≡ moved_by In k w x → Moves In w k (DmaWrite w x)
unfolding after_accepted
in_moves k w x r e =
    record {
      requested = r;
      is_single = refl;
      moves = e;
      tallied = ap (λ (r : Stepped Answer). r.chip.control.count) e ∙ moved_count k.control w _ _ _;
      no_error = λ v. ap (λ (r : Stepped Answer). bit error_source (side_of r.chip.control v).ip) e ∙ moved_no_error k.control w _ _ _ v;
    }

out_moves : (k : Chip) (w : Which) → request k.control w ≡ true → ltb 0 k.control.count ≡ true → step k (DmaRead w) ≡ moved_by Out k w 0 → Moves Out w k (DmaRead w)
unfolding after_given
out_moves k w r n e =
    record {
      requested = r;
      is_single = refl;
      moves = e;
      tallied =
          ap (λ (r : Stepped Answer). r.chip.control.count + 1) e ∙ ap (λ (i : ℕ). i + 1) (moved_count k.control w _ _ _)
          ∙ omega (arith, ltb-true 0 k.control.count n);
      no_error = λ v. ap (λ (r : Stepped Answer). bit error_source (side_of r.chip.control v).ip) e ∙ moved_no_error k.control w _ _ _ v;
    }

pub request_moves : RequestMoves
request_moves In k w x v r i = in_moves k w x r (step_in k w x v (takes_in k.control w v r i))
request_moves Out k w x v r i =
    let j : writer k.control w ≡ false = not-true (writer k.control w) i in
    out_moves k w r (reader_bytes k.control w v r j) (step_out k w v (gives_out k.control w v r j))
