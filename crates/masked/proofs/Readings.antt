-- The case of digits does not alter what a line is, and lines of one kind and address are one step but for its byte. Assumes nothing.
use Rattle.std.specs.Prelude.{Ok}
use Prim.Native.Nat.{ℕ, ◌+◌, ◌/◌, ◌%◌, ◌<◌}
use mathlib.Core.Path.{◌≡◌, refl, sym, ap, ◌∙◌}
use mathlib.Core.Bool.{Bool, true, false, cond, ◌||◌}
use mathlib.Core.List.{List}
use mathlib.Core.Option.{Option, none, some}
use native.Mathlib.Omega.{arith}
use lib.Dec.{eqb}
use lib.ListN.{take}
use lib.Seq.{get_or-take}
use Rattle.machine.specs.declared.Which.{Which}
use Rattle.machine.specs.declared.Step.{Step}
use Rattle.line.specs.declared.Frame.{Frame}
use Rattle.line.specs.declared.Frame.TheVariants.{Begin, Does}
use Rattle.line.specs.Digits.{capital}
use Rattle.line.specs.Faults.{misshapen}
use Rattle.line.specs.Frames.{Kind, on_side, side_named, kind_of, meant, meaning, unused_in, byte_at, reading}
use Rattle.line.proofs.Faults.{no_fault}
use Rattle.line.proofs.RoundTrip.{either_case}
use Rattle.masking.specs.Premises.{carrying}

-- ---- lines of one kind and address

-- of two frames that are steps: they differ in their bytes at most
abbrev ButByte : Frame → Frame → Type 0
ButByte (Begin p) g = Unit {0}
ButByte (Does s) (Begin p) = Unit {0}
ButByte (Does s) (Does t) = carrying 0 s ≡ carrying 0 t

-- a kind with one address and any data
record OneStep (o : Option Kind) (a d e : ℕ) : Type 0 where
  one_step : (s t : Step) → meant o a d ≡ Ok (Does s) → meant o a e ≡ Ok (Does t) → carrying 0 s ≡ carrying 0 t

one_none : (a d e : ℕ) → OneStep none a d e
unfolding meant
one_none a d e = record { one_step = λ s t p q. cc }

one_kind : (k : Kind) (a d e : ℕ) → ButByte (k.frame a d) (k.frame a e) → OneStep (some k) a d e
unfolding meant
one_kind k a d e h =
    record {
      one_step = λ s t p q.
          let x = no_fault (unused_in k a d) (Ok (k.frame a d)) (Does s) p in
          let y = no_fault (unused_in k a e) (Ok (k.frame a e)) (Does t) q in
          let i : k.frame a d ≡ Does s = cc in
          let j : k.frame a e ≡ Does t = cc in
          rw (i, j) at h;
    }

one_test : (b : Bool) (o p : Option Kind) (a d e : ℕ) → OneStep o a d e → OneStep p a d e → OneStep (cond b o p) a d e
one_test true o p a d e h k = h
one_test false o p a d e h k = k

one_side : (w : Which) (n a d e : ℕ) → OneStep (on_side w n) a d e
unfolding on_side
one_side w n a d e =
    one_test (eqb n 1) _ _ a d e (one_kind _ a d e refl)
    (one_test (eqb n 2) _ _ a d e (one_kind _ a d e refl)
    (one_test (eqb n 3) _ _ a d e (one_kind _ a d e refl)
    (one_test (eqb n 4) _ _ a d e (one_kind _ a d e refl)
    (one_test (eqb n 5) _ _ a d e (one_kind _ a d e refl)
    (one_test (eqb n 6) _ _ a d e (one_kind _ a d e refl) (one_none a d e))))))

one_meaning : (k a d e : ℕ) (s t : Step) → meaning k a d ≡ Ok (Does s) → meaning k a e ≡ Ok (Does t) → carrying 0 s ≡ carrying 0 t
unfolding kind_of meaning
one_meaning k a d e =
    (one_test (eqb k 0) _ _ a d e (one_kind _ a d e tt)
    (one_test (eqb (k / 16) 1 || eqb (k / 16) 2) _ _ a d e (one_side (side_named (k / 16)) (k % 16) a d e) (one_none a d e))).one_step

-- a byte among the first four characters
head_byte : (l : List ℕ) (i : ℕ) → i + 1 < 4 → byte_at (take 4 l) i ≡ byte_at l i
unfolding byte_at
head_byte l i h = rw (get_or-take 4 l i 0 (omega arith), get_or-take 4 l (i + 1) 0 h)

same_byte : (l m : List ℕ) → take 4 l ≡ take 4 m → (i : ℕ) → i + 1 < 4 → byte_at m i ≡ byte_at l i
same_byte l m e i h = sym (head_byte m i h) ∙ ap (λ (x : List ℕ). byte_at x i) (sym e) ∙ head_byte l i h

framed_meaning : (l : List ℕ) (f : Frame) → reading l ≡ Ok f → meaning (byte_at l 0) (byte_at l 2) (byte_at l 4) ≡ Ok f
unfolding reading
framed_meaning l f e = no_fault (misshapen l) (meaning (byte_at l 0) (byte_at l 2) (byte_at l 4)) f e

-- steps of lines whose first four characters are the same but for case differ in their bytes at most
pub same_kind : (l m : List ℕ) (s t : Step) → take 4 (capital l) ≡ take 4 (capital m) → reading l ≡ Ok (Does s) → reading m ≡ Ok (Does t)
    → carrying 0 s ≡ carrying 0 t
same_kind l m s t e p q =
    one_meaning (byte_at (capital l) 0) (byte_at (capital l) 2) (byte_at (capital l) 4) (byte_at (capital m) 4) s t
    (framed_meaning (capital l) (Does s) (either_case l ∙ p))
    (rw (same_byte (capital l) (capital m) e 0 (omega arith), same_byte (capital l) (capital m) e 2 (omega arith)) at
    (framed_meaning (capital m) (Does t) (either_case m ∙ q)))

-- lines that are the same but for case read the same
pub same_reading : (l m : List ℕ) → capital l ≡ capital m → reading l ≡ reading m
same_reading l m e = sym (either_case l) ∙ ap reading e ∙ either_case m
