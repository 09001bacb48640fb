-- The showings hold: the premises by a test that is proved to give them, the rest by computation. Assumes nothing.
use Prim.Native.Nat.{ℕ}
use mathlib.Core.Path.{◌≡◌, refl, sym}
use mathlib.Core.Bool.{Bool, true, false, ◌&&◌, ◌||◌, beq, true≢false}
use mathlib.Core.List.{List, [], ◌∷◌}
use mathlib.Core.Option.{Option, none, some}
use native.Mathlib.Omega.{arith}
use lib.Dec.{eqb}
use borrow.Author.Tests.{eqb-true}
use Rattle.bits.proofs.Laws.{and_left, and_right, beq_same}
use Rattle.machine.specs.declared.Chip.{Chip}
use Rattle.machine.specs.declared.Step.{Step}
use Rattle.machine.specs.Fifo.{offered}
use Rattle.machine.specs.Reset.{new_chip}
use Rattle.machine.specs.Step.{carries, step}
use Rattle.masking.specs.Premises.{carrying, free, moved, matched, SameVerdict, Sessions}
use Rattle.masking.specs.Showings.{Twin, firsts, seconds, live, watching, expecting, pointing, forbidden, payload, pointed, unmoved, one, Met, seen, matching, elsewhere, one_byte, another, Breaks, Showings}
use Rattle.masking.proofs.Carrying.{carrying_twice}

-- ---- a test for the premises

-- the bytes that two steps move: if there are two, both match or neither
abbrev pub agree : (ℕ → Bool) → (ℕ → Bool) → Option ℕ → Option ℕ → Bool
agree p q none n = true
agree p q (some x) none = true
agree p q (some x) (some y) = beq (p x) (q y)

agree_so : (p q : ℕ → Bool) (m n : Option ℕ) → agree p q m n ≡ true → (x y : ℕ) → m ≡ some x → n ≡ some y → p x ≡ q y
agree_so p q none n h x y e f = cc
agree_so p q (some a) none h x y e f = cc
agree_so p q (some a) (some b) h x y e f =
    let z : p a ≡ q b = beq_same _ _ h in
    let i : a ≡ x = cc in
    let j : b ≡ y = cc in
    rw (← i, ← j) z

-- the premise on verdicts, tested
abbrev pub judges : Chip → Chip → Step → Step → Bool
judges k l s t = agree (matched k.control s) (matched l.control t) (moved k s) (moved l t)

pub judges_so : (k l : Chip) (s t : Step) → judges k l s t ≡ true → SameVerdict k l s t
judges_so k l s t h = record { verdict = agree_so (matched k.control s) (matched l.control t) (moved k s) (moved l t) h }

-- the second session's step
abbrev second : Twin → Step
second t = carrying t.instead t.does

unfoldable pub meets : Chip → Chip → List Twin → Bool
meets k l [] = true
meets k l (t ∷ ts) =
    (free k.control l.control t.does (second t) || eqb (carries t.does) (carries (second t))) && judges k l t.does (second t)
    && meets (step k t.does).chip (step l (second t)).chip ts

pub either : (a b : Bool) → (a || b) ≡ true → a ≡ false → b ≡ true
either true b h e = absurd (true≢false e)
either false b h e = h

pub meets_so : (k l : Chip) (ts : List Twin) → meets k l ts ≡ true → Sessions k l (firsts ts) (seconds ts)
unfolding meets
meets_so k l [] h = tt
meets_so k l (t ∷ ts) h =
    let bytes : (free k.control l.control t.does (second t) || eqb (carries t.does) (carries (second t))) ≡ true = search (and_left, and_right) in
    let verdicts : judges k l t.does (second t) ≡ true = search (and_left, and_right) in
    let rest : meets (step k t.does).chip (step l (second t)).chip ts ≡ true = search (and_left, and_right) in (
      record {
        same_step = record { but_byte = sym (carrying_twice 0 t.instead t.does); byte = λ p. eqb-true _ _ (either _ _ bytes p) };
        same_verdict = judges_so k l t.does (second t) verdicts;
      },
      meets_so (step k t.does).chip (step l (second t)).chip ts rest,
    )

-- from one chip
met : (k : Chip) (ts : List Twin) → meets k k ts ≡ true → Met k ts
met k ts = meets_so k k ts

-- ---- what is computed

-- where one moves no byte, no verdict is asked
none_judged : (k l : Chip) (s t : Step) → moved l t ≡ none → SameVerdict k l s t
none_judged k l s t e = record { verdict = λ x y p q. cc }

breaks : Breaks
unfolding offered moved seen
breaks =
    record {
      in_seen = refl;
      in_breaks = (record { but_byte = refl; byte = λ p. absurd (true≢false p) }, λ h. true≢false (h.verdict 0x41 0x42 refl refl));
      out_seen = refl;
      out_breaks = (record { but_byte = refl; byte = λ p. refl }, λ h. true≢false (h.verdict 0x41 0x42 refl refl));
      side_seen = refl;
      side_breaks = (λ h. let z = h.but_byte in true≢false (cc), none_judged live live matching elsewhere refl);
      read_back_seen = refl;
      no_offer = (refl, refl);
      read_back_breaks = (λ h. let z : ◌≡◌ {A = ℕ} 1 2 = h.byte refl in omega arith, none_judged live live one_byte another refl);
    }

pub showings : Showings
unfolding offered moved seen meets
showings =
    record {
      lines_seen = refl;
      count_seen = refl;
      refusals_seen = refl;
      registers_seen = refl;
      vector_seen = refl;
      blank_apart = refl;
      payload_blank = refl;
      meets = (met watching payload refl, met pointing pointed refl, met (new_chip 0) unmoved refl, met forbidden one refl, met expecting one refl, refl, refl);
      breaks = breaks;
    }
