-- The showings hold: the premises by a test that is proved to give them, the rest by computation. Assumes nothing.
use Prim.Native.Nat.{ℕ}
use mathlib.Core.Path.{◌≡◌, refl, ap, ap₂}
use mathlib.Core.Bool.{Bool, true, false, ◌&&◌, ◌||◌, false≢true, true≢false}
use mathlib.Core.List.{List, [], ◌∷◌, ◌++◌}
use mathlib.Core.Option.{Option, none, some}
use native.Mathlib.Omega.{arith}
use lib.Dec.{eqb}
use lib.ListN.{get_or, take}
use borrow.Author.Tests.{eqb-true}
use Rattle.bits.proofs.Laws.{and_left, and_right}
use Rattle.machine.specs.declared.Which.TheVariants.{Two}
use Rattle.machine.specs.declared.Chip.{Chip}
use Rattle.machine.specs.declared.Step.{Step}
use Rattle.machine.specs.declared.Step.TheVariants.{DmaRead}
use Rattle.line.specs.Digits.{capital}
use Rattle.line.specs.Cases.{chars}
use Rattle.session.specs.Bench.{Bench}
use Rattle.whole.specs.Whole.{lines_in}
use Rattle.masking.specs.Premises.{SameVerdict}
use Rattle.masking.proofs.Showings.{judges, judges_so, either}
use Rattle.masked.specs.Lines.{step_at, both_offer, next, Inputs}
use Rattle.masked.specs.Masked.{of_value}
use Rattle.masked.specs.Showings.{Beside, printed, firsts, seconds, capture, until, matchless, since, at_first, at_second, unstarted, Met, Judged, Careless, Unlike, Showings}

-- ---- a test for the premises

abbrev same_chars : List ℕ → List ℕ → Bool
same_chars [] [] = true
same_chars [] (y ∷ ys) = false
same_chars (x ∷ xs) [] = false
same_chars (x ∷ xs) (y ∷ ys) = eqb x y && same_chars xs ys

same_chars_lem : (l m : List ℕ) → same_chars l m ≡ true → l ≡ m
same_chars_lem [] [] h = refl
same_chars_lem [] (y ∷ ys) h = absurd (false≢true h)
same_chars_lem (x ∷ xs) [] h = absurd (false≢true h)
same_chars_lem (x ∷ xs) (y ∷ ys) h =
    ap₂ (λ (z : ℕ) (zs : List ℕ). z ∷ zs) (eqb-true x y (and_left (eqb x y) (same_chars xs ys) h)) (same_chars_lem xs ys (and_right (eqb x y) (same_chars xs ys) h))

abbrev judges_steps : Chip → Chip → Option Step → Option Step → Bool
judges_steps k j none q = true
judges_steps k j (some s) none = true
judges_steps k j (some s) (some t) = judges k j s t

judges_steps_lem : (k j : Chip) (o q : Option Step) → judges_steps k j o q ≡ true → (s t : Step) → o ≡ some s → q ≡ some t → SameVerdict k j s t
judges_steps_lem k j none q h s t e f = record { verdict = λ x y p q. cc }
judges_steps_lem k j (some u) none h s t e f = record { verdict = λ x y p q. cc }
judges_steps_lem k j (some u) (some v) h s t e f = let i : u ≡ s = cc in let g : v ≡ t = cc in rw (← i, ← g) (judges_so k j u v h)

unfoldable meets : Bench → Bench → List (List ℕ) → List (List ℕ) → Bool
meets b d [] [] = true
meets b d [] (m ∷ ms) = false
meets b d (l ∷ ls) [] = false
meets b d (l ∷ ls) (m ∷ ms) =
    same_chars (take 4 (capital l)) (take 4 (capital m)) && (both_offer b d l m || same_chars (capital l) (capital m))
    && judges_steps b.chip d.chip (step_at b l) (step_at d m)
    && meets (next b l) (next d m) ls ms

meets_so : (b d : Bench) (ls ms : List (List ℕ)) → meets b d ls ms ≡ true → Inputs b d ls ms
unfolding meets
meets_so b d [] [] h = tt
meets_so b d [] (m ∷ ms) h = absurd (false≢true h)
meets_so b d (l ∷ ls) [] h = absurd (false≢true h)
meets_so b d (l ∷ ls) (m ∷ ms) h =
    let four : same_chars (take 4 (capital l)) (take 4 (capital m)) ≡ true = search (and_left, and_right) in
    let all : (both_offer b d l m || same_chars (capital l) (capital m)) ≡ true = search (and_left, and_right) in
    let verdicts : judges_steps b.chip d.chip (step_at b l) (step_at d m) ≡ true = search (and_left, and_right) in
    let rest : meets (next b l) (next d m) ls ms ≡ true = search (and_left, and_right) in (
      record {
        same_line = record { kind_address = same_chars_lem _ _ four; all = λ p. same_chars_lem _ _ (either _ _ all p) };
        same_verdicts = record { verdicts = judges_steps_lem b.chip d.chip (step_at b l) (step_at d m) verdicts };
      },
      meets_so (next b l) (next d m) ls ms rest,
    )

-- of two captures
met : (b d : Bench) (rs : List Beside) → meets b d (lines_in (firsts rs)) (lines_in (seconds rs)) ≡ true → Met b d rs
met b d rs = meets_so b d (lines_in (firsts rs)) (lines_in (seconds rs))

-- ---- what is computed

breaks_verdict : Judged → ⊥
unfolding printed
breaks_verdict h = true≢false ((h.verdicts (DmaRead Two) (DmaRead Two) refl refl).verdict 0x0D 0x58 refl refl)

-- it is the sixteenth line
not_met : Met unstarted unstarted (until ++ (matchless ∷ since)) → ⊥
unfolding chars
not_met h = breaks_verdict h.1.1.1.1.1.1.1.1.1.1.1.1.1.1.1.0.same_verdicts

careless : Careless
unfolding printed meets
careless =
    record {
      both_print = record { first_prints = refl; second_prints = refl; these_take = refl };
      met_until = met unstarted unstarted until refl;
      same_line = record { kind_address = refl; all = λ p. refl };
      breaks_verdict = breaks_verdict;
      met_since = met (at_first (until ++ (matchless ∷ []))) (at_second (until ++ (matchless ∷ []))) since refl;
      not_met = not_met;
    }

unlike : Unlike
unfolding printed
unlike =
    record {
      one_byte = refl;
      another = refl;
      bytes_break = λ h. let z : ◌≡◌ {A = ℕ} 0x31 0x32 = ap (λ (l : List ℕ). get_or l 5 0) (h.all refl) in omega arith;
      one_side = refl;
      other_side = refl;
      sides_break = λ h. let z : ◌≡◌ {A = ℕ} 0x31 0x32 = ap (λ (l : List ℕ). get_or l 0 0) h.kind_address in omega arith;
    }

pub showings : Showings
unfolding printed of_value meets
showings =
    record {
      captures = record { met = met unstarted unstarted capture refl; both_print = record { first_prints = refl; second_prints = refl; these_take = refl } };
      careless = careless;
      hidden = refl;
      offering = record { to_buffer = refl; to_mask = refl; to_no_chip = refl; in_reset = refl; unconnected = refl; through_pointer = refl; to_pointer = refl; by_dma = refl; dma_to_no_chip = refl; no_frame = refl };
      unlike = unlike;
    }
