-- Alike lines take steps that are alike, or the same turn, and so they print the same but for the value of a byte taken out. Assumes nothing.
use Rattle.std.specs.Prelude.{Ok, Err}
use Rattle.line.specs.Readings.{Reading, LineAnswer}
use Prim.Native.Nat.{ℕ, zero, suc, ◌+◌, ◌-◌, ◌/◌, ◌%◌, ◌<◌, ◌≤◌}
use mathlib.Core.Path.{◌≡◌, refl, sym, ap, ap₂, ◌∙◌}
use mathlib.Core.Bool.{Bool, true, false, cond, false≢true, true≢false}
use mathlib.Core.List.{List, [], ◌∷◌, ◌++◌}
use mathlib.Core.Option.{Option, none, some}
use native.Mathlib.Omega.{arith}
use lib.Dec.{ltb}
use lib.ListN.{length, get_or, length-append, get_or-append}
use lib.Seq.{get_or-append-add}
use borrow.Author.Tests.{ltb-true, ltb-false}
use Rattle.bits.proofs.Laws.{and_left, and_right}
use Rattle.machine.specs.declared.Chip.{Chip}
use Rattle.machine.specs.declared.Step.{Step}
use Rattle.machine.specs.declared.Answer.{Answer}
use Rattle.machine.specs.declared.Answer.TheVariants.{Done, Byte, Floating, Waiting, Refused}
use Rattle.machine.specs.Answers as OfSteps
use Rattle.machine.specs.Answers.{refused}
use Rattle.machine.specs.Fifo.{offered}
use Rattle.machine.specs.Reset.{started, Started}
use Rattle.machine.specs.Step.{step}
use Rattle.line.specs.declared.Frame.TheVariants.{Begin, Does}
use Rattle.line.specs.Digits.{pair}
use Rattle.line.specs.Frames.{reading}
use Rattle.line.specs.Answers.{number, value}
use Rattle.session.specs.Bench.{Bench, bench, Turned, turned, lines_of, count_of, fields, printed}
use Rattle.whole.specs.Whole.{lines_in}
use Rattle.whole.proofs.Pieces.{pieces}
use Rattle.masking.specs.Premises.{moves_out, Alike}
use Rattle.masking.specs.Sight.{Seen, whole, taken_out, blanked, sight}
use Rattle.masking.proofs.Masking.{SameAfter, alike}
use Rattle.masked.specs.Lines.{step_of, step_at, of_step, offers, takes_out, both_offer, SameVerdicts, AlikeLines, Inputs}
use Rattle.masked.specs.Masked.{of_value, EqualBut, EqualBenches, EqualSessions, Masked, RefusedAlike, MaskedInput}
use Rattle.masked.proofs.Readings.{same_kind, same_reading}

-- ---- a step

-- the number of an answer, of what is seen of it
abbrev seen_number : Seen → ℕ
seen_number (whole a) = OfSteps.number a
seen_number taken_out = 0x01

number_seen : (b : Bool) (a : Answer) → seen_number (cond b (blanked a) (whole a)) ≡ OfSteps.number a
number_seen true Done = refl
number_seen true (Byte x) = refl
number_seen true Floating = refl
number_seen true Waiting = refl
number_seen true (Refused n) = refl
number_seen false a = refl

module _ (k j : Chip) (s t : Step) (h : SameAfter k j s t) where
  same_seen : cond (moves_out k.control s) (blanked (step k s).answer) (whole (step k s).answer)
      ≡ cond (moves_out j.control t) (blanked (step j t).answer) (whole (step j t).answer)
  unfolding sight
  same_seen = ap (λ x. x.answer) h.seen

  same_number : OfSteps.number (step k s).answer ≡ OfSteps.number (step j t).answer
  same_number =
      sym (number_seen (moves_out k.control s) (step k s).answer) ∙ ap seen_number same_seen ∙ number_seen (moves_out j.control t) (step j t).answer

  same_value : moves_out k.control s ≡ false → OfSteps.value (step k s).answer ≡ OfSteps.value (step j t).answer
  same_value e = let f : moves_out j.control t ≡ false = sym h.out ∙ e in let w = rw (e, f) at same_seen in ap OfSteps.value (let z : (step k s).answer ≡ (step j t).answer = cc in z)

-- ---- a turn

-- whether a line that is read so takes a byte out
abbrev takes_as : Bench → Reading → Bool
takes_as b r = of_step (moves_out b.chip.control) (cond b.present (step_of r) none)

record SameTurn (b d : Bench) (r q : Reading) : Type 0 where
  takes_too : takes_as b r ≡ takes_as d q
  number_too : number (turned b r).answer ≡ number (turned d q).answer
  value_too : takes_as b r ≡ false → value (turned b r).answer ≡ value (turned d q).answer
  bench_after : EqualBenches (turned b r).after (turned d q).after

takes_none : (b : Bench) (r : Reading) → step_of r ≡ none → takes_as b r ≡ false
takes_none b r e = go b.present
  where
    go : (p : Bool) → of_step (moves_out b.chip.control) (cond p (step_of r) none) ≡ false
    go true = rw e
    go false = refl

-- one answer, at benches that are the same
same_answer : (b d : Bench) (r : Reading) (a : LineAnswer) → step_of r ≡ none → EqualBenches (turned b r).after (turned d r).after
    → (turned b r).answer ≡ a → (turned d r).answer ≡ a → SameTurn b d r r
same_answer b d r a n h p q =
    record {
      takes_too = takes_none b r n ∙ sym (takes_none d r n);
      number_too = ap number (p ∙ sym q);
      value_too = λ _. ap value (p ∙ sym q);
      bench_after = h;
    }

same_begin : (b d : Bench) → EqualBenches b d → (pins : ℕ) → SameTurn b d (Ok (Begin pins)) (Ok (Begin pins))
unfolding turned
same_begin b d h pins = go (started pins) refl
  where
    go : (s : Started) → started pins ≡ s → SameTurn b d (Ok (Begin pins)) (Ok (Begin pins))
    go (Ok c) e = same_answer b d (Ok (Begin pins)) (Ok Done) refl (rw e (record { same_present = refl; same_control = refl })) (rw e) (rw e)
    go (Err r) e = same_answer b d (Ok (Begin pins)) (Ok (refused r)) refl (rw e h) (rw e) (rw e)

-- a step: without a chip it is refusal 5
same_does : (p q : Bool) (k j : Chip) → EqualBenches (bench p k) (bench q j) → (s t : Step) → (p ≡ true → Alike k j s t)
    → SameTurn (bench p k) (bench q j) (Ok (Does s)) (Ok (Does t))
unfolding turned
same_does true true k j h s t a =
    let f : SameAfter k j s t = alike k j h.same_control s t (a refl) in
    record {
      takes_too = f.out;
      number_too = same_number k j s t f;
      value_too = same_value k j s t f;
      bench_after = record { same_present = refl; same_control = f.control };
    }
same_does true false k j h s t a = absurd (true≢false h.same_present)
same_does false true k j h s t a = absurd (false≢true h.same_present)
same_does false false k j h s t a = record { takes_too = refl; number_too = refl; value_too = λ _. refl; bench_after = h }

-- ---- a line

-- the step of a line is of a chip that is there, and what the line reads
step_read : (b : Bench) (l : List ℕ) (s : Step) → step_at b l ≡ some s → (b.present ≡ true) × (reading l ≡ Ok (Does s))
unfolding step_at
step_read b l s = go b.present refl (reading l) refl
  where
    go : (p : Bool) → b.present ≡ p → (r : Reading) → reading l ≡ r → cond p (step_of r) none ≡ some s → (b.present ≡ true) × (reading l ≡ Ok (Does s))
    go true e (Err x) f h = (cc, cc)
    go true e (Ok (Begin pins)) f h = (cc, cc)
    go true e (Ok (Does u)) f h = (e, (cc))
    go false e r f h = (cc, cc)

-- a line that offers a byte takes a step that does
offers_step : (b : Bench) (l : List ℕ) → offers b l ≡ true → (s : Step) × (step_at b l ≡ some s) × (offered b.chip.control s ≡ true)
unfolding offers
offers_step b l = go (step_at b l) refl
  where
    go : (o : Option Step) → step_at b l ≡ o → of_step (offered b.chip.control) o ≡ true
        → (s : Step) × (step_at b l ≡ some s) × (offered b.chip.control s ≡ true)
    go none e h = absurd (false≢true h)
    go (some s) e h = (s, e, h)

same_offer : (b d : Bench) (l m : List ℕ) → EqualBenches b d → AlikeLines b d l m → offers b l ≡ true → offers d m ≡ true → SameTurn b d (reading l) (reading m)
same_offer b d l m h a p q =
    let x = offers_step b l p in
    let y = offers_step d m q in
    let u = step_read b l x.0 x.1 in
    let v = step_read d m y.0 y.1 in
    rw (u.1, v.1)
    (same_does b.present d.present b.chip d.chip h x.0 y.0
    (λ _. record {
      same_step = record { but_byte = same_kind l m x.0 y.0 a.same_line.kind_address u.1 v.1; byte = λ i. absurd (true≢false (sym (rw x.2) ∙ i)) };
      same_verdict = a.same_verdicts.verdicts x.0 y.0 x.1 y.1;
    }))

-- the step of a line that reads so, where there is a chip
step_is : (b : Bench) (l : List ℕ) (s : Step) → b.present ≡ true → reading l ≡ Ok (Does s) → step_at b l ≡ some s
unfolding step_at
step_is b l s p e = rw (p, e)

same_text : (b d : Bench) (l m : List ℕ) → EqualBenches b d → SameVerdicts b d l m → reading l ≡ reading m → SameTurn b d (reading l) (reading m)
unfolding turned
same_text b d l m h a e = rw e (go (reading m) refl)
  where
    go : (r : Reading) → reading m ≡ r → SameTurn b d r r
    go (Err x) f = same_answer b d (Err x) (Err x) refl h refl refl
    go (Ok (Begin pins)) f = same_begin b d h pins
    go (Ok (Does s)) f =
        same_does b.present d.present b.chip d.chip h s s
        (λ p. record {
          same_step = record { but_byte = refl; byte = λ i. refl };
          same_verdict = a.verdicts s s (step_is b l s p (e ∙ f)) (step_is d m s (sym h.same_present ∙ p) f);
        })

same_turn : (b d : Bench) (l m : List ℕ) → EqualBenches b d → AlikeLines b d l m → SameTurn b d (reading l) (reading m)
same_turn b d l m h a = go (both_offer b d l m) refl
  where
    go : (o : Bool) → both_offer b d l m ≡ o → SameTurn b d (reading l) (reading m)
    go true e = same_offer b d l m h a (search and_left) (search (and_left, and_right))
    go false e = same_text b d l m h a.same_verdicts (same_reading l m (a.same_line.all e))

-- ---- what is printed

-- nine bytes, of which the third and the fourth are of the value
fields_but : (t : Bool) (ts : List Bool) (n v w l c : ℕ) → (t ≡ false → v ≡ w) → (i : ℕ) → of_value (t ∷ ts) i ≡ false
    → get_or (fields n v l c) i 0 ≡ get_or (fields n w l c) i 0
unfolding fields pair of_value
fields_but false ts n v w l c e i h = ap (λ (x : ℕ). get_or (fields n x l c) i 0) (e refl)
fields_but true ts n v w l c e zero h = refl
fields_but true ts n v w l c e (suc zero) h = refl
fields_but true ts n v w l c e (suc (suc zero)) h = absurd (true≢false h)
fields_but true ts n v w l c e (suc (suc (suc zero))) h = absurd (true≢false h)
fields_but true ts n v w l c e (suc (suc (suc (suc i)))) h = refl

nine : (t : Turned) → length (printed t) ≡ 9
unfolding printed fields pair
nine t = refl

same_lines : (b d : Bench) → EqualBenches b d → lines_of b ≡ lines_of d
unfolding lines_of
same_lines b d h = rw (h.same_present, h.same_control)

same_count : (b d : Bench) → EqualBenches b d → count_of b ≡ count_of d
unfolding count_of
same_count b d h = rw (h.same_present, h.same_control)

printed_but : (b d : Bench) (r q : Reading) → SameTurn b d r q → (ts : List Bool) (i : ℕ) → of_value (takes_as b r ∷ ts) i ≡ false
    → get_or (printed (turned b r)) i 0 ≡ get_or (printed (turned d q)) i 0
unfolding printed
printed_but b d r q h ts =
    rw (h.number_too, same_lines (turned b r).after (turned d q).after h.bench_after, same_count (turned b r).after (turned d q).after h.bench_after)
    (fields_but (takes_as b r) ts _ _ _ _ _ h.value_too)

pub refused_alike : RefusedAlike
unfolding turned printed
refused_alike b d l m f h e r = rw (← same_reading l m e, r, same_lines b d h, same_count b d h)

-- nine bytes in front
in_front : (t : Bool) (ts : List Bool) (x y u v : List ℕ) → length x ≡ 9 → length y ≡ 9
    → ((i : ℕ) → of_value (t ∷ ts) i ≡ false → get_or x i 0 ≡ get_or y i 0) → EqualBut ts u v → EqualBut (t ∷ ts) (x ++ u) (y ++ v)
unfolding of_value
in_front t ts x y u v p q f h =
    record { same_length = rw (length-append x u, length-append y v, p, q, h.same_length); elsewhere = λ i. go i (ltb i 9) refl }
  where
    go : (i : ℕ) (b : Bool) → ltb i 9 ≡ b → of_value (t ∷ ts) i ≡ false → get_or (x ++ u) i 0 ≡ get_or (y ++ v) i 0
    go i true e o =
        let l : i < 9 = ltb-true i 9 e in
        get_or-append x u 0 i (rw p l) ∙ f i o ∙ sym (get_or-append y v 0 i (rw q l))
    go i false e o =
        let l : 9 ≤ i = ltb-false i 9 e in
        let z : i / 9 ≡ suc ((i - 9) / 9) = omega arith in
        let w : i % 9 ≡ (i - 9) % 9 = omega arith in
        let a : i ≡ length x + (i - 9) = omega (arith, p) in
        let c : i ≡ length y + (i - 9) = omega (arith, q) in
        ap (λ (n : ℕ). get_or (x ++ u) n 0) a ∙ get_or-append-add x u (i - 9) 0
        ∙ h.elsewhere (i - 9) (simp (z, w) at o)
        ∙ sym (ap (λ (n : ℕ). get_or (y ++ v) n 0) c ∙ get_or-append-add y v (i - 9) 0)

-- ---- all lines

none_but : EqualBut [] [] []
none_but = record { same_length = refl; elsewhere = λ i h. refl }

-- from benches that differ in the buffer's bytes
pub same_session : (b d : Bench) (ls ms : List (List ℕ)) → EqualBenches b d → Inputs b d ls ms → EqualSessions b d ls ms
unfolding takes_out step_at
same_session b d [] [] h i = record { same_takes = refl; outputs = none_but; benches = h }
same_session b d [] (m ∷ ms) h i = absurd i
same_session b d (l ∷ ls) [] h i = absurd i
same_session b d (l ∷ ls) (m ∷ ms) h i =
    let t : SameTurn b d (reading l) (reading m) = same_turn b d l m h i.0 in
    let r : EqualSessions (turned b (reading l)).after (turned d (reading m)).after ls ms =
    same_session (turned b (reading l)).after (turned d (reading m)).after ls ms t.bench_after i.1 in
    record {
      same_takes = ap₂ (λ (x : Bool) (xs : List Bool). x ∷ xs) t.takes_too r.same_takes;
      outputs =
          in_front _ _ (printed (turned b (reading l))) (printed (turned d (reading m))) _ _ (nine (turned b (reading l))) (nine (turned d (reading m)))
          (printed_but b d (reading l) (reading m) t _) r.outputs;
      benches = r.benches;
    }

pub masked : Masked
masked b ls ms = same_session b b ls ms (record { same_present = refl; same_control = refl })

pub masked_input : MaskedInput
masked_input b f g h =
    let m : EqualSessions b b (lines_in f.input) (lines_in g.input) = masked b (lines_in f.input) (lines_in g.input) h in
    let x = pieces b f.input f.calls f.lent f.room f.all_taken in
    let y = pieces b g.input g.calls g.lent g.room g.all_taken in (rw (x.0, y.0) m.outputs, rw (x.1, y.1) m.benches)
