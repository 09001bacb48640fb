-- What a line does, by its cases, in the words of the code that does it. Assumes nothing.
use Rattle.std.specs.Prelude.{Ok, Err}
use Rattle.line.specs.Readings.{Reading, LineAnswer}
use Prim.Native.Nat.{ℕ, ◌/◌, ◌%◌}
use mathlib.Core.Path.{◌≡◌, refl, sym, ap, ◌∙◌, Cosingl, contract'}
use mathlib.Core.Bool.{Bool, true, false, cond}
use mathlib.Core.List.{List, [], ◌∷◌}
use lib.Dec.{leb}
use native.Mathlib.Omega.{arith}
use Rattle.machine.specs.declared.Control.{Control}
use Rattle.machine.specs.declared.Chip.{Chip}
use Rattle.machine.specs.declared.Step.{Step}
use Rattle.machine.specs.declared.Answer.{Answer}
use Rattle.machine.specs.declared.Answer.TheVariants.{Refused}
use Rattle.machine.specs.declared.Refusal.TheVariants.{NoMode}
use Rattle.machine.specs.declared.Stepped.{Stepped}
use Rattle.machine.specs.Record.{chip_over}
use Rattle.machine.specs.Reset.{fresh, started, Started}
use Rattle.machine.specs.Step.{proceeded, buffer_of, front_of}
use Rattle.machine.specs.Validity.{valid}
use Rattle.machine.proofs.Valid.{planned_valid, fresh_sound}
use Rattle.machine.proofs.Refused.{proceeded_is, refused_is}
use Rattle.chip.specs.declared.BesideBuffer.{BesideBuffer}
use Rattle.chip.specs.Lent.{LeavesStep}
use Rattle.line.specs.declared.Frame.TheVariants.{Begin, Does}
use Rattle.line.specs.declared.Partial.{Partial}
use Rattle.line.specs.declared.Fault.{Fault}
use Rattle.line.specs.Digits.{digit, pair}
use Rattle.line.specs.Unfinished.{blank, reading_of}
use Rattle.session.specs.declared.Session.{Session}
use Rattle.session.specs.declared.Answered.{Answered}
use Rattle.session.specs.declared.held.Held.{Held}
use Rattle.session.specs.declared.Turn.{Turn}
use Rattle.session.specs.Bench.{Bench, bench, turned, begins, steps, fields, printed, report_of, lines_of, count_of}
use Rattle.session.specs.Turns.{held_by, turn_by, handed, buffer_after, LeavesTurn, answered_of}
use Rattle.session.specs.Feed.{State, state, closed, reply}

-- what a chip's record and the test of it are
pub held_known : (h : Held) → h ≡ held_by h.present h.control
held_known h = sym (ap (λ (s : Cosingl (valid h.control)). record { present = h.present; control = h.control; ok = s.0; tested = s.1 }) (contract' h.tested))

pub turn_known : (h : Held) (a : LineAnswer) → ◌≡◌ {A = Turn} (record { held = h; answer = a }) (turn_by h.present h.control a)
turn_known h a = ap (λ (x : Held). record { held = x; answer = a }) (held_known h)

-- ---- a start

-- a new chip's record is valid
pub started_valid : (pins : ℕ) (c : Control) → started pins ≡ Ok c → valid c ≡ true
unfolding started
started_valid pins c e = go (leb pins 2) refl e
  where
    go : (b : Bool) → leb pins 2 ≡ b → cond b (Ok (fresh pins)) (Err NoMode) ≡ Ok c → valid c ≡ true
    go true h q = let s : fresh pins ≡ c = cc in ap valid (sym s) ∙ (fresh_sound pins h).fits
    go false h q = let z : ◌≡◌ {A = ℕ} 0 1 = cc in absurd (omega arith)

pub began : (b : Bench) (pins : ℕ) (r : Started) → r ≡ started pins → (t : Started) → r ≡ t
    → LeavesTurn (turned b (Ok (Begin pins))) (handed (begins b t)) (buffer_after (begins b t))
unfolding turned
began b pins r known t e = let q = ap (begins b) (sym e ∙ known) in record { result = ap handed q; content = ap buffer_after q }

-- ---- a step

pub proceeded_valid : (k : Chip) (s : Step) → valid k.control ≡ true → valid (proceeded k s).chip.control ≡ true
unfolding proceeded
proceeded_valid k s h = planned_valid k.control s (front_of k.control k.payload) h

module _ (k : Chip) (s : Step) where
  pub stays_valid : (r : BesideBuffer Answer) (l : List ℕ) → valid k.control ≡ true → LeavesStep (proceeded k s) r l → valid r.control ≡ true
  stays_valid r l h e = ap (λ (x : BesideBuffer Answer). valid x.control) e.leaves.result ∙ proceeded_valid k s h

  pub stepped : (r : BesideBuffer Answer) (l : List ℕ) → valid k.control ≡ true → LeavesStep (proceeded k s) r l
      → LeavesTurn (turned (bench true k) (Ok (Does s))) (turn_by true r.control (Ok r.answer)) l
  unfolding turned
  stepped r l h e =
      let q = proceeded_is k s h in
      record {
        result = ap (λ (x : BesideBuffer Answer). turn_by true x.control (Ok x.answer)) e.leaves.result ∙ ap (λ (x : Stepped Answer). handed (steps x)) q;
        content = e.leaves.content ∙ ap (λ (x : Stepped Answer). buffer_of x.chip) q;
      }

  pub not_valid : valid k.control ≡ false
      → LeavesTurn (turned (bench true k) (Ok (Does s))) (turn_by true k.control (Ok (Refused 1))) (buffer_of k)
  unfolding turned
  not_valid h =
      let q = sym (refused_is k s h) in
      record { result = ap (λ (x : Stepped Answer). handed (steps x)) q; content = ap (λ (x : Stepped Answer). buffer_of x.chip) q }

  pub no_chip : LeavesTurn (turned (bench false k) (Ok (Does s))) (turn_by false k.control (Ok (Refused 5))) (buffer_of k)
  unfolding turned
  no_chip = record { result = refl; content = refl }

-- ---- no frame

pub no_frame : (b : Bench) (f : Fault) → LeavesTurn (turned b (Err f)) (turn_by b.present b.chip.control (Err f)) (buffer_of b.chip)
unfolding turned
no_frame b f = record { result = refl; content = refl }

-- ---- the line that is being read

module _ (s : State) (r : Reading) (read : r ≡ reading_of s.line) (t : Turn) (is : t ≡ handed (turned s.bench r)) where
  pub closed_by_lem : (p : Partial) (l : List ℕ) → p ≡ blank → l ≡ buffer_after (turned s.bench r)
      → state p (bench t.held.present (chip_over t.held.control l)) ≡ closed s
  unfolding closed
  closed_by_lem p l e f =
      (λ i. state (e i) (bench (is i).held.present (chip_over (is i).held.control (f i))))
      ∙ ap (λ (x : Reading). state blank (turned s.bench x).after) read

  pub reply_by : report_of t.answer t.held.present t.held.control ≡ reply s
  unfolding reply printed lines_of count_of
  reply_by =
      ap (λ (x : Turn). report_of x.answer x.held.present x.held.control) is
      ∙ ap (λ (x : Reading). printed (turned s.bench x)) read

-- a report, digit by digit
pub fields_are : (n v l c : ℕ) {p q r s t u w x : ℕ} → p ≡ digit (n / 16 % 16) → q ≡ digit (n % 16) → r ≡ digit (v / 16 % 16) → s ≡ digit (v % 16)
    → t ≡ digit (l / 16 % 16) → u ≡ digit (l % 16) → w ≡ digit (c / 16 % 16) → x ≡ digit (c % 16)
    → (p ∷ q ∷ r ∷ s ∷ t ∷ u ∷ w ∷ x ∷ 10 ∷ []) ≡ fields n v l c
unfolding fields pair
fields_are n v l c e₁ e₂ e₃ e₄ e₅ e₆ e₇ e₈ = rw (e₁, e₂, e₃, e₄, e₅, e₆, e₇, e₈)

-- one whole line
module _ (s : Session) (b : Bench) (r : Reading) (t : Turn) (is : t ≡ handed (turned b r)) where
  pub answered_by : (l : List ℕ) → l ≡ report_of t.answer t.held.present t.held.control
      → ◌≡◌ {A = Answered} (record {
        before = s;
        after = record { partial = s.partial; present = t.held.present; control = t.held.control };
        answer = t.answer;
        report = l;
      }) (answered_of s (turned b r))
  unfolding printed lines_of count_of
  answered_by l e =
      (λ i. record { before = s; after = record { partial = s.partial; present = t.held.present; control = t.held.control }; answer = t.answer; report = e i })
      ∙ ap (λ (x : Turn). record {
        before = s;
        after = record { partial = s.partial; present = x.held.present; control = x.held.control };
        answer = x.answer;
        report = report_of x.answer x.held.present x.held.control;
      }) is
