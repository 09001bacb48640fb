-- The steps of a session are the machine's history of these steps. Assumes nothing.
use Rattle.std.specs.Prelude.{Ok, Err}
use Rattle.line.specs.Readings.{Reading, LineAnswer}
use mathlib.Core.Path.{◌≡◌, refl, sym, ap, ◌∙◌}
use mathlib.Core.Bool.{Bool, true, false, cond}
use mathlib.Core.List.{List, [], ◌∷◌, ◌++◌}
use lib.Dec.{leb}
use Rattle.machine.specs.declared.Chip.{Chip}
use Rattle.machine.specs.Answers.{number, value}
use Rattle.machine.specs.declared.Refusal.TheVariants.{NoMode}
use Rattle.machine.specs.Reset.{fresh, new_chip, started}
use Rattle.machine.specs.Step.{step}
use Rattle.machine.specs.History.{Entry, history, lines}
use Rattle.line.specs.declared.Frame.TheVariants.{Begin, Does}
use Rattle.line.specs.Frames.{reading}
use Rattle.session.specs.Bench.{Bench, bench, turned, begins, fields, printed, lines_of, count_of}
use Rattle.whole.specs.Histories.{entry_by, entry_of, entries, Chapters, chapters, with_line, chapters_in, histories_of, Histories, PrintsEntry}

-- the history of the chip that is there, if one is, then those of the new ones
abbrev from : Bench → Chapters → List Entry
from b c = cond b.present (history b.chip c.before) [] ++ histories_of c.begun

none : (p : Bool) → ◌≡◌ {A = List Entry} (cond p [] []) []
none true = refl
none false = refl

-- a line, then others that are so from whatever bench it leaves
one_more : (p : Bool) (k : Chip) (r : Reading) (c : Chapters) (es : Bench → List Entry) → ((b : Bench) → es b ≡ from b c)
    → entry_of (turned (bench p k) r) r ++ es (turned (bench p k) r).after ≡ from (bench p k) (with_line r c)
unfolding turned history started
one_more p k (Err f) c es e = e (bench p k)
one_more p k (Ok (Begin pins)) c es e = go (leb pins 2)
  where
    go : (x : Bool) → es (begins (bench p k) (cond x (Ok (fresh pins)) (Err NoMode))).after
        ≡ from (bench p k) (cond x (chapters [] (record { pins = pins; steps = c.before } ∷ c.begun)) c)
    go true = e (bench true (new_chip pins)) ∙ ap (λ (l : List Entry). l ++ from (bench true (new_chip pins)) c) (sym (none p))
    go false = e (bench p k)
one_more true k (Ok (Does s)) c es e =
    ap (λ (l : List Entry). entry_of (turned (bench true k) (Ok (Does s))) (Ok (Does s)) ++ l) (e (bench true (step k s).chip))
one_more false k (Ok (Does s)) c es e = e (bench false k)

pub histories : Histories
unfolding history
histories b [] = ap (λ (l : List Entry). l ++ []) (sym (none b.present))
histories b (l ∷ ls) = one_more b.present b.chip (reading l) (chapters_in ls) (λ x. entries x ls) (λ x. histories x ls)

pub prints_entry : PrintsEntry
unfolding printed lines_of count_of
prints_entry t (Err f) e h = cc
prints_entry t (Ok (Begin pins)) e h = cc
prints_entry t (Ok (Does s)) e h = go t.after.present refl t.answer refl h
  where
    go : (p : Bool) → t.after.present ≡ p → (a : LineAnswer) → t.answer ≡ a → cond p (entry_by s a t.after.chip) [] ≡ e ∷ []
        → printed t ≡ fields (number e.answer) (value e.answer) e.after_lines e.after.control.count
    go true q (Ok a) r k =
        let x : ◌≡◌ {A = Entry} (record { asked = s; answer = a; after_lines = lines t.after.chip.control; after = t.after.chip }) e = cc in
        rw (q, r) (ap (λ (y : Entry). fields (number y.answer) (value y.answer) y.after_lines y.after.control.count) x)
    go true q (Err f) r k = cc
    go false q a r k = cc
