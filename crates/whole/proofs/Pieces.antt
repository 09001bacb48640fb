-- Whatever the pieces and the outputs, a session's output is that of its lines, one by one. Assumes nothing.
use Rattle.line.specs.Readings.{Reading}
use Prim.Native.Nat.{ℕ, suc, ◌-◌, ◌<◌, ◌≤◌, min}
use mathlib.Core.Path.{◌≡◌, refl, sym, ap, ap₂, ◌∙◌}
use mathlib.Core.Bool.{Bool, true, false, cond}
use mathlib.Core.List.{List, [], ◌∷◌, ◌++◌, append_assoc, append-nil}
use native.Mathlib.Omega.{arith}
use lib.Dec.{eqb, ltb}
use lib.ListN.{length, take, drop, length-take, length-drop, take-append-drop}
use lib.Seq.{take-take, take-append_seam}
use borrow.Author.Tests.{le-ltb, eqb-true, eqb-false}
use Rattle.line.specs.declared.Partial.{Partial}
use Rattle.line.specs.Frames.{reading}
use Rattle.line.specs.Unfinished.{blank, grown, begun}
use Rattle.line.proofs.Unfinished.{grown_append, read_grown, begun_grown}
use Rattle.session.specs.Bench.{Bench, turned, printed}
use Rattle.session.specs.Feed.{State, state, closed, reply, ate, told, after, said, taken, part, fed_of, output_of, last}
use Rattle.whole.specs.Whole.{onto, lines_in, answers, left, Ran, ran, NothingLost, Pieces, FinishWaits, Progress}
use Rattle.session.proofs.Laws.{after_append, said_append, ate_line, ate_byte, told_line, told_byte, taken_line, taken_full}

-- ---- calls

-- no more is taken than there is
taken_le : (room : ℕ) (l : List ℕ) → taken room l ≤ length l
taken_le room [] = omega arith
taken_le room (b ∷ bs) = go (eqb b 10) (ltb room 9) (taken_le (room - 9) bs) (taken_le room bs)
  where
    go : (x y : Bool) → taken (room - 9) bs ≤ length bs → taken room bs ≤ length bs
        → cond x (cond y 0 (suc (taken (room - 9) bs))) (suc (taken room bs)) ≤ suc (length bs)
    go true true p q = omega arith
    go true false p q = omega arith
    go false y p q = omega arith

-- what a call takes is the beginning of what was left
pub part_is : (n : ℕ) (input out : List ℕ) → part (take n input) out ≡ take (taken (length out) (take n input)) input
unfolding part
part_is n input out =
    take-take (taken (length out) (take n input)) n input (omega (arith, taken_le (length out) (take n input), length-take n input))

-- what a call writes
call_wrote : (s : State) (input out : List ℕ) → take (fed_of s input out).written (output_of s input out) ≡ said s (part input out)
call_wrote s input out = take-append_seam (said s (part input out)) (drop (length (said s (part input out))) out)

pub nothing_lost : NothingLost
nothing_lost s input [] = (refl, refl)
nothing_lost s input (c ∷ cs) =
    let piece : List ℕ = take c.offered input in
    let u : ℕ = taken (length c.lent) piece in
    let p : List ℕ = part piece c.lent in
    let r : Ran = ran (after s p) (drop u input) cs in
    let e : p ++ drop u input ≡ input = ap (λ (l : List ℕ). l ++ drop u input) (part_is c.offered input c.lent) ∙ take-append-drop u input in
    let ih = nothing_lost (after s p) (drop u input) cs in (
      ap (said s) (sym e) ∙ said_append s p (drop u input)
          ∙ ap₂ (λ (x y : List ℕ). x ++ y) (sym (call_wrote s piece c.lent)) ih.0
          ∙ sym (append_assoc (take (fed_of s piece c.lent).written (output_of s piece c.lent)) r.wrote (said r.state_after r.rest)),
      ap (after s) (sym e) ∙ after_append s p (drop u input) ∙ ih.1,
    )

abbrev ending : Bool → List ℕ
ending b = cond b (10 ∷ []) []

pub taken_last : (s : State) (out : List ℕ) → 9 ≤ length out → part (last s) out ≡ last s
unfolding part
taken_last s out h = go (begun s.line)
  where
    go : (b : Bool) → take (taken (length out) (ending b)) (ending b) ≡ ending b
    go true = ap (λ (n : ℕ). take n (ending true)) (taken_line (length out) 10 [] refl h)
    go false = refl

-- a finish that has no room
untaken_last : (s : State) (out : List ℕ) → length out < 9 → taken (length out) (last s) ≡ 0
untaken_last s out h = go (begun s.line)
  where
    go : (b : Bool) → taken (length out) (ending b) ≡ 0
    go true = taken_full (length out) 10 [] refl h
    go false = refl

pub finish_waits : FinishWaits
unfolding part
finish_waits s lent h = let e = untaken_last s lent h in (rw e, rw e, rw e)

-- ---- calls go on

-- of something, something is taken where there is room for an answer
pub taken_some : (room : ℕ) (l : List ℕ) → 9 ≤ room → min 1 (length l) ≤ taken room l
taken_some room [] h = omega arith
taken_some room (b ∷ bs) h = go (eqb b 10)
  where
    go : (x : Bool) → min 1 (suc (length bs)) ≤ cond x (cond (ltb room 9) 0 (suc (taken (room - 9) bs))) (suc (taken room bs))
    go true = rw (le-ltb room 9 h) (omega arith)
    go false = omega arith

none_left : (l : List ℕ) → length l ≤ 0 → l ≡ []
none_left [] h = refl
none_left (x ∷ xs) h = absurd (omega arith)

pub progress : Progress
progress s input [] f h = none_left input h
progress s input (c ∷ cs) f h =
    let piece : List ℕ = take c.offered input in
    let u : ℕ = taken (length c.lent) piece in
    progress (after s (part piece c.lent)) (drop u input) cs f.2
    (let f₀ = f.0 in omega (arith, length-drop u input, length-take c.offered input, taken_some (length c.lent) piece f.1))

-- ---- lines

-- characters in front of the first line
abbrev joined : List ℕ → List (List ℕ) → List (List ℕ)
joined [] ls = ls
joined (c ∷ cs) ls = onto c (joined cs ls)

joined_more : (pre : List ℕ) (b : ℕ) (ls : List (List ℕ)) → joined (pre ++ (b ∷ [])) ls ≡ joined pre (onto b ls)
joined_more [] b ls = refl
joined_more (c ∷ cs) b ls = ap (onto c) (joined_more cs b ls)

joined_line : (pre : List ℕ) (ls : List (List ℕ)) → joined pre ([] ∷ ls) ≡ pre ∷ ls
joined_line [] ls = refl
joined_line (c ∷ cs) ls = ap (onto c) (joined_line cs ls)

joined_end : (c : ℕ) (cs : List ℕ) → joined (c ∷ cs) [] ≡ (c ∷ cs) ∷ []
joined_end c [] = refl
joined_end c (d ∷ ds) = ap (onto c) (joined_end d ds)

-- what the state after some characters of a line answers is what the plain reading of the line says
reply_is : (pre : List ℕ) (k : Bench) → reply (state (grown blank pre) k) ≡ printed (turned k (reading pre))
unfolding reply
reply_is pre k = ap (λ (r : Reading). printed (turned k r)) (read_grown pre)

closed_is : (pre : List ℕ) (k : Bench) → closed (state (grown blank pre) k) ≡ state blank (turned k (reading pre)).after
unfolding closed
closed_is pre k = ap (λ (r : Reading). state blank (turned k r).after) (read_grown pre)

-- what is written, and what is left
record Outcome : Type 0 where
  out : List ℕ
  end : State

abbrev outcome : List ℕ → State → Outcome
outcome l s = record { out = l; end = s }

abbrev front : List ℕ → Outcome → Outcome
front l o = outcome (l ++ o.out) o.end

-- of the bytes of an input, and of the LF that its last line may lack
abbrev whole : State → List ℕ → Outcome
whole s input = outcome (said s input ++ said (after s input) (last (after s input))) (after (after s input) (last (after s input)))

-- of lines, one by one
abbrev each : Bench → List (List ℕ) → Outcome
each k ls = outcome (answers k ls) (state blank (left k ls))

-- at the end of the input
by_last : (k : Bench) (pre : List ℕ) → whole (state (grown blank pre) k) [] ≡ each k (joined pre [])
by_last k [] = refl
by_last k (c ∷ cs) =
    let s : State = state (grown blank (c ∷ cs)) k in
    ap (λ (b : Bool). outcome (said s (ending b)) (after s (ending b))) (begun_grown (c ∷ cs))
    ∙ ap₂ (λ (l : List ℕ) (t : State). outcome (l ++ []) t) (told_line s 10 refl ∙ reply_is (c ∷ cs) k) (ate_line s 10 refl ∙ closed_is (c ∷ cs) k)
    ∙ sym (ap (each k) (joined_end c cs))

whole_cons : (s : State) (b : ℕ) (bs : List ℕ) → whole s (b ∷ bs) ≡ front (told s b) (whole (ate s b) bs)
whole_cons s b bs =
    ap (λ (l : List ℕ). outcome l (whole s (b ∷ bs)).end) (append_assoc (told s b) (said (ate s b) bs) (said (after (ate s b) bs) (last (after (ate s b) bs))))

by_lines : (k : Bench) (pre bs : List ℕ) → whole (state (grown blank pre) k) bs ≡ each k (joined pre (lines_in bs))
by_lines k pre [] = by_last k pre
by_lines k pre (b ∷ bs) =
    whole_cons (state (grown blank pre) k) b bs
    ∙ go (eqb b 10) refl (by_lines (turned k (reading pre)).after [] bs) (by_lines k (pre ++ (b ∷ [])) bs)
  where
    go : (x : Bool) → eqb b 10 ≡ x
        → whole (state blank (turned k (reading pre)).after) bs ≡ each (turned k (reading pre)).after (lines_in bs)
        → whole (state (grown blank (pre ++ (b ∷ []))) k) bs ≡ each k (joined (pre ++ (b ∷ [])) (lines_in bs))
        → front (told (state (grown blank pre) k) b) (whole (ate (state (grown blank pre) k) b) bs) ≡ each k (joined pre (cond x ([] ∷ lines_in bs) (onto b (lines_in bs))))
    go true e next more =
        let h = eqb-true b 10 e in
        ap₂ (λ (l : List ℕ) (s : State). front l (whole s bs)) (told_line (state (grown blank pre) k) b h ∙ reply_is pre k) (ate_line (state (grown blank pre) k) b h ∙ closed_is pre k)
        ∙ ap (front (printed (turned k (reading pre)))) next
        ∙ sym (ap (each k) (joined_line pre (lines_in bs)))
    go false e next more =
        let h = eqb-false b 10 e in
        ap₂ (λ (l : List ℕ) (s : State). front l (whole s bs)) (told_byte (state (grown blank pre) k) b h) (ate_byte (state (grown blank pre) k) b h)
        ∙ ap (λ (p : Partial). whole (state p k) bs) (sym (grown_append blank pre (b ∷ [])))
        ∙ more
        ∙ ap (each k) (joined_more pre b (lines_in bs))

pub pieces : Pieces
pieces k input calls lent h e =
    let s : State = state blank k in
    let r : Ran = ran s input calls in
    let t : State = r.state_after in
    let all = nothing_lost s input calls in
    let wrote-all : r.wrote ≡ said s input = sym (all.0 ∙ ap (λ (l : List ℕ). r.wrote ++ said t l) e ∙ append-nil r.wrote) in
    let there : t ≡ after s input = sym (all.1 ∙ ap (after t) e) in
    let lines = by_lines k [] input in (
      ap₂ (λ (x y : List ℕ). x ++ y) wrote-all
          (call_wrote t (last t) lent ∙ ap (said t) (taken_last t lent h) ∙ ap (λ (x : State). said x (last x)) there)
          ∙ ap (λ (o : Outcome). o.out) lines,
      ap (after t) (taken_last t lent h) ∙ ap (λ (x : State). after x (last x)) there ∙ ap (λ (o : Outcome). o.end) lines,
    )
