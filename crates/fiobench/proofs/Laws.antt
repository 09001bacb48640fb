-- Of a piece, what its feeds leave of it and that it is passed; of the turns, one more; of a finish, that it answers the last line. Assumes nothing.
use Prim.Native.Nat.{ℕ, ◌+◌, ◌-◌, ◌<◌, ◌≤◌}
use mathlib.Core.Path.{◌≡◌, sym, ap, ap₂, ◌∙◌}
use mathlib.Core.List.{List, [], ◌∷◌, ◌++◌, append-nil}
use native.Mathlib.Numerals.{add-one}
use native.Mathlib.Omega.{arith}
use lib.ListN.{length, take, drop, length-drop, take-append-drop}
use lib.Seq.{take-add, take_all, drop-drop}
use Rattle.session.specs.declared.Fed.{Fed}
use Rattle.session.specs.declared.Finished.{Finished}
use Rattle.session.specs.Feed.{State, state_of, after, last, part, taken, fed_of, finished_of, buffer_left}
use Rattle.session.proofs.Laws.{after_append}
use Rattle.std.specs.Prelude.{Option, Result, Ok, Err, IsErr}
use Rattle.fiobench.specs.declared.Failed.{Failed}
use Rattle.fiobench.specs.declared.Went.{Went}
use Rattle.fiobench.specs.declared.Went.TheVariants.{On}
use Rattle.fiobench.specs.Runs.{Passes, Turn, Turns}
use Rattle.whole.proofs.Pieces.{taken_last, taken_some}

-- some of a piece was fed, and this is left of it
abbrev pub FedTo : State → List ℕ → State → List ℕ → Type 0
FedTo s piece t rest = (n : ℕ) × (rest ≡ drop n piece) × (t ≡ after s (take n piece))

-- what a slice leaves behind its first n
abbrev pub behind : ℕ → List ℕ → List ℕ
behind n l = take (length l - n) (drop n l)

behind_is : (n : ℕ) (l : List ℕ) → behind n l ≡ drop n l
behind_is n l = take_all (length l - n) (drop n l) (omega (arith, length-drop n l))

-- a feed of what is left goes on
pub feeds_on : (s t : State) (piece rest out buffer : List ℕ) (f : Fed) → FedTo s piece t rest → f ≡ fed_of t rest out → buffer ≡ buffer_left t rest out
    → FedTo s piece (state_of f.session buffer) (behind f.used rest)
unfolding part
feeds_on s t piece rest out buffer f (n, r, h) e b =
    let u : ℕ = taken (length out) rest in (
      n + f.used,
      behind_is f.used rest ∙ ap (drop f.used) r ∙ drop-drop f.used n piece,
      ap₂ (λ (g : Fed) (l : List ℕ). state_of g.session l) e b
          ∙ ap₂ (λ (x : State) (l : List ℕ). after x (take u l)) h r
          ∙ sym (after_append s (take n piece) (take u (drop n piece)))
          ∙ ap (after s) (sym (take-add n u piece))
          ∙ ap (λ (g : Fed). after s (take (n + g.used) piece)) (sym e),
    )

-- and takes something
pub gains : (t : State) (rest out : List ℕ) (f : Fed) → f ≡ fed_of t rest out → 0 < length rest → 9 ≤ length out → length (behind f.used rest) < length rest
gains t rest out f e h r =
    omega (arith, ap (λ (g : Fed). g.used) e, taken_some (length out) rest r, ap (λ (l : List ℕ). length l) (behind_is f.used rest), length-drop f.used rest)

-- where nothing is left, all of it was fed
pub all_fed : (s t : State) (piece rest : List ℕ) (x : Unit {0}) → length rest ≡ 0 → FedTo s piece t rest → Passes s piece (Ok x) t
unfolding Passes
all_fed s t piece [] x e (n, r, h) = h ∙ ap (after s) (sym (append-nil (take n piece)) ∙ ap (λ (l : List ℕ). take n piece ++ l) r ∙ take-append-drop n piece)
all_fed s t piece (b ∷ bs) x e f = absurd (omega (arith, e))

-- where a write failed, some of it
pub some_fed : (s t : State) (piece rest : List ℕ) (w : Result (Unit {0}) Failed) → IsErr w → FedTo s piece t rest → Passes s piece w t
unfolding Passes
some_fed s t piece rest (Ok x) e f = absurd cc
some_fed s t piece rest (Err x) e (n, r, h) = (n, h)

-- after turns that went on, another
pub one_more : (n : ℕ) (s u t : State) (got : Result (Option ℕ) Failed) (input : List ℕ) (v w : Result Went Failed)
    → v ≡ w → Turns n s (Ok On) u → Turn u got input v t → Turns (n + 1) s w t
unfolding Turns
one_more n s u t got input v w e a b = rw add-one (u, got, input, a, rw e at b)

-- a finish that has room leaves the state after the last line
pub finish_leaves : (s : State) (out buffer : List ℕ) (f : Finished) → 9 ≤ length out → f ≡ finished_of s out → buffer ≡ buffer_left s (last s) out
    → state_of f.session buffer ≡ after s (last s)
finish_leaves s out buffer f h e b = ap₂ (λ (g : Finished) (l : List ℕ). state_of g.session l) e b ∙ ap (after s) (taken_last s out h)
