-- For a loop that feeds an input piece by piece: each feed goes on where the one before it stopped, and takes something. Assumes nothing.
use Prim.Native.Nat.{ℕ, ◌+◌, ◌-◌, ◌≤◌, ◌<◌}
use mathlib.Core.Path.{◌≡◌, sym, ap, ap₂, ◌∙◌}
use mathlib.Core.List.{List}
use native.Mathlib.Omega.{arith}
use lib.ListN.{length, take, drop, length-take, length-drop}
use lib.Seq.{take-add}
use Rattle.session.specs.declared.Fed.{Fed}
use Rattle.session.specs.Feed.{State, state_of, after, taken, fed_of, buffer_left}
use Rattle.session.proofs.Laws.{after_append}
use Rattle.whole.proofs.Pieces.{part_is, taken_some}

-- a feed of the bytes from a place to another
module _ (s : State) (input out : List ℕ) (at stop : ℕ) (f : Fed) (e : f ≡ fed_of s (take (stop - at) (drop at input)) out) where
  -- if the bytes before that place led to where it began, it leads to where those before the next place lead
  pub goes_on : (s₀ : State) (buffer : List ℕ) → s ≡ after s₀ (take at input) → buffer ≡ buffer_left s (take (stop - at) (drop at input)) out
      → state_of f.session buffer ≡ after s₀ (take (at + f.used) input)
  goes_on s₀ buffer h b =
      let u : ℕ = taken (length out) (take (stop - at) (drop at input)) in
      ap₂ (λ (g : Fed) (l : List ℕ). state_of g.session l) e b
      ∙ ap₂ after h (part_is (stop - at) (drop at input) out)
      ∙ sym (after_append s₀ (take at input) (take u (drop at input)))
      ∙ ap (after s₀) (sym (take-add at u input))
      ∙ ap (λ (g : Fed). after s₀ (take (at + g.used) input)) (sym e)

  -- and less is left, where there was something and the output has room for an answer
  pub gains : at < stop → stop ≤ length input → 9 ≤ length out → length input - (at + f.used) < length input - at
  gains h k r =
      omega (arith, ap (λ (g : Fed). g.used) e, taken_some (length out) (take (stop - at) (drop at input)) r, length-take (stop - at) (drop at input), length-drop at input)
