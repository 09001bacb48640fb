-- How the reading went, and the state that it leaves.
use Rattle.std.specs.Prelude.{ℕ, zero, suc, ◌≡◌, ◌≢◌, List, take, Option, None, Some, Result, Ok, Err}
use Rattle.session.specs.Feed.{State, after, last}
use Rattle.fiobench.specs.declared.Failed.{Failed}
use Rattle.fiobench.specs.declared.Went.{Went}
use Rattle.fiobench.specs.declared.Went.TheVariants.{On, Ended}

-- how many bytes a read gave
abbrev pub gave : Result (Option ℕ) Failed → ℕ
gave (Ok (Some n)) = n
gave (Ok None) = 0
gave (Err e) = 0

-- a piece that is fed leads from a state to another: all of it; or some of it from its start, where a write failed
unfoldable pub Passes : {A : Type 0} → State → List ℕ → Result A Failed → State → Type 0
Passes s piece (Ok x) t = t ≡ after s piece
Passes s piece (Err e) t = (n : ℕ) × (t ≡ after s (take n piece))

-- a turn, by what its read answered: without bytes the input has ended; the bytes at the start of the input are passed; a signal changes nothing; an error
-- stops
unfoldable pub Turn : State → Result (Option ℕ) Failed → List ℕ → Result Went Failed → State → Type 0
Turn s (Ok (Some zero)) input w t = (w ≡ Ok Ended) × (t ≡ s)
Turn s (Ok (Some (suc n))) input w t = (w ≢ Ok Ended) × Passes s (take (suc n) input) w t
Turn s (Ok None) input w t = (w ≡ Ok On) × (t ≡ s)
Turn s (Err e) input w t = (w ≡ Err e) × (t ≡ s)

-- so many turns, one after the other: each but the last went on
unfoldable pub Turns : ℕ → State → Result Went Failed → State → Type 0
Turns zero s w t = (w ≡ Ok On) × (t ≡ s)
Turns (suc n) s w t = (u : State) × (got : Result (Option ℕ) Failed) × (input : List ℕ) × Turns n s (Ok On) u × Turn u got input w t

-- a last line without LF is answered where the input ended, and only there
abbrev pub closed_by : Result Went Failed → State → State
closed_by (Ok On) s = s
closed_by (Ok Ended) s = after s (last s)
closed_by (Err e) s = s
