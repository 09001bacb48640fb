-- What one write does.
use Rattle.std.specs.Prelude.{ℕ, Result, Ok, Err}
use Rattle.fiobench.specs.declared.Failed.{Failed}

-- how many bytes it took
abbrev pub took : Result ℕ Failed → ℕ
took (Ok n) = n
took (Err e) = 0
