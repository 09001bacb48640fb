-- Vector, Count Compare, Match and Mask take the byte that is written as it is: one function writes all four.
use Rattle.std.specs.Prelude.{ℕ, cond, eqb}
use Rattle.machine.specs.declared.Which.{Which}
use Rattle.machine.specs.declared.Side.{Side}
use Rattle.machine.specs.declared.Control.{Control}
use Rattle.machine.specs.Record.{side_of, with_side, with_vector, with_compare, with_pattern, with_mask}
use Rattle.machine.specs.Addresses.{vector_reg, compare_reg, match_reg, mask_reg}

abbrev pub own_anew : ℕ → ℕ → Side → Side
own_anew n x s =
    cond (eqb n vector_reg) (with_vector x s)
    (cond (eqb n compare_reg) (with_compare x s) (cond (eqb n match_reg) (with_pattern x s) (cond (eqb n mask_reg) (with_mask x s) s)))

abbrev pub wrote_own : Control → Which → ℕ → ℕ → Control
wrote_own c w n x = with_side w (own_anew n x (side_of c w)) c
