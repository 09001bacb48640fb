-- Every row of the table holds, by computation. Assumes nothing.
use mathlib.Core.Path.{refl}
use mathlib.Core.List.{[], ◌∷◌}
use Rattle.machine.specs.Worked.{observed, Worked}
use Rattle.machine.specs.Cases.{case_c, case_d, case_e, case_f, case_g, case_h, case_i, case_j, case_k, case_l, slip_release, slip_own_way, slip_waiting_state, slip_clear_owner, session, table, Cases}
use Rattle.machine.proofs.Filled.{row_a, row_b, row_seven_bits}

c_to_l : Worked (case_c ∷ case_d ∷ case_e ∷ case_f ∷ case_g ∷ case_h ∷ case_i ∷ case_j ∷ case_k ∷ case_l ∷ [])
unfolding observed
c_to_l = (refl, (refl, (refl, (refl, (refl, (refl, (refl, (refl, (refl, (refl, tt))))))))))

from_release : Worked (slip_release ∷ slip_own_way ∷ slip_waiting_state ∷ slip_clear_owner ∷ session ∷ [])
unfolding observed
from_release = (refl, (refl, (refl, (refl, (refl, tt)))))

pub cases : Cases
unfolding table
cases =
    let (c, (d, (e, (f, (g, (h, (i, (j, (k, (l, _)))))))))) = c_to_l in
    (row_a, (row_b, (c, (d, (e, (f, (g, (h, (i, (j, (k, (l, (row_seven_bits, from_release)))))))))))))
