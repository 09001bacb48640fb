-- Every row holds, by computation. Assumes nothing.
use mathlib.Core.Path.{refl}
use mathlib.Core.List.{[], ◌∷◌, flat_map}
use Rattle.machine.specs.Fifo.{offered}
use Rattle.machine.specs.Computed.{computed}
use Rattle.machine.specs.Worked.{observed, Worked}
use Rattle.machine.specs.Rules.{in_reset_writes, in_reset_reads, reset_two, reads_back, commands, frozen_own, line_enable, reader_afresh, turned_afresh, rules, Rules, offerings, Offers}
use Rattle.machine.proofs.Filled.{row_cleared}

to_line_enable : Worked (in_reset_writes ∷ in_reset_reads ∷ reset_two ∷ reads_back ∷ commands ∷ frozen_own ∷ line_enable ∷ [])
unfolding flat_map observed
to_line_enable = (refl, (refl, (refl, (refl, (refl, (refl, (refl, tt)))))))

from_reader_afresh : Worked (reader_afresh ∷ turned_afresh ∷ [])
unfolding flat_map observed
from_reader_afresh = (refl, (refl, tt))

pub rules_hold : Rules
unfolding rules
rules_hold =
    let (a, (b, (c, (d, (e, (f, (g, _))))))) = to_line_enable in
    (a, (b, (c, (d, (e, (f, (g, (row_cleared, from_reader_afresh))))))))

pub offers_hold : Offers
unfolding computed offered offerings
offers_hold = record { these = refl; no_other = refl }
