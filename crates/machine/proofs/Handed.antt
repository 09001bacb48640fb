-- What is said of records that are handed in, by computation. Assumes nothing.
use mathlib.Core.Path.{refl}
use mathlib.Core.List.{flat_map}
use Rattle.machine.specs.Computed.{computed}
use Rattle.machine.specs.Handed.{bounds, Handed}

pub handed_in : Handed
unfolding flat_map computed bounds
handed_in = record { beyond_refused = refl; at_obeyed = refl; beyond_kept = refl; rest_reads = refl; rest_quiet = refl; live_asks = refl }
