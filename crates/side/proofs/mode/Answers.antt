-- The entry at that place, and no row for pins above 2.
use Prim.Native.Nat.{ℕ, ◌+◌, ◌*◌, ◌%◌, ◌≤◌}
use mathlib.Core.Path.{◌≡◌, ap, ◌∙◌}
use mathlib.Core.List.{map}
use lib.ListN.{get_or, get_or-map}
use Rattle.machine.specs.declared.Bus.{Bus}
use Rattle.machine.specs.declared.Row.{Row}
use Rattle.machine.specs.Modes.{row, rows, modes}
use Rattle.machine.proofs.Table.{row_at, no_row_lem}
use Rattle.side.proofs.mode.Goals as goal

abbrev pair : Row → Bus × Bus
pair r = (r.one, r.two)

pair_at : (d : Bus × Bus) (m b : ℕ) → m ≤ 2 → let p : Bus × Bus = get_or (map pair rows) (m * 4 + b % 4) d in row p.0 p.1 ≡ modes m b
pair_at d m b h = ap (λ (p : Bus × Bus). row p.0 p.1) (get_or-map pair rows (m * 4 + b % 4) (row d.0 d.1)) ∙ row_at (row d.0 d.1) m b h

pub returns-then-m-gt2 : goal.returns-then-m-gt2
returns-then-m-gt2 c = no_row_lem c.args.m c.args.b c.if-m-gt2.true

pub returns : goal.returns
returns c = pair_at _ c.args.m c.args.b c.if-m-gt2.false
