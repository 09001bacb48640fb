-- IP and IE, with none held.
use mathlib.Core.Path.{◌∙◌}
use Rattle.side.proofs.Laws.{free_pending}
use Rattle.side.proofs.pending_source.Goals as goal

pub returns : goal.returns
returns c = c.search.ensures ∙ free_pending c.args.s
