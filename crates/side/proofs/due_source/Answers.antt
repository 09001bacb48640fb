-- IP and IE, with none held by IUS.
use mathlib.Core.Path.{◌∙◌}
use Rattle.side.proofs.Laws.{free_due}
use Rattle.side.proofs.due_source.Goals as goal

pub returns : goal.returns
returns c = c.search.ensures ∙ free_due c.args.s
