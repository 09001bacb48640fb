-- Each public function's contract leaves one result and one content of what was lent, at every model. Assumes nothing.
use mathlib.Core.Path.{refl, ap, ap₂}
use mathlib.Core.List.{List}
use Prim.Native.Nat.{ℕ}
use seplogic.Ra.Ura.{Ura}
use base.Logic.{SProp}
use prog.Memory.{Memory}
use prog.Routine.{Routine}
use types.Logic.{Logic}
use contract.Monad.{Fun}
use Rattle.only.specs.Only.{Only}
use Rattle.only.proofs.Alone.{alone, lent_by, lent_by_four}
use Rattle.session.specs.contracts.start as start
use Rattle.session.specs.contracts.answer_line as answer_line
use Rattle.session.specs.contracts.feed as feed
use Rattle.session.specs.contracts.finish as finish

module _ {M : Type 1} {𝓤 : Ura M} (𝓛 : Logic 𝓤) (mem : Memory → SProp 𝓤) (run : Routine → Fun 𝓤) where
  pub start_only : Only 𝓛 start.ended (start.clauses 𝓛 mem run) (start.spec 𝓛 mem run)
  start_only = alone refl

  pub answer_line_only : Only 𝓛 answer_line.ended (answer_line.clauses 𝓛 mem run) (answer_line.spec 𝓛 mem run)
  answer_line_only = lent_by (λ κs a x v p. (p.result, ap (λ (l : List ℕ). (tt, (l, (tt, tt)))) p.content))

  pub feed_only : Only 𝓛 feed.ended (feed.clauses 𝓛 mem run) (feed.spec 𝓛 mem run)
  feed_only = lent_by_four (λ κs a x v result output buffer within. (result, ap₂ (λ (b o : List ℕ). (tt, (b, (tt, (o, tt))))) buffer output))

  pub finish_only : Only 𝓛 finish.ended (finish.clauses 𝓛 mem run) (finish.spec 𝓛 mem run)
  finish_only = lent_by_four (λ κs a x v result output buffer within. (result, ap₂ (λ (b o : List ℕ). (tt, (b, (o, tt)))) buffer output))
