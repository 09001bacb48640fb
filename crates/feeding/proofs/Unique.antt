-- Each public function's contract leaves one result and one content of what was lent, at every model. Assumes nothing.
use mathlib.Core.Path.{refl, ap₂}
use mathlib.Core.List.{List}
use Prim.Native.Nat.{ℕ}
use seplogic.Ra.Ura.{Ura}
use base.Logic.{SProp}
use prog.Memory.{Memory}
use prog.Routine.{Routine}
use types.Logic.{Logic}
use contract.Monad.{Fun}
use Rattle.only.specs.Only.{Only}
use Rattle.only.proofs.Alone.{alone, lent_by_four}
use Rattle.feeding.specs.contracts.fio_session_start as session
use Rattle.feeding.specs.contracts.fio_session_feed as feed
use Rattle.feeding.specs.contracts.fio_session_finish as finish

module _ {M : Type 1} {𝓤 : Ura M} (𝓛 : Logic 𝓤) (mem : Memory → SProp 𝓤) (run : Routine → Fun 𝓤) where
  pub fio_session_start_only : Only 𝓛 session.ended (session.clauses 𝓛 mem run) (session.spec 𝓛 mem run)
  fio_session_start_only = alone refl

  pub fio_session_feed_only : Only 𝓛 feed.ended (feed.clauses 𝓛 mem run) (feed.spec 𝓛 mem run)
  fio_session_feed_only = lent_by_four (λ κs a x v result output buffer within. (result, ap₂ (λ (b o : List ℕ). (tt, (b, (tt, (o, tt))))) buffer output))

  pub fio_session_finish_only : Only 𝓛 finish.ended (finish.clauses 𝓛 mem run) (finish.spec 𝓛 mem run)
  fio_session_finish_only = lent_by_four (λ κs a x v result output buffer within. (result, ap₂ (λ (b o : List ℕ). (tt, (b, (o, tt)))) buffer output))
