-- Each exported function's contract leaves one result and one content of what was lent, at every model. Assumes nothing.
use mathlib.Core.Path.{refl, ap, ap₂}
use mathlib.Core.List.{List}
use Prim.Native.Nat.{ℕ}
use seplogic.Ra.Ura.{Ura}
use base.Logic.{SProp}
use prog.Memory.{Memory}
use prog.Routine.{Routine}
use types.Logic.{Logic}
use contract.Monad.{Fun}
use Rattle.only.specs.Only.{Only}
use Rattle.only.proofs.Alone.{alone, lent_by, lent_by_two, lent_by_four}
use Rattle.host_c.specs.contracts.fio_start as start
use Rattle.host_c.specs.contracts.fio_step as step
use Rattle.host_c.specs.contracts.fio_line_fault as line_fault
use Rattle.host_c.specs.contracts.fio_lines as lines
use Rattle.host_c.specs.contracts.fio_count as count
use Rattle.host_c.specs.contracts.fio_burst_in as burst_in
use Rattle.host_c.specs.contracts.fio_burst_out as burst_out
use Rattle.host_c.specs.contracts.fio_session_start as session
use Rattle.host_c.specs.contracts.fio_session_feed as feed
use Rattle.host_c.specs.contracts.fio_session_finish as finish

module _ {M : Type 1} {𝓤 : Ura M} (𝓛 : Logic 𝓤) (mem : Memory → SProp 𝓤) (run : Routine → Fun 𝓤) where
  pub fio_start_only : Only 𝓛 start.ended (start.clauses 𝓛 mem run) (start.spec 𝓛 mem run)
  fio_start_only = lent_by (λ κs a x v p. (p.result, ap (λ (l : List ℕ). (tt, (l, tt))) p.content))

  pub fio_step_only : Only 𝓛 step.ended (step.clauses 𝓛 mem run) (step.spec 𝓛 mem run)
  fio_step_only = lent_by (λ κs a x v p. (p.result, ap (λ (l : List ℕ). (tt, (l, (tt, (tt, (tt, tt)))))) p.content))

  pub fio_line_fault_only : Only 𝓛 line_fault.ended (line_fault.clauses 𝓛 mem run) (line_fault.spec 𝓛 mem run)
  fio_line_fault_only = alone refl

  pub fio_lines_only : Only 𝓛 lines.ended (lines.clauses 𝓛 mem run) (lines.spec 𝓛 mem run)
  fio_lines_only = alone refl

  pub fio_count_only : Only 𝓛 count.ended (count.clauses 𝓛 mem run) (count.spec 𝓛 mem run)
  fio_count_only = alone refl

  pub fio_burst_in_only : Only 𝓛 burst_in.ended (burst_in.clauses 𝓛 mem run) (burst_in.spec 𝓛 mem run)
  fio_burst_in_only = lent_by (λ κs a x v p. (p.result, ap (λ (l : List ℕ). (tt, (l, (tt, (tt, tt))))) p.content))

  pub fio_burst_out_only : Only 𝓛 burst_out.ended (burst_out.clauses 𝓛 mem run) (burst_out.spec 𝓛 mem run)
  fio_burst_out_only = lent_by_two (λ κs a x v p m. (p.result, ap₂ (λ (b n : List ℕ). (tt, (b, (tt, (n, tt))))) p.content m))

  pub fio_session_start_only : Only 𝓛 session.ended (session.clauses 𝓛 mem run) (session.spec 𝓛 mem run)
  fio_session_start_only = alone refl

  pub fio_session_feed_only : Only 𝓛 feed.ended (feed.clauses 𝓛 mem run) (feed.spec 𝓛 mem run)
  fio_session_feed_only = lent_by_four (λ κs a x v result output buffer within. (result, ap₂ (λ (b o : List ℕ). (tt, (b, (tt, (o, tt))))) buffer output))

  pub fio_session_finish_only : Only 𝓛 finish.ended (finish.clauses 𝓛 mem run) (finish.spec 𝓛 mem run)
  fio_session_finish_only = lent_by_four (λ κs a x v result output buffer within. (result, ap₂ (λ (b o : List ℕ). (tt, (b, (o, tt)))) buffer output))
