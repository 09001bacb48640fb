-- That each public function's contract leaves one result, at every model, but for that of `read_file`: what a file holds is not known. Assumes nothing.
use mathlib.Core.Path.{◌≡◌, refl, sym, ap, ◌∙◌}
use mathlib.Core.List.{List}
use native.Mathlib.Omega.{arith}
use Prim.Native.Nat.{ℕ}
use denote.Ref.{Bor}
use Rattle.std.specs.Prelude.{Option, Some, None}
use Rattle.std.specs.Option.{option_copied}
use Rattle.text.specs.Lines.{GivesLine}
use seplogic.Ra.Ura.{Ura}
use base.Logic.{SProp}
use prog.Memory.{Memory}
use prog.Routine.{Routine}
use types.Logic.{Logic}
use contract.Monad.{Fun}
use Rattle.only.specs.Only.{Only}
use Rattle.only.proofs.Alone.{alone}
use Rattle.text.specs.contracts.line_end as line_end
use Rattle.text.specs.contracts.Lines.new as new

module _ {M : Type 1} {𝓤 : Ura M} (𝓛 : Logic 𝓤) (mem : Memory → SProp 𝓤) (run : Routine → Fun 𝓤) where
  pub line_end_only : Only 𝓛 line_end.ended (line_end.clauses 𝓛 mem run) (line_end.spec 𝓛 mem run)
  line_end_only = alone refl

  pub new_only : Only 𝓛 new.ended (new.clauses 𝓛 mem run) (new.spec 𝓛 mem run)
  new_only = alone refl

-- of a text one line and one rest
pub next_only : (text : List ℕ) (r q : Option (Bor (List ℕ))) (left rest : List ℕ) → GivesLine text r left → GivesLine text q rest
    → (option_copied r ≡ option_copied q) × (left ≡ rest)
next_only text None None left rest g h = (refl, g.1 ∙ sym h.1)
next_only text None (Some y) left rest g h = absurd (omega (arith, g.0, h.0))
next_only text (Some x) None left rest g h = absurd (omega (arith, g.0, h.0))
next_only text (Some x) (Some y) left rest g h = (ap Some (g.1 ∙ sym h.1), g.2 ∙ sym h.2)
