-- What it is for a contract to leave one result and one content of what was lent. It is said of the generated contract itself: the module of a function f has
-- `f.ended`, its signature, `f.clauses`, its `ensures` as a function of the arguments, the result and the parameters at exit, and `f.spec`, the contract that
-- its theorem is stated at. Assumes nothing.
use Rattle.std.specs.Prelude.{◌≡◌}
use seplogic.Ra.Ura.{Ura}
use base.Logic.{SProp, ent, sep}
use types.Logic.{Logic}
use contract.Lifetimes.{Lfts}
use contract.Monad.{fact, conj}
use denote.Triple.Entry.{Args, Res}
use denote.Triple.Spec.{Spec}
use denote.Triple.Clauses.{Ended, Clauses, Lasts, AtExit, at_exit, closing}

-- The contract s is made of the clauses c, and whatever the arguments: where the `ensures` holds of two results x, y and of two last contents v, w of what was
-- lent, they are the same.
pub record Only {M : Type 1} {𝓤 : Ura M} (𝓛 : Logic 𝓤) (T : Ended) (c : Clauses 𝓤 T) (s : Spec 𝓤 T.signature) : Type 2 where
  pub made_of : closing 𝓛 T c ≡ s
  pub one :
      (κs : Lfts T.signature.lifetimes) (a : Args T.signature κs) (g h : (c κs a).ghost) (x y : Res T.signature κs) (v w : Lasts T κs a)
      → ent 𝓤 (conj 𝓤 ((c κs a).ensures g x (at_exit T κs a v)) ((c κs a).ensures h y (at_exit T κs a w))) (fact 𝓤 ((x ≡ y) × (v ≡ w)))

-- ---- the forms of an `ensures`

module _ (T : Ended) where
  -- a result, and a last content of what was lent, for all arguments
  abbrev pub Result : Type 0
  Result = (κs : Lfts T.signature.lifetimes) → Args T.signature κs → Res T.signature κs

  abbrev pub Content : Type 0
  Content = (κs : Lfts T.signature.lifetimes) (a : Args T.signature κs) → Lasts T κs a

  -- what a clause says of the arguments, the result and the parameters at exit
  abbrev pub Claim : Type 1
  Claim = (κs : Lfts T.signature.lifetimes) → Args T.signature κs → Res T.signature κs → AtExit T κs → Type 0

  -- nothing is lent: of any two last contents the first is the second
  abbrev pub NothingLent : Type 0
  NothingLent = ◌≡◌ {A = (κs : Lfts T.signature.lifetimes) (a : Args T.signature κs) (v w : Lasts T κs a) → Lasts T κs a} (λ κs a v w. v) (λ κs a v w. w)

-- the clauses of a function, but for their `ensures`: ghosts and `requires`
pub record Before {M : Type 1} (𝓤 : Ura M) (T : Ended) : Type 2 where
  pub ghosts : (κs : Lfts T.signature.lifetimes) → Args T.signature κs → Type 0
  pub requires : (κs : Lfts T.signature.lifetimes) (a : Args T.signature κs) → ghosts κs a → SProp 𝓤

module _ {M : Type 1} (𝓤 : Ura M) {T : Ended} (b : Before 𝓤 T) where
  -- an `ensures` of one clause
  abbrev pub saying : Claim T → Clauses 𝓤 T
  saying P κs a = record { ghost = b.ghosts κs a; requires = b.requires κs a; ensures = λ g x e. fact 𝓤 (P κs a x e) }

  -- of two
  abbrev pub saying_two : Claim T → Claim T → Clauses 𝓤 T
  saying_two P Q κs a =
      record { ghost = b.ghosts κs a; requires = b.requires κs a; ensures = λ g x e. sep 𝓤 (fact 𝓤 (P κs a x e)) (fact 𝓤 (Q κs a x e)) }

  -- of four
  abbrev pub saying_four : Claim T → Claim T → Claim T → Claim T → Clauses 𝓤 T
  saying_four P Q R S κs a =
      record {
        ghost = b.ghosts κs a;
        requires = b.requires κs a;
        ensures = λ g x e.
            sep 𝓤 (fact 𝓤 (P κs a x e)) (sep 𝓤 (fact 𝓤 (Q κs a x e)) (sep 𝓤 (fact 𝓤 (R κs a x e)) (fact 𝓤 (S κs a x e))));
      }
