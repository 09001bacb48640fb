-- Contracts that leave one result and one content of what was lent, by the form of their `ensures`. A crate's `proofs/Unique.antt` shows it of each public function by one of these laws:
--     alone refl        the `ensures` is one equation, `r ≡ d`, and nothing is lent
--     alone_by refl f   it is one clause, of which f takes `r ≡ d`, and nothing is lent
--     lent_by f         it is one clause, of which f takes `r ≡ d` and what the parameters hold at the end: a tuple with a place for each, `tt` of what is not lent
--     lent_by_two f     the same of two clauses
--     lent_by_four f    and of four
-- Assumes nothing.
use mathlib.Core.Path.{◌≡◌, refl, sym, ap, ◌∙◌}
use seplogic.Ra.Ura.{Ura}
use base.Logic.{SProp, ent, sep, id⊢, via}
use types.Logic.{Logic}
use contract.Lifetimes.{Lfts}
use contract.Monad.{fact, fact_i, fact_use, conj, conj_l, conj_r, sep→conj}
use denote.Triple.Entry.{Args, Res}
use denote.Triple.Clauses.{Ended, Clauses, Lasts, AtExit, at_exit, closing}
use Rattle.only.specs.Only.{Only, Result, Content, Claim, NothingLent, Before, saying, saying_two, saying_four}

-- two that are equal to a third
same : {B : Type 0} {d x y : B} → x ≡ d → y ≡ d → x ≡ y
same p q = p ∙ sym q

module _ {M : Type 1} (𝓤 : Ura M) where
  -- two assertions, of each of which a fact follows, give a third fact
  both : {X Y : SProp 𝓤} (P Q R : Type 0) → ent 𝓤 X (fact 𝓤 P) → ent 𝓤 Y (fact 𝓤 Q) → (P → Q → R) → ent 𝓤 (conj 𝓤 X Y) (fact 𝓤 R)
  both {X} {Y} P Q R l r f = fact_use 𝓤 P (via 𝓤 X (conj_l 𝓤 X Y) l) (λ p. fact_use 𝓤 Q (via 𝓤 Y (conj_r 𝓤 X Y) r) (λ q. fact_i 𝓤 R _ (f p q)))

  -- a clause before others
  joined : {Y : SProp 𝓤} (P Q : Type 0) → ent 𝓤 Y (fact 𝓤 Q) → ent 𝓤 (sep 𝓤 (fact 𝓤 P) Y) (fact 𝓤 (P × Q))
  joined {Y} P Q r = via 𝓤 (conj 𝓤 (fact 𝓤 P) Y) (sep→conj 𝓤 (fact 𝓤 P) Y) (both P Q (P × Q) (id⊢ 𝓤 _) r (λ p q. (p, q)))

  four : (P Q R S : Type 0) → ent 𝓤 (sep 𝓤 (fact 𝓤 P) (sep 𝓤 (fact 𝓤 Q) (sep 𝓤 (fact 𝓤 R) (fact 𝓤 S)))) (fact 𝓤 (P × (Q × (R × S))))
  four P Q R S = joined P (Q × (R × S)) (joined Q (R × S) (joined R S (id⊢ 𝓤 _)))

-- ---- nothing is lent

module _ {M : Type 1} {𝓤 : Ura M} {𝓛 : Logic 𝓤} {T : Ended} {b : Before 𝓤 T} {d : Result T} where
  pub alone_by : {P : Claim T} → NothingLent T → ((κs : Lfts T.signature.lifetimes) (a : Args T.signature κs) (x : Res T.signature κs) (e : AtExit T κs) → P κs a x e → x ≡ d κs a) → Only 𝓛 T (saying 𝓤 b P) (closing 𝓛 T (saying 𝓤 b P))
  alone_by n f = record { made_of = refl; one = λ κs a g h x y v w. both 𝓤 _ _ _ (id⊢ 𝓤 _) (id⊢ 𝓤 _) (λ p q. (same (f κs a x _ p) (f κs a y _ q), ap (λ l. l κs a v w) n)) }

  pub alone : NothingLent T → Only 𝓛 T (saying 𝓤 b (λ κs a x e. x ≡ d κs a)) (closing 𝓛 T (saying 𝓤 b (λ κs a x e. x ≡ d κs a)))
  alone n = alone_by n (λ κs a x e p. p)

-- ---- something is lent

module _ {M : Type 1} {𝓤 : Ura M} {𝓛 : Logic 𝓤} {T : Ended} {d : Result T} {l : Content T} where
  -- any clauses, of which P follows
  settled : {c : Clauses 𝓤 T} (P : (κs : Lfts T.signature.lifetimes) (a : Args T.signature κs) → Res T.signature κs → Lasts T κs a → Type 0) → ((κs : Lfts T.signature.lifetimes) (a : Args T.signature κs) (g : (c κs a).ghost) (x : Res T.signature κs) (v : Lasts T κs a) → ent 𝓤 ((c κs a).ensures g x (at_exit T κs a v)) (fact 𝓤 (P κs a x v))) → ((κs : Lfts T.signature.lifetimes) (a : Args T.signature κs) (x : Res T.signature κs) (v : Lasts T κs a) → P κs a x v → (x ≡ d κs a) × (v ≡ l κs a)) → Only 𝓛 T c (closing 𝓛 T c)
  settled P s f = record { made_of = refl; one = λ κs a g h x y v w. both 𝓤 _ _ _ (s κs a g x v) (s κs a h y w) (λ p q. (same (f κs a x v p).0 (f κs a y w q).0, same (f κs a x v p).1 (f κs a y w q).1)) }

  pub lent_by : {b : Before 𝓤 T} {P : Claim T} → ((κs : Lfts T.signature.lifetimes) (a : Args T.signature κs) (x : Res T.signature κs) (v : Lasts T κs a) → P κs a x (at_exit T κs a v) → (x ≡ d κs a) × (v ≡ l κs a)) → Only 𝓛 T (saying 𝓤 b P) (closing 𝓛 T (saying 𝓤 b P))
  lent_by f = settled _ (λ κs a g x v. id⊢ 𝓤 _) f

  pub lent_by_two : {b : Before 𝓤 T} {P Q : Claim T} → ((κs : Lfts T.signature.lifetimes) (a : Args T.signature κs) (x : Res T.signature κs) (v : Lasts T κs a) → P κs a x (at_exit T κs a v) → Q κs a x (at_exit T κs a v) → (x ≡ d κs a) × (v ≡ l κs a)) → Only 𝓛 T (saying_two 𝓤 b P Q) (closing 𝓛 T (saying_two 𝓤 b P Q))
  lent_by_two f = settled _ (λ κs a g x v. joined 𝓤 _ _ (id⊢ 𝓤 _)) (λ κs a x v p. f κs a x v p.0 p.1)

  pub lent_by_four : {b : Before 𝓤 T} {P Q R S : Claim T} → ((κs : Lfts T.signature.lifetimes) (a : Args T.signature κs) (x : Res T.signature κs) (v : Lasts T κs a) → P κs a x (at_exit T κs a v) → Q κs a x (at_exit T κs a v) → R κs a x (at_exit T κs a v) → S κs a x (at_exit T κs a v) → (x ≡ d κs a) × (v ≡ l κs a)) → Only 𝓛 T (saying_four 𝓤 b P Q R S) (closing 𝓛 T (saying_four 𝓤 b P Q R S))
  lent_by_four f = settled _ (λ κs a g x v. four 𝓤 _ _ _ _) (λ κs a x v p. f κs a x v p.0 p.1.0 p.1.1.0 p.1.1.1)
