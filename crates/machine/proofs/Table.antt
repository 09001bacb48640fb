-- Table 2: its twelve rows are those of the document's columns, checked once over all entries. Assumes nothing.
use Prim.Native.Nat.{ℕ, zero, suc, ◌+◌, ◌*◌, ◌/◌, ◌%◌, ◌^◌, ◌<◌, ◌≤◌}
use mathlib.Core.Path.{◌≡◌, refl, sym, subst, ◌∙◌}
use mathlib.Core.Bool.{Bool, true, false, cond, ◌&&◌, beq}
use mathlib.Core.List.{List, [], ◌∷◌}
use mathlib.Core.Logic.{⊎_elim}
use native.Mathlib.Nat.{not-suc-le-zero, eq-or-lt_of_le, le_of_suc-le-suc, mod-lt, div-one}
use native.Mathlib.Omega.{arith}
use lib.Dec.{eqb, leb, lit<}
use lib.ListN.{get_or, length}
use borrow.Author.Tests.{lt-leb, le-leb, ne_eqb, leb-true, leb-false}
use Rattle.bits.specs.Bits.{field, every}
use Rattle.bits.proofs.Laws.{at, beq_same, and_left, and_right}
use Rattle.machine.specs.declared.Bus.{Bus}
use Rattle.machine.specs.declared.Bus.TheVariants.{Low, High, NonZBus, ThreeWire, TwoWire}
use Rattle.machine.specs.declared.Row.{Row}
use Rattle.machine.specs.Modes.{row, rows, no_row, modes, is_high}

-- a statement at each number below n
abbrev Each : (ℕ → Type 0) → ℕ → Type 0
Each P zero = Unit {0}
Each P (suc n) = Each P n × P n

each : (P : ℕ → Type 0) (n : ℕ) → Each P n → (k : ℕ) → k < n → P k
each P zero e k h = absurd (not-suc-le-zero h)
each P (suc n) e k h = ⊎_elim (λ q. subst P (sym q) e.1) (λ l. each P n e.0 k l) (eq-or-lt_of_le (le_of_suc-le-suc h))

-- ---- the columns

-- the column of side 1, by M
abbrev pub column_one : ℕ → Bus
column_one m = cond (eqb m 0) Low (cond (eqb m 1) High NonZBus)

-- the four columns of side 2, by B; the first follows M
abbrev pub column_two : ℕ → ℕ → Bus
column_two m b = cond (eqb b 0) (cond (eqb m 1) High Low) (cond (eqb b 1) NonZBus (cond (eqb b 2) ThreeWire TwoWire))

abbrev Ruled : ℕ → ℕ → Type 0
Ruled m b = modes m b ≡ row (column_one m) (column_two m b)

all_ruled : Each (λ m. Each (Ruled m) 4) 3
unfolding modes field
all_ruled =
    (((tt, ((((tt, refl), refl), refl), refl)), ((((tt, refl), refl), refl), refl)), ((((tt, refl), refl), refl), refl))

-- b counts by its two lowest bits
low_bits : (m b : ℕ) → modes m b ≡ modes m (field 2 0 b)
unfolding modes field
low_bits m b = let e : b / 2 ^ 0 % 2 ^ 2 / 2 ^ 0 % 2 ^ 2 ≡ b / 2 ^ 0 % 2 ^ 2 = simp div-one (omega arith) in rw e

pub columns : (m b : ℕ) → m ≤ 2 → modes m b ≡ row (column_one m) (column_two m (field 2 0 b))
unfolding field
columns m b h =
    low_bits m b ∙ each (Ruled m) 4 (each (λ m. Each (Ruled m) 4) 3 all_ruled m (omega arith)) (field 2 0 b) (mod-lt (b / 2 ^ 0) (lit< tt))

-- ---- a row by its place

-- within a list, get_or has no use for its default
within : {A : Type 0} (l : List A) (i : ℕ) (d e : A) → i < length l → get_or l i d ≡ get_or l i e
within [] i d e h = absurd (not-suc-le-zero h)
within (x ∷ l) zero d e h = refl
within (x ∷ l) (suc i) d e h = within l i d e (le_of_suc-le-suc h)

pub row_at : (d : Row) (m b : ℕ) → m ≤ 2 → get_or rows (m * 4 + b % 4) d ≡ modes m b
unfolding modes field
row_at d m b h = rw (le-leb m 2 h, div-one) (within rows (m * 4 + b % 4) d no_row (omega arith))

-- pins above 2 have no bus
pub no_row_lem : (m b : ℕ) → 2 < m → no_row ≡ modes m b
unfolding modes
no_row_lem m b h = rw (lt-leb m 2 h)

-- ---- where a bus is Z-BUS High: side 1's with pins 1, side 2's with B 0 too

abbrev is_ruled : ℕ → ℕ → Bool
is_ruled m b = beq (is_high (modes m b).one) (eqb m 1) && beq (is_high (modes m b).two) (eqb m 1 && eqb b 0)

high_rows : every (λ m. every (is_ruled m) 4) 3 ≡ true
unfolding every modes field
high_rows = refl

pub high : (m b : ℕ) → b < 4 → (is_high (modes m b).one ≡ eqb m 1) × (is_high (modes m b).two ≡ (eqb m 1 && eqb b 0))
high m b k = go (leb m 2) refl
  where
    go : (x : Bool) → leb m 2 ≡ x → (is_high (modes m b).one ≡ eqb m 1) × (is_high (modes m b).two ≡ (eqb m 1 && eqb b 0))
    go true h =
        let r = at (is_ruled m) 4 (at (λ m. every (is_ruled m) 4) 3 high_rows m (omega (arith, leb-true m 2 h))) b k in
        let one = beq (is_high (modes m b).one) (eqb m 1) in
        let two = beq (is_high (modes m b).two) (eqb m 1 && eqb b 0) in
        (beq_same (is_high (modes m b).one) (eqb m 1) (and_left one two r), beq_same (is_high (modes m b).two) (eqb m 1 && eqb b 0) (and_right one two r))
    go false h =
        let l = leb-false m 2 h in
        let n : eqb m 1 ≡ false = ne_eqb m 1 (λ e. omega arith) in
        (rw (← no_row_lem m b l, n), rw (← no_row_lem m b l, n))
