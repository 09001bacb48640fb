-- A line is refused at a column from 1 to 7, and the byte that is printed tells the refusal and the column. Assumes nothing.
use Rattle.std.specs.Prelude.{Ok, Err}
use Prim.Native.Nat.{ℕ, ◌+◌, ◌/◌, ◌%◌}
use mathlib.Core.Path.{◌≡◌, refl, sym, subst}
use mathlib.Core.Bool.{Bool, true, false, cond, not, ◌&&◌, ◌||◌}
use mathlib.Core.Option.{Option, none, some}
use native.Mathlib.Omega.{arith}
use lib.Dec.{eqb, ltb}
use borrow.Author.Tests.{ltb-true}
use Rattle.line.specs.declared.Fault.{Fault}
use Rattle.line.specs.declared.Fault.TheVariants.{NotHex, TooShort, TooLong, UnknownKind, UnusedByte}
use Rattle.line.specs.Faults.{refusal, column, unused, first}
use Rattle.line.specs.Frames.{Kind, kind_of, meant, meaning}
use Rattle.line.specs.Refused.{ColumnFits, Columns}
use Rattle.line.specs.Answers.{value, Told}
use Rattle.line.specs.Unfinished.{blank, reading_of, grown, ColumnsKept}
use Rattle.line.proofs.Faults.{of_bytes, address_first, shape_fault, told_or}
use Rattle.line.proofs.Unfinished.{read_grown}

-- ---- the column

meant_fits : (o : Option Kind) (a d : ℕ) → ColumnFits (meant o a d)
unfolding meant unused first
meant_fits none a d = (omega arith, omega arith)
meant_fits (some k) a d = go (k.uses_address || eqb a 0) (k.uses_data || eqb d 0)
  where
    go : (s t : Bool) → ColumnFits (of_bytes s t (Ok (k.frame a d)))
    go true true = tt
    go true false = (omega arith, omega arith)
    go false t = subst ColumnFits (sym (address_first t (Ok (k.frame a d)))) (omega arith, omega arith)

shape_fits : (d : ℕ) (more : Bool) → ColumnFits (Err (shape_fault d more))
shape_fits d more = go (ltb d 6) refl more
  where
    go : (x : Bool) → ltb d 6 ≡ x → (m : Bool) → ColumnFits (Err (cond x (cond m (NotHex (d + 1)) (TooShort (d + 1))) TooLong))
    go true e true = let h = ltb-true d 6 e in (omega arith, omega arith)
    go true e false = let h = ltb-true d 6 e in (omega arith, omega arith)
    go false e m = (omega arith, omega arith)

fits : (b : Bool) (n a d c : ℕ) (more : Bool) → ColumnFits (cond b (meaning n a d) (Err (shape_fault c more)))
unfolding meaning
fits true n a d c more = meant_fits (kind_of n) a d
fits false n a d c more = shape_fits c more

pub columns_kept : ColumnsKept
unfolding reading_of
columns_kept p =
    subst ColumnFits (sym (told_or p.digits p.fault (meaning (p.value / 0x10000) (p.value / 0x100 % 0x100) (p.value % 0x100))))
    (fits (not p.fault && eqb p.digits 6) (p.value / 0x10000) (p.value / 0x100 % 0x100) (p.value % 0x100) p.digits p.fault)

pub columns : Columns
columns l = subst ColumnFits (read_grown l) (columns_kept (grown blank l))

-- ---- the byte

told_by_lem : (f : Fault) → ColumnFits (Err f) → (40 + value (Err f) / 16 ≡ refusal f) × (value (Err f) % 16 ≡ column f)
told_by_lem (NotHex c) h = let k = h.1 in (omega arith, omega arith)
told_by_lem (TooShort c) h = let k = h.1 in (omega arith, omega arith)
told_by_lem TooLong h = (refl, refl)
told_by_lem UnknownKind h = (refl, refl)
told_by_lem (UnusedByte c) h = let k = h.1 in (omega arith, omega arith)

pub told : Told
told l f h = told_by_lem f (subst ColumnFits h (columns l))
