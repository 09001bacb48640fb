-- Which fault is told: by how many hex digits a line begins with, and whether it goes on behind them. Assumes nothing.
use Rattle.std.specs.Prelude.{Ok, Err}
use Rattle.line.specs.Readings.{Reading}
use Prim.Native.Nat.{ℕ, zero, suc, ◌+◌, ◌<◌, ◌≤◌}
use mathlib.Core.Path.{◌≡◌, refl, sym, ap, ◌∙◌}
use mathlib.Core.Bool.{Bool, true, false, cond, not, ◌&&◌, and-true, and-false}
use mathlib.Core.List.{List, [], ◌∷◌, ◌++◌}
use mathlib.Core.Logic.{inl, inr}
use native.Mathlib.Nat.{zero-add}
use native.Mathlib.Omega.{arith}
use lib.Dec.{eqb, ltb, leb-suc-suc, eqb-suc-zero, eqb-suc-suc}
use lib.ListN.{length, take}
use borrow.Author.Tests.{eqb-true, lt-ltb, le-ltb, ltb-true, ltb-false}
use Rattle.line.specs.declared.Frame.{Frame}
use Rattle.line.specs.declared.Fault.{Fault}
use Rattle.line.specs.declared.Fault.TheVariants.{NotHex, TooShort, TooLong, UnusedByte}
use Rattle.line.specs.Digits.{is_hex, all_hex}
use Rattle.line.specs.Faults.{column, not_hex, misshapen, leftmost, first, NoneLeftOf, OneOf, Leftmost}
use Rattle.line.specs.Frames.{byte_at, meaning, reading}
use Rattle.line.specs.Unfinished.{lead}

-- ---- the leftmost

pub leftmost_is : Leftmost
leftmost_is f [] = (inl refl, (omega arith, tt))
leftmost_is f (g ∷ gs) = go (ltb (column g) (column f)) refl (leftmost_is f gs) (leftmost_is g gs)
  where
    go : (b : Bool) → ltb (column g) (column f) ≡ b
        → OneOf (leftmost f gs) (f ∷ gs) × NoneLeftOf (column (leftmost f gs)) (f ∷ gs)
        → OneOf (leftmost g gs) (g ∷ gs) × NoneLeftOf (column (leftmost g gs)) (g ∷ gs)
        → OneOf (cond b (leftmost g gs) (leftmost f gs)) (f ∷ g ∷ gs) × NoneLeftOf (column (cond b (leftmost g gs) (leftmost f gs))) (f ∷ g ∷ gs)
    go true e p q =
        let h : column g < column f = ltb-true (column g) (column f) e in
        let k : column (leftmost g gs) ≤ column g = q.1.0 in
        let m : column (leftmost g gs) ≤ column f = omega arith in
        (inr q.0, (m, q.1))
    go false e p q =
        let h : column f ≤ column g = ltb-false (column g) (column f) e in
        let k : column (leftmost f gs) ≤ column f = p.1.0 in
        let m : column (leftmost f gs) ≤ column g = omega arith in
        (skip p.0, (k, (m, p.1.1)))
      where
        skip : OneOf (leftmost f gs) (f ∷ gs) → OneOf (leftmost f gs) (f ∷ g ∷ gs)
        skip (inl e) = inl e
        skip (inr o) = inr (inr o)

-- a fault with none left of it is the leftmost
stays : (f : Fault) (gs : List Fault) → NoneLeftOf (column f) gs → leftmost f gs ≡ f
stays f [] h = refl
stays f (g ∷ gs) h = rw (le-ltb (column g) (column f) h.0) (stays f gs h.1)

none_append : (c : ℕ) (fs gs : List Fault) → NoneLeftOf c fs → NoneLeftOf c gs → NoneLeftOf c (fs ++ gs)
none_append c [] gs h k = k
none_append c (f ∷ fs) gs h k = (h.0, none_append c fs gs h.1 k)

none_one : (c : ℕ) (b : Bool) (f : Fault) → c ≤ column f → NoneLeftOf c (cond b (f ∷ []) [])
none_one c true f h = (h, tt)
none_one c false f h = tt

none_hex : (c d : ℕ) (l : List ℕ) → c ≤ d → NoneLeftOf c (not_hex d l)
none_hex c d [] h = tt
none_hex c d (x ∷ xs) h = go (is_hex x) (none_hex c (d + 1) xs (omega arith))
  where
    go : (b : Bool) → NoneLeftOf c (not_hex (d + 1) xs) → NoneLeftOf c (cond b (not_hex (d + 1) xs) (NotHex d ∷ not_hex (d + 1) xs))
    go true r = r
    go false r = (h, r)

-- a frame has no fault
pub no_fault : (fs : List Fault) (r : Reading) (f : Frame) → first fs r ≡ Ok f → r ≡ Ok f
unfolding first
no_fault [] r f e = e
no_fault (x ∷ xs) r f e = cc

-- what follows a character that is no hex digit lies behind it
behind : (c m : ℕ) (xs : List ℕ) (t u : Bool) → c ≤ m → c ≤ 7
    → leftmost (NotHex c) (not_hex (c + 1) xs ++ cond t (TooShort m ∷ []) [] ++ cond u (TooLong ∷ []) []) ≡ NotHex c
behind c m xs t u h k =
    stays (NotHex c) (not_hex (c + 1) xs ++ cond t (TooShort m ∷ []) [] ++ cond u (TooLong ∷ []) [])
    (none_append c (not_hex (c + 1) xs ++ cond t (TooShort m ∷ []) []) (cond u (TooLong ∷ []) [])
    (none_append c (not_hex (c + 1) xs) (cond t (TooShort m ∷ []) []) (none_hex c (c + 1) xs (omega arith)) (none_one c t (TooShort m) h)) (none_one c u TooLong k))

-- ---- two bytes

-- the faults of an address and of data, by whether each is none
abbrev pub of_bytes : Bool → Bool → Reading → Reading
of_bytes s t r = first (cond s [] (UnusedByte 3 ∷ []) ++ cond t [] (UnusedByte 5 ∷ [])) r

-- the address is left of the data
pub address_first : (t : Bool) (r : Reading) → of_bytes false t r ≡ Err (UnusedByte 3)
unfolding first
address_first true r = refl
address_first false r = refl

-- ---- the faults from a column on, with room for n characters

abbrev shape : ℕ → ℕ → List ℕ → List Fault
shape c n l = not_hex c (take n l) ++ cond (ltb (length l) n) (TooShort (length l + c) ∷ []) [] ++ cond (ltb n (length l)) (TooLong ∷ []) []

-- what is told, by how many digits come first and whether more comes behind them
abbrev pub told_by : ℕ → ℕ → ℕ → Bool → Reading → Reading
told_by c n d more r = cond (ltb d n) (Err (cond more (NotHex (d + c)) (TooShort (d + c)))) (cond (not more && eqb d n) r (Err TooLong))

pub ltb_suc : (m n : ℕ) → ltb (suc m) (suc n) ≡ ltb m n
ltb_suc m n = leb-suc-suc (suc m) n

shape_told : (n c : ℕ) (l : List ℕ) (r : Reading) → n + c ≡ 7 → first (shape c n l) r ≡ told_by c n (lead n l) (ltb (lead n l) (length l)) r
unfolding first lead
shape_told zero c [] r h = refl
shape_told (suc n) c [] r h = rw (lt-ltb 0 (suc n) (omega arith), le-ltb (suc n) 0 (omega arith))
shape_told zero c (b ∷ bs) r h = rw (lt-ltb 0 (suc (length bs)) (omega arith), le-ltb (suc (length bs)) 0 (omega arith))
shape_told (suc n) c (b ∷ bs) r h = go (is_hex b) (shape_told n (c + 1) bs r)
  where
    go : (x : Bool) → (n + (c + 1) ≡ 7 → first (shape (c + 1) n bs) r ≡ told_by (c + 1) n (lead n bs) (ltb (lead n bs) (length bs)) r)
        → first (cond x (not_hex (c + 1) (take n bs)) (NotHex c ∷ not_hex (c + 1) (take n bs)) ++ cond (ltb (suc (length bs)) (suc n)) (TooShort (suc (length bs) + c) ∷ []) [] ++ cond (ltb (suc n) (suc (length bs))) (TooLong ∷ []) []) r
        ≡ told_by c (suc n) (cond x (suc (lead n bs)) 0) (ltb (cond x (suc (lead n bs)) 0) (suc (length bs))) r
    go true k =
        let p : suc (length bs) + c ≡ length bs + (c + 1) = omega arith in
        let q : suc (lead n bs) + c ≡ lead n bs + (c + 1) = omega arith in
        rw (p, q, ltb_suc (length bs) n, ltb_suc n (length bs), ltb_suc (lead n bs) n, ltb_suc (lead n bs) (length bs), eqb-suc-suc (lead n bs) n) (k (omega arith))
    go false k =
        rw (lt-ltb 0 (suc n) (omega arith), lt-ltb 0 (suc (length bs)) (omega arith), zero-add c)
        (ap Err (behind c (suc (length bs) + c) (take n bs) (ltb (suc (length bs)) (suc n)) (ltb (suc n) (suc (length bs))) (omega arith) (omega arith)))

-- ---- of a whole line

-- no character behind n hex digits: n characters, each a hex digit
pub whole : (n : ℕ) (l : List ℕ) → (not (ltb (lead n l) (length l)) && eqb (lead n l) n) ≡ (eqb (length l) n && all_hex l)
unfolding lead all_hex
whole n [] = sym (and-true (eqb 0 n))
whole zero (b ∷ bs) = rw (lt-ltb 0 (suc (length bs)) (omega arith), eqb-suc-zero (length bs))
whole (suc n) (b ∷ bs) = go (is_hex b) (whole n bs)
  where
    go : (x : Bool) → (not (ltb (lead n bs) (length bs)) && eqb (lead n bs) n) ≡ (eqb (length bs) n && all_hex bs)
        → (not (ltb (cond x (suc (lead n bs)) 0) (suc (length bs))) && eqb (cond x (suc (lead n bs)) 0) (suc n)) ≡ (eqb (suc (length bs)) (suc n) && (x && all_hex bs))
    go true r = rw (ltb_suc (lead n bs) (length bs), eqb-suc-suc (lead n bs) n, eqb-suc-suc (length bs) n) r
    go false r = rw (lt-ltb 0 (suc (length bs)) (omega arith), and-false (eqb (suc (length bs)) (suc n)))

-- the fault that is told of a line, if its characters are not six hex digits
abbrev pub shape_fault : ℕ → Bool → Fault
shape_fault d more = cond (ltb d 6) (cond more (NotHex (d + 1)) (TooShort (d + 1))) TooLong

pub told_or : (d : ℕ) (more : Bool) (r : Reading) → told_by 1 6 d more r ≡ cond (not more && eqb d 6) r (Err (shape_fault d more))
told_or d more r = go (ltb d 6) refl (eqb d 6) refl more
  where
    go : (x : Bool) → ltb d 6 ≡ x → (y : Bool) → eqb d 6 ≡ y → (m : Bool)
        → cond x (Err (cond m (NotHex (d + 1)) (TooShort (d + 1)))) (cond (not m && y) r (Err TooLong))
        ≡ cond (not m && y) r (Err (cond x (cond m (NotHex (d + 1)) (TooShort (d + 1))) TooLong))
    go true p true q m = let h = ltb-true d 6 p in let k = eqb-true d 6 q in absurd (omega arith)
    go true p false q m = rw (and-false (not m))
    go false p y q m = refl

-- how many digits come first, and whether more comes behind them
abbrev pub goes_on : List ℕ → Bool
goes_on l = ltb (lead 6 l) (length l)

-- a line by its first hex digits
pub read_by : (l : List ℕ) → reading l ≡ told_by 1 6 (lead 6 l) (goes_on l) (meaning (byte_at l 0) (byte_at l 2) (byte_at l 4))
unfolding reading misshapen
read_by l = shape_told 6 1 l (meaning (byte_at l 0) (byte_at l 2) (byte_at l 4)) refl

-- a line is what its three bytes mean, or one of 41 to 43
pub read_or : (l : List ℕ)
    → reading l ≡ cond (eqb (length l) 6 && all_hex l) (meaning (byte_at l 0) (byte_at l 2) (byte_at l 4)) (Err (shape_fault (lead 6 l) (goes_on l)))
read_or l = rw (← whole 6 l) (read_by l ∙ told_or (lead 6 l) (goes_on l) (meaning (byte_at l 0) (byte_at l 2) (byte_at l 4)))
