-- A line character by character is the line as a whole. Assumes nothing.
use Rattle.std.specs.Prelude.{Err}
use Rattle.line.specs.Readings.{Reading}
use Prim.Native.Nat.{ℕ, zero, suc, ◌+◌, ◌*◌, ◌/◌, ◌%◌, ◌^◌, ◌<◌, ◌≤◌}
use mathlib.Core.Path.{◌≡◌, refl, sym, ap, ◌∙◌}
use mathlib.Core.Bool.{Bool, true, false, cond, not, ◌&&◌, and-false}
use mathlib.Core.List.{List, [], ◌∷◌, ◌++◌}
use native.Mathlib.Nat.{zero-add, add-zero, pow-suc, pow-le-pow_right}
use native.Mathlib.Numerals.{add-one}
use native.Mathlib.Omega.{arith}
use lib.Dec.{eqb, ltb, lit<}
use lib.ListN.{length, take}
use borrow.Author.Tests.{ne_eqb, eqb-true, lt-ltb, le-ltb}
use Rattle.line.specs.declared.Partial.{Partial}
use Rattle.line.specs.Digits.{is_hex, nibble, all_hex}
use Rattle.line.specs.Frames.{meaning, byte_at, reading}
use Rattle.line.specs.Unfinished.{partial, blank, longer, begun, reading_of, grown, lead, valued, kept, Kept, ReadGrown, BegunGrown}
use Rattle.line.proofs.Digits.{nibble_lt}
use Rattle.line.proofs.Faults.{ltb_suc, whole, goes_on, shape_fault, told_or, read_or}
use Rattle.line.proofs.RoundTrip.{six, six_hex}

pub grown_append : (p : Partial) (xs ys : List ℕ) → grown p (xs ++ ys) ≡ grown (grown p xs) ys
grown_append p [] ys = refl
grown_append p (x ∷ xs) ys = grown_append (longer p x) xs ys

-- ---- a fault stays

stays : (v n : ℕ) (l : List ℕ) → grown (partial v n true) l ≡ partial v n true
unfolding longer
stays v n [] = refl
stays v n (b ∷ bs) = stays v n bs

pub fault_stays : (p : Partial) → p.fault ≡ true → (l : List ℕ) → (grown p l).fault ≡ true
fault_stays p e l =
    ap (λ (b : Bool). (grown (partial p.value p.digits b) l).fault) e ∙ ap (λ (q : Partial). q.fault) (stays p.value p.digits l)

-- what is no digit is a fault
pub no_digit : (p : Partial) (b : ℕ) → is_hex b ≡ false → (longer p b).fault ≡ true
unfolding longer
no_digit p b e = rw (e, and-false (not p.fault && ltb p.digits 6))

-- ---- what is kept

-- n digits more have room behind d digits
abbrev KeptFrom : ℕ → ℕ → ℕ → List ℕ → Type 0
KeptFrom n v d l = grown (partial v d false) l ≡ partial (valued v (take (lead n l) l)) (d + lead n l) (ltb (lead n l) (length l))

kept_from : (n v d : ℕ) (l : List ℕ) → d + n ≡ 6 → v < 16 ^ d → KeptFrom n v d l
unfolding longer lead valued
kept_from n v d [] h k = ap (λ (n : ℕ). partial v n false) (sym (add-zero d))
kept_from zero v d (b ∷ bs) h k =
    let s : d ≡ 6 = omega arith in
    rw (add-zero d, le-ltb d 6 (omega arith), lt-ltb 0 (suc (length bs)) (omega arith)) (stays v d bs)
kept_from (suc n) v d (b ∷ bs) h k = go (is_hex b) refl (kept_from n (v * 16 + nibble b) (d + 1) bs)
  where
    go : (x : Bool) → is_hex b ≡ x → (d + 1 + n ≡ 6 → v * 16 + nibble b < 16 ^ (d + 1) → KeptFrom n (v * 16 + nibble b) (d + 1) bs)
        → grown (cond (ltb d 6 && x) (partial (v % 1048576 * 16 + nibble b) (d + 1) false) (partial v d true)) bs
        ≡ partial (valued v (take (cond x (suc (lead n bs)) 0) (b ∷ bs))) (d + cond x (suc (lead n bs)) 0) (ltb (cond x (suc (lead n bs)) 0) (suc (length bs)))
    go true e r =
        let w : 16 ^ d ≤ 16 ^ 5 = pow-le-pow_right (lit< tt) {i = d} {j = 5} (omega arith) in
        let m : v % 1048576 ≡ v = omega arith in
        let x : d + suc (lead n bs) ≡ d + 1 + lead n bs = omega arith in
        rw (lt-ltb d 6 (omega arith), m, x, ltb_suc (lead n bs) (length bs))
        (r (omega arith) (rw (add-one d) (omega (arith, pow-suc 16 d, nibble_lt b e))))
    go false e r = rw (and-false (ltb d 6), add-zero d, lt-ltb 0 (suc (length bs)) (omega arith)) (stays v d bs)

pub kept_is : Kept
unfolding kept
kept_is l = rw (zero-add (lead 6 l)) at (kept_from 6 0 0 l refl (lit< tt))

-- ---- it reads as the whole line

-- three bytes in one number
thirds : (x y z : ℕ) → y < 256 → z < 256 → (v : ℕ) → v ≡ x * 65536 + y * 256 + z → meaning (v / 65536) (v / 256 % 256) (v % 256) ≡ meaning x y z
thirds x y z h k v e =
    let p : v / 65536 ≡ x = omega arith in
    let q : v / 256 % 256 ≡ y = omega arith in
    let r : v % 256 ≡ z = omega arith in
    rw (p, q, r)

-- the number of six hex digits is that of their three bytes
read_six : (l : List ℕ) → length l ≡ 6 → all_hex l ≡ true
    → meaning ((kept l).value / 65536) ((kept l).value / 256 % 256) ((kept l).value % 256) ≡ meaning (byte_at l 0) (byte_at l 2) (byte_at l 4)
unfolding kept lead valued byte_at
read_six =
    six (λ l. all_hex l ≡ true → meaning ((kept l).value / 65536) ((kept l).value / 256 % 256) ((kept l).value % 256) ≡ meaning (byte_at l 0) (byte_at l 2) (byte_at l 4))
    (λ a b c d e f h.
    let x = six_hex a b c d e f h in
    let n₃ = nibble_lt c x.h₃ in
    let n₄ = nibble_lt d x.h₄ in
    let n₅ = nibble_lt e x.h₅ in
    let n₆ = nibble_lt f x.h₆ in
    rw (x.h₁, x.h₂, x.h₃, x.h₄, x.h₅, x.h₆)
    (thirds (nibble a * 16 + nibble b) (nibble c * 16 + nibble d) (nibble e * 16 + nibble f) (omega arith) (omega arith) _ (omega arith)))

read_kept : (l : List ℕ) → reading_of (kept l) ≡ reading l
unfolding reading_of kept
read_kept l = told_or (lead 6 l) (goes_on l) _ ∙ rw (whole 6 l) (go (eqb (length l) 6) refl (all_hex l) refl) ∙ sym (read_or l)
  where
    x : Reading
    x = Err (shape_fault (lead 6 l) (goes_on l))

    go : (s : Bool) → eqb (length l) 6 ≡ s → (t : Bool) → all_hex l ≡ t
        → cond (s && t) (meaning ((kept l).value / 65536) ((kept l).value / 256 % 256) ((kept l).value % 256)) x
        ≡ cond (s && t) (meaning (byte_at l 0) (byte_at l 2) (byte_at l 4)) x
    go true p true q = read_six l (eqb-true (length l) 6 p) q
    go true p false q = refl
    go false p t q = refl

pub read_grown : ReadGrown
read_grown l = ap reading_of (kept_is l) ∙ read_kept l

-- ---- it is begun

begun_longer : (p : Partial) (b : ℕ) → begun (longer p b) ≡ true
unfolding longer
begun_longer p b = go (not p.fault && ltb p.digits 6 && is_hex b)
  where
    go : (x : Bool) → begun (cond x (partial (p.value % 1048576 * 16 + nibble b) (p.digits + 1) false) (partial p.value p.digits true)) ≡ true
    go true = rw (ne_eqb (p.digits + 1) 0 (λ h. omega arith))
    go false = refl

begun_on : (p : Partial) → begun p ≡ true → (l : List ℕ) → begun (grown p l) ≡ true
begun_on p e [] = e
begun_on p e (b ∷ bs) = begun_on (longer p b) (begun_longer p b) bs

pub begun_grown : BegunGrown
begun_grown [] = refl
begun_grown (b ∷ bs) = begun_on (longer blank b) (begun_longer blank b) bs
