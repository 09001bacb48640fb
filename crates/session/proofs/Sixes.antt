-- Six characters at once: the values that are put one behind the other are what the characters leave of a blank line, as long as each is a hex digit.
-- Assumes nothing.
use Prim.Native.Nat.{ℕ, suc, ◌+◌, ◌*◌, ◌%◌, ◌<◌, ◌≤◌}
use mathlib.Core.Path.{◌≡◌, refl, sym, ap, ◌∙◌}
use mathlib.Core.Bool.{Bool, true, false, cond, ◌&&◌, beq, and-true, and_assoc}
use mathlib.Core.List.{List, [], ◌∷◌, ◌++◌}
use native.Mathlib.Nat.{add-zero}
use native.Mathlib.Numerals.{add-one}
use native.Mathlib.Omega.{arith}
use lib.Bits.{bit_or}
use lib.Dec.{ltb}
use lib.ListN.{length, take, drop, get_or, length-drop}
use lib.Seq.{length-take-le, take-suc}
use borrow.Author.Tests.{lt-ltb, ltb-true}
use Rattle.bits.specs.Bits.{every}
use Rattle.bits.proofs.Laws.{at, beq_same, and_left, and_right}
use Rattle.line.specs.declared.Partial.{Partial}
use Rattle.line.specs.Digits.{is_hex, nibble, value_of, all_hex}
use Rattle.line.specs.Unfinished.{partial, longer, grown}
use Rattle.line.proofs.Digits.{nibble_lt}
use Rattle.session.specs.Ahead.{joined}

pub length_six : (input : List ℕ) (at : ℕ) → at + 6 ≤ length input → length (take 6 (drop at input)) ≡ 6
length_six input at h = length-take-le 6 (drop at input) (rw (length-drop at input) (omega arith))

-- ---- a byte's value

is_digit : (b : ℕ) → ltb (value_of b) 16 ≡ is_hex b
is_digit b = go (is_hex b) refl
  where
    go : (h : Bool) → is_hex b ≡ h → ltb (cond h (nibble b) 16) 16 ≡ h
    go true e = lt-ltb (nibble b) 16 (nibble_lt b e)
    go false e = refl

value_most : (b : ℕ) → value_of b ≤ 16
value_most b = go (is_hex b) refl
  where
    go : (h : Bool) → is_hex b ≡ h → cond h (nibble b) 16 ≤ 16
    go true e = let l = nibble_lt b e in omega arith
    go false e = omega arith

-- ---- values gathered bit by bit: below 16 exactly if each is

abbrev gathers : ℕ → ℕ → Bool
gathers s d = beq (ltb (bit_or s d) 16) (ltb s 16 && ltb d 16) && ltb (bit_or s d) 32

all_gather : every (λ s. every (gathers s) 17) 32 ≡ true
unfolding every
all_gather = refl

module _ (s d : ℕ) (h : s < 32) (k : d ≤ 16) where
  gathered : gathers s d ≡ true
  gathered = at (gathers s) 17 (at (λ s. every (gathers s) 17) 32 all_gather s h) d (omega arith)

  both_below : ltb (bit_or s d) 16 ≡ (ltb s 16 && ltb d 16)
  both_below = beq_same (ltb (bit_or s d) 16) (ltb s 16 && ltb d 16) (and_left (beq (ltb (bit_or s d) 16) (ltb s 16 && ltb d 16)) (ltb (bit_or s d) 32) gathered)

  still_below : bit_or s d < 32
  still_below = ltb-true (bit_or s d) 32 (and_right (beq (ltb (bit_or s d) 16) (ltb s 16 && ltb d 16)) (ltb (bit_or s d) 32) gathered)

-- ---- one character more

joined_append : (v : ℕ) (xs ys : List ℕ) → joined v (xs ++ ys) ≡ joined (joined v xs) ys
unfolding joined
joined_append v [] ys = refl
joined_append v (x ∷ xs) ys = joined_append (v % 0x100000 * 16 + value_of x) xs ys

hex_append : (xs ys : List ℕ) → all_hex (xs ++ ys) ≡ (all_hex xs && all_hex ys)
unfolding all_hex
hex_append [] ys = refl
hex_append (x ∷ xs) ys = ap (λ (b : Bool). is_hex x && b) (hex_append xs ys) ∙ sym (and_assoc (is_hex x) (all_hex xs) (all_hex ys))

-- of the first n characters: their values, and what is gathered of these
pub record Gathered (l : List ℕ) (v s n : ℕ) : Type 0 where
  pub below : s < 32
  pub values : v ≡ joined 0 (take n l)
  pub hex : ltb s 16 ≡ all_hex (take n l)

pub none_gathered : (l : List ℕ) → Gathered l 0 0 0
unfolding joined all_hex
none_gathered l = record { below = omega arith; values = refl; hex = refl }

pub one_more : (l : List ℕ) (v s n d : ℕ) → n < length l → d ≡ value_of (get_or l n 0) → Gathered l v s n → Gathered l (v % 0x100000 * 16 + d) (bit_or s d) (n + 1)
unfolding joined all_hex
one_more l v s n d k e g =
    let most : d ≤ 16 = rw e (value_most (get_or l n 0)) in
    let grows = take-suc l n 0 k in
    record {
      below = still_below s d g.below most;
      values = rw (add-one n, grows, joined_append 0 (take n l) (get_or l n 0 ∷ []), ← g.values, e);
      hex = rw (both_below s d g.below most, e, is_digit (get_or l n 0), add-one n, grows, hex_append (take n l) (get_or l n 0 ∷ []), and-true (is_hex (get_or l n 0)), g.hex);
    }

-- ---- what they leave of a line

joins : (v n b : ℕ) → n < 6 → is_hex b ≡ true → longer (partial v n false) b ≡ partial (v % 0x100000 * 16 + value_of b) (n + 1) false
unfolding longer
joins v n b h e = rw (lt-ltb n 6 h, e)

pub hex_reads : (v n : ℕ) (l : List ℕ) → n + length l ≤ 6 → all_hex l ≡ true → grown (partial v n false) l ≡ partial (joined v l) (n + length l) false
unfolding joined all_hex
hex_reads v n [] h e = ap (λ (k : ℕ). partial v k false) (sym (add-zero n))
hex_reads v n (b ∷ bs) h e =
    let x : n + 1 + length bs ≡ n + suc (length bs) = omega arith in
    ap (λ (p : Partial). grown p bs) (joins v n b (omega arith) (and_left (is_hex b) (all_hex bs) e))
    ∙ hex_reads (v % 0x100000 * 16 + value_of b) (n + 1) bs (omega arith) (and_right (is_hex b) (all_hex bs) e)
    ∙ ap (λ (k : ℕ). partial (joined (v % 0x100000 * 16 + value_of b) bs) k false) x
