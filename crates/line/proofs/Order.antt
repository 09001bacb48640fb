-- Which fault is told, sentence by sentence: the line's first digits are counted, and a line of six is what its kind and its bytes are. Assumes nothing.
use Rattle.std.specs.Prelude.{Ok}
use Prim.Native.Nat.{ℕ, zero, suc, ◌<◌, ◌≤◌}
use mathlib.Core.Path.{◌≡◌, refl, ap, ◌∙◌}
use mathlib.Core.Bool.{true, false, ◌||◌}
use mathlib.Core.List.{List, [], ◌∷◌}
use mathlib.Core.Option.{Option, some}
use native.Mathlib.Nat.{le_of_suc-le-suc}
use native.Mathlib.Omega.{arith}
use lib.Dec.{eqb}
use lib.ListN.{length, take, get_or}
use borrow.Author.Tests.{eq-eqb, lt-ltb, le-ltb}
use Rattle.bits.proofs.Laws.{and_left, and_right}
use Rattle.line.specs.Digits.{is_hex, all_hex}
use Rattle.line.specs.Faults.{unused, first}
use Rattle.line.specs.Frames.{Kind, kind_of, byte_at, meant, meaning, reading}
use Rattle.line.specs.Refused.{InOrder}
use Rattle.line.specs.Unfinished.{lead}
use Rattle.line.proofs.Faults.{address_first, read_by, read_or}

-- ---- the first digits

-- n hex digits and then none, within m characters
lead_to : (m n : ℕ) (l : List ℕ) → n < m → n < length l → all_hex (take n l) ≡ true → is_hex (get_or l n 0) ≡ false → lead m l ≡ n
unfolding lead all_hex
lead_to m n [] h k a b = absurd (omega arith)
lead_to zero n (x ∷ xs) h k a b = absurd (omega arith)
lead_to (suc m) zero (x ∷ xs) h k a b = rw b
lead_to (suc m) (suc n) (x ∷ xs) h k a b =
    rw (and_left (is_hex x) (all_hex (take n xs)) a)
    (ap suc (lead_to m n xs (le_of_suc-le-suc h) (le_of_suc-le-suc k) (and_right (is_hex x) (all_hex (take n xs)) a) b))

-- no more than m characters, each a hex digit
lead_all : (m : ℕ) (l : List ℕ) → length l ≤ m → all_hex l ≡ true → lead m l ≡ length l
unfolding lead all_hex
lead_all m [] h a = refl
lead_all zero (x ∷ xs) h a = absurd (omega arith)
lead_all (suc m) (x ∷ xs) h a =
    rw (and_left (is_hex x) (all_hex xs) a) (ap suc (lead_all m xs (le_of_suc-le-suc h) (and_right (is_hex x) (all_hex xs) a)))

-- m characters or more, of which the first m are hex digits
lead_full : (m : ℕ) (l : List ℕ) → m ≤ length l → all_hex (take m l) ≡ true → lead m l ≡ m
unfolding lead all_hex
lead_full zero [] h a = refl
lead_full (suc m) [] h a = absurd (omega arith)
lead_full zero (x ∷ xs) h a = refl
lead_full (suc m) (x ∷ xs) h a =
    rw (and_left (is_hex x) (all_hex (take m xs)) a) (ap suc (lead_full m xs (le_of_suc-le-suc h) (and_right (is_hex x) (all_hex (take m xs)) a)))

-- ---- six hex digits

module _ (l : List ℕ) (six : length l ≡ 6) (hex : all_hex l ≡ true) where
  bytes_mean_lem : reading l ≡ meaning (byte_at l 0) (byte_at l 2) (byte_at l 4)
  bytes_mean_lem = rw (eq-eqb (length l) 6 six, hex) at (read_or l)

  of_kind : (k : Kind) → kind_of (byte_at l 0) ≡ some k → reading l ≡ meant (some k) (byte_at l 2) (byte_at l 4)
  unfolding meaning
  of_kind k e = bytes_mean_lem ∙ ap (λ (o : Option Kind). meant o (byte_at l 2) (byte_at l 4)) e

pub in_order : InOrder
unfolding meaning meant unused first
in_order l =
    record {
      not_hex = λ n h k a b. read_by l ∙ rw (lead_to 6 n l h k a b, lt-ltb n 6 h, lt-ltb n (length l) k);
      too_short = λ h a. read_by l ∙ rw (lead_all 6 l (omega arith) a, lt-ltb (length l) 6 h, le-ltb (length l) (length l) (omega arith));
      too_long = λ h a. read_by l ∙ rw (lead_full 6 l (omega arith) a, lt-ltb 6 (length l) h);
      unknown_kind = λ h a e. bytes_mean_lem l h a ∙ ap (λ (o : Option Kind). meant o (byte_at l 2) (byte_at l 4)) e;
      unused_address = λ h a k e u z.
          of_kind l h a k e ∙ rw (u, z) (address_first (k.uses_data || eqb (byte_at l 4) 0) (Ok (k.frame (byte_at l 2) (byte_at l 4))));
      unused_data = λ h a k e u v z. of_kind l h a k e ∙ rw (u, v, z);
      framed = λ h a k e u. of_kind l h a k e ∙ rw (and_left (k.uses_address || eqb (byte_at l 2) 0) (k.uses_data || eqb (byte_at l 4) 0) u, and_right (k.uses_address || eqb (byte_at l 2) 0) (k.uses_data || eqb (byte_at l 4) 0) u);
    }
