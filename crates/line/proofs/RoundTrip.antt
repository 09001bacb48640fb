-- A line and its frame, both ways: a frame's line reads back digit by digit, and what a line's kind and bytes mean is a frame of that kind and those bytes. Assumes nothing.
use Rattle.std.specs.Prelude.{Ok, Err}
use Rattle.line.specs.Readings.{Reading}
use Prim.Native.Nat.{ℕ, zero, suc, ◌+◌, ◌*◌, ◌/◌, ◌%◌, ◌<◌, ◌≤◌}
use mathlib.Core.Path.{◌≡◌, refl, sym, ap, ap₂, subst, ◌∙◌}
use mathlib.Core.Bool.{Bool, true, false, cond, ◌&&◌, ◌||◌, false≢true}
use mathlib.Core.List.{List, [], ◌∷◌, ◌++◌, append-nil}
use mathlib.Core.Option.{Option, none}
use native.Mathlib.Omega.{arith}
use lib.Dec.{eqb, lit<}
use lib.ListN.{length, get_or, length-append, length-map}
use lib.Seq.{take_at, get_or-append_seam}
use borrow.Author.Tests.{ne_eqb, eqb-true}
use Rattle.bits.proofs.Laws.{and_left, and_right}
use Rattle.machine.specs.declared.Which.{Which}
use Rattle.machine.specs.declared.Which.TheVariants.{One, Two}
use Rattle.machine.specs.declared.Step.TheVariants.{Write, Read, DmaWrite, DmaRead, Acknowledge, Reset}
use Rattle.line.specs.declared.Frame.{Frame}
use Rattle.line.specs.declared.Frame.TheVariants.{Begin, Does}
use Rattle.line.specs.declared.Fault.{Fault}
use Rattle.line.specs.declared.Fault.TheVariants.{UnusedByte}
use Rattle.line.specs.Digits.{is_hex, upper, all_hex, capital, pair}
use Rattle.line.specs.Faults.{unused, first}
use Rattle.line.specs.Frames.{Kind, on_side, side_named, kind_of, byte_at, meant, meaning, reading, side_digit, kind_on, in_capitals, line_of, with_lf, written, Small, BytesRead, ReadWritten, WrittenRead, EitherCase}
use Rattle.line.specs.Refused.{IsFrame, AsBefore}
use Rattle.line.specs.Unfinished.{lead}
use Rattle.line.proofs.Digits.{nibble_lt, hex_mod, hex_upper, nibble_upper, byte_back, pair_upper}
use Rattle.line.proofs.Faults.{goes_on, shape_fault, read_or}

-- ---- written, then read

pub bytes_read : BytesRead
unfolding in_capitals pair all_hex byte_at
bytes_read k a d hk ha hd =
    read_or (in_capitals k a d) ∙ simp (hex_mod, byte_back k hk, byte_back a ha, byte_back d hd)

-- the kind of a step, on either side
side_digit_lem : (w : Which) → (1 ≤ side_digit w) × (side_digit w ≤ 2)
side_digit_lem One = (omega arith, omega arith)
side_digit_lem Two = (omega arith, omega arith)

on_named : (w : Which) (r : Which → Option Kind) → cond (eqb (side_digit w) 1 || eqb (side_digit w) 2) (r (side_named (side_digit w))) none ≡ r w
on_named One r = refl
on_named Two r = refl

step_read : (w : Which) (n a d : ℕ) → n < 16 → a < 256 → d < 256 → reading (in_capitals (kind_on w n) a d) ≡ meant (on_side w n) a d
unfolding kind_on kind_of meaning
step_read w n a d h ha hd =
    let s = side_digit_lem w in
    let q : (side_digit w * 16 + n) / 16 ≡ side_digit w = omega arith in
    let r : (side_digit w * 16 + n) % 16 ≡ n = omega arith in
    bytes_read (side_digit w * 16 + n) a d (omega arith) ha hd
    ∙ rw (ne_eqb (side_digit w * 16 + n) 0 (λ e. omega arith), q, r) (ap (λ (o : Option Kind). meant o a d) (on_named w (λ v. on_side v n)))

line_read : (f : Frame) → Small f → reading (line_of f) ≡ Ok f
unfolding line_of kind_of meaning meant on_side unused first
line_read (Begin p) h = bytes_read 0 p 0 (lit< tt) h (lit< tt)
line_read (Does (Write w a d)) h = step_read w 1 a d (lit< tt) h.0 h.1
line_read (Does (Read w a)) h = step_read w 2 a 0 (lit< tt) h.0 h.1
line_read (Does (DmaWrite w d)) h = step_read w 3 0 d (lit< tt) h.0 h.1
line_read (Does (DmaRead w)) h = step_read w 4 0 0 (lit< tt) h.0 h.1
line_read (Does (Acknowledge w)) h = step_read w 5 0 0 (lit< tt) h.0 h.1
line_read (Does (Reset w)) h = step_read w 6 0 0 (lit< tt) h.0 h.1

pub line_six : (f : Frame) → length (line_of f) ≡ 6
unfolding line_of in_capitals pair
line_six (Begin p) = refl
line_six (Does s) = refl

-- its characters are hex digits
pub line_hex : (f : Frame) → all_hex (line_of f) ≡ true
unfolding line_of in_capitals pair all_hex
line_hex (Begin p) = simp hex_mod
line_hex (Does s) = simp hex_mod

pub read_written : ReadWritten
unfolding written
read_written f h =
    let n = line_six f in (
      length-append (line_of f) (10 ∷ []) ∙ ap (λ (k : ℕ). k + 1) n,
      ap reading (take_at (line_of f) (10 ∷ []) 6 n) ∙ line_read f h,
      ap (λ (k : ℕ). get_or (with_lf (line_of f)) k 0) (sym n) ∙ get_or-append_seam (line_of f) 10 [] 0,
    )

-- ---- read, then written

-- a frame that the reading is has this line, and its bytes are bytes if these two are
record Exact (l : List ℕ) (a d : ℕ) (r : Reading) : Type 0 where
  exact : (f : Frame) → r ≡ Ok f → line_of f ≡ l
  small : (f : Frame) → r ≡ Ok f → a < 256 → d < 256 → Small f

exact_no : (l : List ℕ) (a d : ℕ) (x : Fault) → Exact l a d (Err x)
exact_no l a d x = record { exact = λ f e. cc; small = λ f e h k. let z : ◌≡◌ {A = ℕ} 0 1 = cc in absurd (omega arith) }

exact_first : (l : List ℕ) (a d : ℕ) (xs : List Fault) (f : Frame) → (xs ≡ [] → line_of f ≡ l) → (a < 256 → d < 256 → Small f) → Exact l a d (first xs (Ok f))
unfolding first
exact_first l a d [] f h s = record { exact = λ g e. let k = h refl in cc; small = λ g e x y. let q : f ≡ g = cc in subst Small q (s x y) }
exact_first l a d (x ∷ xs) f h s = exact_no l a d _

exact_test : (l : List ℕ) (a d : ℕ) (t : Bool) (o p : Option Kind) → (t ≡ true → Exact l a d (meant o a d)) → (t ≡ false → Exact l a d (meant p a d))
    → Exact l a d (meant (cond t o p) a d)
exact_test l a d true o p f g = f refl
exact_test l a d false o p f g = g refl

-- without a fault, a byte that has no use is 00
zeros : (c b : ℕ) (xs : List Fault) → unused c false b ++ xs ≡ [] → (b ≡ 0) × (xs ≡ [])
unfolding unused
zeros c b xs h = go (eqb b 0) refl h
  where
    go : (t : Bool) → eqb b 0 ≡ t → cond t [] (UnusedByte c ∷ []) ++ xs ≡ [] → (b ≡ 0) × (xs ≡ [])
    go true e h = (eqb-true b 0 e, h)
    go false e h = let n : suc (length xs) ≡ 0 = ap length h in absurd (omega arith)

zero_00 : (c b : ℕ) → unused c false b ≡ [] → b ≡ 0
zero_00 c b h = (zeros c b [] (append-nil (unused c false b) ∙ h)).0

-- the kind that a step's low digit makes, with equal bytes
alike : (w : Which) {m n a b d e : ℕ} → n ≡ m → a ≡ b → d ≡ e → in_capitals (kind_on w m) b e ≡ in_capitals (kind_on w n) a d
alike w p q r = rw (p, q, r)

alike_zero : (w : Which) {m n : ℕ} (a d : ℕ) → n ≡ m → unused 3 false a ++ unused 5 false d ≡ [] → in_capitals (kind_on w m) 0 0 ≡ in_capitals (kind_on w n) a d
alike_zero w a d p h = let z = zeros 3 a (unused 5 false d) h in alike w p z.0 (zero_00 5 d z.1)

exact_side : (w : Which) (n a d : ℕ) → Exact (in_capitals (kind_on w n) a d) a d (meant (on_side w n) a d)
unfolding on_side meant unused line_of
exact_side w n a d =
    exact_test z a d (eqb n 1) _ _ (λ e. exact_first z a d _ _ (λ h. alike w (eqb-true n 1 e) refl refl) (λ x y. (x, y)))
    (λ _. exact_test z a d (eqb n 2) _ _ (λ e. exact_first z a d _ _ (λ h. alike w (eqb-true n 2 e) refl (zero_00 5 d h)) (λ x y. (x, lit< tt)))
    (λ _. exact_test z a d (eqb n 3) _ _ (λ e. exact_first z a d _ _ (λ h. alike w (eqb-true n 3 e) (zeros 3 a [] h).0 refl) (λ x y. (lit< tt, y)))
    (λ _. exact_test z a d (eqb n 4) _ _ (λ e. exact_first z a d _ _ (λ h. alike_zero w a d (eqb-true n 4 e) h) (λ x y. (lit< tt, lit< tt)))
    (λ _. exact_test z a d (eqb n 5) _ _ (λ e. exact_first z a d _ _ (λ h. alike_zero w a d (eqb-true n 5 e) h) (λ x y. (lit< tt, lit< tt)))
    (λ _. exact_test z a d (eqb n 6) _ _ (λ e. exact_first z a d _ _ (λ h. alike_zero w a d (eqb-true n 6 e) h) (λ x y. (lit< tt, lit< tt)))
    (λ _. exact_no z a d _))))))
  where
    z : List ℕ
    z = in_capitals (kind_on w n) a d

-- the side that a kind names
side_kind : (k : ℕ) → (eqb (k / 16) 1 || eqb (k / 16) 2) ≡ true → kind_on (side_named (k / 16)) (k % 16) ≡ k
unfolding kind_on
side_kind k h = go (eqb (k / 16) 1) refl (eqb (k / 16) 2) refl h
  where
    go : (s : Bool) → eqb (k / 16) 1 ≡ s → (t : Bool) → eqb (k / 16) 2 ≡ t → (s || t) ≡ true → kind_on (cond s One Two) (k % 16) ≡ k
    go true p t q e = omega (arith, eqb-true (k / 16) 1 p)
    go false p true q e = omega (arith, eqb-true (k / 16) 2 q)
    go false p false q e = absurd (false≢true e)

exact_meaning : (k a d : ℕ) → Exact (in_capitals k a d) a d (meaning k a d)
unfolding kind_of meaning meant unused line_of
exact_meaning k a d =
    exact_test z a d (eqb k 0) _ _ (λ e. exact_first z a d _ (Begin a) (λ h. rw (eqb-true k 0 e, zero_00 5 d h)) (λ x y. x))
    (λ _. exact_test z a d (eqb (k / 16) 1 || eqb (k / 16) 2) _ _ (λ e. rw (side_kind k e) at (exact_side (side_named (k / 16)) (k % 16) a d)) (λ _. exact_no z a d _))
  where
    z : List ℕ
    z = in_capitals k a d

-- six characters are what they are
pub six : (P : List ℕ → Type 0) → ((a b c d e f : ℕ) → P (a ∷ b ∷ c ∷ d ∷ e ∷ f ∷ [])) → (l : List ℕ) → length l ≡ 6 → P l
six P p [] h = absurd (omega arith)
six P p (a ∷ []) h = absurd (omega arith)
six P p (a ∷ b ∷ []) h = absurd (omega arith)
six P p (a ∷ b ∷ c ∷ []) h = absurd (omega arith)
six P p (a ∷ b ∷ c ∷ d ∷ []) h = absurd (omega arith)
six P p (a ∷ b ∷ c ∷ d ∷ e ∷ []) h = absurd (omega arith)
six P p (a ∷ b ∷ c ∷ d ∷ e ∷ f ∷ []) h = p a b c d e f
six P p (a ∷ b ∷ c ∷ d ∷ e ∷ f ∷ g ∷ l) h = absurd (omega arith)

-- each of six characters is a hex digit
pub record SixHex (a b c d e f : ℕ) : Type 0 where
  pub h₁ : is_hex a ≡ true
  pub h₂ : is_hex b ≡ true
  pub h₃ : is_hex c ≡ true
  pub h₄ : is_hex d ≡ true
  pub h₅ : is_hex e ≡ true
  pub h₆ : is_hex f ≡ true

pub six_hex : (a b c d e f : ℕ) → all_hex (a ∷ b ∷ c ∷ d ∷ e ∷ f ∷ []) ≡ true → SixHex a b c d e f
unfolding all_hex
six_hex a b c d e f h = search (and_left, and_right) depth 9

in_capitals_lem : (l : List ℕ) → length l ≡ 6 → all_hex l ≡ true → in_capitals (byte_at l 0) (byte_at l 2) (byte_at l 4) ≡ capital l
unfolding in_capitals byte_at
in_capitals_lem =
    six (λ l. all_hex l ≡ true → in_capitals (byte_at l 0) (byte_at l 2) (byte_at l 4) ≡ capital l)
    (λ a b c d e f h.
    let x = six_hex a b c d e f h in
    rw (pair_upper a b x.h₁ x.h₂, pair_upper c d x.h₃ x.h₄, pair_upper e f x.h₅ x.h₆))

-- ---- either case

hex_capital : (l : List ℕ) → all_hex (capital l) ≡ all_hex l
unfolding all_hex
hex_capital [] = refl
hex_capital (x ∷ xs) = ap₂ (λ (a b : Bool). a && b) (hex_upper x) (hex_capital xs)

-- the meaning of the bytes of a line
abbrev bytes_mean : List ℕ → Reading
bytes_mean l = meaning (byte_at l 0) (byte_at l 2) (byte_at l 4)

bytes_capital : (l : List ℕ) → length l ≡ 6 → all_hex l ≡ true → bytes_mean (capital l) ≡ bytes_mean l
unfolding byte_at
bytes_capital =
    six (λ l. all_hex l ≡ true → bytes_mean (capital l) ≡ bytes_mean l)
    (λ a b c d e f h.
    let x = six_hex a b c d e f h in
    rw (nibble_upper a x.h₁, nibble_upper b x.h₂, nibble_upper c x.h₃, nibble_upper d x.h₄, nibble_upper e x.h₅, nibble_upper f x.h₆))

lead_capital : (n : ℕ) (l : List ℕ) → lead n (capital l) ≡ lead n l
unfolding lead
lead_capital n [] = refl
lead_capital zero (b ∷ bs) = refl
lead_capital (suc n) (b ∷ bs) = rw (hex_upper b) (ap (λ (k : ℕ). cond (is_hex b) (suc k) 0) (lead_capital n bs))

pub either_case : EitherCase
either_case l =
    read_or (capital l) ∙ rw (length-map l upper, hex_capital l, lead_capital 6 l) (go (eqb (length l) 6) refl (all_hex l) refl) ∙ sym (read_or l)
  where
    x : Reading
    x = Err (shape_fault (lead 6 l) (goes_on l))

    go : (s : Bool) → eqb (length l) 6 ≡ s → (t : Bool) → all_hex l ≡ t → cond (s && t) (bytes_mean (capital l)) x ≡ cond (s && t) (bytes_mean l) x
    go true p true q = bytes_capital l (eqb-true (length l) 6 p) q
    go true p false q = refl
    go false p t q = refl

-- ---- a line and the frame that it is

-- its bytes are bytes
bytes_lt : (l : List ℕ) → length l ≡ 6 → all_hex l ≡ true → (byte_at l 2 < 256) × (byte_at l 4 < 256)
unfolding byte_at
bytes_lt =
    six (λ l. all_hex l ≡ true → (byte_at l 2 < 256) × (byte_at l 4 < 256))
    (λ a b c d e f h.
    let x = six_hex a b c d e f h in
    let n₃ = nibble_lt c x.h₃ in
    let n₄ = nibble_lt d x.h₄ in
    let n₅ = nibble_lt e x.h₅ in
    let n₆ = nibble_lt f x.h₆ in (omega arith, omega arith))

frame_read : (l : List ℕ) (f : Frame) → reading l ≡ Ok f → IsFrame l f
frame_read l f h = go (eqb (length l) 6) refl (all_hex l) refl (sym (read_or l) ∙ h)
  where
    go : (s : Bool) → eqb (length l) 6 ≡ s → (t : Bool) → all_hex l ≡ t
        → cond (s && t) (bytes_mean l) (Err (shape_fault (lead 6 l) (goes_on l))) ≡ Ok f → IsFrame l f
    go true p true q e =
        let n = eqb-true (length l) 6 p in
        let x = exact_meaning (byte_at l 0) (byte_at l 2) (byte_at l 4) in
        let b = bytes_lt l n q in (x.small f e b.0 b.1, sym (x.exact f e ∙ in_capitals_lem l n q))
    go true p false q e = let z : ◌≡◌ {A = ℕ} 0 1 = cc in absurd (omega arith)
    go false p t q e = let z : ◌≡◌ {A = ℕ} 0 1 = cc in absurd (omega arith)

pub as_before : AsBefore
as_before l f = (frame_read l f, λ i. sym (either_case l) ∙ ap reading i.1 ∙ line_read f i.0)

pub written_read : WrittenRead
unfolding written
written_read l f h = ap with_lf (sym (frame_read l f h).1)
