-- The bytes of a feed, one by one: what holds at each turn of its loop, and what holds at its end. Assumes nothing.
use Prim.Native.Nat.{ℕ, zero, suc, ◌+◌, ◌-◌, ◌<◌, ◌≤◌}
use mathlib.Core.Path.{◌≡◌, refl, sym, ap, ap₂, ◌∙◌}
use mathlib.Core.Bool.{Bool, true, false, cond, not, ◌&&◌, ◌||◌, false≢true, and-false}
use mathlib.Core.List.{List, [], ◌∷◌, ◌++◌, append_assoc, append-nil}
use native.Mathlib.Nat.{sub-zero, add-zero, zero-add}
use native.Mathlib.Numerals.{add-one}
use native.Mathlib.Omega.{arith}
use Rattle.std.specs.Prelude.{Some, None}
use Rattle.std.specs.Bool.{then_some}
use lib.ListN.{length, take, drop, get_or, length-append, length-drop, drop_of_length-le}
use lib.Seq.{take_all, take-suc, take_at, drop_at, drop-drop, drop-cons}
use lib.Dec.{eqb, ltb}
use borrow.Rule.Slice.PartMut.{put_mid}
use borrow.Author.Tests.{eq-eqb, ne_eqb, lt-ltb, le-ltb, eqb-true, ltb-true, not-true, not-false}
use Rattle.bits.proofs.Laws.{and_left, and_right}
use Rattle.machine.specs.Record.{chip_over}
use Rattle.machine.specs.Step.{buffer_of}
use Rattle.line.specs.declared.Partial.{Partial}
use Rattle.line.specs.Digits.{pair, is_hex, all_hex}
use Rattle.line.specs.Unfinished.{partial, blank, longer, begun, is_blank, grown}
use Rattle.line.proofs.Unfinished.{fault_stays, no_digit}
use Rattle.session.specs.declared.held.Held.{Held}
use Rattle.session.specs.declared.Session.{Session}
use Rattle.session.specs.declared.Ahead.{Ahead}
use Rattle.session.specs.Ahead.{joined, six_of, stands_whole, ahead, ahead_of}
use Rattle.session.specs.Bench.{bench, fields, printed}
use Rattle.session.proofs.Sixes.{length_six, hex_reads}
use Rattle.session.specs.Feed.{State, state, state_of, session_of, closed, reply, ate, told, after, said, taken, part, put}
use Rattle.session.specs.Feed.{fed_by, fed_of, output_of, buffer_left}

or_left : (a b : Bool) → (a || b) ≡ false → a ≡ false
or_left true b e = e
or_left false b e = refl

or_right : (a b : Bool) → (a || b) ≡ false → b ≡ false
or_right true b e = absurd (false≢true (sym e))
or_right false b e = e

-- ---- a byte

pub ate_line : (s : State) (b : ℕ) → b ≡ 10 → ate s b ≡ closed s
unfolding ate
ate_line s b e = rw (eq-eqb b 10 e)

pub ate_byte : (s : State) (b : ℕ) → (b ≡ 10 → ⊥) → ate s b ≡ state (longer s.line b) s.bench
unfolding ate
ate_byte s b n = rw (ne_eqb b 10 n)

pub told_line : (s : State) (b : ℕ) → b ≡ 10 → told s b ≡ reply s
unfolding told
told_line s b e = rw (eq-eqb b 10 e)

pub told_byte : (s : State) (b : ℕ) → (b ≡ 10 → ⊥) → told s b ≡ []
unfolding told
told_byte s b n = rw (ne_eqb b 10 n)

pub taken_line : (room b : ℕ) (bs : List ℕ) → b ≡ 10 → 9 ≤ room → taken room (b ∷ bs) ≡ suc (taken (room - 9) bs)
taken_line room b bs e r = rw (eq-eqb b 10 e, le-ltb room 9 r)

pub taken_full : (room b : ℕ) (bs : List ℕ) → b ≡ 10 → room < 9 → taken room (b ∷ bs) ≡ 0
taken_full room b bs e r = rw (eq-eqb b 10 e, lt-ltb room 9 r)

pub taken_byte : (room b : ℕ) (bs : List ℕ) → (b ≡ 10 → ⊥) → taken room (b ∷ bs) ≡ suc (taken room bs)
taken_byte room b bs n = rw (ne_eqb b 10 n)

-- ---- bytes, and the loop over them

pub after_append : (s : State) (xs ys : List ℕ) → after s (xs ++ ys) ≡ after (after s xs) ys
after_append s [] ys = refl
after_append s (x ∷ xs) ys = after_append (ate s x) xs ys

pub said_append : (s : State) (xs ys : List ℕ) → said s (xs ++ ys) ≡ said s xs ++ said (after s xs) ys
said_append s [] ys = refl
said_append s (x ∷ xs) ys =
    ap (λ (l : List ℕ). told s x ++ l) (said_append (ate s x) xs ys) ∙ sym (append_assoc (told s x) (said (ate s x) xs) (said (after s (x ∷ xs)) ys))

pub length_reply : (s : State) → length (reply s) ≡ 9
unfolding reply printed fields pair
length_reply s = refl

module _ (s : State) (l : List ℕ) (i : ℕ) (h : i < length l) where
  after_more : after s (take (i + 1) l) ≡ ate (after s (take i l)) (get_or l i 0)
  after_more = rw (add-one i, take-suc l i 0 h) (after_append s (take i l) (get_or l i 0 ∷ []))

  said_more : said s (take (i + 1) l) ≡ said s (take i l) ++ told (after s (take i l)) (get_or l i 0)
  said_more =
      rw (add-one i, take-suc l i 0 h)
      (said_append s (take i l) (get_or l i 0 ∷ [])
      ∙ ap (λ (r : List ℕ). said s (take i l) ++ r) (append-nil (told (after s (take i l)) (get_or l i 0))))

-- `put` behind what is there
pub put_behind : (x vs out : List ℕ) (o : ℕ) → o ≡ length x → put (x ++ drop o out) o vs ≡ x ++ vs ++ drop (o + length vs) out
put_behind x vs out o e =
    ap₂ (λ (a b : List ℕ). a ++ vs ++ b) (take_at x (drop o out) o (sym e))
    (sym (drop-drop (length vs) o (x ++ drop o out))
    ∙ ap (drop (length vs)) (drop_at x (drop o out) o (sym e))
    ∙ drop-drop (length vs) o out)

-- a line that is being read, and a chip with the buffer that is lent beside it
abbrev pub state_held : Partial → Held → List ℕ → State
state_held p h b = state p (bench h.present (chip_over h.control b))

-- i bytes of the input are taken, and o bytes of the output are written
pub record Underway (s₀ : State) (input output₀ : List ℕ) (s : State) (output : List ℕ) (i o : ℕ) : Type 0 where
  pub within : i ≤ length input
  pub reached : s ≡ after s₀ (take i input)
  pub wrote : o ≡ length (said s₀ (take i input))
  pub room : o ≤ length output₀
  pub holds : output ≡ said s₀ (take i input) ++ drop o output₀
  pub goes : taken (length output₀) input ≡ i + taken (length output₀ - o) (drop i input)

pub begins : (s₀ : State) (input output₀ : List ℕ) → Underway s₀ input output₀ s₀ output₀ 0 0
begins s₀ input output₀ =
    record { within = omega arith; reached = refl; wrote = refl; room = omega arith; holds = refl; goes = let e = ap (λ (n : ℕ). taken n input) (sub-zero (length output₀)) in omega (arith, e) }

module _ {s₀ : State} {input output₀ : List ℕ} {s : State} {output : List ℕ} {i o : ℕ} (u : Underway s₀ input output₀ s output i o) where
  pub same_length : length output ≡ length output₀
  same_length = let e = ap length u.holds in let r = u.room in let w = u.wrote in omega (arith, simp (length-append, length-drop) at e)

  module _ (h : i < length input) where
    -- the rest of the input begins with the byte at i
    goes_on : taken (length output₀) input ≡ i + taken (length output₀ - o) (get_or input i 0 ∷ drop (i + 1) input)
    goes_on =
        u.goes
        ∙ ap (λ (l : List ℕ). i + taken (length output₀ - o) l) (drop-cons input i 0 h ∙ ap (λ (n : ℕ). get_or input i 0 ∷ drop n input) (sym (add-one i)))

    pub line : get_or input i 0 ≡ 10 → 9 ≤ length output - o → Underway s₀ input output₀ (closed s) (put output o (reply s)) (i + 1) (o + 9)
    line e r =
        record {
          within = omega arith;
          reached = ap closed u.reached ∙ sym (after_more s₀ input i h ∙ ate_line (after s₀ (take i input)) (get_or input i 0) e);
          wrote = let w = u.wrote in rw said_here (omega (arith, length-append (said s₀ (take i input)) (reply s), length_reply s));
          room = fits;
          holds =
              rw (u.holds, said_here)
              (put_behind (said s₀ (take i input)) (reply s) output₀ o u.wrote
              ∙ ap (λ (n : ℕ). said s₀ (take i input) ++ reply s ++ drop (o + n) output₀) (length_reply s));
          goes =
              let d : length output₀ - o - 9 ≡ length output₀ - (o + 9) = omega arith in
              let g = goes_on ∙ ap (λ (n : ℕ). i + n) (taken_line (length output₀ - o) (get_or input i 0) (drop (i + 1) input) e (let f = fits in omega arith)) in
              rw (← d) (omega (arith, g));
        }
      where
        fits : o + 9 ≤ length output₀
        fits = let q = u.room in omega (arith, same_length)

        said_here : said s₀ (take (i + 1) input) ≡ said s₀ (take i input) ++ reply s
        said_here =
            said_more s₀ input i h
            ∙ ap (λ (x : List ℕ). said s₀ (take i input) ++ x) (told_line (after s₀ (take i input)) (get_or input i 0) e ∙ ap reply (sym u.reached))

    pub byte : (get_or input i 0 ≡ 10 → ⊥) → Underway s₀ input output₀ (state (longer s.line (get_or input i 0)) s.bench) output (i + 1) o
    byte n =
        record {
          within = omega arith;
          reached = ap (λ (x : State). state (longer x.line (get_or input i 0)) x.bench) u.reached ∙ sym (after_more s₀ input i h ∙ ate_byte (after s₀ (take i input)) (get_or input i 0) n);
          wrote = u.wrote ∙ ap length (sym said_here);
          room = u.room;
          holds = u.holds ∙ ap (λ (x : List ℕ). x ++ drop o output₀) (sym said_here);
          goes = let g = goes_on ∙ ap (λ (k : ℕ). i + k) (taken_byte (length output₀ - o) (get_or input i 0) (drop (i + 1) input) n) in omega (arith, g);
        }
      where
        said_here : said s₀ (take (i + 1) input) ≡ said s₀ (take i input)
        said_here =
            said_more s₀ input i h
            ∙ ap (λ (x : List ℕ). said s₀ (take i input) ++ x) (told_byte (after s₀ (take i input)) (get_or input i 0) n)
            ∙ append-nil (said s₀ (take i input))

    pub full : get_or input i 0 ≡ 10 → length output - o < 9 → taken (length output₀) input ≡ i
    full e r = let g = goes_on in omega (arith, taken_full (length output₀ - o) (get_or input i 0) (drop (i + 1) input) e (omega (arith, same_length)))

  pub ended : length input ≤ i → taken (length output₀) input ≡ i
  ended h = let g = u.goes in omega (arith, ap (taken (length output₀ - o)) (drop_of_length-le input h))

-- ---- six digits at once

pub blank_is : (p : Partial) → is_blank p ≡ true → p ≡ blank
blank_is p e =
    let v = eqb-true p.value 0 (and_right (not (begun p)) (eqb p.value 0) e) in
    let w = not-true (begun p) (and_left (not (begun p)) (eqb p.value 0) e) in
    let d = eqb-true p.digits 0 (not-false (eqb p.digits 0) (or_right p.fault (not (eqb p.digits 0)) w)) in
    let f = or_left p.fault (not (eqb p.digits 0)) w in
    λ j. partial (v j) (d j) (f j)

-- characters without a fault, one by one: an LF among them is a fault, and a fault stays
chars : {s₀ : State} {input output₀ output : List ℕ} {o : ℕ} (n : ℕ) {s : State} {i : ℕ} → Underway s₀ input output₀ s output i o → i + n ≤ length input
    → (grown s.line (take n (drop i input))).fault ≡ false
    → Underway s₀ input output₀ (state (grown s.line (take n (drop i input))) s.bench) output (i + n) o
unfolding is_hex
chars zero {i = i} u h f = rw (add-zero i) u
chars {input = input} (suc n) {s} {i} u h f =
    let k : i < length input = omega arith in
    let d : drop i input ≡ get_or input i 0 ∷ drop (i + 1) input = drop-cons input i 0 k ∙ ap (λ (m : ℕ). get_or input i 0 ∷ drop m input) (sym (add-one i)) in
    let g : (grown (longer s.line (get_or input i 0)) (take n (drop (i + 1) input))).fault ≡ false = rw d at f in
    let no : get_or input i 0 ≡ 10 → ⊥ = λ e. false≢true (sym g ∙ fault_stays (longer s.line (get_or input i 0)) (no_digit s.line (get_or input i 0) (ap is_hex e)) (take n (drop (i + 1) input))) in
    let m : i + suc n ≡ i + 1 + n = omega arith in
    rw (d, m) (chars n (byte u k no) (omega arith) g)

six_value : (l : List ℕ) (v : ℕ) → six_of l ≡ Some v → (all_hex l ≡ true) × (joined 0 l ≡ v)
six_value l v = go (all_hex l)
  where
    go : (b : Bool) → then_some b (joined 0 l) ≡ Some v → (b ≡ true) × (joined 0 l ≡ v)
    go true q = (refl, cc)
    go false q = absurd (cc)

no_six : (l : List ℕ) → six_of l ≡ None → all_hex l ≡ false
no_six l = go (all_hex l)
  where
    go : (b : Bool) → then_some b (joined 0 l) ≡ None → b ≡ false
    go true q = absurd (cc)
    go false q = refl

-- what look_ahead gives, by its two tests
module _ (p : Partial) (l : List ℕ) (i : ℕ) where
  reads_six : i + 6 ≤ length l → all_hex (take 6 (drop i l)) ≡ true → grown blank (take 6 (drop i l)) ≡ partial (joined 0 (take 6 (drop i l))) 6 false
  reads_six h e =
      let n = length_six l i h in
      hex_reads 0 0 (take 6 (drop i l)) (omega arith) e ∙ ap (λ (k : ℕ). partial (joined 0 (take 6 (drop i l))) k false) (zero-add (length (take 6 (drop i l))) ∙ n)

  pub whole_ahead : {b : Bool} {v : ℕ} → b ≡ is_blank p → (b && ltb 6 (length l - i)) ≡ true → six_of (take 6 (drop i l)) ≡ Some v
      → ahead (partial v 6 false) (i + 6) ≡ ahead_of p l i
  unfolding stands_whole
  whole_ahead {v = v} e room is =
      let x = rw e at room in
      let y = blank_is p (and_left (is_blank p) (ltb 6 (length l - i)) x) in
      let n = ltb-true 6 (length l - i) (and_right (is_blank p) (ltb 6 (length l - i)) x) in
      let a = six_value (take 6 (drop i l)) v is in
      rw (x, a.0)
      (ap (λ (q : Partial). ahead q (i + 6))
      (ap (λ (k : ℕ). partial k 6 false) (sym a.1) ∙ sym (reads_six (omega arith) a.0) ∙ ap (λ (q : Partial). grown q (take 6 (drop i l))) (sym y)))

  pub faulty_ahead : six_of (take 6 (drop i l)) ≡ None → ahead p i ≡ ahead_of p l i
  unfolding stands_whole
  faulty_ahead is = rw (no_six (take 6 (drop i l)) is, and-false (is_blank p && ltb 6 (length l - i)), add-zero i)

  pub short_ahead : {b : Bool} → b ≡ is_blank p → (b && ltb 6 (length l - i)) ≡ false → ahead p i ≡ ahead_of p l i
  unfolding stands_whole
  short_ahead e w =
      let x = rw e at w in
      rw (x, add-zero i)

-- what stands whole is taken
pub strode : {s₀ : State} {input output₀ : List ℕ} {s : State} {output : List ℕ} {i o : ℕ} → Underway s₀ input output₀ s output i o → i < length input
    → (r : Ahead) → r ≡ ahead_of s.line input i
    → Underway s₀ input output₀ (state r.partial s.bench) output r.at o × ((r.at < length input) × (i ≤ r.at))
unfolding stands_whole
strode {s₀} {input} {output₀} {s} {output} {i} {o} u h r e = rw e (go (stands_whole s.line input i) refl)
  where
    go : (b : Bool) → stands_whole s.line input i ≡ b
        → Underway s₀ input output₀ (state (grown s.line (take (cond b 6 0) (drop i input))) s.bench) output (i + cond b 6 0) o
        × ((i + cond b 6 0 < length input) × (i ≤ i + cond b 6 0))
    go true w =
        let x = and_left (is_blank s.line && ltb 6 (length input - i)) (all_hex (take 6 (drop i input))) w in
        let p = blank_is s.line (and_left (is_blank s.line) (ltb 6 (length input - i)) x) in
        let l = ltb-true 6 (length input - i) (and_right (is_blank s.line) (ltb 6 (length input - i)) x) in
        let a = and_right (is_blank s.line && ltb 6 (length input - i)) (all_hex (take 6 (drop i input))) w in
        (chars 6 u (omega arith) (ap (λ (q : Partial). (grown q (take 6 (drop i input))).fault) p ∙ ap (λ (q : Partial). q.fault) (reads_six blank input i (omega arith) a)), (omega arith, omega arith))
    go false w = (rw (add-zero i) u, (omega arith, omega arith))

-- the same, of values that are equal to those
pub moved : {s₀ : State} {input output₀ : List ℕ} {s t : State} {x y : List ℕ} {i m n : ℕ}
    → Underway s₀ input output₀ t y i n → s ≡ t → x ≡ y → m ≡ n → Underway s₀ input output₀ s x i m
moved u p q r = rw (p, q, r) u

pub record Done (s₀ : State) (input output₀ : List ℕ) (s : Session) (buffer output : List ℕ) (i o : ℕ) : Type 0 where
  pub result : fed_by s.partial s.present s.control i o ≡ fed_of s₀ input output₀
  pub out : output ≡ output_of s₀ input output₀
  pub buf : buffer ≡ buffer_left s₀ input output₀

pub done : {s₀ : State} {input output₀ : List ℕ} (s : Session) (buffer : List ℕ) {output : List ℕ} {i o : ℕ}
    → Underway s₀ input output₀ (state_of s buffer) output i o → taken (length output₀) input ≡ i → Done s₀ input output₀ s buffer output i o
unfolding part
done {s₀} {input} s buffer {i = i} u e =
    record {
      result = rw e (λ j. record { session = session_of (u.reached j); used = i; written = u.wrote j });
      out = rw (e, ← u.wrote) u.holds;
      buf = ap (λ (x : State). buffer_of x.bench.chip) (u.reached ∙ ap (λ (n : ℕ). after s₀ (take n input)) (sym e));
    }

-- what is left of the output from a place on, and a report at its front
pub rest_whole : (l : List ℕ) (o : ℕ) → take (length l - o) (drop o l) ≡ drop o l
rest_whole l o = take_all (length l - o) (drop o l) (omega (arith, length-drop o l))

pub put_front : (l : List ℕ) (o : ℕ) (vs : List ℕ) → length vs ≡ 9 → put_mid o (length l - o) l (vs ++ drop 9 (take (length l - o) (drop o l))) ≡ put l o vs
put_front l o vs e =
    let none : drop (length l - o) (drop o l) ≡ [] = drop_of_length-le (drop o l) (omega (arith, length-drop o l)) in
    rw (rest_whole l o, none, append-nil (vs ++ drop 9 (drop o l)), ← append_assoc (take o l) vs (drop 9 (drop o l)), drop-drop 9 o l, e)
