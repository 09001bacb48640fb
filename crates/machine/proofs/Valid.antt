-- A step keeps a valid record valid: each way in which a step changes the record keeps each of refusal 1's conditions, and a step is made of those ways. Assumes nothing.
use Prim.Native.Nat.{ℕ, zero, suc, ◌+◌, ◌-◌, ◌/◌, ◌%◌, ◌^◌}
use mathlib.Core.Path.{◌≡◌, refl, sym, ◌∙◌}
use mathlib.Core.Bool.{Bool, true, false, cond, not, ◌&&◌, ◌||◌, false≢true}
use mathlib.Core.List.{List, [], ◌∷◌}
use native.Mathlib.Omega.{arith}
use lib.Dec.{eqb, ltb, leb, eqb-zero-suc}
use lib.Bits.{bit_or}
use lib.ListN.{length, length-set, length-replicate}
use borrow.Author.Tests.{eqb-true, leb-true, ltb-true, not-false, le-leb}
use Rattle.bits.specs.Bits.{bit, bit_of, field, set_bit, clear_bit, zeros}
use Rattle.bits.proofs.Laws.{and_left, and_right, and_both, beq_same, bit-or}
use Rattle.bits.proofs.Update.{bit_power, bit_place, bit_set, bit_clear, bit_field}
use Rattle.machine.specs.declared.Which.{Which}
use Rattle.machine.specs.declared.Which.TheVariants.{One, Two}
use Rattle.machine.specs.declared.Side.{Side}
use Rattle.machine.specs.declared.Control.{Control}
use Rattle.machine.specs.declared.Payload.{Payload}
use Rattle.machine.specs.declared.Chip.{Chip}
use Rattle.machine.specs.declared.Register.{Register}
use Rattle.machine.specs.declared.Answer.{Answer}
use Rattle.machine.specs.declared.Step.{Step}
use Rattle.machine.specs.declared.Step.TheVariants.{Reset}
use Rattle.machine.specs.declared.Action.{Action}
use Rattle.machine.specs.declared.Action.TheVariants.{Offer, Take, Store, Load, Aim, Grant, Renew, Float, Refuse}
use Rattle.machine.specs.declared.Effect.{Effect}
use Rattle.machine.specs.declared.Effect.TheVariants.{Keep, Wipe, Place}
use Rattle.machine.specs.declared.Reply.{Reply}
use Rattle.machine.specs.declared.Plan.{Plan}
use Rattle.machine.specs.Record.{side_of, other, is_one, with_side, with_sides, with_control0, with_control1, with_control3, with_place, with_run}
use Rattle.machine.specs.Modes.{connected, in_reset}
use Rattle.machine.specs.Addresses.{closes}
use Rattle.machine.specs.Fifo.{writer, clear, full, empty, at_end, accepted, given}
use Rattle.machine.specs.Events.{source, raised_ip, raised}
use Rattle.machine.specs.Interrupts.{command, commanded, commands, highest, any_source, due, interrupt, acknowledged, served}
use Rattle.machine.specs.Request.{run_after, afresh, both_afresh}
use Rattle.machine.specs.Reset.{emptied, reset, fresh, new_chip}
use Rattle.machine.specs.Moves.{events, moved_side, moved, after_accepted, after_given}
use Rattle.machine.specs.Registers.{kept0, wrote0, kept1, frozen_by, wrote1, wrote2, seen3, chosen, next3, turned, told, drained, rerun, set3, wrote3, sent, received, after_read, wrote_status, wrote, released}
use Rattle.machine.specs.Validity.{zero_side, zero_shared, alone_in_reset, valid_side, run_fits, reset_fits, in_range, clear_fits, valid}
use Rattle.machine.specs.Step.{action, carries, side_in, plan3, failed, offering, taking, renewed, storing, loading, aimed, granted, plan, verdict, ended, planned, decided, on_payload, front_of, step}
use Rattle.machine.specs.History.{history, ran}
use Rattle.machine.specs.Sound.{Sound, AllSound}
use Rattle.machine.proofs.Asked.{by_action}
use Rattle.machine.proofs.Tests.{test, second_off}

-- ---- tests

-- two tests that are never both true
never : (a b : Bool) → (a ≡ true → b ≡ true → ⊥) → not (a && b) ≡ true
never true true h = absurd (h refl refl)
never true false h = refl
never false b h = refl

-- a test of each side
both : (p : Which → Bool) → p One ≡ true → p Two ≡ true → (w : Which) → p w ≡ true
both p h k One = h
both p h k Two = k

-- ---- the conditions

-- those that speak neither of CLEAR nor of a run flag
record Steady (c : Control) : Type 0 where
  ranged : in_range c ≡ true
  one : valid_side c.one ≡ true
  two : valid_side c.two ≡ true
  shared : zero_shared c ≡ true
  linked : reset_fits c ≡ true

record Valid (c : Control) : Type 0 where
  steady : Steady c
  cleared : clear_fits c ≡ true
  runs : (w : Which) → run_fits c w ≡ true

-- the two by their parts
firm : {c : Control} → in_range c ≡ true → valid_side c.one ≡ true → valid_side c.two ≡ true → zero_shared c ≡ true → reset_fits c ≡ true
    → Steady c
firm a b c d e = record { ranged = a; one = b; two = c; shared = d; linked = e }

made : {c : Control} → Steady c → clear_fits c ≡ true → run_fits c One ≡ true → run_fits c Two ≡ true → Valid c
made {c} h e p q = record { steady = h; cleared = e; runs = both (run_fits c) p q }

parts : (c : Control) → valid c ≡ true → Valid c
unfolding valid
parts c h = search (made, firm, and_left, and_right) depth 9

whole : (c : Control) → Valid c → valid c ≡ true
unfolding valid
whole c h =
    simp (h.steady.ranged, h.steady.one, h.steady.two, h.steady.shared, h.cleared, h.runs One, h.runs Two, h.steady.linked)

-- ---- a side

-- t in the place of s: the same Control 0, the run flag r, and valid if s is
record Still (s : Side) (r : Bool) (t : Side) : Type 0 where
  same : t.control0 ≡ s.control0
  ran_as : t.run ≡ r
  still : valid_side s ≡ true → valid_side t ≡ true

-- y in the place of x: p holds of it if it holds of x
record Held (p : ℕ → Bool) (x y : ℕ) : Type 0 where
  held : p x ≡ true → p y ≡ true

held_same : {p : ℕ → Bool} {x : ℕ} → Held p x x
held_same = record { held = λ h. h }

held_so : {p : ℕ → Bool} {x y : ℕ} → p y ≡ true → Held p x y
held_so h = record { held = λ _. h }

-- of a byte of flags: the bit of no source is 0
abbrev sources : ℕ → Bool
sources = zeros (0 ∷ [])

abbrev small : ℕ → Bool
small n = leb n 15

clear_held : (k : ℕ) {x : ℕ} → eqb 0 k ≡ false → Held sources x (clear_bit k x)
unfolding zeros
clear_held k z = record { held = λ h. simp (bit_clear, z) h }

set_held : (k : ℕ) {x : ℕ} → eqb 0 k ≡ false → Held sources x (set_bit k x)
unfolding zeros
set_held k z = record { held = λ h. simp (bit_set, z) h }

or_sources : (x y : ℕ) → sources x ≡ true → sources y ≡ true → sources (bit_or x y) ≡ true
unfolding zeros
or_sources x y h k = rw bit-or (go (bit 0 x) h)
  where
    go : (a : Bool) → (not a && true) ≡ true → (not (a || bit 0 y) && true) ≡ true
    go true e = e
    go false e = k

source_sources : (k : ℕ) (happens : Bool) → eqb 0 k ≡ false → sources (source k happens) ≡ true
unfolding zeros bit bit_of
source_sources k true z = simp (bit_power, z)
source_sources k false z = refl

raised_held : (isLive : Bool) (e : ℕ) {x : ℕ} → sources e ≡ true → Held sources x (raised_ip isLive e x)
unfolding raised_ip
raised_held true e {x} z = record { held = λ h. or_sources x e h z }
raised_held false e z = held_same

-- a side that keeps its Control 0 and 1 and its frozen count
still_so : {s t : Side} {r : Bool} → t.run ≡ r → t.control0 ≡ s.control0 → t.control1 ≡ s.control1 → t.frozen ≡ s.frozen
    → Held sources s.ip t.ip → Held sources s.ie t.ie → Held sources s.ius t.ius → Held small s.pointer t.pointer
    → Still s r t
unfolding valid_side zero_side alone_in_reset
still_so {s} {t} d e f g a b c p =
    record { same = e; ran_as = d; still = λ h. rw (e, f, g) (search (and_both, and_left, and_right, a.held, b.held, c.held, p.held) depth 8) }

still_run : {s : Side} (r : Bool) → Still s r (with_run r s)
still_run r = still_so refl refl refl refl held_same held_same held_same held_same

still_same : {s : Side} → Still s s.run s
still_same {s} = still_run s.run

still_then : {s t u : Side} {r : Bool} → Still s r t → Still t t.run u → Still s r u
still_then h k = record { same = k.same ∙ h.same; ran_as = k.ran_as ∙ h.ran_as; still = λ e. k.still (h.still e) }

-- an event of a source
raised_still : (c : Control) (w : Which) (k : ℕ) (happens : Bool) → eqb 0 k ≡ false
    → Still (side_of c w) (side_of c w).run (raised c w (source k happens))
raised_still c w k happens z = search (still_so, raised_held, source_sources, held_same)

command_still : (n k : ℕ) (s : Side) → eqb 0 k ≡ false → Still s s.run (command n k s)
unfolding command
command_still n k s z = search (test (Still s s.run), still_so, clear_held, set_held, held_same) depth 12

commanded_still : (n k : ℕ) (s : Side) → Still s s.run (commanded n k s)
unfolding commanded
commanded_still n zero s = still_same
commanded_still n (suc k) s = command_still n (suc k) s (eqb-zero-suc k)

commands_still : (high low byte : ℕ) (s : Side) → Still s s.run (commands high low byte s)
unfolding commands
commands_still high low byte s =
    let n : ℕ = field 3 5 byte in
    still_then (commanded_still n high s) (commanded_still (field 3 1 byte) low (commanded n high s))

-- ---- the bits held at zero

kept1_zeros : (x : ℕ) → zeros (7 ∷ 5 ∷ 4 ∷ []) (kept1 x) ≡ true
unfolding zeros kept1
kept1_zeros x = simp bit_clear

field_zeros : (x : ℕ) → zeros (7 ∷ 6 ∷ 5 ∷ 4 ∷ 3 ∷ 2 ∷ []) (field 2 0 x) ≡ true
unfolding zeros
field_zeros x = simp bit_field

chosen_off : (may : Bool) (j k x old : ℕ) → eqb j k ≡ false → bit j (chosen may k x old) ≡ false
unfolding chosen
chosen_off may j k x old z = test (λ n. bit j n ≡ false) may (λ _. simp (bit_place, z)) (λ _. simp (bit_place, z))

next3_zeros : (c : Control) (w : Which) (x : ℕ) → zeros (3 ∷ 2 ∷ 1 ∷ 0 ∷ []) (next3 c w x) ≡ true
unfolding next3 zeros
next3_zeros c w x = simp (bit-or, chosen_off)

events_sources : (matched : Bool) (n : ℕ) (s : Side) → sources (events matched n s) ≡ true
unfolding events
events_sources matched n s = search (or_sources, source_sources)

-- ---- the run flag at the end of a side's way

fresh_ends : (writes : Bool) (n m : ℕ) → not (cond writes (ltb n 128) (ltb 0 n && eqb n m) && cond writes (full n) (empty n)) ≡ true
fresh_ends true n m = never (ltb n 128) (full n) (λ p q. omega (arith, ltb-true n 128 p, eqb-true n 128 q))
fresh_ends false n m =
    never (ltb 0 n && eqb n m) (empty n) (λ p q. omega (arith, ltb-true 0 n (and_left (ltb 0 n) (eqb n m) p), eqb-true n 0 q))

afresh_fits : (c : Control) (w : Which) → not (afresh c w && at_end c w c.count) ≡ true
unfolding afresh at_end
afresh_fits c w = fresh_ends (writer c w) c.count (side_of c w).compare

after_fits : (c : Control) (w : Which) (n : ℕ) → not (run_after c w n && at_end c w n) ≡ true
unfolding run_after
after_fits c w n = go (at_end c w n) (cond (eqb n (side_of c w).compare) true (side_of c w).run)
  where
    go : (e r : Bool) → not (cond e false r && e) ≡ true
    go true r = refl
    go false r = never r false (λ _ k. false≢true k)

-- ---- a steady record

module _ (c : Control) (h : Steady c) where
  steady_sides : {a b : Side} {q r : Bool} → Still c.one q a → Still c.two r b → Steady (with_sides a b c)
  unfolding in_range zero_shared reset_fits
  steady_sides p q =
      firm h.ranged (p.still h.one) (q.still h.two) (rw q.same h.shared) (rw (p.same, q.same) h.linked)

  steady_place : (start n : ℕ) → leb start 127 ≡ true → leb n 128 ≡ true → Steady (with_place start n c)
  unfolding in_range zero_shared reset_fits
  steady_place start n p q =
      let r = h.ranged in
      firm (search (and_both, and_left, and_right)) h.one h.two h.shared h.linked

  steady_control3 : (x : ℕ) → zeros (3 ∷ 2 ∷ 1 ∷ 0 ∷ []) x ≡ true → Steady (with_control3 x c)
  unfolding in_range zero_shared reset_fits
  steady_control3 x z =
      let e = h.shared in
      firm h.ranged h.one h.two (search (and_both, and_left, and_right)) h.linked

  steady_told : (change : Bool) → Steady (told change c)
  unfolding told
  steady_told change =
      steady_sides (raised_still c One 6 change refl) (raised_still c Two 6 change refl)

  -- both run flags set afresh
  afresh_valid : clear_fits c ≡ true → Valid (both_afresh c)
  unfolding clear_fits clear run_fits at_end writer
  afresh_valid e =
      made (steady_sides (still_run (afresh c One)) (still_run (afresh c Two))) e (afresh_fits c One) (afresh_fits c Two)

  rerun_valid : (change : Bool) → clear_fits c ≡ true → (change ≡ false → clear c ≡ true → Valid c) → Valid (rerun change c)
  unfolding rerun
  rerun_valid true e k = afresh_valid e
  rerun_valid false e k = test Valid (not (clear c)) (λ _. afresh_valid e) (λ q. k refl (not-false (clear c) q))

woken_side : (x : ℕ) (s : Side) → bit 0 x ≡ false → valid_side s ≡ true → valid_side (with_control0 x s) ≡ true
unfolding valid_side zero_side alone_in_reset
woken_side x s z h = rw z (search (and_both, and_left, and_right))

-- side 1 is out of reset if side 2 is, or has its port open
awake : (c : Control) → reset_fits c ≡ true → (in_reset c Two ≡ true → eqb c.control2 0 ≡ true → ⊥) → in_reset c One ≡ false
unfolding reset_fits in_reset
awake c h k = go (bit 0 c.one.control0) h
  where
    go : (a : Bool) → (not a || (bit 0 c.two.control0 && eqb c.control2 0)) ≡ true → a ≡ false
    go true e = absurd (search (k, and_left, and_right))
    go false e = refl

-- 00 has no bit 0
zero_shut : (x : ℕ) → bit 0 x ≡ true → eqb x 0 ≡ true → ⊥
unfolding bit bit_of
zero_shut x h e = false≢true (rw (eqb-true x 0 e) at h)

fresh_valid : (pins : ℕ) → leb pins 2 ≡ true → Valid (fresh pins)
unfolding in_range valid_side zero_side alone_in_reset zero_shared reset_fits clear_fits clear run_fits zeros bit bit_of
fresh_valid pins h = made (firm h refl refl refl refl) refl refl refl

-- ---- a valid record, and what a step may do to it

-- a side anew, with the run flag r
anew : {c : Control} {t : Side} {r : Bool} (w : Which) → Valid c → Still (side_of c w) r t → not (r && at_end c w c.count) ≡ true
    → Valid (with_side w t c)
unfolding clear_fits clear run_fits at_end writer
anew {c} One h p e = made (steady_sides c h.steady p still_same) h.cleared (rw p.ran_as e) (h.runs Two)
anew {c} Two h p e = made (steady_sides c h.steady still_same p) h.cleared (h.runs One) (rw p.ran_as e)

-- a side anew, with the run flag that it had
as_was : {c : Control} {t : Side} (w : Which) → Valid c → Still (side_of c w) (side_of c w).run t → Valid (with_side w t c)
unfolding run_fits
as_was w h p = anew w h p (h.runs w)

module _ (c : Control) (h : Valid c) where
  -- both sides, one after the other
  beside : {t u : Side} (w : Which) → Still (side_of c w) (side_of c w).run t → Still (side_of c (other w)) (side_of c (other w)).run u
      → Valid (with_side (other w) u (with_side w t c))
  beside One p q = as_was Two (as_was One h p) q
  beside Two p q = as_was One (as_was Two h p) q

  -- ---- Control 0 and 1

  -- Control 0 without its Reset bit, where side 1 is then out of reset
  woken : (w : Which) (x : ℕ) → bit 0 x ≡ false → zero_shared (with_side w (with_control0 x (side_of c w)) c) ≡ true
      → in_reset (with_side w (with_control0 x (side_of c w)) c) One ≡ false → Valid (with_side w (with_control0 x (side_of c w)) c)
  unfolding in_reset in_range reset_fits clear_fits clear run_fits at_end writer
  woken One x z e a =
      made (firm h.steady.ranged (woken_side x c.one z h.steady.one) h.steady.two e (simp a)) h.cleared (h.runs One)
      (h.runs Two)
  woken Two x z e a =
      made (firm h.steady.ranged h.steady.one (woken_side x c.two z h.steady.two) e (simp a)) h.cleared (h.runs One)
      (h.runs Two)

  wrote0_valid : (w : Which) (x : ℕ) → in_reset c w ≡ false → bit 0 x ≡ false → Valid (wrote0 c w x)
  unfolding wrote0 kept0 in_reset zero_shared zeros
  wrote0_valid One x a z = woken One x z h.steady.shared z
  wrote0_valid Two x a z =
      let e = h.steady.shared in
      woken Two (clear_bit 2 (clear_bit 3 x)) (simp (bit_clear, z)) (simp bit_clear (search (and_both, and_left, and_right)))
      (awake c h.steady.linked (λ p _. false≢true (sym a ∙ p)))

  released_valid : (w : Which) (n x : ℕ) → connected c w ≡ true → Valid (released c w n x)
  unfolding released connected in_reset zero_shared zeros
  released_valid One n x a =
      test Valid (eqb n 0 && not (bit 0 x))
      (λ _. woken One (clear_bit 0 c.one.control0) (simp bit_clear) h.steady.shared (simp bit_clear)) (λ _. h)
  released_valid Two n x a =
      let one-awake = awake c h.steady.linked (λ _ q. zero_shut c.control2 (search (and_left, and_right)) q) in
      test Valid (eqb n 0 && not (bit 0 x))
      (λ _. woken Two (clear_bit 0 c.two.control0) (simp bit_clear) (simp bit_clear h.steady.shared) one-awake) (λ _. h)

  frozen_fits : (w : Which) (x : ℕ) → leb c.count 128 ≡ true → leb (side_of c w).frozen 128 ≡ true
      → leb (frozen_by c w x) 128 ≡ true
  unfolding frozen_by
  frozen_fits w x p q = test (λ n. leb n 128 ≡ true) (bit 6 x && not (bit 6 (side_of c w).control1)) (λ _. p) (λ _. q)

  wrote1_still : (w : Which) (x : ℕ) → Still (side_of c w) (afresh c w) (with_control1 (kept1 x) (frozen_by c w x) (afresh c w) (side_of c w))
  unfolding valid_side zero_side alone_in_reset in_range
  wrote1_still w x =
      let r = h.steady.ranged in
      record { same = refl; ran_as = refl; still = λ v. search (and_both, and_left, and_right, kept1_zeros, frozen_fits) depth 8 }

  wrote1_valid : (w : Which) (x : ℕ) → Valid (wrote1 c w x)
  unfolding wrote1
  wrote1_valid w x = anew w h (wrote1_still w x) (afresh_fits c w)

  -- ---- Control 2 and 3

  wrote2_valid : (w : Which) (x : ℕ) → in_reset c w ≡ false → Valid (wrote2 c w x)
  unfolding wrote2 in_reset in_range zero_shared reset_fits clear_fits clear run_fits at_end writer
  wrote2_valid One x a =
      let e = h.steady.shared in
      made (firm h.steady.ranged h.steady.one h.steady.two (search (and_both, and_left, and_right, field_zeros)) (simp a))
      h.cleared (h.runs One) (h.runs Two)
  wrote2_valid Two x a = h

  set3_valid : (x : ℕ) → zeros (3 ∷ 2 ∷ 1 ∷ 0 ∷ []) x ≡ true → Valid (set3 c x)
  unfolding set3 drained clear told emptied clear_fits turned run_fits at_end writer
  set3_valid x z = go (bit 6 x) refl
    where
      change : Bool
      change = turned c.control3 x

      d : Control
      d = told change (with_control3 x c)

      d_steady : Steady d
      d_steady = steady_told (with_control3 x c) (steady_control3 c h.steady x z) change

      -- with the direction that it had, each run flag fits as it did
      same_way : bit 4 c.control3 ≡ bit 4 x → clear_fits d ≡ true → Valid d
      same_way e k = made d_steady k (rw (← e) (h.runs One)) (rw (← e) (h.runs Two))

      go : (b : Bool) → bit 6 x ≡ b → Valid (rerun change (cond b d (emptied d)))
      go true e =
          rerun_valid d d_steady change (simp e)
          (λ q _. same_way (beq_same (bit 4 c.control3) (bit 4 x) (not-false _ q)) (simp e))
      go false e =
          rerun_valid (emptied d) (steady_place d d_steady 0 0 refl refl) change (simp e)
          (λ _ k. absurd (false≢true (sym e ∙ k)))

  wrote3_valid : (w : Which) (x : ℕ) → Valid (wrote3 c w x)
  unfolding wrote3
  wrote3_valid w x = set3_valid (next3 c w (seen3 w x)) (next3_zeros c w (seen3 w x))

  -- ---- a moved byte

  moved_still : (w : Which) (matched : Bool) (n : ℕ) → Still (side_of c w) (run_after c w n) (moved_side c w matched n)
  unfolding moved_side
  moved_still w matched n = search (still_so, raised_held, events_sources, held_same)

  moved_valid : (w : Which) (matched : Bool) (start n : ℕ) → clear c ≡ true → leb start 127 ≡ true → leb n 128 ≡ true
      → Valid (moved c w matched start n)
  unfolding moved clear_fits clear run_fits at_end writer moved_side
  moved_valid w matched start n a p q =
      let m : Bool = is_one w && matched in
      let l : Bool = not (is_one w) && matched in
      let e = steady_sides c h.steady (moved_still One m n) (moved_still Two l n) in
      made (steady_place (with_sides (moved_side c One m n) (moved_side c Two l n) c) e start n p q)
      (simp a) (after_fits c One n) (after_fits c Two n)

  after_accepted_valid : (w : Which) (matched : Bool) → accepted c w ≡ true → Valid (after_accepted c w matched)
  unfolding after_accepted accepted in_range
  after_accepted_valid w matched a =
      let r = h.steady.ranged in
      let l : ltb c.count 128 ≡ true = search (and_left, and_right) in
      moved_valid w matched c.start (c.count + 1) (search (and_left, and_right)) (search (and_left, and_right))
      (le-leb (c.count + 1) 128 (omega (arith, ltb-true c.count 128 l)))

  after_given_valid : (w : Which) (matched : Bool) → given c w ≡ true → Valid (after_given c w matched)
  unfolding after_given given in_range
  after_given_valid w matched a =
      let r = h.steady.ranged in
      let l : leb c.count 128 ≡ true = search (and_left, and_right) in
      moved_valid w matched ((c.start + 1) % 128) (c.count - 1) (search (and_left, and_right))
      (le-leb ((c.start + 1) % 128) 127 (omega arith))
      (le-leb (c.count - 1) 128 (omega (arith, leb-true c.count 128 l)))

  -- ---- messages

  sent_valid : (w : Which) (x : ℕ) → Valid (sent c w x)
  unfolding sent
  sent_valid w x = search (beside, still_so, raised_still, held_same)

  received_valid : (w : Which) → Valid (received c w)
  unfolding received
  received_valid w = search (beside, still_so, clear_held, held_same)

  -- ---- reset

  reset_valid : (w : Which) → Valid (reset c w)
  unfolding reset in_range valid_side zero_side alone_in_reset zero_shared reset_fits clear_fits clear run_fits at_end writer zeros bit bit_of
  reset_valid One = let r = h.steady.ranged in fresh_valid c.pins (search (and_left, and_right))
  reset_valid Two =
      let e = h.steady.shared in
      let l = go (bit 0 c.one.control0) h.steady.linked in
      made (firm h.steady.ranged h.steady.one refl (search (and_both, and_left, and_right)) l) h.cleared (h.runs One) refl
    where
      go : (a : Bool) → (not a || (bit 0 c.two.control0 && eqb c.control2 0)) ≡ true → (not a || eqb c.control2 0) ≡ true
      go true e = and_right (bit 0 c.two.control0) (eqb c.control2 0) e
      go false e = refl

  -- ---- a register written

  wrote_valid : (w : Which) (n x : ℕ) → in_reset c w ≡ false → (eqb n 0 && bit 0 x) ≡ false → Valid (wrote c w n x)
  unfolding wrote wrote_status
  wrote_valid w n x a z =
      search
      (test Valid, second_off, wrote0_valid, wrote1_valid, wrote2_valid, wrote3_valid, sent_valid, as_was, commands_still, still_so, held_same)
      depth 18

-- ---- a plan

record Keeps (p : Plan) : Type 0 where
  keeps : Valid p.next

keeps_so : {c : Control} {e : Effect} {r : Reply} → Valid c → Keeps (plan3 c e r)
keeps_so h = record { keeps = h }

-- an action after which the record is valid
record Good (c : Control) (a : Action) : Type 0 where
  good : (matched : Bool) → Keeps (plan c a matched)

-- four bits are at most 15
nibble : (x : ℕ) → small (field 4 0 x) ≡ true
unfolding field
nibble x = le-leb (x / 2 ^ 0 % 2 ^ 4) 15 (omega arith)

-- a source that is found is not source 0
found : (p : ℕ → Bool) (n : ℕ) → any_source p n ≡ true → eqb 0 (highest p n) ≡ false
unfolding any_source highest
found p zero h = absurd (false≢true h)
found p (suc n) h = go (p (suc n)) h (found p n)
  where
    go : (b : Bool) → (b || any_source p n) ≡ true → (any_source p n ≡ true → eqb 0 (highest p n) ≡ false)
        → eqb 0 (cond b (suc n) (highest p n)) ≡ false
    go true e r = eqb-zero-suc n
    go false e r = r e

-- with INT active, acknowledge takes a source
taken : (c : Control) (w : Which) → interrupt c w ≡ true → eqb 0 (acknowledged (side_of c w)) ≡ false
unfolding interrupt
taken c w h = found (due (side_of c w)) 7 (search (and_left, and_right))

module _ (c : Control) (h : Valid c) where
  failed_keeps : (w : Which) (a : Answer) → Keeps (failed c w a)
  unfolding failed
  failed_keeps w a = search (keeps_so, as_was, raised_still)

  offer_good : (dma : Bool) (w : Which) → Good c (Offer dma w)
  unfolding plan offering
  offer_good dma w = record { good = λ matched. search (test Keeps, keeps_so, after_accepted_valid, failed_keeps) }

  take_good : (dma : Bool) (w : Which) → Good c (Take dma w)
  unfolding plan taking
  take_good dma w = record { good = λ matched. search (test Keeps, keeps_so, after_given_valid, failed_keeps) }

  store_good : (w : Which) (r : Register) (x : ℕ) → connected c w ≡ true → Good c (Store w r x)
  unfolding plan storing renewed
  store_good w r x a = record { good = λ matched. search (test Keeps, keeps_so, released_valid, reset_valid, wrote_valid) }

  load_good : (w : Which) (r : Register) → Good c (Load w r)
  unfolding plan loading after_read
  load_good w r = record { good = λ matched. search (test Keeps, keeps_so, test Valid, received_valid) }

  aim_good : (w : Which) (x : ℕ) → Good c (Aim w (field 4 0 x))
  unfolding plan aimed
  aim_good w x = record { good = λ matched. search (keeps_so, as_was, still_so, held_same, held_so, nibble) }

  grant_good : (w : Which) → interrupt c w ≡ true → Good c (Grant w)
  unfolding plan granted served
  grant_good w a = record { good = λ matched. search (keeps_so, as_was, still_so, set_held, held_same, taken) }

  renew_good : (w : Which) → Good c (Renew w)
  unfolding plan renewed
  renew_good w = record { good = λ matched. keeps_so (reset_valid c h w) }

  float_good : Good c Float
  unfolding plan
  float_good = record { good = λ matched. keeps_so h }

  refuse_good : (n : ℕ) → Good c (Refuse n)
  unfolding plan
  refuse_good n = record { good = λ matched. keeps_so h }

  action_good : (s : Step) → Good c (action c s)
  action_good =
      by_action c (λ s a. Good c a)
      (record {
        offer = λ s dma. offer_good dma _;
        take = λ s dma. take_good dma _;
        store = λ s r x k. store_good _ r x k;
        load = λ s r. load_good _ r;
        aim = λ s x. aim_good _ x;
        grant = λ w k. grant_good w k;
        renew = λ s. renew_good _;
        float = λ s. float_good;
        refuse = λ s. refuse_good 2;
      })

-- ---- a step

ended_keeps : (back : Bool) (w : Which) (p : Plan) → Keeps p → Keeps (ended back w p)
unfolding ended
ended_keeps back w p h = search (test Keeps, keeps_so, as_was, still_so, held_same)

pub planned_valid : (c : Control) (s : Step) (front : ℕ) → valid c ≡ true → valid (planned c s front).next ≡ true
unfolding planned
planned_valid c s front h =
    let matched : Bool = verdict c (action c s) (carries s) front in
    let kept = ended_keeps (closes c s) (side_in s) (plan c (action c s) matched) ((action_good c (parts c h) s).good matched) in
    whole (planned c s front).next kept.keeps

pub carried_long : (e : Effect) (x : ℕ) (p : Payload) → length p.buffer ≡ 128 → length (on_payload e x p).buffer ≡ 128
carried_long Keep x p h = h
carried_long Wipe x p h = length-replicate {A = ℕ} 128 0
carried_long (Place i) x p h = length-set p.buffer (i % 128) x ∙ h

pub step_sound : (k : Chip) (s : Step) → Sound k → Sound (step k s).chip
unfolding step decided
step_sound k s h =
    let front : ℕ = front_of k.control k.payload in
    rw h.fits
    (record {
      fits = planned_valid k.control s front h.fits;
      long = carried_long (planned k.control s front).effect (carries s) k.payload h.long;
    })

-- ---- from the start

-- a start leaves the chip as side 1's reset does
pub reset_fresh : (c : Control) → reset c One ≡ fresh c.pins
unfolding reset
reset_fresh c = refl

pub reset_new : (k : Chip) → valid k.control ≡ true → (step k (Reset One)).chip ≡ new_chip k.control.pins
unfolding step decided planned ended closes action connected plan renewed reset in_range
reset_new k h =
    let r = (parts k.control h).steady.ranged in
    let p : leb k.control.pins 2 ≡ true = search (and_left, and_right) in
    rw (h, p)

pub fresh_sound : (pins : ℕ) → leb pins 2 ≡ true → Sound (new_chip pins)
fresh_sound pins h = record { fits = whole (fresh pins) (fresh_valid pins h); long = length-replicate {A = ℕ} 128 0 }

pub ran_sound : (k : Chip) (ss : List Step) → Sound k → Sound (ran k ss)
unfolding ran
ran_sound k [] h = h
ran_sound k (s ∷ ss) h = ran_sound (step k s).chip ss (step_sound k s h)

pub history_sound : (k : Chip) (ss : List Step) → Sound k → AllSound (history k ss)
unfolding history
history_sound k [] h = tt
history_sound k (s ∷ ss) h = (step_sound k s h, history_sound (step k s).chip ss (step_sound k s h))
