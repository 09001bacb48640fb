-- What is shown means what was shown, and what is meant is shown as it was handed over. Assumes nothing.
use Prim.Native.Nat.{ℕ}
use mathlib.Core.Path.{◌≡◌, refl}
use mathlib.Core.Bool.{Bool, true, false, ◌&&◌}
use borrow.Author.Tests.{ltb-true}
use Rattle.bits.proofs.Laws.{two, and_left, and_right}
use Rattle.machine.specs.declared.Side.{Side}
use Rattle.host.specs.declared.HostSide.{HostSide}
use Rattle.host.specs.Records.{is_flag, flag, byte_of, plain_side, side_meant, side_shown, plain, plain_session, MeansShown, ShowsMeant, MeansShownSession, ShowsMeantSession}

-- ---- a flag

in_range_lem : (b : Bool) → is_flag (byte_of b) ≡ true
in_range_lem true = refl
in_range_lem false = refl

means_flag : (b : Bool) → flag (byte_of b) ≡ b
means_flag true = refl
means_flag false = refl

shows_flag : (x : ℕ) → is_flag x ≡ true → byte_of (flag x) ≡ x
shows_flag x h = two (λ x. byte_of (flag x) ≡ x) refl refl x (ltb-true x 2 h)

-- ---- a side

side_in_range : (s : Side) → plain_side (side_shown s) ≡ true
unfolding plain_side
side_in_range s = rw (in_range_lem s.state1, in_range_lem s.run, in_range_lem s.waiting)

means_side : (s : Side) → side_meant (side_shown s) ≡ s
means_side s = rw (means_flag s.state1, means_flag s.run, means_flag s.waiting)

shows_side : (s : HostSide) → plain_side s ≡ true → side_shown (side_meant s) ≡ s
unfolding plain_side
shows_side s h =
    let l = and_left (is_flag s.state1 && is_flag s.run) (is_flag s.waiting) h in
    rw (shows_flag s.state1 (and_left _ _ l), shows_flag s.run (and_right (is_flag s.state1) _ l), shows_flag s.waiting (and_right (is_flag s.state1 && is_flag s.run) _ h))

-- ---- a record

pub means_shown : MeansShown
unfolding plain
means_shown c = (rw (side_in_range c.one, side_in_range c.two), rw (means_side c.one, means_side c.two))

pub shows_meant : ShowsMeant
unfolding plain
shows_meant h p = rw (shows_side h.one (and_left _ _ p), shows_side h.two (and_right (plain_side h.one) _ p))

-- ---- a session

pub means_shown_session : MeansShownSession
unfolding plain_session
means_shown_session s = (
  rw (in_range_lem s.partial.fault, in_range_lem s.present, (means_shown s.control).0),
  rw (means_flag s.partial.fault, means_flag s.present, (means_shown s.control).1),
)

pub shows_meant_session : ShowsMeantSession
unfolding plain_session
shows_meant_session s p =
    let l = and_left (is_flag s.fault && is_flag s.present) (plain s.control) p in
    rw (shows_flag s.fault (and_left _ _ l), shows_flag s.present (and_right (is_flag s.fault) _ l), shows_meant s.control (and_right (is_flag s.fault && is_flag s.present) _ p))
