-- The records that a host holds: the model's, with each flag in a byte. What they mean, and how the model's records are shown in them.
use Rattle.std.specs.Prelude.{ℕ, ◌≡◌, Bool, true, false, cond, ◌&&◌, eqb, ltb, Result, MatchResult}
use Rattle.machine.specs.declared.Side.{Side}
use Rattle.machine.specs.declared.Control.{Control}
use Rattle.machine.specs.declared.Refusal.{Refusal}
use Rattle.machine.specs.declared.Refusal.TheVariants.{NotValid}
use Rattle.line.specs.Unfinished.{partial}
use Rattle.session.specs.declared.Session.{Session}
use Rattle.host.specs.declared.HostSide.{HostSide}
use Rattle.host.specs.declared.HostControl.{HostControl}
use Rattle.host.specs.declared.HostSession.{HostSession}

-- ---- a refusal before the model is asked

-- what is meant, where the flags are in range, and else refusal 1
abbrev pub MeansIf : {A : Type 0} → Bool → A → Result A Refusal → Type 0
MeansIf in_range x r = MatchResult r (λ y. (in_range ≡ true) × (y ≡ x)) (λ e. (in_range ≡ false) × (e ≡ NotValid))

-- ---- a flag in a byte

-- bits 7-1 of a flag's byte are held at zero
abbrev pub is_flag : ℕ → Bool
is_flag x = ltb x 2

abbrev pub flag : ℕ → Bool
flag x = eqb x 1

abbrev pub byte_of : Bool → ℕ
byte_of b = cond b 1 0

-- ---- a side

-- its three flags are in range
unfoldable pub plain_side : HostSide → Bool
plain_side s = is_flag s.state1 && is_flag s.run && is_flag s.waiting

abbrev pub side_meant : HostSide → Side
side_meant s =
    record {
      control0 = s.control0;
      control1 = s.control1;
      ip = s.ip;
      ie = s.ie;
      ius = s.ius;
      vector = s.vector;
      compare = s.compare;
      pattern = s.pattern;
      mask = s.mask;
      pointer = s.pointer;
      state1 = flag s.state1;
      run = flag s.run;
      frozen = s.frozen;
      message = s.message;
      waiting = flag s.waiting;
    }

abbrev pub side_shown : Side → HostSide
side_shown s =
    record {
      control0 = s.control0;
      control1 = s.control1;
      ip = s.ip;
      ie = s.ie;
      ius = s.ius;
      vector = s.vector;
      compare = s.compare;
      pattern = s.pattern;
      mask = s.mask;
      pointer = s.pointer;
      state1 = byte_of s.state1;
      run = byte_of s.run;
      frozen = s.frozen;
      message = s.message;
      waiting = byte_of s.waiting;
    }

-- ---- the record of a chip but for its buffer

unfoldable pub plain : HostControl → Bool
unfolding plain_side
plain h = plain_side h.one && plain_side h.two

abbrev pub meant : HostControl → Control
meant h =
    record {
      pins = h.pins;
      one = side_meant h.one;
      two = side_meant h.two;
      control2 = h.control2;
      control3 = h.control3;
      start = h.start;
      count = h.count;
    }

abbrev pub shown : Control → HostControl
shown c =
    record {
      pins = c.pins;
      one = side_shown c.one;
      two = side_shown c.two;
      control2 = c.control2;
      control3 = c.control3;
      start = c.start;
      count = c.count;
    }

-- ---- a session: what is kept of the line that is being read, whether there is a chip, and its record

unfoldable pub plain_session : HostSession → Bool
unfolding plain
plain_session s = is_flag s.fault && is_flag s.present && plain s.control

abbrev pub session_meant : HostSession → Session
session_meant s = record { partial = partial s.value s.digits (flag s.fault); present = flag s.present; control = meant s.control }

abbrev pub session_shown : Session → HostSession
session_shown s =
    record {
      value = s.partial.value;
      digits = s.partial.digits;
      fault = byte_of s.partial.fault;
      present = byte_of s.present;
      control = shown s.control;
    }

-- ---- both ways

-- what is shown can be handed over again, and means what was shown
abbrev pub MeansShown : Type 0
MeansShown = (c : Control) → (plain (shown c) ≡ true) × (meant (shown c) ≡ c)

abbrev pub MeansShownSession : Type 0
MeansShownSession = (s : Session) → (plain_session (session_shown s) ≡ true) × (session_meant (session_shown s) ≡ s)

-- a record whose flags are in range is shown as it was handed over
abbrev pub ShowsMeant : Type 0
ShowsMeant = (h : HostControl) → plain h ≡ true → shown (meant h) ≡ h

abbrev pub ShowsMeantSession : Type 0
ShowsMeantSession = (s : HostSession) → plain_session s ≡ true → session_shown (session_meant s) ≡ s
