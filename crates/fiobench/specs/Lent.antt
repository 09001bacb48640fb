-- The state that a session has with what is lent to it.
use Rattle.session.specs.Feed.{State, state_of}
use Rattle.fiobench.specs.declared.Replay.{Replay}

-- by the buffer behind its reference
abbrev pub state_in : Replay → State
state_in r = state_of r.session r.buffer.now
