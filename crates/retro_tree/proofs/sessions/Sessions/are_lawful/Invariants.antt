use Rattle.std.proofs.Common.{◌≡◌}
use Rattle.std.specs.List.{list_all}
use Rattle.retro_tree.specs.Limits.{session_fits, are_lawful_sessions}
use Rattle.retro_tree.proofs.sessions.Sessions.are_lawful.Given as goal

abbrev pub invariant-loop-session : goal.invariant-loop-session
invariant-loop-session l = are_lawful_sessions l.self ≡ list_all session_fits l.session-iterator
