use Rattle.retro_tree.proofs.PutCells.{state_committed}
use Rattle.retro_tree.proofs.KeptSessions.{commit_keeps_sessions}
use Rattle.retro_tree.proofs.overlay_laws.committed_states.Goals as goal

pub returns-clause-state : goal.returns-clause-state
returns-clause-state c = state_committed

pub returns-clause-same_sessions : goal.returns-clause-same_sessions
returns-clause-same_sessions c = commit_keeps_sessions
