-- A line's notes leave a lawful state lawful, with the same sessions.
use Rattle.std.proofs.Common.{ℕ, List, [], refl}
use Rattle.retro_tree.specs.Notes.{after, AllAllowed}
use Rattle.retro_tree.specs.declared.note.Note.{Note}
use Rattle.retro_tree.specs.declared.state.State.{State}
use Rattle.retro_tree.proofs.KeptSessions.{notes_keep_sessions}
use Rattle.retro_tree.proofs.NoteLaws.{lawful_after}
use Rattle.retro_local.specs.Trace.{IsOwn, named_sessions}
use Rattle.retro_shell.specs.Line.{HasSameSessions}

pub same_sessions : (notes : List Note) (s : State) → AllAllowed notes s → HasSameSessions s (after notes s)
same_sessions notes s h = record { same = notes_keep_sessions notes s h }

-- no notes name no session
pub owns_none : (sid : ℕ) → IsOwn sid []
unfolding named_sessions
owns_none sid = refl

pub ruleset after_notes = (same_sessions, lawful_after)
