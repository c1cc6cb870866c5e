-- What a line means: the state after it, and the text that the terminal gets (XCU 2.9).
use Rattle.std.specs.Prelude.{ℕ, ◌≡◌, List, [], codes, Option, Some, None}
use Rattle.std.specs.FinMap as map
use Rattle.retro_tree.specs.State.{put_status}
use Rattle.retro_tree.specs.declared.state.State.{State}
use Rattle.retro_syntax.specs.Tree.{Commands}
use Rattle.retro_syntax.specs.Lines.{parsed}
use Rattle.retro_shell.specs.Commands.{nothing_run, run_commands, status_of}
use Rattle.retro_shell.specs.Outcomes.{complaint}
use Rattle.retro_shell.specs.declared.progress.Progress.{Progress}

-- the end of a line: the session's status is set last
abbrev pub line_end : ℕ → State × Progress → State × List ℕ
line_end sid (s, x) = (put_status sid (status_of x) s, x.text)

-- the meaning of a line: None for a text outside the grammar, and Some None for a blank line
abbrev pub meaning : ℕ → Option (Option Commands) → State → State × List ℕ
meaning sid None s = (put_status sid 2 s, complaint (codes "unsupported line"))
meaning sid (Some None) s = (s, [])
meaning sid (Some (Some c)) s = line_end sid (run_commands sid c nothing_run s)

-- the state after a line of a session, and the text that the terminal gets
unfoldable pub line : ℕ → List ℕ → State → State × List ℕ
line sid text s = meaning sid (parsed text) s

-- two states have the same sessions, by their numbers
pub record HasSameSessions (old new : State) : Type 0 where
  pub same : (sid : ℕ) → map.contains_key new.sessions sid ≡ map.contains_key old.sessions sid
