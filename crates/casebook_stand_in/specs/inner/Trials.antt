-- Trials: runs of texts over a state that they leave unchanged.
use Rattle.std.specs.Prelude.{ℕ, List}
use Rattle.retro_tree.specs.State.{SameSessions}
use Rattle.retro_tree.specs.Lawful.{IsLawful}
use Rattle.retro_tree.specs.Overlay.{OverlayMap, Fits}
use Rattle.retro_tree.specs.Commit.{committed}
use Rattle.retro_tree.specs.declared.state.State.{State}
use Rattle.retro_shell.specs.Runs.{RunValue}
use Rattle.casebook_stand_in.specs.Texts.{Lead}

-- Runs of a session's lines over a state, and the cells that they change. The runs lead from the
-- state to the one with these cells set, which is lawful and has the same sessions.
pub record IsTrial (sid : ℕ) (s : State) (runs : List RunValue) (cells : OverlayMap) : Type 0 where
  pub fits : Fits cells
  pub leads : Lead sid runs s (committed cells s)
  pub lawful : IsLawful (committed cells s)
  pub sessions : SameSessions (committed cells s) s
