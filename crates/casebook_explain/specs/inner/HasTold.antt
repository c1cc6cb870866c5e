-- What is known once some of the lines were told.
use Rattle.std.specs.Prelude.{◌≡◌, ℕ, IsTrue, List, drop, take}
use Rattle.retro_tree.specs.Lawful.{IsLawful}
use Rattle.retro_tree.specs.declared.state.State.{State}
use Rattle.retro_shell.specs.Line.{HasSameSessions}
use Rattle.retro_keep.specs.Script.{have_sessions}
use Rattle.casebook_explain.specs.Told.{AreTold, state_at_end}
use Rattle.casebook_explain.specs.inner.Sound.{AreSound, after_lines, sessions_of}
use Rattle.casebook_explain.specs.declared.seen_line.SeenLine.{SeenLine}
use Rattle.casebook_explain.specs.declared.told.ToldLine.{ToldLine}

-- The first lines of `lines`, as many as `count`, were told from a state on, and lead to a state.
pub record HasTold (first : State) (lines rest : List SeenLine) (count : ℕ) (told : List ToldLine) (s : State) : Type 0 where
  pub left : drop count lines ≡ rest
  pub are_told : AreTold (take count lines) told first
  pub ends : s ≡ state_at_end (take count lines) told first
  pub sound : AreSound told first
  pub leads : s ≡ after_lines told first
  pub known : IsTrue (have_sessions first (sessions_of told))
  pub lawful : IsLawful s
  pub sessions : HasSameSessions first s
