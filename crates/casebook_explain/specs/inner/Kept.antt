-- What the type of told lines guarantees.
use Rattle.std.specs.Prelude.{◌≡◌, IsTrue}
use Rattle.retro_tree.specs.Lawful.{IsLawful}
use Rattle.retro_tree.specs.declared.state.State.{State}
use Rattle.retro_keep.specs.Script.{have_sessions}
use Rattle.casebook_explain.specs.Value.{ToldValue}
use Rattle.casebook_explain.specs.inner.Sound.{AreSound, after_lines, sessions_of}

-- The first state is lawful and has the sessions of the lines, these are sound from there on, and
-- the last state is the one after them.
pub record IsKept (told : ToldValue) (end : State) : Type 0 where
  pub lawful : IsLawful told.first
  pub known : IsTrue (have_sessions told.first (sessions_of told.lines))
  pub sound : AreSound told.lines told.first
  pub last : end ≡ after_lines told.lines told.first
