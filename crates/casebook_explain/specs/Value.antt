-- What a recording is made of: its first state, and the told lines.
use Rattle.std.specs.Prelude.{List}
use Rattle.retro_tree.specs.declared.state.State.{State}
use Rattle.casebook_explain.specs.declared.told.ToldLine.{ToldLine}

pub record ToldValue : Type 0 where
  pub first : State
  pub lines : List ToldLine
