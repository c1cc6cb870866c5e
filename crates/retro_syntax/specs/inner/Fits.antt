-- Whether a value of the code nests no deeper than a number.
use Rattle.std.specs.Prelude.{ℕ, Bool, true, ◌&&◌, nat_le, List, [], ◌∷◌}
use Rattle.retro_syntax.specs.Depth as D
use Rattle.retro_syntax.specs.View.{view}
use Rattle.retro_syntax.specs.declared.tree.AndOr.{AndOr}
use Rattle.retro_syntax.specs.declared.tree.Pipeline.{Pipeline}
use Rattle.retro_syntax.specs.declared.tree.Connector.{Connector}
use Rattle.retro_syntax.specs.declared.tree.Commands.{Commands}
use Rattle.retro_syntax.specs.declared.tree.Conditional.{Conditional}
use Rattle.retro_syntax.specs.declared.tree.Command.{Command}

abbrev pub command_fits : Command → ℕ → Bool
command_fits c n = nat_le (D.command_depth (view c)) n

abbrev pub pipelines_fit : List (Pipeline Command × Connector) → ℕ → Bool
pipelines_fit [] n = true
pipelines_fit (j ∷ js) n = command_fits j.0.command n && pipelines_fit js n

abbrev pub and_or_fits : AndOr Command → ℕ → Bool
and_or_fits a n = pipelines_fit a.before.items n && command_fits a.last.command n

abbrev pub and_ors_fit : List (AndOr Command) → ℕ → Bool
and_ors_fit [] n = true
and_ors_fit (a ∷ more) n = and_or_fits a n && and_ors_fit more n

abbrev pub list_fits : Commands Command → ℕ → Bool
list_fits l n = and_ors_fit l.before.items n && and_or_fits l.last n

abbrev pub arms_fit : List (Commands Command × Commands Command) → ℕ → Bool
arms_fit [] n = true
arms_fit (a ∷ more) n = (list_fits a.0 n && list_fits a.1 n) && arms_fit more n

abbrev pub conditional_fits : Conditional Command → ℕ → Bool
conditional_fits x n =
    arms_fit x.before.items n && (list_fits x.condition n && list_fits x.consequence n)
