-- The arms of an `if`, whose code is in two parts: the `if` itself, and the list after its `else`.
use Rattle.std.specs.Prelude.{List, map, Option, Some, None}
use Rattle.retro_syntax.specs.Tree as T
use Rattle.retro_syntax.specs.Parsing.{arms_up_to}
use Rattle.retro_syntax.specs.View.{commands_of, view}
use Rattle.retro_syntax.specs.declared.tree.Command.{Command}
use Rattle.retro_syntax.specs.declared.tree.Commands.{Commands}
use Rattle.retro_syntax.specs.declared.tree.Conditional.{Conditional}

-- the last condition and its list, with or without an `else`
abbrev pub last_arm : T.Commands → T.Commands → Option T.Commands → T.Arms
last_arm c t None = T.fi c t
last_arm c t (Some e) = T.otherwise c t e

abbrev pub arm_of : Commands Command × Commands Command → T.Commands × T.Commands
arm_of arm = (commands_of view arm.0, commands_of view arm.1)

-- these arms, and then the last one of an `if`
abbrev pub arms_with : List (Commands Command × Commands Command) → Conditional Command → Option T.Commands → T.Arms
arms_with before parts other =
    arms_up_to (map arm_of before)
    (last_arm (commands_of view parts.condition) (commands_of view parts.consequence) other)
