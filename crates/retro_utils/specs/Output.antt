-- Files opened for output and written to (XCU 2.7.2, 2.7.3).
use Rattle.std.specs.Prelude.{ℕ, List, [], length, Ok, if◌then◌else◌}
use Rattle.retro_tree.specs.Path.{PathValue, is_null}
use Rattle.retro_tree.specs.State.{grow_file, permit_of, put_node}
use Rattle.retro_tree.specs.declared.node.Node.TheVariants.{File}
use Rattle.retro_tree.specs.declared.state.State.{State}
use Rattle.retro_utils.specs.Operands.{Action}
use Rattle.retro_utils.specs.Outcomes.{made_unless}
use Rattle.retro_utils.specs.Reasons.{refusal}
use Rattle.retro_utils.specs.declared.mode.Mode.{Mode}
use Rattle.retro_utils.specs.declared.mode.Mode.TheVariants.{Truncate, Append}

-- the state after a file is opened: `>` empties it, `>>` leaves it, and either creates a missing
-- one
abbrev pub prepared : Mode → PathValue → State → State
prepared Truncate p s = put_node p (File []) s
prepared Append p s = grow_file p [] s

-- a file opened for output; /dev/null discards what is written
unfoldable pub opened : Mode → Action
opened mode p s =
    if is_null p then (s, Ok tt) else made_unless (refusal (permit_of p 0 s)) (prepared mode p) s

-- bytes appended to an open file
unfoldable pub appended : List ℕ → Action
appended text p s =
    if is_null p then (s, Ok tt) else made_unless (refusal (permit_of p (length text) s)) (grow_file p text) s
