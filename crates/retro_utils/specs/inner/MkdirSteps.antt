-- `mkdir -p` one prefix after another.
use Rattle.std.specs.Prelude.{[], ◌∷◌, ◌++◌, Result, Ok, Err}
use Rattle.retro_tree.specs.Path.{PathValue}
use Rattle.retro_tree.specs.State.{put_node}
use Rattle.retro_tree.specs.declared.kind.Kind.{Kind}
use Rattle.retro_tree.specs.declared.kind.Kind.TheVariants as kinds
use Rattle.retro_tree.specs.declared.node.Node.TheVariants.{Dir}
use Rattle.retro_tree.specs.declared.state.State.{State}
use Rattle.retro_local.specs.Kinds.{kind_at}
use Rattle.retro_utils.specs.MkdirParents.{blocked_at}
use Rattle.retro_utils.specs.declared.reason.Reason.{Reason}

abbrev pub step_by : Kind → PathValue → PathValue → State → State × Result (Unit {0}) Reason
step_by kinds.Missing p prefix s = (put_node prefix Dir s, Ok tt)
step_by kinds.Dir p prefix s = (s, Ok tt)
step_by kinds.File p prefix s = (s, Err (blocked_at p prefix))

-- one prefix of p made, if it is missing
unfoldable pub make_step : PathValue → PathValue → State → State × Result (Unit {0}) Reason
make_step p prefix s = step_by (kind_at prefix s) p prefix s

abbrev pub and_then : State × Result (Unit {0}) Reason → (State → State × Result (Unit {0}) Reason)
    → State × Result (Unit {0}) Reason
and_then (s, Ok made) rest = rest s
and_then (s, Err reason) rest = (s, Err reason)

-- the prefixes of p below `at`, by the names that follow it
abbrev pub make_each : PathValue → PathValue → PathValue → State → State × Result (Unit {0}) Reason
make_each p at [] s = (s, Ok tt)
make_each p at (name ∷ names) s =
    and_then (make_step p (at ++ name ∷ []) s) (make_each p (at ++ name ∷ []) names)
