-- The tests of `test` that look at a path (XCU test, -e, -f and -d).
use Rattle.std.specs.Prelude.{ℕ, Bool, true, false, List, Result, Ok, Err, if◌then◌else◌}
use Rattle.retro_tree.specs.Node.{kind_of}
use Rattle.retro_tree.specs.Path.{PathValue, is_null}
use Rattle.retro_tree.specs.Tree.{node_in}
use Rattle.retro_tree.specs.declared.kind.Kind.{Kind}
use Rattle.retro_tree.specs.declared.kind.Kind.TheVariants as kinds
use Rattle.retro_tree.specs.declared.state.State.{State}
use Rattle.retro_utils.specs.Operands.{located}
use Rattle.retro_text.specs.declared.condition.PathTest.{PathTest}
use Rattle.retro_text.specs.declared.condition.PathTest.TheVariants as tests
use Rattle.retro_utils.specs.declared.reason.Reason.{Reason}

-- whether a node of a kind passes
abbrev pub kind_passes : PathTest → Kind → Bool
kind_passes tests.Exists kinds.Missing = false
kind_passes tests.Exists kinds.Dir = true
kind_passes tests.Exists kinds.File = true
kind_passes tests.IsFile kinds.Missing = false
kind_passes tests.IsFile kinds.Dir = false
kind_passes tests.IsFile kinds.File = true
kind_passes tests.IsDir kinds.Missing = false
kind_passes tests.IsDir kinds.Dir = true
kind_passes tests.IsDir kinds.File = false

-- whether /dev/null passes: it exists, and is neither a regular file nor a directory
abbrev pub null_passes : PathTest → Bool
null_passes tests.Exists = true
null_passes tests.IsFile = false
null_passes tests.IsDir = false

unfoldable pub path_passes : PathTest → PathValue → State → Bool
path_passes test p s = if is_null p then null_passes test else kind_passes test (kind_of (node_in p s.tree))

abbrev pub passes_at : PathTest → Result PathValue Reason → State → Bool
passes_at test (Ok p) s = path_passes test p s
passes_at test (Err reason) s = false

-- whether what an operand names passes; an operand that names no path doesn't
unfoldable pub operand_passes : ℕ → PathTest → List ℕ → State → Bool
operand_passes sid test operand s = passes_at test (located sid operand s) s
