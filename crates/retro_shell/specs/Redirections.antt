-- Redirections (XCU 2.7), and where the output of a command goes.
use Rattle.std.specs.Prelude.{ℕ, ◌==◌, false, if◌then◌else◌, List, [], ◌∷◌, ◌++◌, length, Result, Ok, Err, codes}
use Rattle.retro_tree.specs.Path.{PathValue}
use Rattle.retro_tree.specs.declared.kind.Kind.{Kind}
use Rattle.retro_tree.specs.declared.kind.Kind.TheVariants as kinds
use Rattle.retro_tree.specs.declared.state.State.{State}
use Rattle.retro_local.specs.Kinds.{kind_at}
use Rattle.retro_syntax.specs.Tree.{Item, argument, redirect}
use Rattle.retro_syntax.specs.declared.tree.Direction.{Direction}
use Rattle.retro_syntax.specs.declared.tree.Direction.TheVariants.{From, Onto, Append}
use Rattle.retro_utils.specs.Operands.{located}
use Rattle.retro_utils.specs.Output.{appended, opened}
use Rattle.retro_utils.specs.Reasons.{fault_text}
use Rattle.retro_utils.specs.declared.done.Done.{Done}
use Rattle.retro_utils.specs.declared.input.Input.{Input}
use Rattle.retro_utils.specs.declared.input.Input.TheVariants as inputs
use Rattle.retro_utils.specs.declared.mode.Mode.TheVariants as modes
use Rattle.retro_utils.specs.declared.reason.Reason.{Reason}
use Rattle.retro_utils.specs.declared.reason.Reason.TheVariants.{NoSuchFile, IsDirectory}
use Rattle.retro_shell.specs.Expansion.{single}
use Rattle.retro_shell.specs.Outcomes.{failure}
use Rattle.retro_shell.specs.declared.context.Context.{Context}
use Rattle.retro_shell.specs.declared.streams.Streams.{Streams}
use Rattle.retro_shell.specs.declared.target.Target.{Target}
use Rattle.retro_shell.specs.declared.target.Target.TheVariants as targets

-- ---- one redirection

-- `<` needs a file, which is read when the command reads its input.
abbrev pub input_from : List ℕ → PathValue → Kind → Streams → Result Streams Done
input_from word p kinds.Missing io = Err (failure word NoSuchFile)
input_from word p kinds.Dir io = Err (failure word IsDirectory)
input_from word p kinds.File io = Ok (record io { input = inputs.File p })

-- the output goes to the file that was opened
abbrev pub output_to : List ℕ → PathValue → Streams → State × Result (Unit {0}) Reason → State × Result Streams Done
output_to word p io (s, Ok done) = (s, Ok (record io { output = targets.File word p }))
output_to word p io (s, Err reason) = (s, Err (failure word reason))

abbrev pub redirection_to : Direction → List ℕ → PathValue → Streams → State → State × Result Streams Done
redirection_to From word p io s = (s, input_from word p (kind_at p s) io)
redirection_to Onto word p io s = output_to word p io (opened modes.Truncate p s)
redirection_to Append word p io s = output_to word p io (opened modes.Append p s)

abbrev pub redirection_at : Direction → List ℕ → Result PathValue Reason → Streams → State
    → State × Result Streams Done
redirection_at d word (Ok p) io s = redirection_to d word p io s
redirection_at d word (Err reason) io s = (s, Err (failure word reason))

-- a redirection to the path that an expanded word names
unfoldable pub redirection : ℕ → Direction → List ℕ → Streams → State → State × Result Streams Done
redirection sid d word io s = redirection_at d word (located sid word s) io s

-- ---- the redirections of a command

abbrev pub then_redirected : State × Result Streams Done → (Streams → State → State × Result Streams Done)
    → State × Result Streams Done
then_redirected (s, Ok io) rest = rest io s
then_redirected (s, Err failed) rest = (s, Err failed)

-- From left to right, up to the first that fails. Each word is expanded in the state that the
-- redirections before it left. The last one of each direction counts.
abbrev pub redirections : Context → List Item → Streams → State → State × Result Streams Done
redirections context [] io s = (s, Ok io)
redirections context (argument w ∷ items) io s = redirections context items io s
redirections context (redirect d w ∷ items) io s =
    then_redirected (redirection context.place.sid d (single context s false w) io s) (redirections context items)

-- ---- output

abbrev pub after_append : List ℕ → Done → State × Result (Unit {0}) Reason → State × Done
after_append word done (s, Ok written) = (s, record done { out = [] })
after_append word done (s, Err reason) =
    (s, record { out = []; err = done.err ++ fault_text (codes "sh") word reason; status = 1 })

-- Output is appended to its file as a whole, or lost as a whole. What is left of it goes to the
-- pipe or the terminal.
unfoldable pub delivery : Target → Done → State → State × Done
delivery targets.Standard done s = (s, done)
delivery (targets.File word p) done s =
    if length done.out == 0 then (s, done) else after_append word done (appended done.out p s)
