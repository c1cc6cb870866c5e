-- Pipes, lists, `if` and `for` (XCU 2.9.2 to 2.9.4).
use Rattle.std.specs.Prelude.{ℕ, ◌==◌, Bool, true, false, not, nat_le, if◌then◌else◌, List, [], ◌∷◌, ◌++◌, length}
use Rattle.std.specs.Prelude.{codes, Option, Some, None, unwrap_or}
use Rattle.retro_tree.specs.Change.{put_var}
use Rattle.retro_tree.specs.Session.{value_limit}
use Rattle.retro_tree.specs.declared.state.State.{State}
use Rattle.retro_syntax.specs.Tree.{Simple, Commands, last, more, AndOr, end, chain, Pipeline, pipeline, Word}
use Rattle.retro_syntax.specs.Tree.{Command, simples, conditional, loop, Arms, fi, otherwise, elif}
use Rattle.retro_syntax.specs.declared.tree.Connector.{Connector}
use Rattle.retro_syntax.specs.declared.tree.Connector.TheVariants.{AndIf, OrIf}
use Rattle.retro_utils.specs.Outcomes.{nothing_done}
use Rattle.retro_utils.specs.declared.done.Done.{Done}
use Rattle.retro_utils.specs.declared.input.Input.TheVariants.{Bytes}
use Rattle.retro_shell.specs.Expansion.{fields}
use Rattle.retro_shell.specs.Fields.{fields_fit}
use Rattle.retro_shell.specs.Outcomes.{complaint}
use Rattle.retro_shell.specs.Simple.{simple}
use Rattle.retro_shell.specs.declared.context.Context.{Context}
use Rattle.retro_shell.specs.declared.progress.Progress.{Progress}

-- a part of a line: the state and the progress after it, from those before it
abbrev pub Step : Type 0
Step = Progress → State → State × Progress

-- one part, then the next
abbrev pub and_then : State × Progress → Step → State × Progress
and_then (s, x) next = next x s

-- the progress of a line that hasn't run anything
abbrev pub nothing_run : Progress
nothing_run = record { text = []; last = None }

-- the status of the last pipeline, or 0
abbrev pub status_of : Progress → ℕ
status_of x = unwrap_or x.last 0

abbrev pub succeeded : Progress → Bool
succeeded x = status_of x == 0

abbrev pub with_status : ℕ → Progress → Progress
with_status status x = record x { last = Some status }

-- more text on the terminal
abbrev pub printed : List ℕ → Progress → Progress
printed text x = record x { text = x.text ++ text }

-- a diagnostic of the shell, with a status
abbrev pub complained : List ℕ → ℕ → Progress → Progress
complained text status x = with_status status (printed (complaint text) x)

-- where a part runs, outside a pipe
abbrev pub context_of : ℕ → Progress → Context
context_of sid x = record { place = record { sid = sid; sub = false }; last = x.last }

-- ---- pipes (XCU 2.9.2)

-- The output of a pipe's last command goes to the terminal, and its diagnostics after it. Its
-- status is the pipeline's.
abbrev pub completed : Done → Progress → Progress
completed done x = with_status done.status (printed (done.out ++ done.err) x)

abbrev pub next_stage : State × Done → Progress → (Done → Step) → State × Progress
next_stage (s, done) x rest = rest done x s

-- From left to right, each command as a whole, after a command that left `done`. Each reads the
-- output of the one before it, whose diagnostics go to the terminal.
abbrev pub stages : Context → List Simple → Done → Step
stages context [] done x s = (s, completed done x)
stages context (c ∷ cs) done x s =
    next_stage (simple context c (Bytes done.out) s) (printed done.err x) (stages context cs)

-- two commands or more
abbrev pub is_several : List Simple → Bool
is_several [] = false
is_several (c ∷ []) = false
is_several (c ∷ d ∷ cs) = true

-- A pipe. Each of two commands or more runs in a subshell (XCU 2.12), with the `$?` from before it.
unfoldable pub pipe : ℕ → List Simple → Step
pipe sid cs x s =
    stages (record { place = record { sid = sid; sub = is_several cs }; last = x.last }) cs (nothing_done 0) x s

-- ---- lists (XCU 2.9.2, 2.9.3)

-- the status after a `!`
abbrev pub negated : Bool → State × Progress → State × Progress
negated false r = r
negated true (s, x) = (s, with_status (if succeeded x then 1 else 0) x)

-- whether the pipeline after a connector runs
abbrev pub goes_on : Connector → Progress → Bool
goes_on AndIf x = succeeded x
goes_on OrIf x = not (succeeded x)

abbrev pub run_if : Bool → Step → Step
run_if true step x s = step x s
run_if false step x s = (s, x)

-- ---- `if` (XCU 2.9.4.4)

-- the first part if the status is 0, and else the second
abbrev pub choose : Step → Step → Step
choose consequence alternative x s = if succeeded x then consequence x s else alternative x s

-- Without a branch that runs, the status is 0.
abbrev pub no_branch : Step
no_branch x s = (s, with_status 0 x)

-- ---- `for` (XCU 2.9.4.2)

-- The body for each field as the variable's value. A value over the limit ends the loop (own).
abbrev pub turns : ℕ → List ℕ → Step → List (List ℕ) → Step
turns sid name body [] x s = (s, x)
turns sid name body (f ∷ fs) x s =
    if nat_le (length f) value_limit
    then and_then (body x (put_var sid name f s)) (turns sid name body fs)
    else (s, complained (codes "value too long") 1 x)

-- Without fields, the status is 0.
abbrev pub for_each : ℕ → List ℕ → Step → List (List ℕ) → Step
for_each sid name body [] x s = (s, with_status 0 x)
for_each sid name body (f ∷ fs) x s = turns sid name body (f ∷ fs) x s

abbrev pub for_fields : ℕ → List ℕ → Step → List (List ℕ) → Step
for_fields sid name body fs x s =
    if fields_fit fs then for_each sid name body fs x s
    else (s, complained (codes "argument list too long") 126 x)

-- ---- the tree of a line

module _ (sid : ℕ) where
  abbrev mutual
    pub run_commands : Commands → Step
    run_commands (last a closed) x s = run_and_or true a x s
    run_commands (more a c) x s = and_then (run_and_or true a x s) (run_commands c)

    -- From left to right: the status so far says whether the next pipeline runs. The flag says
    -- whether the first one does.
    pub run_and_or : Bool → AndOr → Step
    run_and_or runs (end p) x s = run_if runs (run_pipeline p) x s
    run_and_or runs (chain p op a) x s =
        and_then (run_if runs (run_pipeline p) x s) (λ y. run_and_or (goes_on op y) a y)

    pub run_pipeline : Pipeline → Step
    run_pipeline (pipeline bang c) x s = negated bang (run_command c x s)

    pub run_command : Command → Step
    run_command (simples cs) x s = pipe sid cs x s
    run_command (conditional a) x s = run_arms a x s
    run_command (loop name ws c) x s =
        for_fields sid name (run_commands c) (fields (context_of sid x) s ws) x s

    pub run_arms : Arms → Step
    run_arms (fi c t) x s = and_then (run_commands c x s) (choose (run_commands t) no_branch)
    run_arms (otherwise c t e) x s = and_then (run_commands c x s) (choose (run_commands t) (run_commands e))
    run_arms (elif c t a) x s = and_then (run_commands c x s) (choose (run_commands t) (run_arms a))
