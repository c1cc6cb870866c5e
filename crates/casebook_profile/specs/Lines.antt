-- Why lines aren't understood: the first reason, in the order of the line.
use Rattle.std.specs.Prelude.{ℕ, false, not, ◌&&◌, List, [], ◌∷◌, Option, Some, None, map}
use Rattle.std.specs.Prelude.{if◌then◌else◌}
use Rattle.std.specs.List.{list_all}
use Rattle.retro_syntax.specs.Lines.{parsed}
use Rattle.retro_syntax.specs.Tree.{Word, Simple, assignments, command, Commands, last, more, AndOr, end, chain}
use Rattle.retro_syntax.specs.Tree.{Pipeline, pipeline, Command, simples, conditional, loop, Arms, fi, otherwise, elif}
use Rattle.casebook_usage.specs.declared.obstacle.Obstacle.{Obstacle}
use Rattle.casebook_usage.specs.declared.obstacle.Obstacle.TheVariants as obstacles
use Rattle.casebook_profile.specs.Commands.{first_of, stages_obstacle, unless_clear}
use Rattle.casebook_profile.specs.Scope.{Scope, is_loop, with_loop, with_set}
use Rattle.casebook_profile.specs.Variables.{is_special}
use Rattle.casebook_profile.specs.Words.{is_clear, is_plain_word}

-- ---- variables that a part of a line surely sets

abbrev pub set_by_simple : Simple → List (List ℕ)
set_by_simple (assignments all) = map (λ a. a.name) all
set_by_simple (command items) = []

-- In a pipe of several commands nothing is set.
abbrev pub set_by_stages : List Simple → List (List ℕ)
set_by_stages [] = []
set_by_stages (s ∷ []) = set_by_simple s
set_by_stages (s ∷ t ∷ ss) = []

abbrev pub set_by_command : Command → List (List ℕ)
set_by_command (simples ss) = set_by_stages ss
set_by_command (conditional a) = []
set_by_command (loop name ws c) = []

abbrev pub set_by_pipeline : Pipeline → List (List ℕ)
set_by_pipeline (pipeline negated c) = set_by_command c

-- The first pipeline of an and-or list always runs.
abbrev pub set_by : AndOr → List (List ℕ)
set_by (end p) = set_by_pipeline p
set_by (chain p op a) = set_by_pipeline p

-- ---- `for`

-- The body sees the variable of the loop as plain if all words are.
abbrev pub loop_scope : Scope → List ℕ → List Word → Scope
loop_scope scope name ws = if list_all is_plain_word ws then with_loop name scope else with_set (name ∷ []) scope

-- A loop's variable isn't set in its body.
abbrev pub loop_obstacle : Scope → List ℕ → List Word → Option Obstacle
loop_obstacle scope name ws =
    if is_special name then Some obstacles.Form
    else unless_clear (not (is_loop scope name) && list_all (is_clear scope) ws)

-- ---- lists, `if` and `for`

abbrev mutual
  pub list_obstacle : Scope → Commands → Option Obstacle
  list_obstacle scope (last a closed) = and_or_obstacle scope a
  list_obstacle scope (more a c) =
      first_of (and_or_obstacle scope a) (list_obstacle (with_set (set_by a) scope) c)

  pub and_or_obstacle : Scope → AndOr → Option Obstacle
  and_or_obstacle scope (end p) = pipeline_obstacle scope p
  and_or_obstacle scope (chain p op a) =
      first_of (pipeline_obstacle scope p) (rest_obstacle (with_set (set_by_pipeline p) scope) a)

  -- the pipelines after the first one, which may not run
  pub rest_obstacle : Scope → AndOr → Option Obstacle
  rest_obstacle scope (end p) = pipeline_obstacle scope p
  rest_obstacle scope (chain p op a) = first_of (pipeline_obstacle scope p) (rest_obstacle scope a)

  pub pipeline_obstacle : Scope → Pipeline → Option Obstacle
  pipeline_obstacle scope (pipeline negated c) = command_obstacle scope c

  pub command_obstacle : Scope → Command → Option Obstacle
  command_obstacle scope (simples ss) = stages_obstacle scope false ss
  command_obstacle scope (conditional a) = arms_obstacle scope a
  command_obstacle scope (loop name ws c) =
      first_of (loop_obstacle scope name ws) (list_obstacle (loop_scope scope name ws) c)

  pub arms_obstacle : Scope → Arms → Option Obstacle
  arms_obstacle scope (fi c t) = first_of (list_obstacle scope c) (list_obstacle scope t)
  arms_obstacle scope (otherwise c t e) =
      first_of (first_of (list_obstacle scope c) (list_obstacle scope t)) (list_obstacle scope e)
  arms_obstacle scope (elif c t a) =
      first_of (first_of (list_obstacle scope c) (list_obstacle scope t)) (arms_obstacle scope a)

-- a condition, and the list that it guards
abbrev pub arm_obstacle : Scope → Commands → Commands → Option Obstacle
arm_obstacle scope c t = first_of (list_obstacle scope c) (list_obstacle scope t)

-- ---- lines

-- A blank line is understood. A text that is no line of the profile isn't.
abbrev pub line_obstacle : Scope → Option (Option Commands) → Option Obstacle
line_obstacle scope None = Some obstacles.Form
line_obstacle scope (Some None) = None
line_obstacle scope (Some (Some c)) = list_obstacle scope c

-- why a text isn't understood, or None if it is
unfoldable pub text_obstacle : Scope → List ℕ → Option Obstacle
text_obstacle scope text = line_obstacle scope (parsed text)
