-- What is known of variables where a part of a line runs.
use Rattle.std.specs.Prelude.{ℕ, Bool, true, not, ◌&&◌, ◌||◌, List, [], ◌∷◌, ◌++◌}
use Rattle.std.specs.List.{list_any}
use Rattle.retro_path.specs.Order.{text_eq}
use Rattle.retro_syntax.specs.Tree.{Parameter, status, variable}
use Rattle.casebook_profile.specs.Variables.{is_changing}

-- Which variables are set before the line, those that earlier parts of the line set, and those of
-- `for`s around the part whose words are plain.
pub record Scope : Type 0 where
  pub before : List ℕ → Bool
  pub set : List (List ℕ)
  pub loops : List (List ℕ)

-- more variables that the line sets
abbrev pub with_set : List (List ℕ) → Scope → Scope
with_set names scope = record { before = scope.before; set = scope.set ++ names; loops = scope.loops }

-- one more variable of a `for` whose words are plain
abbrev pub with_loop : List ℕ → Scope → Scope
with_loop name scope = record { before = scope.before; set = scope.set; loops = scope.loops ++ name ∷ [] }

abbrev pub is_loop : Scope → List ℕ → Bool
is_loop scope name = list_any (text_eq name) scope.loops

-- whether the recording has a value of the variable
abbrev pub is_set : Scope → List ℕ → Bool
is_set scope name = scope.before name || (list_any (text_eq name) scope.set || is_loop scope name)

-- whether the value of a parameter is known: the recording has it, and the shell doesn't change it
-- by itself
abbrev pub is_known : Scope → Parameter → Bool
is_known scope status = true
is_known scope (variable name) = is_set scope name && not (is_changing name)

-- whether the value of a parameter is one plain word: not empty, without blanks and patterns, and
-- without a dash before it
abbrev pub is_plain : Scope → Parameter → Bool
is_plain scope status = true
is_plain scope (variable name) = is_loop scope name
