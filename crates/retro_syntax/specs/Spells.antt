-- The grammar (XCU 2.10): which trees are lists of commands, and which tokens spell such a list. No
-- state machine is mentioned here: tokens spell a tree if they are that tree written out.
use Rattle.std.specs.Prelude.{◌≡◌, Bool, true, false, ◌&&◌, List, [], ◌∷◌, Some}
use Rattle.retro_syntax.specs.Tree.{plain, quoted, parameter, quoted_parameter, Word, Assignment, Token, Item, argument}
use Rattle.retro_syntax.specs.Tree.{redirect, Simple, assignments, command, Commands, last, more, AndOr, end, chain}
use Rattle.retro_syntax.specs.Tree.{Pipeline, pipeline, Command, simples, conditional, loop, Arms, fi, otherwise, elif}
use Rattle.retro_syntax.specs.Tree.{commands_then}
use Rattle.retro_syntax.specs.Words.{class, name_of, is_ordinary, is_supported}

abbrev pub begins_unquoted : Word → Bool
begins_unquoted [] = false
begins_unquoted (plain text ∷ ps) = true
begins_unquoted (quoted text ∷ ps) = false
begins_unquoted (parameter n ∷ ps) = false
begins_unquoted (quoted_parameter n ∷ ps) = false

-- An assignment that a line may have, whose value begins with the unquoted text after the `=`.
abbrev pub is_assigned : Assignment → Bool
is_assigned a = begins_unquoted a.value && is_supported a

abbrev pub are_assigned : List Assignment → Bool
are_assigned [] = true
are_assigned (a ∷ more_of) = is_assigned a && are_assigned more_of

-- The first word, redirections aside, is an ordinary word.
abbrev pub begins_well : List Item → Bool
begins_well [] = true
begins_well (argument w ∷ is) = is_ordinary (class w)
begins_well (redirect d w ∷ is) = begins_well is

abbrev pub is_simple : Simple → Bool
is_simple (assignments []) = false
is_simple (assignments (a ∷ more_of)) = are_assigned (a ∷ more_of)
is_simple (command []) = false
is_simple (command (i ∷ is)) = begins_well (i ∷ is)

abbrev pub are_simple : List Simple → Bool
are_simple [] = true
are_simple (s ∷ ss) = is_simple s && are_simple ss

abbrev pub are_stages : List Simple → Bool
are_stages [] = false
are_stages (s ∷ ss) = are_simple (s ∷ ss)

abbrev pub is_compound : Command → Bool
is_compound (simples ss) = false
is_compound (conditional a) = true
is_compound (loop n ws c) = true

-- A reserved word is recognized only where a command may begin. So a list that a reserved word
-- follows ends with `;`, or with the `fi` or `done` of a compound command.
abbrev pub ends_compound : AndOr → Bool
ends_compound (end (pipeline negated c)) = is_compound c
ends_compound (chain p op a) = ends_compound a

abbrev pub ends_itself : Commands → Bool
ends_itself (last a true) = true
ends_itself (last a false) = ends_compound a
ends_itself (more a c) = ends_itself c

abbrev pub EndsItself : Commands → Type 0
EndsItself c = ends_itself c ≡ true

abbrev mutual
  pub IsCommands : Commands → Type 0
  IsCommands (last a closed) = IsAndOr a
  IsCommands (more a c) = IsAndOr a × IsCommands c

  pub IsAndOr : AndOr → Type 0
  IsAndOr (end p) = IsPipeline p
  IsAndOr (chain p op a) = IsPipeline p × IsAndOr a

  pub IsPipeline : Pipeline → Type 0
  IsPipeline (pipeline negated c) = IsCommand c

  pub IsCommand : Command → Type 0
  IsCommand (simples ss) = are_stages ss ≡ true
  IsCommand (conditional a) = IsArms a
  IsCommand (loop name ws c) =
      (name_of (plain name ∷ []) ≡ Some name) × (IsCommands c × EndsItself c)

  pub IsArms : Arms → Type 0
  IsArms (fi c t) = (IsCommands c × EndsItself c) × (IsCommands t × EndsItself t)
  IsArms (otherwise c t e) =
      (IsCommands c × EndsItself c) × (IsCommands t × EndsItself t) × (IsCommands e × EndsItself e)
  IsArms (elif c t a) = (IsCommands c × EndsItself c) × (IsCommands t × EndsItself t) × IsArms a

-- The tokens spell the list: the grammar has it, and the tokens are the list written out.
pub record Spells (ts : List Token) (c : Commands) : Type 0 where
  pub tree : IsCommands c
  pub written : ts ≡ commands_then c []
