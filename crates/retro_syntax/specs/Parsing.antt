-- The tree of a list of tokens, read token by token. `reading_is_spelling` says that this finds
-- exactly the trees of specs/Spells.antt, so that a reader need not trust this file.
use Rattle.std.specs.Prelude.{ℕ, Bool, true, false, List, [], ◌∷◌, ◌++◌, Option, Some, None, if◌then◌else◌, option_map}
use Rattle.retro_syntax.specs.Tree.{Word, Assignment, Token, semicolon, bar, connector, redirection, word, Item}
use Rattle.retro_syntax.specs.Tree.{argument, redirect, Simple, assignments, command, Commands, last, more, AndOr, end}
use Rattle.retro_syntax.specs.Tree.{chain, Pipeline, pipeline, Command, simples, conditional, loop, Arms, fi, otherwise}
use Rattle.retro_syntax.specs.Tree.{elif}
use Rattle.retro_syntax.specs.Words.{class, name_of, assignment_of, is_ordinary, is_assignment}
use Rattle.retro_syntax.specs.declared.tree.Direction.{Direction}
use Rattle.retro_syntax.specs.declared.tree.Connector.{Connector}
use Rattle.retro_syntax.specs.declared.tree.ReservedWord.{ReservedWord}
use Rattle.retro_syntax.specs.declared.tree.ReservedWord.TheVariants.{Bang as bang, If as key_if, Then as key_then}
use Rattle.retro_syntax.specs.declared.tree.ReservedWord.TheVariants.{Elif as key_elif, Else as key_else, Fi as key_fi}
use Rattle.retro_syntax.specs.declared.tree.ReservedWord.TheVariants.{For as key_for, In as key_in, Do as key_do}
use Rattle.retro_syntax.specs.declared.tree.ReservedWord.TheVariants.{Done as key_done}
use Rattle.retro_syntax.specs.declared.words.Class.{Class}
use Rattle.retro_syntax.specs.declared.words.Class.TheVariants.{Reserved as reserved, Assignment as assignment}
use Rattle.retro_syntax.specs.declared.words.Class.TheVariants.{Ordinary as ordinary}

-- ---- What is being read.

-- a list that is being read: its and-or lists that a `;` follows, the pipelines of the pending
-- and-or list with the connectors after them, and whether the pending pipeline begins with `!`
pub record Open : Type 0 where
  pub and_ors : List AndOr
  pub pipelines : List (Pipeline × Connector)
  pub negated : Bool

abbrev pub empty_list : Open
empty_list = record { and_ors = []; pipelines = []; negated = false }

-- the part of a compound command that an inner list is, with the parts of the command before it
pub data Frame : Type 0 where
  -- the condition of an `if` or `elif`, after these arms
  condition : List (Commands × Commands) → Frame
  -- the list after `then`, after these arms and this condition
  consequence : List (Commands × Commands) → Commands → Frame
  -- the list after `else`, after these arms, the last condition and its consequence
  alternative : List (Commands × Commands) → Commands → Commands → Frame
  -- the list that a `for` repeats
  body : List ℕ → List Word → Frame

-- where in a list the next token is
pub data Place : Type 0 where
  -- where a command may begin
  start : Place
  -- after a part of a simple command, with the stages of the pipe before it
  in_simple : List Simple → Simple → Place
  -- after a redirection's operator, with the stages and the items before it
  target : List Simple → List Item → Direction → Place
  -- after a `|`, with the stages before it
  after_bar : List Simple → Place
  -- after a compound command
  after_compound : Command → Place
  -- after `for`, after its variable, among its words, and after the `;` that follows them
  for_name : Place
  for_in : List ℕ → Place
  for_words : List ℕ → List Word → Place
  for_do : List ℕ → List Word → Place

-- the innermost list is `here`; the stack has the lists that contain it, the innermost of them
-- first
pub record State : Type 0 where
  pub stack : List (Open × Frame)
  pub here : Open
  pub place : Place

abbrev pub at : List (Open × Frame) → Open → Place → State
at st o p = record { stack = st; here = o; place = p }

-- ---- Trees from what was read.

abbrev pub join : List (Pipeline × Connector) → Pipeline → AndOr
join [] p = end p
join (j ∷ js) p = chain j.0 j.1 (join js p)

abbrev pub and_or : Open → Command → AndOr
and_or o c = join o.pipelines (pipeline o.negated c)

abbrev pub listed : List AndOr → AndOr → Bool → Commands
listed [] a closing = last a closing
listed (d ∷ ds) a closing = more d (listed ds a closing)

-- the list of these, each followed by `;`
abbrev pub all_closed : List AndOr → Option Commands
all_closed [] = None
all_closed (a ∷ []) = Some (last a true)
all_closed (a ∷ b ∷ more_of) = option_map (more a) (all_closed (b ∷ more_of))

abbrev pub arms_up_to : List (Commands × Commands) → Arms → Arms
arms_up_to [] a = a
arms_up_to (x ∷ xs) a = elif x.0 x.1 (arms_up_to xs a)

-- ---- Steps.

abbrev pub close_by : List (Open × Frame) → Open → Frame → Commands → ReservedWord → Option State
close_by st o (condition xs) l key_then = Some (at ((o, consequence xs l) ∷ st) empty_list start)
close_by st o (consequence xs c) l key_elif =
    Some (at ((o, condition (xs ++ (c, l) ∷ [])) ∷ st) empty_list start)
close_by st o (consequence xs c) l key_else = Some (at ((o, alternative xs c l) ∷ st) empty_list start)
close_by st o (consequence xs c) l key_fi =
    Some (at st o (after_compound (conditional (arms_up_to xs (fi c l)))))
close_by st o (alternative xs c t) l key_fi =
    Some (at st o (after_compound (conditional (arms_up_to xs (otherwise c t l)))))
close_by st o (body n ws) l key_done = Some (at st o (after_compound (loop n ws l)))
close_by st o f l k = None

-- after a reserved word that ends the innermost list
abbrev pub close : List (Open × Frame) → Commands → ReservedWord → Option State
close [] l k = None
close (x ∷ st) l k = close_by st x.0 x.1 l k

abbrev pub close_some : List (Open × Frame) → Option Commands → ReservedWord → Option State
close_some st None k = None
close_some st (Some l) k = close st l k

-- the list that ends where a command may begin, if it may end there
abbrev pub end_of : List AndOr → List (Pipeline × Connector) → Bool → Option Commands
end_of and_ors [] false = all_closed and_ors
end_of and_ors [] true = None
end_of and_ors (j ∷ js) negated = None

abbrev pub may_end : Open → Option Commands
may_end o = end_of o.and_ors o.pipelines o.negated

abbrev pub begin_reserved : List (Open × Frame) → Open → ReservedWord → Option State
begin_reserved st o bang =
    if o.negated then None else Some (at st (record o { negated = true }) start)
begin_reserved st o key_if = Some (at ((o, condition []) ∷ st) empty_list start)
begin_reserved st o key_for = Some (at st o for_name)
begin_reserved st o k = close_some st (may_end o) k

-- after a further assignment, if the word is one
abbrev pub push_assignment : List (Open × Frame) → Open → List Simple → List Assignment
    → Option Assignment → Option State
push_assignment st o ss xs None = None
push_assignment st o ss xs (Some a) = Some (at st o (in_simple ss (assignments (xs ++ a ∷ []))))

abbrev pub begin_simple : List (Open × Frame) → Open → List Simple → Word → Class → Option State
begin_simple st o ss w assignment = push_assignment st o ss [] (assignment_of w)
begin_simple st o ss w ordinary = Some (at st o (in_simple ss (command (argument w ∷ []))))
begin_simple st o ss w c = None

abbrev pub begin : List (Open × Frame) → Open → Word → Class → Option State
begin st o w (reserved k) = begin_reserved st o k
begin st o w c = begin_simple st o [] w c

-- whether the items are redirections only
abbrev pub no_argument : List Item → Bool
no_argument [] = true
no_argument (argument w ∷ is) = false
no_argument (redirect d w ∷ is) = no_argument is

abbrev pub add_word : List (Open × Frame) → Open → List Simple → Simple → Word → Option State
add_word st o ss (assignments xs) w =
    if is_assignment (class w) then push_assignment st o ss xs (assignment_of w) else None
add_word st o ss (command is) w =
    if no_argument is then
    (if is_ordinary (class w) then Some (at st o (in_simple ss (command (is ++ argument w ∷ []))))
    else None)
    else Some (at st o (in_simple ss (command (is ++ argument w ∷ []))))

abbrev pub add_direction : List (Open × Frame) → Open → List Simple → Simple → Direction
    → Option State
add_direction st o ss (assignments ws) d = None
add_direction st o ss (command is) d = Some (at st o (target ss is d))

-- after an operator that follows a command
abbrev pub go_on : List (Open × Frame) → Open → Command → Token → Option State
go_on st o c semicolon =
    Some (at st (record { and_ors = o.and_ors ++ and_or o c ∷ []; pipelines = []; negated = false }) start)
go_on st o c (connector op) =
    Some (at st
    (record o { pipelines = o.pipelines ++ (pipeline o.negated c, op) ∷ []; negated = false }) start)
go_on st o c t = None

abbrev pub close_word : List (Open × Frame) → Open → Command → Class → Option State
close_word st o c (reserved k) = close st (listed o.and_ors (and_or o c) false) k
close_word st o c _ = None

abbrev pub only_key : ReservedWord → Class → Option State → Option State
only_key key_in (reserved key_in) s = s
only_key key_do (reserved key_do) s = s
only_key k c s = None

abbrev pub step_at : List (Open × Frame) → Open → Place → Token → Option State
step_at st o start (word w) = begin st o w (class w)
step_at st o start (redirection d) = Some (at st o (target [] [] d))
step_at st o start t = None
step_at st o (in_simple ss s) (word w) = add_word st o ss s w
step_at st o (in_simple ss s) (redirection d) = add_direction st o ss s d
step_at st o (in_simple ss s) bar = Some (at st o (after_bar (ss ++ s ∷ [])))
step_at st o (in_simple ss s) t = go_on st o (simples (ss ++ s ∷ [])) t
step_at st o (target ss is d) (word w) =
    Some (at st o (in_simple ss (command (is ++ redirect d w ∷ []))))
step_at st o (target ss is d) t = None
step_at st o (after_bar ss) (word w) = begin_simple st o ss w (class w)
step_at st o (after_bar ss) (redirection d) = Some (at st o (target ss [] d))
step_at st o (after_bar ss) t = None
step_at st o (after_compound c) (word w) = close_word st o c (class w)
step_at st o (after_compound c) t = go_on st o c t
step_at st o for_name (word w) = option_map (λ n. at st o (for_in n)) (name_of w)
step_at st o for_name t = None
step_at st o (for_in n) (word w) = only_key key_in (class w) (Some (at st o (for_words n [])))
step_at st o (for_in n) t = None
step_at st o (for_words n ws) (word w) = Some (at st o (for_words n (ws ++ w ∷ [])))
step_at st o (for_words n ws) semicolon = Some (at st o (for_do n ws))
step_at st o (for_words n ws) t = None
step_at st o (for_do n ws) (word w) =
    only_key key_do (class w) (Some (at ((o, body n ws) ∷ st) empty_list start))
step_at st o (for_do n ws) t = None

unfoldable pub step : State → Token → Option State
step s t = step_at s.stack s.here s.place t

abbrev pub run : Option State → List Token → Option State
run None ts = None
run (Some s) [] = Some s
run (Some s) (t ∷ ts) = run (step s t) ts

-- ---- At the end of the line.

abbrev pub finish_at : List (Open × Frame) → Open → Place → Option Commands
finish_at [] o start = may_end o
finish_at [] o (in_simple ss s) = Some (listed o.and_ors (and_or o (simples (ss ++ s ∷ []))) false)
finish_at [] o (after_compound c) = Some (listed o.and_ors (and_or o c) false)
finish_at st o p = None

abbrev pub finish : Option State → Option Commands
finish None = None
finish (Some s) = finish_at s.stack s.here s.place

-- the list that the tokens spell, or None if they spell none
unfoldable pub commands_of : List Token → Option Commands
commands_of ts = finish (run (Some (at [] empty_list start)) ts)
