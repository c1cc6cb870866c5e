-- What is written for a tree is read as that tree.
use Rattle.std.proofs.Common.{◌≡◌, ℕ, Bool, true, false, ◌&&◌, List, [], ◌∷◌, ◌++◌, Some, None, cond, option_map, subst}
use Rattle.std.proofs.Common.{refl, sym, ap, ◌∙◌, append_assoc, append-nil}
use Rattle.retro_syntax.specs.Tree.{plain, Word, Assignment, assignment_word, assignments_then, Token, semicolon, bar}
use Rattle.retro_syntax.specs.Tree.{connector, redirection, word, plain_token, key, Item, argument, redirect, Simple}
use Rattle.retro_syntax.specs.Tree.{assignments, command, Commands, last, more, AndOr, end, chain, Pipeline, pipeline}
use Rattle.retro_syntax.specs.Tree.{Command, simples, conditional, loop, Arms, fi, otherwise, elif, items_then}
use Rattle.retro_syntax.specs.Tree.{words_then, simple_then, stages_then, commands_then, andor_then, pipeline_then}
use Rattle.retro_syntax.specs.Tree.{command_then, arms_then, for_then}
use Rattle.retro_syntax.specs.declared.tree.Direction.{Direction}
use Rattle.retro_syntax.specs.declared.tree.Connector.{Connector}
use Rattle.retro_syntax.specs.declared.tree.ReservedWord.{ReservedWord}
use Rattle.retro_syntax.specs.declared.tree.ReservedWord.TheVariants.{Bang as bang, If as key_if, Then as key_then}
use Rattle.retro_syntax.specs.declared.tree.ReservedWord.TheVariants.{Elif as key_elif, Else as key_else, Fi as key_fi}
use Rattle.retro_syntax.specs.declared.tree.ReservedWord.TheVariants.{For as key_for, In as key_in, Do as key_do}
use Rattle.retro_syntax.specs.declared.tree.ReservedWord.TheVariants.{Done as key_done}
use Rattle.retro_syntax.specs.declared.words.Class.{Class}
use Rattle.retro_syntax.specs.declared.words.Class.TheVariants.{Reserved as reserved, Forbidden as forbidden}
use Rattle.retro_syntax.specs.declared.words.Class.TheVariants.{Assignment as assignment, Ordinary as ordinary}
use Rattle.retro_syntax.specs.Words.{class, name_of, is_ordinary}
use Rattle.retro_syntax.specs.Parsing.{Open, Frame, condition, consequence, alternative, body, Place, start, in_simple}
use Rattle.retro_syntax.specs.Parsing.{target, after_bar, after_compound, for_name, for_in, for_words, for_do, State}
use Rattle.retro_syntax.specs.Parsing.{at, step, run, join, and_or, listed, arms_up_to, empty_list, no_argument, finish}
use Rattle.retro_syntax.specs.Parsing.{commands_of, close, close_some, begin_reserved, may_end, all_closed, finish_at}
use Rattle.retro_syntax.specs.Parsing.{go_on}
use Rattle.retro_syntax.specs.Spells.{is_assigned, are_assigned, begins_well, is_simple, are_simple, are_stages}
use Rattle.retro_syntax.specs.Spells.{is_compound, ends_compound, ends_itself, Spells, IsCommands, IsAndOr, IsPipeline}
use Rattle.retro_syntax.specs.Spells.{IsCommand, IsArms}
use Rattle.retro_syntax.proofs.WordLemmas.{class_key, class_assigned, assignment_of_word}

abbrev Stack : Type 0
Stack = List (Open × Frame)

-- ---- a simple command

and_left : (a b : Bool) → (a && b) ≡ true → a ≡ true
and_left true b e = refl
and_left false b e = e

and_right : (a b : Bool) → (a && b) ≡ true → b ≡ true
and_right true b e = e
and_right false b e = cc

-- one step, and then the rest
next : (s s' : State) (t : Token) (r : List Token) → step s t ≡ Some s' → run (Some s) (t ∷ r) ≡ run (Some s') r
next s s' t r e = ap (λ x. run x r) e

step_assign : (st : Stack) (o : Open) (ss : List Simple) (xs : List Assignment) (a : Assignment) → is_assigned a ≡ true
    → step (at st o (in_simple ss (assignments xs))) (word (assignment_word a)) ≡ Some
    (at st o (in_simple ss (assignments (xs ++ a ∷ []))))
unfolding step
step_assign st o ss xs a h = rw (class_assigned a h, assignment_of_word a h) refl

-- more assignments after others
assignments_on : (st : Stack) (o : Open) (ss : List Simple) (xs ys : List Assignment) (r : List Token)
    → are_assigned ys ≡ true
    → run (Some (at st o (in_simple ss (assignments xs)))) (assignments_then ys r) ≡ run
    (Some (at st o (in_simple ss (assignments (xs ++ ys))))) r
assignments_on st o ss xs [] r h = rw append-nil refl
assignments_on st o ss xs (a ∷ ys) r h =
    let one = and_left (is_assigned a) (are_assigned ys) h in
    let rest = assignments_on st o ss (xs ++ a ∷ []) ys r (and_right (is_assigned a) (are_assigned ys) h) in
    next _ _ (word (assignment_word a)) (assignments_then ys r) (step_assign st o ss xs a one) ∙ rest
    ∙ ap (λ zs. run (Some (at st o (in_simple ss (assignments zs)))) r) (append_assoc xs (a ∷ []) ys)

-- items after others, which have a word already or have none
abbrev fits : List Item → List Item → Bool
fits xs is = cond (no_argument xs) (begins_well is) true

step_target : (st : Stack) (o : Open) (ss : List Simple) (xs : List Item) (d : Direction) (w : Word) (r : List Token)
    → run (Some (at st o (in_simple ss (command xs)))) (redirection d ∷ word w ∷ r) ≡ run
    (Some (at st o (in_simple ss (command (xs ++ redirect d w ∷ []))))) r
unfolding step
step_target st o ss xs d w r = refl

add_if : (a b : Bool) (x : State) → cond a b true ≡ true → cond a (cond b (Some x) None) (Some x) ≡ Some x
add_if true true x h = refl
add_if true false x h = cc
add_if false b x h = refl

step_argument : (st : Stack) (o : Open) (ss : List Simple) (xs : List Item) (w : Word)
    → cond (no_argument xs) (is_ordinary (class w)) true ≡ true
    → step (at st o (in_simple ss (command xs))) (word w) ≡ Some
    (at st o (in_simple ss (command (xs ++ argument w ∷ []))))
unfolding step
step_argument st o ss xs w h = add_if (no_argument xs) (is_ordinary (class w)) _ h

no_argument-append : (xs : List Item) (i : Item) → no_argument (xs ++ i ∷ []) ≡ (no_argument xs && no_argument (i ∷ []))
no_argument-append [] i = refl
no_argument-append (argument w ∷ xs) i = refl
no_argument-append (redirect d w ∷ xs) i = no_argument-append xs i

fits_argument : (a b : Bool) → cond (a && false) b true ≡ true
fits_argument true b = refl
fits_argument false b = refl

fits_redirect : (a b : Bool) → cond a b true ≡ true → cond (a && true) b true ≡ true
fits_redirect true b h = h
fits_redirect false b h = h

-- more items after others
items_on : (st : Stack) (o : Open) (ss : List Simple) (xs is : List Item) (r : List Token) → fits xs is ≡ true
    → run (Some (at st o (in_simple ss (command xs)))) (items_then is r) ≡ run
    (Some (at st o (in_simple ss (command (xs ++ is))))) r
items_on st o ss xs [] r h = rw append-nil refl
items_on st o ss xs (argument w ∷ is) r h =
    let rest = items_on st o ss (xs ++ argument w ∷ []) is r
    (rw (no_argument-append xs (argument w)) (fits_argument (no_argument xs) (begins_well is))) in
    next _ _ (word w) (items_then is r) (step_argument st o ss xs w h) ∙ rest
    ∙ ap (λ ys. run (Some (at st o (in_simple ss (command ys)))) r) (append_assoc xs (argument w ∷ []) is)
items_on st o ss xs (redirect d w ∷ is) r h =
    let rest = items_on st o ss (xs ++ redirect d w ∷ []) is r
    (rw (no_argument-append xs (redirect d w)) (fits_redirect (no_argument xs) (begins_well is) h)) in
    step_target st o ss xs d w (items_then is r) ∙ rest ∙ ap (λ ys. run (Some (at st o (in_simple ss (command ys)))) r)
    (append_assoc xs (redirect d w ∷ []) is)

-- ---- the first word of a simple command

record Begins (st : Stack) (o : Open) (p : Place) (ss : List Simple) : Type 0 where
  assign : (a : Assignment) → is_assigned a ≡ true
      → step (at st o p) (word (assignment_word a)) ≡ Some (at st o (in_simple ss (assignments (a ∷ []))))
  plainly : (w : Word) → is_ordinary (class w) ≡ true
      → step (at st o p) (word w) ≡ Some (at st o (in_simple ss (command (argument w ∷ []))))
  aims : (d : Direction) (w : Word) (r : List Token) → run (Some (at st o p)) (redirection d ∷ word w ∷ r) ≡ run
      (Some (at st o (in_simple ss (command (redirect d w ∷ []))))) r

is_plain : (k : Class) → is_ordinary k ≡ true → k ≡ ordinary
is_plain (reserved k) e = cc
is_plain forbidden e = cc
is_plain assignment e = cc
is_plain ordinary e = refl

begins_start : (st : Stack) (o : Open) → Begins st o start []
unfolding step
begins_start st o = record {
  assign = λ a h. rw (class_assigned a h, assignment_of_word a h) refl;
  plainly = λ w h. let e = is_plain (class w) h in rw e refl;
  aims = λ d w r. refl;
}

begins_piped : (st : Stack) (o : Open) (ss : List Simple) → Begins st o (after_bar ss) ss
unfolding step
begins_piped st o ss = record {
  assign = λ a h. rw (class_assigned a h, assignment_of_word a h) refl;
  plainly = λ w h. let e = is_plain (class w) h in rw e refl;
  aims = λ d w r. refl;
}

simple_on : (st : Stack) (o : Open) (p : Place) (ss : List Simple) (s : Simple) (r : List Token) → Begins st o p ss
    → is_simple s ≡ true
    → run (Some (at st o p)) (simple_then s r) ≡ run (Some (at st o (in_simple ss s))) r
simple_on st o p ss (assignments []) r b h = cc
simple_on st o p ss (assignments (a ∷ ys)) r b h =
    next _ _ (word (assignment_word a)) (assignments_then ys r)
    (b.assign a (and_left (is_assigned a) (are_assigned ys) h))
    ∙ assignments_on st o ss (a ∷ []) ys r (and_right (is_assigned a) (are_assigned ys) h)
simple_on st o p ss (command []) r b h = cc
simple_on st o p ss (command (argument w ∷ is)) r b h =
    next _ _ (word w) (items_then is r) (b.plainly w h) ∙ items_on st o ss (argument w ∷ []) is r refl
simple_on st o p ss (command (redirect d w ∷ is)) r b h = b.aims d w (items_then is r)
    ∙ items_on st o ss (redirect d w ∷ []) is r h

-- ---- a pipe

-- a whole command is at this place
abbrev Holds : Place → Command → Type 0
Holds start c = ⊥
Holds (in_simple ss s) c = c ≡ simples (ss ++ s ∷ [])
Holds (target ss is d) c = ⊥
Holds (after_bar ss) c = ⊥
Holds (after_compound d) c = c ≡ d
Holds for_name c = ⊥
Holds (for_in n) c = ⊥
Holds (for_words n ws) c = ⊥
Holds (for_do n ws) c = ⊥

-- from this place the tokens of the command lead to its place
abbrev Reads : Stack → Open → Place → (List Token → List Token) → Command → Type 0
Reads st o p ts c =
    (q : Place) × Holds q c × ((r : List Token) → run (Some (at st o p)) (ts r) ≡ run (Some (at st o q)) r)

step_bar : (st : Stack) (o : Open) (ss : List Simple) (s : Simple)
    → step (at st o (in_simple ss s)) bar ≡ Some (at st o (after_bar (ss ++ s ∷ [])))
unfolding step
step_bar st o ss s = refl

stages_on : (st : Stack) (o : Open) (p : Place) (xs ss : List Simple) → Begins st o p xs → are_stages ss ≡ true
    → Reads st o p (stages_then ss) (simples (xs ++ ss))
stages_on st o p xs [] b h = absurd (let e : false ≡ true = h in cc)
stages_on st o p xs (s ∷ []) b h =
    (in_simple xs s, refl, λ r. simple_on st o p xs s r b (and_left (is_simple s) true h))
stages_on st o p xs (s ∷ t ∷ ss) b h =
    let rest = stages_on st o (after_bar (xs ++ s ∷ [])) (xs ++ s ∷ []) (t ∷ ss) (begins_piped st o (xs ++ s ∷ []))
    (and_right (is_simple s) (are_simple (t ∷ ss)) h) in
    let one = and_left (is_simple s) (are_simple (t ∷ ss)) h in (
      rest.0,
      subst (λ ys. Holds rest.0 (simples ys)) (append_assoc xs (s ∷ []) (t ∷ ss)) rest.1,
      λ r. simple_on st o p xs s (bar ∷ stages_then (t ∷ ss) r) b one
          ∙ next _ _ bar (stages_then (t ∷ ss) r) (step_bar st o xs s) ∙ rest.2 r,
    )

-- ---- lists that were put together

abbrev join_all : List (Pipeline × Connector) → AndOr → AndOr
join_all [] a = a
join_all (j ∷ js) a = chain j.0 j.1 (join_all js a)

join_all-push : (js : List (Pipeline × Connector)) (p : Pipeline) (op : Connector) (a : AndOr)
    → join_all (js ++ (p, op) ∷ []) a ≡ join_all js (chain p op a)
join_all-push [] p op a = refl
join_all-push (j ∷ js) p op a = ap (chain j.0 j.1) (join_all-push js p op a)

join-join_all : (js : List (Pipeline × Connector)) (p : Pipeline) → join js p ≡ join_all js (end p)
join-join_all [] p = refl
join-join_all (j ∷ js) p = ap (chain j.0 j.1) (join-join_all js p)

ends_compound-join_all : (js : List (Pipeline × Connector)) (a : AndOr)
    → ends_compound (join_all js a) ≡ ends_compound a
ends_compound-join_all [] a = refl
ends_compound-join_all (j ∷ js) a = ends_compound-join_all js a

abbrev prefix : List AndOr → Commands → Commands
prefix [] c = c
prefix (d ∷ ds) c = more d (prefix ds c)

prefix-push : (ds : List AndOr) (a : AndOr) (c : Commands) → prefix (ds ++ a ∷ []) c ≡ prefix ds (more a c)
prefix-push [] a c = refl
prefix-push (d ∷ ds) a c = ap (more d) (prefix-push ds a c)

listed-prefix : (ds : List AndOr) (a : AndOr) (b : Bool) → listed ds a b ≡ prefix ds (last a b)
listed-prefix [] a b = refl
listed-prefix (d ∷ ds) a b = ap (more d) (listed-prefix ds a b)

all_closed-push : (ds : List AndOr) (a : AndOr) → all_closed (ds ++ a ∷ []) ≡ Some (prefix ds (last a true))
all_closed-push [] a = refl
all_closed-push (d ∷ []) a = refl
all_closed-push (d ∷ e ∷ ds) a = ap (option_map (more d)) (all_closed-push (e ∷ ds) a)

-- ---- all of the rest, by induction on the tree

-- a whole command is here, the last of an and-or list
record Whole (st : Stack) (o : Open) (ts : List Token → List Token) (ds : List AndOr) (a : AndOr) : Type 0 where
  open_now : Open
  place_now : Place
  ending : Command
  done_is : open_now.and_ors ≡ ds
  whole_is : and_or open_now ending ≡ a
  holds : Holds place_now ending
  compound : ends_compound a ≡ is_compound ending
  runs : (r : List Token) → run (Some (at st o start)) (ts r) ≡ run (Some (at st open_now place_now)) r

-- the same for one pipeline, of which more may be pipelines
record One (st : Stack) (o : Open) (ts : List Token → List Token) (ds : List AndOr) (js : List (Pipeline × Connector))
    (p : Pipeline) : Type 0 where
  open_now : Open
  place_now : Place
  ending : Command
  done_is : open_now.and_ors ≡ ds
  pipelines_are : open_now.pipelines ≡ js
  whole_is : pipeline open_now.negated ending ≡ p
  holds : Holds place_now ending
  compound : ends_compound (end p) ≡ is_compound ending
  runs : (r : List Token) → run (Some (at st o start)) (ts r) ≡ run (Some (at st open_now place_now)) r

-- the words that end a list
abbrev IsCloser : ReservedWord → Type 0
IsCloser k = (st : Stack) (o : Open) → begin_reserved st o k ≡ close_some st (may_end o) k

record Ended (st : Stack) (o : Open) (ts : List Token → List Token) (c : Commands) (itself : Bool) : Type 0 where
  open_now : Open
  place_now : Place
  runs : (r : List Token) → run (Some (at st o start)) (ts r) ≡ run (Some (at st open_now place_now)) r
  finishes : finish_at [] open_now place_now ≡ Some c
  closes : itself ≡ true → (k : ReservedWord) → IsCloser k → step (at st open_now place_now) (key k) ≡ close st c k

abbrev open_with : List AndOr → List (Pipeline × Connector) → Bool → Open
open_with ds js negated = record { and_ors = ds; pipelines = js; negated = negated }

go_whole : (st : Stack) (o : Open) (p : Place) (c : Command) → Holds p c
    → step (at st o p) semicolon ≡ go_on st o c semicolon
unfolding step
go_whole st o start c h = absurd h
go_whole st o (in_simple ss s) c h = rw h refl
go_whole st o (target ss is d) c h = absurd h
go_whole st o (after_bar ss) c h = absurd h
go_whole st o (after_compound d) c h = rw h refl
go_whole st o for_name c h = absurd h
go_whole st o (for_in n) c h = absurd h
go_whole st o (for_words n ws) c h = absurd h
go_whole st o (for_do n ws) c h = absurd h

go_connector : (st : Stack) (o : Open) (p : Place) (c : Command) (op : Connector) → Holds p c
    → step (at st o p) (connector op) ≡ go_on st o c (connector op)
unfolding step
go_connector st o start c op h = absurd h
go_connector st o (in_simple ss s) c op h = rw h refl
go_connector st o (target ss is d) c op h = absurd h
go_connector st o (after_bar ss) c op h = absurd h
go_connector st o (after_compound d) c op h = rw h refl
go_connector st o for_name c op h = absurd h
go_connector st o (for_in n) c op h = absurd h
go_connector st o (for_words n ws) c op h = absurd h
go_connector st o (for_do n ws) c op h = absurd h

finish_whole : (o : Open) (p : Place) (c : Command) → Holds p c
    → finish_at [] o p ≡ Some (listed o.and_ors (and_or o c) false)
finish_whole o start c h = absurd h
finish_whole o (in_simple ss s) c h = rw h refl
finish_whole o (target ss is d) c h = absurd h
finish_whole o (after_bar ss) c h = absurd h
finish_whole o (after_compound d) c h = rw h refl
finish_whole o for_name c h = absurd h
finish_whole o (for_in n) c h = absurd h
finish_whole o (for_words n ws) c h = absurd h
finish_whole o (for_do n ws) c h = absurd h

close_whole : (st : Stack) (o : Open) (p : Place) (c : Command) (k : ReservedWord) → Holds p c → is_compound c ≡ true
    → step (at st o p) (key k) ≡ close st (listed o.and_ors (and_or o c) false) k
unfolding step
close_whole st o start c k h y = absurd h
close_whole st o (in_simple ss s) c k h y = let e : is_compound (simples (ss ++ s ∷ [])) ≡ true =
    subst (λ d. is_compound d ≡ true) h y in absurd (let f : false ≡ true = e in cc)
close_whole st o (target ss is d) c k h y = absurd h
close_whole st o (after_bar ss) c k h y = absurd h
close_whole st o (after_compound d) c k h y = rw (class_key k) (rw h refl)
close_whole st o for_name c k h y = absurd h
close_whole st o (for_in n) c k h y = absurd h
close_whole st o (for_words n ws) c k h y = absurd h
close_whole st o (for_do n ws) c k h y = absurd h

close_start : (st : Stack) (o : Open) (k : ReservedWord) → IsCloser k
    → step (at st o start) (key k) ≡ close_some st (may_end o) k
unfolding step
close_start st o k closer = rw (class_key k) (closer st o)

after_semicolon : (st : Stack) (o : Open) (ts : List Token → List Token) (ds : List AndOr) (a : AndOr) (r : List Token)
    → Whole st o ts ds a
    → run (Some (at st o start)) (ts (semicolon ∷ r)) ≡ run (Some (at st (open_with (ds ++ a ∷ []) [] false) start)) r
after_semicolon st o ts ds a r w =
    let one = go_whole st w.open_now w.place_now w.ending w.holds in
    let two : go_on st w.open_now w.ending semicolon ≡ Some (at st (open_with (ds ++ a ∷ []) [] false) start) =
    rw (w.done_is, w.whole_is) refl in
    w.runs (semicolon ∷ r) ∙ next _ _ semicolon r (one ∙ two)

step_bang : (st : Stack) (o : Open) → o.negated ≡ false
    → step (at st o start) (key bang) ≡ Some (at st (record o { negated = true }) start)
unfolding step
step_bang st o h = rw (class_key bang) (rw h refl)

arms_up_to-push : (xs : List (Commands × Commands)) (c t : Commands) (a : Arms)
    → arms_up_to (xs ++ (c, t) ∷ []) a ≡ arms_up_to xs (elif c t a)
arms_up_to-push [] c t a = refl
arms_up_to-push (x ∷ xs) c t a = ap (elif x.0 x.1) (arms_up_to-push xs c t a)

for_words_on : (st : Stack) (o : Open) (n : List ℕ) (xs ws : List Word) (r : List Token)
    → run (Some (at st o (for_words n xs))) (words_then ws r) ≡ run (Some (at st o (for_words n (xs ++ ws)))) r
unfolding step
for_words_on st o n xs [] r = rw append-nil refl
for_words_on st o n xs (w ∷ ws) r =
    for_words_on st o n (xs ++ w ∷ []) ws r
    ∙ ap (λ ys. run (Some (at st o (for_words n ys))) r) (append_assoc xs (w ∷ []) ws)

step_for : (st : Stack) (o : Open) → step (at st o start) (key key_for) ≡ Some (at st o for_name)
unfolding step
step_for st o = rw (class_key key_for) refl

step_name : (st : Stack) (o : Open) (n : List ℕ) → name_of (plain n ∷ []) ≡ Some n
    → step (at st o for_name) (plain_token n) ≡ Some (at st o (for_in n))
unfolding step
step_name st o n h = rw h refl

step_in : (st : Stack) (o : Open) (n : List ℕ)
    → step (at st o (for_in n)) (key key_in) ≡ Some (at st o (for_words n []))
unfolding step
step_in st o n = rw (class_key key_in) refl

step_words_end : (st : Stack) (o : Open) (n : List ℕ) (ws : List Word)
    → step (at st o (for_words n ws)) semicolon ≡ Some (at st o (for_do n ws))
unfolding step
step_words_end st o n ws = refl

step_do : (st : Stack) (o : Open) (n : List ℕ) (ws : List Word)
    → step (at st o (for_do n ws)) (key key_do) ≡ Some (at ((o, body n ws) ∷ st) empty_list start)
unfolding step
step_do st o n ws = rw (class_key key_do) refl

for_on : (st : Stack) (o : Open) (n : List ℕ) (ws : List Word) (r : List Token) → name_of (plain n ∷ []) ≡ Some n
    → run (Some (at st o start)) (for_then n ws r) ≡ run (Some (at ((o, body n ws) ∷ st) empty_list start)) r
for_on st o n ws r h =
    let after : List Token = semicolon ∷ key key_do ∷ r in
    next _ _ (key key_for) (plain_token n ∷ key key_in ∷ words_then ws after) (step_for st o)
    ∙ next _ _ (plain_token n) (key key_in ∷ words_then ws after) (step_name st o n h)
    ∙ next _ _ (key key_in) (words_then ws after) (step_in st o n)
    ∙ for_words_on st o n [] ws after
    ∙ next _ _ semicolon (key key_do ∷ r) (step_words_end st o n ws)
    ∙ next _ _ (key key_do) r (step_do st o n ws)

inner_of : (st : Stack) (ts : List Token → List Token) (c : Commands) (k : ReservedWord) (r : List Token) (b : Bool)
    → Ended st empty_list ts c b → b ≡ true → IsCloser k
    → run (Some (at st empty_list start)) (ts (key k ∷ r)) ≡ run (close st c k) r
inner_of st ts c k r b e t closer = e.runs (key k ∷ r) ∙ ap (λ x. run x r) (e.closes t k closer)

step_if : (st : Stack) (o : Open)
    → step (at st o start) (key key_if) ≡ Some (at ((o, condition []) ∷ st) empty_list start)
unfolding step
step_if st o = rw (class_key key_if) refl

mutual
  commands_on : (c : Commands) → IsCommands c → (st : Stack) (ds : List AndOr)
      → Ended st (open_with ds [] false) (commands_then c) (prefix ds c) (ends_itself c)
  commands_on (last a false) h st ds =
      let w = and_or_on a h st ds [] in
      let built : listed w.open_now.and_ors (and_or w.open_now w.ending) false ≡ prefix ds (last a false) =
      rw (w.done_is, w.whole_is) (listed-prefix ds a false) in
      record {
        open_now = w.open_now;
        place_now = w.place_now;
        runs = w.runs;
        finishes = finish_whole w.open_now w.place_now w.ending w.holds ∙ ap Some built;
        closes = λ t k closer. close_whole st w.open_now w.place_now w.ending k w.holds (sym w.compound ∙ t)
            ∙ ap (λ l. close st l k) built;
      }
  commands_on (last a true) h st ds =
      let w = and_or_on a h st ds [] in
      record {
        open_now = open_with (ds ++ a ∷ []) [] false;
        place_now = start;
        runs = λ r. after_semicolon st (open_with ds [] false) (andor_then a) ds a r w;
        finishes = all_closed-push ds a;
        closes = λ t k closer. close_start st (open_with (ds ++ a ∷ []) [] false) k closer
            ∙ ap (λ l. close_some st l k) (all_closed-push ds a);
      }
  commands_on (more a c) h st ds =
      let w = and_or_on a h.0 st ds [] in
      let e = commands_on c h.1 st (ds ++ a ∷ []) in
      record {
        open_now = e.open_now;
        place_now = e.place_now;
        runs = λ r. after_semicolon st (open_with ds [] false) (andor_then a) ds a (commands_then c r) w ∙ e.runs r;
        finishes = e.finishes ∙ ap Some (prefix-push ds a c);
        closes = λ t k closer. e.closes t k closer ∙ ap (λ l. close st l k) (prefix-push ds a c);
      }

  and_or_on : (a : AndOr) → IsAndOr a → (st : Stack) (ds : List AndOr) (js : List (Pipeline × Connector))
      → Whole st (open_with ds js false) (andor_then a) ds (join_all js a)
  and_or_on (end p) h st ds js =
      let one = pipeline_on p h st ds js in
      record {
        open_now = one.open_now;
        place_now = one.place_now;
        ending = one.ending;
        done_is = one.done_is;
        whole_is = rw (one.pipelines_are, one.whole_is) (join-join_all js p);
        holds = one.holds;
        compound = ends_compound-join_all js (end p) ∙ one.compound;
        runs = one.runs;
      }
  and_or_on (chain p op a) h st ds js =
      let one = pipeline_on p h.0 st ds js in
      let w = and_or_on a h.1 st ds (js ++ (p, op) ∷ []) in
      let pipelines : go_on st one.open_now one.ending (connector op) ≡ Some
      (at st (open_with ds (js ++ (p, op) ∷ []) false) start) = rw (one.done_is, one.pipelines_are, one.whole_is) refl
      in
      record {
        open_now = w.open_now;
        place_now = w.place_now;
        ending = w.ending;
        done_is = w.done_is;
        whole_is = w.whole_is ∙ join_all-push js p op a;
        holds = w.holds;
        compound = sym (ap ends_compound (join_all-push js p op a)) ∙ w.compound;
        runs = λ r. one.runs (connector op ∷ andor_then a r)
            ∙ next _ _ (connector op) (andor_then a r)
            (go_connector st one.open_now one.place_now one.ending op one.holds ∙ pipelines) ∙ w.runs r;
      }

  pipeline_on : (p : Pipeline) → IsPipeline p → (st : Stack) (ds : List AndOr) (js : List (Pipeline × Connector))
      → One st (open_with ds js false) (pipeline_then p) ds js p
  pipeline_on (pipeline true c) h st ds js =
      let read = command_on c h st (open_with ds js true) in
      record {
        open_now = open_with ds js true;
        place_now = read.0;
        ending = c;
        done_is = refl;
        pipelines_are = refl;
        whole_is = refl;
        holds = read.1;
        compound = refl;
        runs = λ r. next _ _ (key bang) (command_then c r) (step_bang st (open_with ds js false) refl) ∙ read.2 r;
      }
  pipeline_on (pipeline false c) h st ds js =
      let read = command_on c h st (open_with ds js false) in
      record {
        open_now = open_with ds js false;
        place_now = read.0;
        ending = c;
        done_is = refl;
        pipelines_are = refl;
        whole_is = refl;
        holds = read.1;
        compound = refl;
        runs = read.2;
      }

  command_on : (c : Command) → IsCommand c → (st : Stack) (o : Open) → Reads st o start (command_then c) c
  command_on (simples ss) h st o = stages_on st o start [] ss (begins_start st o) h
  command_on (conditional a) h st o = (
    after_compound (conditional a),
    refl,
    λ r. next _ _ (key key_if) (arms_then a r) (step_if st o)
        ∙ arms_on a h st o [] r,
  )
  command_on (loop n ws c) h st o = (
    after_compound (loop n ws c),
    refl,
    λ r. for_on st o n ws (commands_then c (key key_done ∷ r)) h.0
        ∙ inner_of ((o, body n ws) ∷ st) (commands_then c) c key_done r _ (commands_on c h.1.0 ((o, body n ws) ∷ st) [])
        h.1.1 (λ s p. refl),
  )

  arms_on : (a : Arms) → IsArms a → (st : Stack) (o : Open) (xs : List (Commands × Commands)) (r : List Token)
      → run (Some (at ((o, condition xs) ∷ st) empty_list start)) (arms_then a r) ≡ run
      (Some (at st o (after_compound (conditional (arms_up_to xs a))))) r
  arms_on (fi c t) h st o xs r =
      inner_of ((o, condition xs) ∷ st) (commands_then c) c key_then (commands_then t (key key_fi ∷ r)) _
      (commands_on c h.0.0 ((o, condition xs) ∷ st) []) h.0.1 (λ s p. refl)
      ∙ inner_of ((o, consequence xs c) ∷ st) (commands_then t) t key_fi r _
      (commands_on t h.1.0 ((o, consequence xs c) ∷ st) []) h.1.1 (λ s p. refl)
  arms_on (otherwise c t e) h st o xs r =
      inner_of ((o, condition xs) ∷ st) (commands_then c) c key_then
      (commands_then t (key key_else ∷ commands_then e (key key_fi ∷ r))) _
      (commands_on c h.0.0 ((o, condition xs) ∷ st) []) h.0.1 (λ s p. refl)
      ∙ inner_of ((o, consequence xs c) ∷ st) (commands_then t) t key_else (commands_then e (key key_fi ∷ r)) _
      (commands_on t h.1.0 ((o, consequence xs c) ∷ st) []) h.1.1 (λ s p. refl)
      ∙ inner_of ((o, alternative xs c t) ∷ st) (commands_then e) e key_fi r _
      (commands_on e h.2.0 ((o, alternative xs c t) ∷ st) []) h.2.1 (λ s p. refl)
  arms_on (elif c t a) h st o xs r =
      inner_of ((o, condition xs) ∷ st) (commands_then c) c key_then (commands_then t (key key_elif ∷ arms_then a r)) _
      (commands_on c h.0.0 ((o, condition xs) ∷ st) []) h.0.1 (λ s p. refl)
      ∙ inner_of ((o, consequence xs c) ∷ st) (commands_then t) t key_elif (arms_then a r) _
      (commands_on t h.1.0 ((o, consequence xs c) ∷ st) []) h.1.1 (λ s p. refl)
      ∙ arms_on a h.2 st o (xs ++ (c, t) ∷ []) r
      ∙ ap (λ b. run (Some (at st o (after_compound (conditional b)))) r) (arms_up_to-push xs c t a)

-- What is written for a tree is read as that tree.
pub commands_of_written : (c : Commands) → IsCommands c → commands_of (commands_then c []) ≡ Some c
unfolding commands_of
commands_of_written c h =
    let e = commands_on c h [] [] in
    ap finish (e.runs []) ∙ e.finishes

pub commands_of-Spells : (ts : List Token) (c : Commands) → Spells ts c → commands_of ts ≡ Some c
commands_of-Spells ts c x = rw x.written (commands_of_written c x.tree)

-- so no tokens are those of two trees
pub one_tree : (ts : List Token) (c d : Commands) → Spells ts c → Spells ts d → c ≡ d
one_tree ts c d x y = let both : Some c ≡ Some d = sym (commands_of-Spells ts c x) ∙ commands_of-Spells ts d y in cc
