-- What is read as a tree is what is written for it.
use Rattle.std.proofs.Common.{◌≡◌, ℕ, Bool, true, false, ◌&&◌, List, [], ◌∷◌, ◌++◌, Option, Some, None, cond}
use Rattle.std.proofs.Common.{option_map, subst, refl, sym, ap, ◌∙◌}
use Rattle.retro_syntax.specs.Tree.{plain, Word, Assignment, assignment_word, assignments_then, Token, semicolon, bar}
use Rattle.retro_syntax.specs.Tree.{connector, redirection, word, plain_token, key, Item, argument, redirect, Simple}
use Rattle.retro_syntax.specs.Tree.{assignments, command, Commands, last, more, AndOr, Pipeline, pipeline, Command}
use Rattle.retro_syntax.specs.Tree.{simples, Arms, fi, otherwise, items_then, words_then, simple_then, stages_then}
use Rattle.retro_syntax.specs.Tree.{commands_then, andor_then, pipeline_then, command_then, arms_then, bang_then}
use Rattle.retro_syntax.specs.Tree.{closing_then, for_then}
use Rattle.retro_syntax.specs.declared.tree.Direction.{Direction}
use Rattle.retro_syntax.specs.declared.tree.Connector.{Connector}
use Rattle.retro_syntax.specs.declared.tree.ReservedWord.{ReservedWord}
use Rattle.retro_syntax.specs.declared.tree.ReservedWord.TheVariants.{Bang as bang, If as key_if, Then as key_then}
use Rattle.retro_syntax.specs.declared.tree.ReservedWord.TheVariants.{Elif as key_elif, Else as key_else, Fi as key_fi}
use Rattle.retro_syntax.specs.declared.tree.ReservedWord.TheVariants.{For as key_for, In as key_in, Do as key_do}
use Rattle.retro_syntax.specs.declared.tree.ReservedWord.TheVariants.{Done as key_done}
use Rattle.retro_syntax.specs.declared.words.Class.{Class}
use Rattle.retro_syntax.specs.declared.words.Class.TheVariants.{Reserved as reserved, Forbidden as forbidden}
use Rattle.retro_syntax.specs.declared.words.Class.TheVariants.{Assignment as assignment, Ordinary as ordinary}
use Rattle.retro_syntax.specs.Words.{class, name_of, assignment_of, is_ordinary, is_assignment}
use Rattle.retro_syntax.specs.Parsing.{Open, Frame, condition, consequence, alternative, body, Place, start, in_simple}
use Rattle.retro_syntax.specs.Parsing.{target, after_bar, after_compound, for_name, for_in, for_words, for_do, State}
use Rattle.retro_syntax.specs.Parsing.{at, step, step_at, run, join, and_or, listed, arms_up_to, empty_list}
use Rattle.retro_syntax.specs.Parsing.{no_argument, finish, commands_of, close, close_by, close_some, begin}
use Rattle.retro_syntax.specs.Parsing.{begin_simple, push_assignment, begin_reserved, may_end, all_closed, finish_at}
use Rattle.retro_syntax.specs.Parsing.{go_on, close_word, only_key, end_of}
use Rattle.retro_syntax.specs.Spells.{Spells, is_assigned, are_assigned, begins_well, is_simple, are_simple, are_stages}
use Rattle.retro_syntax.specs.Spells.{is_compound, ends_compound, ends_itself, EndsItself, IsCommands, IsAndOr}
use Rattle.retro_syntax.specs.Spells.{IsPipeline, IsCommand, IsArms}
use Rattle.retro_syntax.proofs.WordLemmas.{key_of_class, name_of_is, Assigns, assigns}

abbrev Stack : Type 0
Stack = List (Open × Frame)

-- ---- what was read, written out before the tokens `r`

abbrev and_ors_then : List AndOr → List Token → List Token
and_ors_then [] r = r
and_ors_then (a ∷ ds) r = andor_then a (semicolon ∷ and_ors_then ds r)

abbrev pipelines_then : List (Pipeline × Connector) → List Token → List Token
pipelines_then [] r = r
pipelines_then (j ∷ js) r = pipeline_then j.0 (connector j.1 ∷ pipelines_then js r)

abbrev open_then : Open → List Token → List Token
open_then o r = and_ors_then o.and_ors (pipelines_then o.pipelines (bang_then o.negated r))

abbrev piped_then : List Simple → List Token → List Token
piped_then [] r = r
piped_then (s ∷ ss) r = simple_then s (bar ∷ piped_then ss r)

-- the arms that an `elif` follows
abbrev arms_before : List (Commands × Commands) → List Token → List Token
arms_before [] r = r
arms_before (x ∷ xs) r = commands_then x.0 (key key_then ∷ commands_then x.1 (key key_elif ∷ arms_before xs r))

abbrev frame_then : Frame → List Token → List Token
frame_then (condition xs) r = key key_if ∷ arms_before xs r
frame_then (consequence xs c) r = key key_if ∷ arms_before xs (commands_then c (key key_then ∷ r))
frame_then (alternative xs c t) r =
    key key_if ∷ arms_before xs (commands_then c (key key_then ∷ commands_then t (key key_else ∷ r)))
frame_then (body n ws) r = for_then n ws r

abbrev place_then : Place → List Token → List Token
place_then start r = r
place_then (in_simple ss s) r = piped_then ss (simple_then s r)
place_then (target ss is d) r = piped_then ss (items_then is (redirection d ∷ r))
place_then (after_bar ss) r = piped_then ss r
place_then (after_compound c) r = command_then c r
place_then for_name r = key key_for ∷ r
place_then (for_in n) r = key key_for ∷ plain_token n ∷ r
place_then (for_words n ws) r = key key_for ∷ plain_token n ∷ key key_in ∷ words_then ws r
place_then (for_do n ws) r = key key_for ∷ plain_token n ∷ key key_in ∷ words_then ws (semicolon ∷ r)

abbrev stack_then : Stack → List Token → List Token
stack_then [] r = r
stack_then (x ∷ st) r = stack_then st (open_then x.0 (frame_then x.1 r))

abbrev state_then : State → List Token → List Token
state_then s r = stack_then s.stack (open_then s.here (place_then s.place r))

-- ---- what is put together is whole

abbrev AreDone : List AndOr → Type 0
AreDone [] = Unit {0}
AreDone (a ∷ ds) = IsAndOr a × AreDone ds

abbrev AreJoined : List (Pipeline × Connector) → Type 0
AreJoined [] = Unit {0}
AreJoined (j ∷ js) = IsPipeline j.0 × AreJoined js

abbrev IsOpen : Open → Type 0
IsOpen o = AreDone o.and_ors × AreJoined o.pipelines

abbrev AreArms : List (Commands × Commands) → Type 0
AreArms [] = Unit {0}
AreArms (x ∷ xs) = (IsCommands x.0 × EndsItself x.0) × (IsCommands x.1 × EndsItself x.1) × AreArms xs

abbrev IsFrame : Frame → Type 0
IsFrame (condition xs) = AreArms xs
IsFrame (consequence xs c) = AreArms xs × (IsCommands c × EndsItself c)
IsFrame (alternative xs c t) = AreArms xs × (IsCommands c × EndsItself c) × (IsCommands t × EndsItself t)
IsFrame (body n ws) = name_of (plain n ∷ []) ≡ Some n

abbrev IsPlace : Place → Type 0
IsPlace start = Unit {0}
IsPlace (in_simple ss s) = (are_simple ss ≡ true) × (is_simple s ≡ true)
IsPlace (target ss is d) = (are_simple ss ≡ true) × (begins_well is ≡ true)
IsPlace (after_bar ss) = are_simple ss ≡ true
IsPlace (after_compound c) = IsCommand c × (is_compound c ≡ true)
IsPlace for_name = Unit {0}
IsPlace (for_in n) = name_of (plain n ∷ []) ≡ Some n
IsPlace (for_words n ws) = name_of (plain n ∷ []) ≡ Some n
IsPlace (for_do n ws) = name_of (plain n ∷ []) ≡ Some n

abbrev IsStack : Stack → Type 0
IsStack [] = Unit {0}
IsStack (x ∷ st) = IsOpen x.0 × IsFrame x.1 × IsStack st

abbrev IsState : State → Type 0
IsState s = IsStack s.stack × IsOpen s.here × IsPlace s.place

-- the step appends the token to what was read, and the state stays lawful
record Takes (s : State) (t : Token) (n : State) : Type 0 where
  written : (r : List Token) → state_then s (t ∷ r) ≡ state_then n r
  kept : IsState n

abbrev Sound : State → Token → Option State → Type 0
Sound s t None = Unit {0}
Sound s t (Some n) = Takes s t n

-- ---- ends of lists

and_ors_then-push : (ds : List AndOr) (a : AndOr) (r : List Token)
    → and_ors_then (ds ++ a ∷ []) r ≡ and_ors_then ds (andor_then a (semicolon ∷ r))
and_ors_then-push [] a r = refl
and_ors_then-push (d ∷ ds) a r = ap (λ x. andor_then d (semicolon ∷ x)) (and_ors_then-push ds a r)

pipelines_then-push : (js : List (Pipeline × Connector)) (p : Pipeline) (op : Connector) (r : List Token)
    → pipelines_then (js ++ (p, op) ∷ []) r ≡ pipelines_then js (pipeline_then p (connector op ∷ r))
pipelines_then-push [] p op r = refl
pipelines_then-push (j ∷ js) p op r = ap (λ x. pipeline_then j.0 (connector j.1 ∷ x)) (pipelines_then-push js p op r)

piped_then-push : (ss : List Simple) (s : Simple) (r : List Token)
    → piped_then (ss ++ s ∷ []) r ≡ piped_then ss (simple_then s (bar ∷ r))
piped_then-push [] s r = refl
piped_then-push (x ∷ ss) s r = ap (λ y. simple_then x (bar ∷ y)) (piped_then-push ss s r)

-- the stages of a pipe, the last of which is whole
stages_then-push : (ss : List Simple) (s : Simple) (r : List Token)
    → stages_then (ss ++ s ∷ []) r ≡ piped_then ss (simple_then s r)
stages_then-push [] s r = refl
stages_then-push (x ∷ []) s r = refl
stages_then-push (x ∷ y ∷ ss) s r = ap (λ z. simple_then x (bar ∷ z)) (stages_then-push (y ∷ ss) s r)

words_then-push : (ws : List Word) (w : Word) (r : List Token)
    → words_then (ws ++ w ∷ []) r ≡ words_then ws (word w ∷ r)
words_then-push [] w r = refl
words_then-push (x ∷ ws) w r = ap (λ y. word x ∷ y) (words_then-push ws w r)

assignments_then-push : (xs : List Assignment) (a : Assignment) (r : List Token)
    → assignments_then (xs ++ a ∷ []) r ≡ assignments_then xs (word (assignment_word a) ∷ r)
assignments_then-push [] a r = refl
assignments_then-push (x ∷ xs) a r = ap (λ y. word (assignment_word x) ∷ y) (assignments_then-push xs a r)

items_then-push : (is : List Item) (i : Item) (r : List Token)
    → items_then (is ++ i ∷ []) r ≡ items_then is (items_then (i ∷ []) r)
items_then-push [] i r = refl
items_then-push (argument w ∷ is) i r = ap (λ y. word w ∷ y) (items_then-push is i r)
items_then-push (redirect d w ∷ is) i r = ap (λ y. redirection d ∷ word w ∷ y) (items_then-push is i r)

arms_before-push : (xs : List (Commands × Commands)) (c t : Commands) (r : List Token)
    → arms_before (xs ++ (c, t) ∷ []) r ≡ arms_before xs
    (commands_then c (key key_then ∷ commands_then t (key key_elif ∷ r)))
arms_before-push [] c t r = refl
arms_before-push (x ∷ xs) c t r = ap (λ y. commands_then x.0 (key key_then ∷ commands_then x.1 (key key_elif ∷ y)))
    (arms_before-push xs c t r)

arms_then-up_to : (xs : List (Commands × Commands)) (a : Arms) (r : List Token)
    → arms_then (arms_up_to xs a) r ≡ arms_before xs (arms_then a r)
arms_then-up_to [] a r = refl
arms_then-up_to (x ∷ xs) a r = ap (λ y. commands_then x.0 (key key_then ∷ commands_then x.1 (key key_elif ∷ y)))
    (arms_then-up_to xs a r)

join-written : (js : List (Pipeline × Connector)) (p : Pipeline) (r : List Token)
    → andor_then (join js p) r ≡ pipelines_then js (pipeline_then p r)
join-written [] p r = refl
join-written (j ∷ js) p r = ap (λ y. pipeline_then j.0 (connector j.1 ∷ y)) (join-written js p r)

listed-written : (ds : List AndOr) (a : AndOr) (b : Bool) (r : List Token)
    → commands_then (listed ds a b) r ≡ and_ors_then ds (andor_then a (closing_then b r))
listed-written [] a b r = refl
listed-written (d ∷ ds) a b r = ap (λ y. andor_then d (semicolon ∷ y)) (listed-written ds a b r)

-- a command after what is open
and_or-written : (o : Open) (c : Command) (r : List Token)
    → andor_then (and_or o c) r ≡ pipelines_then o.pipelines (bang_then o.negated (command_then c r))
and_or-written o c r = join-written o.pipelines (pipeline o.negated c) r

-- ---- wholeness, kept

AreDone-push : (ds : List AndOr) (a : AndOr) → AreDone ds → IsAndOr a → AreDone (ds ++ a ∷ [])
AreDone-push [] a h k = (k, tt)
AreDone-push (d ∷ ds) a h k = (h.0, AreDone-push ds a h.1 k)

AreJoined-push : (js : List (Pipeline × Connector)) (p : Pipeline) (op : Connector) → AreJoined js → IsPipeline p
    → AreJoined (js ++ (p, op) ∷ [])
AreJoined-push [] p op h k = (k, tt)
AreJoined-push (j ∷ js) p op h k = (h.0, AreJoined-push js p op h.1 k)

AreArms-push : (xs : List (Commands × Commands)) (c t : Commands) → AreArms xs → IsCommands c × EndsItself c
    → IsCommands t × EndsItself t → AreArms (xs ++ (c, t) ∷ [])
AreArms-push [] c t h k l = (k, l, tt)
AreArms-push (x ∷ xs) c t h k l = (h.0, h.1, AreArms-push xs c t h.2 k l)

IsArms-up_to : (xs : List (Commands × Commands)) (a : Arms) → AreArms xs → IsArms a → IsArms (arms_up_to xs a)
IsArms-up_to [] a h k = k
IsArms-up_to (x ∷ xs) a h k = (h.0, h.1, IsArms-up_to xs a h.2 k)

IsAndOr-join : (js : List (Pipeline × Connector)) (p : Pipeline) → AreJoined js → IsPipeline p → IsAndOr (join js p)
IsAndOr-join [] p h k = k
IsAndOr-join (j ∷ js) p h k = (h.0, IsAndOr-join js p h.1 k)

ends_compound-join : (js : List (Pipeline × Connector)) (b : Bool) (c : Command)
    → ends_compound (join js (pipeline b c)) ≡ is_compound c
ends_compound-join [] b c = refl
ends_compound-join (j ∷ js) b c = ends_compound-join js b c

IsCommands-listed : (ds : List AndOr) (a : AndOr) (b : Bool) → AreDone ds → IsAndOr a → IsCommands (listed ds a b)
IsCommands-listed [] a b h k = k
IsCommands-listed (d ∷ ds) a b h k = (h.0, IsCommands-listed ds a b h.1 k)

ends-listed : (ds : List AndOr) (a : AndOr) → ends_itself (listed ds a false) ≡ ends_compound a
ends-listed [] a = refl
ends-listed (d ∷ ds) a = ends-listed ds a

and_both : (a b : Bool) → a ≡ true → b ≡ true → (a && b) ≡ true
and_both true b e f = f
and_both false b e f = cc

and_left : (a b : Bool) → (a && b) ≡ true → a ≡ true
and_left true b e = refl
and_left false b e = e

and_right : (a b : Bool) → (a && b) ≡ true → b ≡ true
and_right true b e = e
and_right false b e = cc

are_simple-push : (ss : List Simple) (s : Simple) → are_simple ss ≡ true → is_simple s ≡ true
    → are_simple (ss ++ s ∷ []) ≡ true
are_simple-push [] s h k = and_both (is_simple s) true k refl
are_simple-push (x ∷ ss) s h k = and_both (is_simple x) (are_simple (ss ++ s ∷ []))
    (and_left (is_simple x) (are_simple ss) h) (are_simple-push ss s (and_right (is_simple x) (are_simple ss) h) k)

are_stages-push : (ss : List Simple) (s : Simple) → are_simple (ss ++ s ∷ []) ≡ true → are_stages (ss ++ s ∷ []) ≡ true
are_stages-push [] s h = h
are_stages-push (x ∷ ss) s h = h

are_assigned-push : (xs : List Assignment) (a : Assignment) → are_assigned xs ≡ true → is_assigned a ≡ true
    → are_assigned (xs ++ a ∷ []) ≡ true
are_assigned-push [] a h k = and_both (is_assigned a) true k refl
are_assigned-push (x ∷ xs) a h k =
    and_both (is_assigned x) (are_assigned (xs ++ a ∷ [])) (and_left (is_assigned x) (are_assigned xs) h)
    (are_assigned-push xs a (and_right (is_assigned x) (are_assigned xs) h) k)

is_simple-assignments : (xs : List Assignment) (a : Assignment) → is_simple (assignments xs) ≡ true
    → is_assigned a ≡ true → is_simple (assignments (xs ++ a ∷ [])) ≡ true
is_simple-assignments [] a h k = cc
is_simple-assignments (x ∷ xs) a h k = are_assigned-push (x ∷ xs) a h k

well_from_simple : (is : List Item) → is_simple (command is) ≡ true → begins_well is ≡ true
well_from_simple [] h = refl
well_from_simple (i ∷ is) h = h

simple_from_well : (is : List Item) (i : Item) → begins_well (is ++ i ∷ []) ≡ true
    → is_simple (command (is ++ i ∷ [])) ≡ true
simple_from_well [] i h = h
simple_from_well (x ∷ is) i h = h

well-target : (is : List Item) (d : Direction) (w : Word) → begins_well is ≡ true
    → begins_well (is ++ redirect d w ∷ []) ≡ true
well-target [] d w h = refl
well-target (argument v ∷ is) d w h = h
well-target (redirect e v ∷ is) d w h = well-target is d w h

well-argument : (is : List Item) (w : Word) → begins_well is ≡ true
    → (no_argument is ≡ true → is_ordinary (class w) ≡ true) → begins_well (is ++ argument w ∷ []) ≡ true
well-argument [] w h k = k refl
well-argument (argument v ∷ is) w h k = h
well-argument (redirect e v ∷ is) w h k = well-argument is w h k

-- ---- the words that end a list

close_by_sound : (s : State) (st : Stack) (o : Open) (f : Frame) (l : Commands) (k : ReservedWord)
    → ((r : List Token) → state_then s r ≡ stack_then st (open_then o (frame_then f (commands_then l r))))
    → IsStack st → IsOpen o → IsFrame f → IsCommands l × EndsItself l → Sound s (key k) (close_by st o f l k)
close_by_sound s st o (condition xs) l key_then e hs ho hf hl =
    record { written = λ r. e (key key_then ∷ r); kept = ((ho, (hf, hl), hs), (tt, tt), tt) }
close_by_sound s st o (consequence xs c) l key_elif e hs ho hf hl = record {
  written = λ r. e (key key_elif ∷ r)
      ∙ ap (λ x. stack_then st (open_then o (key key_if ∷ x))) (sym (arms_before-push xs c l r));
  kept = ((ho, AreArms-push xs c l hf.0 hf.1 hl, hs), (tt, tt), tt);
}
close_by_sound s st o (consequence xs c) l key_else e hs ho hf hl =
    record { written = λ r. e (key key_else ∷ r); kept = ((ho, (hf.0, hf.1, hl), hs), (tt, tt), tt) }
close_by_sound s st o (consequence xs c) l key_fi e hs ho hf hl = record {
  written = λ r. e (key key_fi ∷ r)
      ∙ ap (λ x. stack_then st (open_then o (key key_if ∷ x))) (sym (arms_then-up_to xs (fi c l) r));
  kept = (hs, ho, (IsArms-up_to xs (fi c l) hf.0 (hf.1, hl), refl));
}
close_by_sound s st o (alternative xs c t) l key_fi e hs ho hf hl = record {
  written = λ r. e (key key_fi ∷ r)
      ∙ ap (λ x. stack_then st (open_then o (key key_if ∷ x))) (sym (arms_then-up_to xs (otherwise c t l) r));
  kept = (hs, ho, (IsArms-up_to xs (otherwise c t l) hf.0 (hf.1, hf.2, hl), refl));
}
close_by_sound s st o (body n ws) l key_done e hs ho hf hl =
    record { written = λ r. e (key key_done ∷ r); kept = (hs, ho, ((hf, hl), refl)) }
close_by_sound s st o f l k e hs ho hf hl = tt

close_sound : (s : State) (st : Stack) (l : Commands) (k : ReservedWord)
    → ((r : List Token) → state_then s r ≡ stack_then st (commands_then l r))
    → IsStack st → IsCommands l × EndsItself l → Sound s (key k) (close st l k)
close_sound s [] l k e hs hl = tt
close_sound s (x ∷ st) l k e hs hl = close_by_sound s st x.0 x.1 l k e hs.2 hs.0 hs.1 hl

-- what was read at a place where a list may end is that list
record Ends (ds : List AndOr) (l : Commands) : Type 0 where
  same : (r : List Token) → and_ors_then ds r ≡ commands_then l r
  whole_list : IsCommands l
  itself : EndsItself l

Some_inj : {A : Type 0} (a b : A) → Some a ≡ Some b → a ≡ b
Some_inj a b e = cc

more_ends : (a : AndOr) (ds : List AndOr) (m : Commands) → IsAndOr a → Ends ds m → Ends (a ∷ ds) (more a m)
more_ends a ds m h x =
    record {
      same = λ r. ap (λ y. andor_then a (semicolon ∷ y)) (x.same r);
      whole_list = (h, x.whole_list);
      itself =
          x.itself;
    }

mapped_ends : (a : AndOr) (ds : List AndOr) (l : Commands) (o : Option Commands) → option_map (more a) o ≡ Some l
    → IsAndOr a
    → ((m : Commands) → o ≡ Some m → Ends ds m) → Ends (a ∷ ds) l
mapped_ends a ds l None e h rest = absurd (let f : None ≡ Some l = e in cc)
mapped_ends a ds l (Some m) e h rest = subst (λ x. Ends (a ∷ ds) x) (Some_inj (more a m) l e)
    (more_ends a ds m h (rest m refl))

all_closed_ends : (ds : List AndOr) (l : Commands) → all_closed ds ≡ Some l → AreDone ds → Ends ds l
all_closed_ends [] l e h = cc
all_closed_ends (a ∷ []) l e h = subst (λ x. Ends (a ∷ []) x) (Some_inj (last a true) l e)
    (record { same = λ r. refl; whole_list = h.0; itself = refl })
all_closed_ends (a ∷ b ∷ ds) l e h = mapped_ends a (b ∷ ds) l (all_closed (b ∷ ds)) e h.0
    (λ m f. all_closed_ends (b ∷ ds) m f h.1)

may_end_ends : (ds : List AndOr) (js : List (Pipeline × Connector)) (b : Bool) (l : Commands) → end_of ds js b ≡ Some l
    → AreDone ds
    → ((r : List Token) → and_ors_then ds (pipelines_then js (bang_then b r)) ≡ commands_then l r) ×
    (IsCommands l × EndsItself l)
may_end_ends ds [] false l e h = let x = all_closed_ends ds l e h in (x.same, (x.whole_list, x.itself))
may_end_ends ds [] true l e h = absurd (let f : None ≡ Some l = e in cc)
may_end_ends ds (j ∷ js) b l e h = absurd (let f : None ≡ Some l = e in cc)

-- ---- a place where a command may begin

closing_sound : (st : Stack) (o : Open) (k : ReservedWord) (m : Option Commands) → may_end o ≡ m → IsStack st → IsOpen o
    → Sound (at st o start) (key k) (close_some st m k)
closing_sound st o k None e hs ho = tt
closing_sound st o k (Some l) e hs ho =
    let x = may_end_ends o.and_ors o.pipelines o.negated l e ho.0 in
    close_sound (at st o start) st l k (λ r. ap (stack_then st) (x.0 r)) hs x.1

bang_sound : (st : Stack) (o : Open) (b : Bool) → o.negated ≡ b → IsStack st → IsOpen o
    → Sound (at st o start) (key bang) (cond b None (Some (at st (record o { negated = true }) start)))
bang_sound st o true e hs ho = tt
bang_sound st o false e hs ho =
    record {
      written =
          λ r. ap
          (λ b. stack_then st (and_ors_then o.and_ors (pipelines_then o.pipelines (bang_then b (key bang ∷ r))))) e;
      kept = (hs, ho, tt);
    }

key_sound : (st : Stack) (o : Open) (k : ReservedWord) → IsStack st → IsOpen o
    → Sound (at st o start) (key k) (begin_reserved st o k)
key_sound st o bang hs ho = bang_sound st o o.negated refl hs ho
key_sound st o key_if hs ho = record { written = λ r. refl; kept = ((ho, tt, hs), (tt, tt), tt) }
key_sound st o key_for hs ho = record { written = λ r. refl; kept = (hs, ho, tt) }
key_sound st o key_then hs ho = closing_sound st o key_then (may_end o) refl hs ho
key_sound st o key_elif hs ho = closing_sound st o key_elif (may_end o) refl hs ho
key_sound st o key_else hs ho = closing_sound st o key_else (may_end o) refl hs ho
key_sound st o key_fi hs ho = closing_sound st o key_fi (may_end o) refl hs ho
key_sound st o key_in hs ho = closing_sound st o key_in (may_end o) refl hs ho
key_sound st o key_do hs ho = closing_sound st o key_do (may_end o) refl hs ho
key_sound st o key_done hs ho = closing_sound st o key_done (may_end o) refl hs ho

-- a place before the first word of a simple command
record Precedes (p : Place) (ss : List Simple) : Type 0 where
  stages : are_simple ss ≡ true
  then_is : (r : List Token) → place_then p r ≡ piped_then ss r

first_assigned : (st : Stack) (o : Open) (p : Place) (ss : List Simple) (w : Word) → Assigns w → Precedes p ss
    → IsStack st → IsOpen o
    → Sound (at st o p) (word w) (push_assignment st o ss [] (assignment_of w))
first_assigned st o p ss w x b hs ho =
    subst (λ m. Sound (at st o p) (word w) (push_assignment st o ss [] m)) (sym x.found) (record {
      written = λ r. ap (λ y. stack_then st (open_then o y)) (b.then_is (word w ∷ r))
          ∙ ap (λ v. stack_then st (open_then o (piped_then ss (word v ∷ r)))) (sym x.written);
      kept = (hs, ho, (b.stages, and_both (is_assigned x.given) true x.lawful refl));
    })

simple_sound : (st : Stack) (o : Open) (p : Place) (ss : List Simple) (w : Word) (c : Class) → class w ≡ c
    → Precedes p ss → IsStack st → IsOpen o
    → Sound (at st o p) (word w) (begin_simple st o ss w c)
simple_sound st o p ss w (reserved k) e b hs ho = tt
simple_sound st o p ss w forbidden e b hs ho = tt
simple_sound st o p ss w assignment e b hs ho = first_assigned st o p ss w (assigns w e) b hs ho
simple_sound st o p ss w ordinary e b hs ho = record {
  written = λ r. ap (λ x. stack_then st (open_then o x)) (b.then_is (word w ∷ r));
  kept = (hs, ho, (b.stages, rw e refl));
}

begin_sound : (st : Stack) (o : Open) (w : Word) (c : Class) → class w ≡ c → IsStack st → IsOpen o
    → Sound (at st o start) (word w) (begin st o w c)
begin_sound st o w (reserved k) e hs ho = subst (λ v. Sound (at st o start) (word v) (begin_reserved st o k))
    (sym (key_of_class w k e)) (key_sound st o k hs ho)
begin_sound st o w forbidden e hs ho = tt
begin_sound st o w assignment e hs ho = simple_sound st o start [] w assignment e
    (record { stages = refl; then_is = λ r. refl }) hs ho
begin_sound st o w ordinary e hs ho = simple_sound st o start [] w ordinary e
    (record { stages = refl; then_is = λ r. refl }) hs ho

-- ---- after a whole command

-- a whole command is at the place
record IsWholeAt (p : Place) (c : Command) : Type 0 where
  is_whole : IsCommand c
  then_is : (r : List Token) → place_then p r ≡ command_then c r

go_on_sound : (st : Stack) (o : Open) (p : Place) (c : Command) (t : Token) → IsWholeAt p c → IsStack st → IsOpen o
    → Sound (at st o p) t (go_on st o c t)
go_on_sound st o p c semicolon b hs ho = record {
  written = λ r. ap (λ x. stack_then st (open_then o x)) (b.then_is (semicolon ∷ r))
      ∙ ap (stack_then st)
      (sym (and_ors_then-push o.and_ors (and_or o c) r
      ∙ ap (and_ors_then o.and_ors) (and_or-written o c (semicolon ∷ r))));
  kept = (
    hs,
    (
      AreDone-push o.and_ors (and_or o c) ho.0 (IsAndOr-join o.pipelines (pipeline o.negated c) ho.1 b.is_whole),
      tt,
    ),
    tt,
  );
}
go_on_sound st o p c (connector op) b hs ho = record {
  written = λ r. ap (λ x. stack_then st (open_then o x)) (b.then_is (connector op ∷ r))
      ∙ ap (λ x. stack_then st (and_ors_then o.and_ors x))
      (sym (pipelines_then-push o.pipelines (pipeline o.negated c) op r));
  kept = (hs, (ho.0, AreJoined-push o.pipelines (pipeline o.negated c) op ho.1 b.is_whole), tt);
}
go_on_sound st o p c bar b hs ho = tt
go_on_sound st o p c (redirection d) b hs ho = tt
go_on_sound st o p c (word w) b hs ho = tt

whole_simple : (ss : List Simple) (s : Simple) → are_simple ss ≡ true → is_simple s ≡ true
    → IsWholeAt (in_simple ss s) (simples (ss ++ s ∷ []))
whole_simple ss s h k =
    record { is_whole = are_stages-push ss s (are_simple-push ss s h k); then_is = λ r. sym (stages_then-push ss s r) }

close_word_sound : (st : Stack) (o : Open) (d : Command) (w : Word) (c : Class) → class w ≡ c
    → IsCommand d × (is_compound d ≡ true) → IsStack st → IsOpen o
    → Sound (at st o (after_compound d)) (word w) (close_word st o d c)
close_word_sound st o d w (reserved k) e h hs ho =
    let l = listed o.and_ors (and_or o d) false in
    let written : (r : List Token) → state_then (at st o (after_compound d)) r ≡ stack_then st (commands_then l r) =
    λ r. ap (stack_then st)
    (sym (listed-written o.and_ors (and_or o d) false r ∙ ap (and_ors_then o.and_ors) (and_or-written o d r))) in
    let whole_list : IsCommands l = IsCommands-listed o.and_ors (and_or o d) false ho.0
    (IsAndOr-join o.pipelines (pipeline o.negated d) ho.1 h.0) in
    let itself : EndsItself l = ends-listed o.and_ors (and_or o d) ∙ ends_compound-join o.pipelines o.negated d ∙ h.1 in
    subst (λ v. Sound (at st o (after_compound d)) (word v) (close st l k)) (sym (key_of_class w k e))
    (close_sound (at st o (after_compound d)) st l k written hs (whole_list, itself))
close_word_sound st o d w forbidden e h hs ho = tt
close_word_sound st o d w assignment e h hs ho = tt
close_word_sound st o d w ordinary e h hs ho = tt

-- ---- inside a simple command

more_assigned : (st : Stack) (o : Open) (ss : List Simple) (xs : List Assignment) (w : Word) → Assigns w
    → (are_simple ss ≡ true) × (is_simple (assignments xs) ≡ true) → IsStack st → IsOpen o
    → Sound (at st o (in_simple ss (assignments xs))) (word w) (push_assignment st o ss xs (assignment_of w))
more_assigned st o ss xs w x h hs ho =
    subst (λ m. Sound (at st o (in_simple ss (assignments xs))) (word w) (push_assignment st o ss xs m)) (sym x.found)
    (record {
      written = λ r. ap (λ v. stack_then st (open_then o (piped_then ss (assignments_then xs (word v ∷ r)))))
          (sym x.written)
          ∙ ap (λ y. stack_then st (open_then o (piped_then ss y))) (sym (assignments_then-push xs x.given r));
      kept = (hs, ho, (h.0, is_simple-assignments xs x.given h.1 x.lawful));
    })

is_assign : (k : Class) → is_assignment k ≡ true → k ≡ assignment
is_assign (reserved k) e = cc
is_assign forbidden e = cc
is_assign assignment e = refl
is_assign ordinary e = cc

assign_sound : (st : Stack) (o : Open) (ss : List Simple) (xs : List Assignment) (w : Word) (b : Bool)
    → is_assignment (class w) ≡ b
    → (are_simple ss ≡ true) × (is_simple (assignments xs) ≡ true) → IsStack st → IsOpen o
    → Sound (at st o (in_simple ss (assignments xs))) (word w)
    (cond b (push_assignment st o ss xs (assignment_of w)) None)
assign_sound st o ss xs w false e h hs ho = tt
assign_sound st o ss xs w true e h hs ho = more_assigned st o ss xs w (assigns w (is_assign (class w) e)) h hs ho

argument_sound : (st : Stack) (o : Open) (ss : List Simple) (is : List Item) (w : Word) (a b : Bool)
    → no_argument is ≡ a → is_ordinary (class w) ≡ b
    → (are_simple ss ≡ true) × (is_simple (command is) ≡ true) → IsStack st → IsOpen o
    → Sound (at st o (in_simple ss (command is))) (word w)
    (cond a (cond b (Some (at st o (in_simple ss (command (is ++ argument w ∷ []))))) None)
    (Some (at st o (in_simple ss (command (is ++ argument w ∷ []))))))
argument_sound st o ss is w true false e f h hs ho = tt
argument_sound st o ss is w true true e f h hs ho = record {
  written = λ r. ap (λ x. stack_then st (open_then o (piped_then ss x))) (sym (items_then-push is (argument w) r));
  kept = (hs, ho, (h.0, simple_from_well is (argument w) (well-argument is w (well_from_simple is h.1) (λ n. f))));
}
argument_sound st o ss is w false b e f h hs ho = record {
  written = λ r. ap (λ x. stack_then st (open_then o (piped_then ss x))) (sym (items_then-push is (argument w) r));
  kept = (
    hs,
    ho,
    (
      h.0,
      simple_from_well is (argument w)
          (well-argument is w (well_from_simple is h.1) (λ n. absurd (let g : false ≡ true = sym e ∙ n in cc))),
    ),
  );
}

name_sound : (st : Stack) (o : Open) (w : Word) (m : Option (List ℕ)) → name_of w ≡ m → IsStack st → IsOpen o
    → Sound (at st o for_name) (word w) (option_map (λ n. at st o (for_in n)) m)
name_sound st o w None e hs ho = tt
name_sound st o w (Some n) e hs ho =
    let same = name_of_is w n e in
    record {
      written = λ r. ap (λ v. stack_then st (open_then o (key key_for ∷ word v ∷ r))) same;
      kept =
          (hs, ho, ap name_of (sym same) ∙ e);
    }

in_key : (st : Stack) (o : Open) (n : List ℕ) (k : ReservedWord) → IsStack st → IsOpen o
    → name_of (plain n ∷ []) ≡ Some n
    → Sound (at st o (for_in n)) (key k) (only_key key_in (reserved k) (Some (at st o (for_words n []))))
in_key st o n key_in hs ho h = record { written = λ r. refl; kept = (hs, ho, h) }
in_key st o n k hs ho h = tt

do_key : (st : Stack) (o : Open) (n : List ℕ) (ws : List Word) (k : ReservedWord) → IsStack st → IsOpen o
    → name_of (plain n ∷ []) ≡ Some n
    → Sound (at st o (for_do n ws)) (key k)
    (only_key key_do (reserved k) (Some (at ((o, body n ws) ∷ st) empty_list start)))
do_key st o n ws key_do hs ho h = record { written = λ r. refl; kept = ((ho, h, hs), (tt, tt), tt) }
do_key st o n ws k hs ho h = tt

in_sound : (st : Stack) (o : Open) (n : List ℕ) (w : Word) (c : Class) → class w ≡ c → IsStack st → IsOpen o
    → name_of (plain n ∷ []) ≡ Some n
    → Sound (at st o (for_in n)) (word w) (only_key key_in c (Some (at st o (for_words n []))))
in_sound st o n w (reserved k) e hs ho h =
    subst (λ v. Sound (at st o (for_in n)) (word v) (only_key key_in (reserved k) (Some (at st o (for_words n [])))))
    (sym (key_of_class w k e)) (in_key st o n k hs ho h)
in_sound st o n w forbidden e hs ho h = tt
in_sound st o n w assignment e hs ho h = tt
in_sound st o n w ordinary e hs ho h = tt

do_sound : (st : Stack) (o : Open) (n : List ℕ) (ws : List Word) (w : Word) (c : Class) → class w ≡ c → IsStack st
    → IsOpen o → name_of (plain n ∷ []) ≡ Some n
    → Sound (at st o (for_do n ws)) (word w) (only_key key_do c (Some (at ((o, body n ws) ∷ st) empty_list start)))
do_sound st o n ws w (reserved k) e hs ho h =
    subst
    (λ v. Sound (at st o (for_do n ws)) (word v)
    (only_key key_do (reserved k) (Some (at ((o, body n ws) ∷ st) empty_list start)))) (sym (key_of_class w k e))
    (do_key st o n ws k hs ho h)
do_sound st o n ws w forbidden e hs ho h = tt
do_sound st o n ws w assignment e hs ho h = tt
do_sound st o n ws w ordinary e hs ho h = tt

-- ---- every step

step_sound : (st : Stack) (o : Open) (p : Place) (t : Token) → IsStack st → IsOpen o → IsPlace p
    → Sound (at st o p) t (step_at st o p t)
step_sound st o start (word w) hs ho h = begin_sound st o w (class w) refl hs ho
step_sound st o start (redirection d) hs ho h = record { written = λ r. refl; kept = (hs, ho, (refl, refl)) }
step_sound st o start t hs ho h = tt
step_sound st o (in_simple ss (assignments ws)) (word w) hs ho h = assign_sound st o ss ws w (is_assignment (class w))
    refl h hs ho
step_sound st o (in_simple ss (command is)) (word w) hs ho h = argument_sound st o ss is w (no_argument is)
    (is_ordinary (class w)) refl refl h hs ho
step_sound st o (in_simple ss (assignments ws)) (redirection d) hs ho h = tt
step_sound st o (in_simple ss (command is)) (redirection d) hs ho h =
    record { written = λ r. refl; kept = (hs, ho, (h.0, well_from_simple is h.1)) }
step_sound st o (in_simple ss s) bar hs ho h = record {
  written = λ r. ap (λ x. stack_then st (open_then o x)) (sym (piped_then-push ss s r));
  kept = (hs, ho, are_simple-push ss s h.0 h.1);
}
step_sound st o (in_simple ss s) semicolon hs ho h = go_on_sound st o (in_simple ss s) (simples (ss ++ s ∷ []))
    semicolon (whole_simple ss s h.0 h.1) hs ho
step_sound st o (in_simple ss s) (connector op) hs ho h = go_on_sound st o (in_simple ss s) (simples (ss ++ s ∷ []))
    (connector op) (whole_simple ss s h.0 h.1) hs ho
step_sound st o (target ss is d) (word w) hs ho h = record {
  written = λ r. ap (λ x. stack_then st (open_then o (piped_then ss x))) (sym (items_then-push is (redirect d w) r));
  kept = (hs, ho, (h.0, simple_from_well is (redirect d w) (well-target is d w h.1)));
}
step_sound st o (target ss is d) t hs ho h = tt
step_sound st o (after_bar ss) (word w) hs ho h = simple_sound st o (after_bar ss) ss w (class w) refl
    (record { stages = h; then_is = λ r. refl }) hs ho
step_sound st o (after_bar ss) (redirection d) hs ho h = record { written = λ r. refl; kept = (hs, ho, (h, refl)) }
step_sound st o (after_bar ss) t hs ho h = tt
step_sound st o (after_compound c) (word w) hs ho h = close_word_sound st o c w (class w) refl h hs ho
step_sound st o (after_compound c) semicolon hs ho h = go_on_sound st o (after_compound c) c semicolon
    (record { is_whole = h.0; then_is = λ r. refl }) hs ho
step_sound st o (after_compound c) (connector op) hs ho h = go_on_sound st o (after_compound c) c (connector op)
    (record { is_whole = h.0; then_is = λ r. refl }) hs ho
step_sound st o (after_compound c) t hs ho h = tt
step_sound st o for_name (word w) hs ho h = name_sound st o w (name_of w) refl hs ho
step_sound st o for_name t hs ho h = tt
step_sound st o (for_in n) (word w) hs ho h = in_sound st o n w (class w) refl hs ho h
step_sound st o (for_in n) t hs ho h = tt
step_sound st o (for_words n ws) (word w) hs ho h = record {
  written = λ r. ap (λ x. stack_then st (open_then o (key key_for ∷ plain_token n ∷ key key_in ∷ x)))
      (sym (words_then-push ws w r));
  kept = (hs, ho, h);
}
step_sound st o (for_words n ws) semicolon hs ho h = record { written = λ r. refl; kept = (hs, ho, h) }
step_sound st o (for_words n ws) t hs ho h = tt
step_sound st o (for_do n ws) (word w) hs ho h = do_sound st o n ws w (class w) refl hs ho h
step_sound st o (for_do n ws) t hs ho h = tt

-- ---- a whole run

run_none : (ts : List Token) → run None ts ≡ None
run_none [] = refl
run_none (t ∷ ts) = refl

run_from : (s : State) (t : Token) (ts : List Token) (m : Option State) (n : State) → Sound s t m → run m ts ≡ Some n
    → ((x : State) → IsState x → run (Some x) ts ≡ Some n → (state_then x ts ≡ state_then n []) × IsState n)
    → (state_then s (t ∷ ts) ≡ state_then n []) × IsState n
run_from s t ts None n b e rest = absurd (let f : None ≡ Some n = sym (run_none ts) ∙ e in cc)
run_from s t ts (Some x) n b e rest = let y = rest x b.kept e in (b.written ts ∙ y.0, y.1)

run_sound : (ts : List Token) (s n : State) → IsState s → run (Some s) ts ≡ Some n
    → (state_then s ts ≡ state_then n []) × IsState n
unfolding step
run_sound [] s n h e = let same : s ≡ n = cc in (ap (λ x. state_then x []) same, subst IsState same h)
run_sound (t ∷ ts) s n h e =
    run_from s t ts (step s t) n (step_sound s.stack s.here s.place t h.0 h.1 h.2) e (λ x k f. run_sound ts x n k f)

-- ---- the end

listed_end : (o : Open) (c : Command) (p : Place) (l : Commands) → IsWholeAt p c → IsOpen o
    → Some (listed o.and_ors (and_or o c) false) ≡ Some l
    → (open_then o (place_then p []) ≡ commands_then l []) × IsCommands l
listed_end o c p l b ho e =
    let same = Some_inj (listed o.and_ors (and_or o c) false) l e in
    let written : open_then o (place_then p []) ≡ commands_then (listed o.and_ors (and_or o c) false) [] =
    ap (open_then o) (b.then_is [])
    ∙ sym (listed-written o.and_ors (and_or o c) false [] ∙ ap (and_ors_then o.and_ors) (and_or-written o c [])) in (
      written ∙ ap (λ x. commands_then x []) same,
      subst IsCommands same
          (IsCommands-listed o.and_ors (and_or o c) false ho.0
          (IsAndOr-join o.pipelines (pipeline o.negated c) ho.1 b.is_whole)),
    )

finish_sound : (st : Stack) (o : Open) (p : Place) (l : Commands) → IsOpen o → IsPlace p → finish_at st o p ≡ Some l
    → (state_then (at st o p) [] ≡ commands_then l []) × IsCommands l
finish_sound [] o start l ho h e = let x = may_end_ends o.and_ors o.pipelines o.negated l e ho.0 in (x.0 [], x.1.0)
finish_sound [] o (in_simple ss s) l ho h e = listed_end o (simples (ss ++ s ∷ [])) (in_simple ss s) l
    (whole_simple ss s h.0 h.1) ho e
finish_sound [] o (after_compound c) l ho h e = listed_end o c (after_compound c) l
    (record { is_whole = h.0; then_is = λ r. refl }) ho e
finish_sound [] o (target ss is d) l ho h e = absurd (let f : None ≡ Some l = e in cc)
finish_sound [] o (after_bar ss) l ho h e = absurd (let f : None ≡ Some l = e in cc)
finish_sound [] o for_name l ho h e = absurd (let f : None ≡ Some l = e in cc)
finish_sound [] o (for_in n) l ho h e = absurd (let f : None ≡ Some l = e in cc)
finish_sound [] o (for_words n ws) l ho h e = absurd (let f : None ≡ Some l = e in cc)
finish_sound [] o (for_do n ws) l ho h e = absurd (let f : None ≡ Some l = e in cc)
finish_sound (x ∷ st) o p l ho h e = absurd (let f : None ≡ Some l = e in cc)

from_end : (ts : List Token) (m : Option State) (l : Commands) → run (Some (at [] empty_list start)) ts ≡ m
    → finish m ≡ Some l → Spells ts l
from_end ts None l e f = absurd (let g : None ≡ Some l = f in cc)
from_end ts (Some n) l e f =
    let x = run_sound ts (at [] empty_list start) n (tt, (tt, tt), tt) e in
    let y = finish_sound n.stack n.here n.place l x.1.1 x.1.2 f in
    record { tree = y.1; written = x.0 ∙ y.0 }

-- What is read as a tree is what is written for it.
pub Spells-commands_of : (ts : List Token) (c : Commands) → commands_of ts ≡ Some c → Spells ts c
unfolding commands_of
Spells-commands_of ts c e = from_end ts (run (Some (at [] empty_list start)) ts) c refl e
