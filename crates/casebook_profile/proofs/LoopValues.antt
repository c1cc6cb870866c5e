-- The variables of loops keep plain values while a line runs.
use Rattle.std.proofs.Common.{◌≡◌, ◌≢◌, ℕ, ◌==◌, Bool, true, false, not, ◌&&◌, ◌||◌, List, [], ◌∷◌, ◌++◌, length, Option, Some, None, nat_le}
use Rattle.std.proofs.Common.{refl, ap, sym, ◌∙◌, subst, if◌then◌else◌, Result, Ok, Err}
use Rattle.std.proofs.lemmas.Bool.{true≢false, false≢true}
use Rattle.std.proofs.lemmas.List.Folds.{list_any-append}
use Rattle.std.specs.FinMap as map
use Rattle.std.specs.Ordering.{is_eq}
use Rattle.std.specs.declared.cmp.Ordering.{Ordering}
use Rattle.std.specs.declared.cmp.Ordering.TheVariants.{Less, Equal, Greater}
use Rattle.std.specs.List.{list_any}
use Rattle.std.specs.Option.{unwrap_or}
use Rattle.retro_path.specs.Order.{text_eq, text_ties}
use Rattle.retro_text.specs.Utility.{utility_named}
use Rattle.retro_text.specs.declared.utility.Utility.{Utility}
use Rattle.retro_tree.specs.Change.{put_var}
use Rattle.retro_tree.specs.Order.{text_total, text_exact}
use Rattle.retro_tree.specs.Path.{PathValue}
use Rattle.retro_tree.specs.Session.{session_in, value_limit, with_var}
use Rattle.retro_tree.specs.declared.session.Session.{Session}
use Rattle.retro_tree.specs.declared.kind.Kind.{Kind}
use Rattle.retro_tree.specs.declared.kind.Kind.TheVariants as kinds
use Rattle.retro_tree.specs.declared.state.State.{State}
use Rattle.retro_tree.proofs.Lookups.{get_inserted, get_inserted_apart, session_updated}
use Rattle.retro_syntax.specs.Tree.{Item, argument, redirect, Assignment, Simple, assignments, command}
use Rattle.retro_syntax.specs.declared.tree.Direction.{Direction}
use Rattle.retro_syntax.specs.declared.tree.Direction.TheVariants.{From, Onto, Append}
use Rattle.retro_utils.specs.Operands.{located}
use Rattle.retro_utils.specs.Output.{appended, opened}
use Rattle.retro_utils.specs.Utility.{by_utility, utility}
use Rattle.retro_utils.specs.declared.done.Done.{Done}
use Rattle.retro_utils.specs.declared.input.Input.{Input}
use Rattle.retro_utils.specs.declared.mode.Mode.TheVariants as modes
use Rattle.retro_utils.specs.declared.place.Place.{Place}
use Rattle.retro_utils.specs.declared.reason.Reason.{Reason}
use Rattle.retro_shell.specs.Expansion.{arguments, fields, single}
use Rattle.retro_shell.specs.Fields.{fields_fit}
use Rattle.retro_shell.specs.Redirections.{after_append, delivery, input_from, output_to, redirection, redirection_at}
use Rattle.retro_shell.specs.Redirections.{redirection_to, redirections, then_redirected}
use Rattle.retro_shell.specs.Simple.{assign, assigned_in, call, command_of, execution, or_not_found, simple}
use Rattle.casebook_usage.proofs.Sessions.{SameVars, Leaves, appended_leaves, no_variable_set, opened_leaves}
use Rattle.casebook_usage.specs.declared.obstacle.Obstacle.{Obstacle}
use Rattle.casebook_usage.specs.declared.obstacle.Obstacle.TheVariants as obstacles
use Rattle.casebook_profile.specs.Commands.{assignment_obstacle, assignments_obstacle, first_of, simple_obstacle, unless_clear}
use Rattle.casebook_profile.specs.Proper.{ArgumentOf, Context}
use Rattle.casebook_profile.specs.Scope.{Scope, is_loop, with_set}
use Rattle.casebook_profile.specs.Variables.{is_special}
use Rattle.casebook_profile.specs.Words.{is_clear_value, is_plain_text}

-- the input and the output of a command
abbrev Streams : Type 0
Streams = ArgumentOf (output_to [] [])

-- ---- obstacles

pub some_none : {X : Type 0} (x : X) → ◌≡◌ {A = Option X} (Some x) None → ⊥
some_none x e = cc

pub no_first : (a b : Option Obstacle) → first_of a b ≡ None → (a ≡ None) × (b ≡ None)
no_first None b e = (refl, e)
no_first (Some x) b e = absurd (some_none x e)

pub is_clear_test : (b : Bool) → unless_clear b ≡ None → b ≡ true
is_clear_test true e = refl
is_clear_test false e = absurd (some_none _ e)

pub not_loop : (a b : Bool) → unless_clear (not a && b) ≡ None → (a ≡ false) × (b ≡ true)
not_loop true b e = absurd (some_none _ e)
not_loop false b e = (refl, is_clear_test b e)

pub no_form : (b : Bool) (o : Option Obstacle) → (if b then Some obstacles.Form else o) ≡ None → o ≡ None
no_form true o e = absurd (some_none _ e)
no_form false o e = e

-- ---- texts

same_text : (x y : List ℕ) → text_eq x y ≡ true → x ≡ y
same_text x y e = text_exact x y (tied _ (sym (text_ties x y) ∙ e))
  where
    tied : (r : Ordering) → is_eq r ≡ true → r ≡ Equal
    tied Less e = absurd (false≢true e)
    tied Equal e = refl
    tied Greater e = absurd (false≢true e)

-- ---- the variables of loops

abbrev pub value_in : ℕ → List ℕ → State → List ℕ
value_in sid name s = unwrap_or (map.get (session_in sid s.sessions).vars name) []

-- each variable of a loop has a plain value in a session
pub record LoopsHold (loops : List (List ℕ)) (sid : ℕ) (s : State) : Type 0 where
  pub hold : (name : List ℕ) → list_any (text_eq name) loops ≡ true → is_plain_text (value_in sid name s) ≡ true

pub none_hold : (loops : List (List ℕ)) (sid : ℕ) (s : State) → loops ≡ [] → LoopsHold loops sid s
none_hold loops sid s none = record {
  hold = λ name is. absurd (false≢true (ap (λ l. list_any (text_eq name) l) (sym none) ∙ is));
}

pub same_hold : (loops : List (List ℕ)) (sid : ℕ) (s t : State) → SameVars s t → LoopsHold loops sid s
    → LoopsHold loops sid t
same_hold loops sid s t same h = record {
  hold = λ name is.
      subst (λ (o : Option (List ℕ)). is_plain_text (unwrap_or o []) ≡ true) (sym (same.same sid name)) (h.hold name is);
}

-- ---- a variable that is set

value_put : (sid : ℕ) (name value : List ℕ) (s : State) → value_in sid name (put_var sid name value s) ≡ value
value_put sid name value s =
    ap (λ (t : Session). unwrap_or (map.get t.vars name) []) (session_updated s.sessions sid (with_var name value))
    ∙ ap (λ o. unwrap_or o []) (get_inserted text_total (session_in sid s.sessions).vars name value)

value_put_apart : (sid : ℕ) (name value other : List ℕ) (s : State) → other ≢ name
    → value_in sid other (put_var sid name value s) ≡ value_in sid other s
value_put_apart sid name value other s ne =
    ap (λ (t : Session). unwrap_or (map.get t.vars other) []) (session_updated s.sessions sid (with_var name value))
    ∙ ap (λ o. unwrap_or o [])
    (get_inserted_apart text_total text_exact (session_in sid s.sessions).vars name value other ne)

apart_from_loop : (loops : List (List ℕ)) (name other : List ℕ) → list_any (text_eq name) loops ≡ false
    → list_any (text_eq other) loops ≡ true → other ≢ name
apart_from_loop loops name other unset here e =
    true≢false (sym here ∙ ap (λ n. list_any (text_eq n) loops) e ∙ unset)

pub put_holds : (loops : List (List ℕ)) (sid : ℕ) (name value : List ℕ) (s : State)
    → list_any (text_eq name) loops ≡ false → LoopsHold loops sid s → LoopsHold loops sid (put_var sid name value s)
put_holds loops sid name value s unset h = record {
  hold = λ other here.
      ap is_plain_text (value_put_apart sid name value other s (apart_from_loop loops name other unset here))
      ∙ h.hold other here;
}

-- one more loop, whose variable gets a plain value
pub turn_holds : (loops : List (List ℕ)) (sid : ℕ) (name value : List ℕ) (s : State)
    → list_any (text_eq name) loops ≡ false → is_plain_text value ≡ true → LoopsHold loops sid s
    → LoopsHold (loops ++ name ∷ []) sid (put_var sid name value s)
turn_holds loops sid name value s unset plain h = record {
  hold = λ other here.
      by_name other (list_any (text_eq other) loops) (text_eq other name) refl refl
      (sym (list_any-append (text_eq other) loops (name ∷ [])) ∙ here);
}
  where
    by_name : (other : List ℕ) (old new : Bool) → list_any (text_eq other) loops ≡ old → text_eq other name ≡ new
        → (old || (new || false)) ≡ true → is_plain_text (value_in sid other (put_var sid name value s)) ≡ true
    by_name other true new is_old is_new here = (put_holds loops sid name value s unset h).hold other is_old
    by_name other false true is_old is_new here =
        ap (λ n. is_plain_text (value_in sid n (put_var sid name value s))) (same_text other name is_new)
        ∙ ap is_plain_text (value_put sid name value s) ∙ plain
    by_name other false false is_old is_new here = absurd (false≢true here)

-- one loop less
pub fewer_hold : (loops : List (List ℕ)) (sid : ℕ) (name : List ℕ) (s : State) → LoopsHold (loops ++ name ∷ []) sid s
    → LoopsHold loops sid s
fewer_hold loops sid name s h = record {
  hold = λ other here.
      h.hold other (list_any-append (text_eq other) loops (name ∷ []) ∙ ap (λ b. b || (text_eq other name || false)) here);
}

-- ---- assignments

assigned_holds : (loops : List (List ℕ)) (place : Place) (name value : List ℕ) (s : State)
    → list_any (text_eq name) loops ≡ false → LoopsHold loops place.sid s
    → LoopsHold loops place.sid (assigned_in place name value s)
assigned_holds loops place name value s unset h = by_place place.sub
  where
    by_place : (sub : Bool) → LoopsHold loops place.sid (if sub then s else put_var place.sid name value s)
    by_place true = h
    by_place false = put_holds loops place.sid name value s unset h

size_holds : (fits : Bool) (loops : List (List ℕ)) (sid : ℕ) (s : State) (done : Done) (r : State × Done)
    → LoopsHold loops sid s → LoopsHold loops sid r.0 → LoopsHold loops sid (if fits then r else (s, done)).0
size_holds true loops sid s done r h after = after
size_holds false loops sid s done r h after = h

assign_holds : (scope : Scope) (context : Context) (all : List Assignment) (s : State)
    → assignments_obstacle scope all ≡ None → LoopsHold scope.loops context.place.sid s
    → LoopsHold scope.loops context.place.sid (assign context all s).0
assign_holds scope context [] s none h = h
assign_holds scope context (a ∷ rest) s none h =
    let (first, more) = no_first (assignment_obstacle scope a) (assignments_obstacle (with_set (a.name ∷ []) scope) rest) none in
    let unset = (not_loop (is_loop scope a.name) (is_clear_value scope a.value) (no_form (is_special a.name) _ first)).0 in
    let value : List ℕ = single context s true a.value in
    let t : State = assigned_in context.place a.name value s in
    size_holds (nat_le (length value) value_limit) scope.loops context.place.sid s _ (assign context rest t) h
    (assign_holds (with_set (a.name ∷ []) scope) context rest t more
    (assigned_holds scope.loops context.place a.name value s unset h))

-- ---- commands

same_vars : (s : State) → SameVars s s
same_vars s = record { same = λ sid name. refl }

then_same : (s t u : State) → SameVars s t → SameVars t u → SameVars s u
then_same s t u first more = record { same = λ sid name. more.same sid name ∙ first.same sid name }

append_leaves : (word : List ℕ) (done : Done) (s : State) (r : State × Result (Unit {0}) Reason) → SameVars s r.0
    → SameVars s (after_append word done r).0
append_leaves word done s (t, Ok written) same = same
append_leaves word done s (t, Err reason) same = same

file_leaves : (empty : Bool) (word : List ℕ) (p : PathValue) (done : Done) (s : State)
    → SameVars s (if empty then (s, done) else after_append word done (appended done.out p s)).0
file_leaves true word p done s = same_vars s
file_leaves false word p done s = append_leaves word done s (appended done.out p s) (appended_leaves done.out p s)

-- the delivery of output leaves the variables
abbrev Delivers : Streams → Type 0
Delivers io = (done : Done) → Leaves (delivery io.output done)

-- a redirection leaves the variables, and what it opens is for output that leaves them too
abbrev Redirected : State → State × Result Streams Done → Type 0
Redirected s (t, Ok io) = SameVars s t × Delivers io
Redirected s (t, Err failed) = SameVars s t

output_leaves : (word : List ℕ) (p : PathValue) (io : Streams) (s : State) (r : State × Result (Unit {0}) Reason)
    → SameVars s r.0 → Redirected s (output_to word p io r)
unfolding delivery
output_leaves word p io s (t, Ok opened) same = (same, λ done u. file_leaves (length done.out == 0) word p done u)
output_leaves word p io s (t, Err reason) same = same

input_leaves : (word : List ℕ) (p : PathValue) (kind : Kind) (io : Streams) (s : State) → Delivers io
    → Redirected s (s, input_from word p kind io)
input_leaves word p kinds.Missing io s delivers = same_vars s
input_leaves word p kinds.Dir io s delivers = same_vars s
input_leaves word p kinds.File io s delivers = (same_vars s, delivers)

to_leaves : (d : Direction) (word : List ℕ) (p : PathValue) (io : Streams) (s : State) → Delivers io
    → Redirected s (redirection_to d word p io s)
to_leaves From word p io s delivers = input_leaves word p _ io s delivers
to_leaves Onto word p io s delivers =
    output_leaves word p io s (opened modes.Truncate p s) (opened_leaves modes.Truncate p s)
to_leaves Append word p io s delivers =
    output_leaves word p io s (opened modes.Append p s) (opened_leaves modes.Append p s)

at_leaves : (d : Direction) (word : List ℕ) (p : Result PathValue Reason) (io : Streams) (s : State) → Delivers io
    → Redirected s (redirection_at d word p io s)
at_leaves d word (Ok p) io s delivers = to_leaves d word p io s delivers
at_leaves d word (Err reason) io s delivers = same_vars s

redirection_leaves : (sid : ℕ) (d : Direction) (word : List ℕ) (io : Streams) (s : State) → Delivers io
    → Redirected s (redirection sid d word io s)
unfolding redirection
redirection_leaves sid d word io s delivers = at_leaves d word (located sid word s) io s delivers

after_leaves : (s t : State) (r : State × Result Streams Done) → SameVars s t → Redirected t r → Redirected s r
after_leaves s t (u, Ok io) same (more, delivers) = (then_same s t u same more, delivers)
after_leaves s t (u, Err failed) same more = then_same s t u same more

then_leaves : (s : State) (r : State × Result Streams Done) (rest : Streams → State → State × Result Streams Done)
    → Redirected s r → ((io : Streams) (t : State) → Delivers io → Redirected t (rest io t))
    → Redirected s (then_redirected r rest)
then_leaves s (t, Ok io) rest (same, delivers) leaves = after_leaves s t (rest io t) same (leaves io t delivers)
then_leaves s (t, Err failed) rest same leaves = same

redirections_leave : (context : Context) (items : List Item) (io : Streams) (s : State) → Delivers io
    → Redirected s (redirections context items io s)
redirections_leave context [] io s delivers = (same_vars s, delivers)
redirections_leave context (argument w ∷ items) io s delivers = redirections_leave context items io s delivers
redirections_leave context (redirect d w ∷ items) io s delivers =
    then_leaves s (redirection context.place.sid d (single context s false w) io s) (redirections context items)
    (redirection_leaves context.place.sid d (single context s false w) io s delivers)
    (λ more t. redirections_leave context items more t)

call_leaves : (place : Place) (fs : List (List ℕ)) (input : Input) → Leaves (call place fs input)
unfolding call utility
call_leaves place [] input s = same_vars s
call_leaves place (name ∷ operands) input s = by_name (utility_named name)
  where
    by_name : (u : Option Utility) → SameVars s (or_not_found name (by_utility u operands input place s)).0
    by_name None = same_vars s
    by_name (Some u) = record { same = λ sid n. no_variable_set u operands input place s sid n }

execution_leaves : (place : Place) (fs : List (List ℕ)) (s : State) (r : State × Result Streams Done) → Redirected s r
    → SameVars s (execution place fs r).0
execution_leaves place fs s (t, Ok io) (same, delivers) =
    let c : State × Done = call place fs io.input t in
    then_same s c.0 (delivery io.output c.1 c.0).0 (then_same s t c.0 same (call_leaves place fs io.input t))
    (delivers c.1 c.0)
execution_leaves place fs s (t, Err failed) same = same

size_leaves : (fits : Bool) (s : State) (done : Done) (r : State × Done) → SameVars s r.0
    → SameVars s (if fits then r else (s, done)).0
size_leaves true s done r same = same
size_leaves false s done r same = same_vars s

command_leaves : (context : Context) (fs : List (List ℕ)) (items : List Item) (input : Input)
    → Leaves (command_of context fs items input)
unfolding delivery
command_leaves context fs items input s =
    size_leaves (fields_fit fs) s _ _
    (execution_leaves context.place fs s _ (redirections_leave context items _ s (λ done t. same_vars t)))

-- ---- simple commands

pub simple_holds : (scope : Scope) (is_piped : Bool) (context : Context) (c : Simple) (input : Input) (s : State)
    → simple_obstacle scope is_piped c ≡ None → LoopsHold scope.loops context.place.sid s
    → LoopsHold scope.loops context.place.sid (simple context c input s).0
unfolding simple simple_obstacle
simple_holds scope is_piped context (assignments all) input s none h = assign_holds scope context all s none h
simple_holds scope is_piped context (command items) input s none h =
    same_hold scope.loops context.place.sid s (command_of context (fields context s (arguments items)) items input s).0
    (command_leaves context (fields context s (arguments items)) items input s) h
