-- No utility sets a variable.
use Rattle.std.proofs.Common.{◌≡◌, ℕ, ◌||◌, length, Bool, true, false, List, [], ◌∷◌, Option, Some, None, refl, ◌∙◌}
use Rattle.std.specs.FinMap as map
use Rattle.std.specs.Prelude.{Result, Ok, Err, codes, if◌then◌else◌}
use Rattle.retro_text.specs.Cut.{cut_in}
use Rattle.retro_text.specs.Condition.{condition_in, before_bracket}
use Rattle.retro_text.specs.Request.{Given, RequestValue, has_option, request_in}
use Rattle.retro_text.specs.Ascii.{letter}
use Rattle.retro_text.specs.Search.{search_in}
use Rattle.retro_text.specs.Utility.{name_of}
use Rattle.retro_text.specs.declared.utility.Utility.{Utility}
use Rattle.retro_text.specs.declared.utility.Utility.TheVariants as utilities
use Rattle.retro_tree.specs.Change.{put_cwd}
use Rattle.retro_tree.specs.Node.{kind_of}
use Rattle.retro_tree.specs.Order.{path_eq}
use Rattle.retro_tree.specs.Path.{PathValue, is_null}
use Rattle.retro_tree.specs.Session.{session_in, with_cwd}
use Rattle.retro_tree.specs.State.{permit_of, put_node, grow_file}
use Rattle.retro_tree.specs.Tree.{node_in}
use Rattle.retro_tree.specs.declared.kind.Kind.{Kind}
use Rattle.retro_tree.specs.declared.state.State.{State}
use Rattle.retro_tree.specs.declared.node.Node.TheVariants.{Dir}
use Rattle.retro_tree.proofs.CellLaw.{kept}
use Rattle.retro_local.specs.Kinds.{kind_at}
use Rattle.retro_utils.specs.Calls.{cat_call, cd_call, cp_call, cut_call, grep_call, id_call, mkdir_call, mv_call}
use Rattle.retro_utils.specs.Calls.{pwd_call, rm_call, tee_call, split_last}
use Rattle.retro_utils.specs.Calls.{cp_request, cut_request, grep_request, id_request, mkdir_request, mv_request}
use Rattle.retro_utils.specs.Calls.{removal, tee_mode}
use Rattle.retro_utils.specs.Cat.{cat}
use Rattle.retro_utils.specs.Conditions.{bracket_call, condition_call}
use Rattle.retro_utils.specs.Cp.{copy_all, copy_at, copy_operand, copy_path, copy_reading, copy_to, cp, put_copy, write_copy}
use Rattle.retro_utils.specs.Cutting.{cut}
use Rattle.retro_utils.specs.Directories.{cd, cd_home, cd_to, enter, home_in, pwd, with_directory}
use Rattle.retro_utils.specs.Mkdir.{make_dir, mkdir, no_room}
use Rattle.retro_utils.specs.MkdirParents.{make_parents, mkdir_parents}
use Rattle.retro_utils.specs.Mv.{move_all, move_all_to, move_at, move_operand, move_path, move_to, move_unless}
use Rattle.retro_utils.specs.Mv.{mv, no_place, no_source, put_moved, is_device}
use Rattle.retro_utils.specs.Operands.{Action, after_outcome, at_operand, at_path, in_turn, is_dash, is_several, located}
use Rattle.retro_utils.specs.Outcomes.{made_unless, nothing_done, or_usage, usage}
use Rattle.retro_utils.specs.Output.{appended, opened, prepared}
use Rattle.retro_utils.specs.Reading.{input_in, path_reading}
use Rattle.retro_utils.specs.Reasons.{no_directory, refusal}
use Rattle.retro_utils.specs.Rm.{is_protected, remove_at, remove_operand, remove_path, rm, not_removed}
use Rattle.retro_utils.specs.Searching.{grep}
use Rattle.retro_utils.specs.Tee.{Files, append_all, open_all, open_at, open_operand, path_opened, tee}
use Rattle.retro_utils.specs.Tee.{write_all}
use Rattle.retro_utils.specs.Transfers.{target_of, target_path}
use Rattle.retro_utils.specs.Users.{id}
use Rattle.retro_utils.specs.Utility.{meaning}
use Rattle.retro_utils.specs.declared.done.Done.{Done}
use Rattle.retro_utils.specs.declared.input.Input.{Input}
use Rattle.retro_utils.specs.declared.mode.Mode.{Mode}
use Rattle.retro_utils.specs.declared.mode.Mode.TheVariants.{Truncate, Append}
use Rattle.retro_utils.specs.declared.place.Place.{Place}
use Rattle.retro_utils.specs.declared.reason.Reason.{Reason}
use Rattle.retro_utils.specs.declared.reason.Reason.TheVariants.{NotPermitted}
use Rattle.casebook_usage.specs.Forms.{letters_of}

-- each session has the same variables in both states
pub record SameVars (s t : State) : Type 0 where
  pub same : (sid : ℕ) (name : List ℕ)
      → map.get (session_in sid t.sessions).vars name ≡ map.get (session_in sid s.sessions).vars name

-- a step leaves the variables of all sessions
abbrev pub Leaves : {X : Type 0} → (State → State × X) → Type 0
Leaves step = (s : State) → SameVars s (step s).0

same_vars : (s : State) → SameVars s s
same_vars s = record { same = λ sid name. refl }

then_same : (s t u : State) → SameVars s t → SameVars t u → SameVars s u
then_same s t u first more = record { same = λ sid name. more.same sid name ∙ first.same sid name }

-- ---- steps for operands

if_leaves : {X : Type 0} (b : Bool) (x : X) (step : State × X) (s : State) → SameVars s step.0
    → SameVars s (if b then (s, x) else step).0
if_leaves true x step s leaves = same_vars s
if_leaves false x step s leaves = leaves

made_leaves : (reason : Option Reason) (change : State → State) (s : State) → SameVars s (change s)
    → SameVars s (made_unless reason change s).0
made_leaves None change s leaves = leaves
made_leaves (Some reason) change s leaves = same_vars s

at_leaves : (act : Action) (p : Result PathValue Reason) → ((q : PathValue) → Leaves (act q)) → Leaves (at_path act p)
at_leaves act (Ok q) leaves s = leaves q s
at_leaves act (Err reason) leaves s = same_vars s

operand_leaves : (sid : ℕ) (act : Action) (operand : List ℕ) → ((q : PathValue) → Leaves (act q))
    → Leaves (at_operand sid act operand)
operand_leaves sid act operand leaves s = at_leaves act (located sid operand s) leaves s

turn_leaves : (name : List ℕ) (step : List ℕ → State → State × Result (Unit {0}) Reason) (operands : List (List ℕ))
    (done : Done) → ((x : List ℕ) → Leaves (step x)) → Leaves (in_turn name step operands done)
turn_leaves name step [] done leaves s = same_vars s
turn_leaves name step (x ∷ xs) done leaves s =
    then_same s (step x s).0 (in_turn name step xs (after_outcome name x done (step x s)).1 (step x s).0).0 (leaves x s)
    (turn_leaves name step xs (after_outcome name x done (step x s)).1 leaves (step x s).0)

-- ---- output

prepared_same : (mode : Mode) (p : PathValue) (s : State) → SameVars s (prepared mode p s)
prepared_same Truncate p s = record { same = λ sid name. refl }
prepared_same Append p s = record { same = λ sid name. refl }

pub opened_leaves : (mode : Mode) (p : PathValue) → Leaves (opened mode p)
unfolding opened
opened_leaves mode p s =
    if_leaves (is_null p) (Ok tt) _ s (made_leaves (refusal (permit_of p 0 s)) (prepared mode p) s (prepared_same mode p s))

pub appended_leaves : (text : List ℕ) (p : PathValue) → Leaves (appended text p)
unfolding appended
appended_leaves text p s =
    if_leaves (is_null p) (Ok tt) _ s
    (made_leaves (refusal (permit_of p (length text) s)) (grow_file p text) s (record { same = λ sid name. refl }))

made_sessions : (reason : Option Reason) (change : State → State) (s : State) → (change s).sessions ≡ s.sessions
    → (made_unless reason change s).0.sessions ≡ s.sessions
made_sessions None change s leaves = leaves
made_sessions (Some reason) change s leaves = refl

if_sessions : {X : Type 0} (b : Bool) (x : X) (step : State × X) (s : State) → step.0.sessions ≡ s.sessions
    → (if b then (s, x) else step).0.sessions ≡ s.sessions
if_sessions true x step s leaves = refl
if_sessions false x step s leaves = leaves

prepared_sessions : (mode : Mode) (p : PathValue) (s : State) → (prepared mode p s).sessions ≡ s.sessions
prepared_sessions Truncate p s = refl
prepared_sessions Append p s = refl

pub opened_sessions : (mode : Mode) (p : PathValue) (s : State) → (opened mode p s).0.sessions ≡ s.sessions
unfolding opened
opened_sessions mode p s =
    if_sessions (is_null p) (Ok tt) _ s
    (made_sessions (refusal (permit_of p 0 s)) (prepared mode p) s (prepared_sessions mode p s))

pub appended_sessions : (text : List ℕ) (p : PathValue) (s : State) → (appended text p s).0.sessions ≡ s.sessions
unfolding appended
appended_sessions text p s =
    if_sessions (is_null p) (Ok tt) _ s (made_sessions (refusal (permit_of p (length text) s)) (grow_file p text) s refl)

pub ruleset output_sessions = (opened_sessions, appended_sessions)

-- ---- `mkdir` and `rm`

make_leaves : (p : PathValue) → Leaves (make_dir p)
unfolding make_dir
make_leaves p s =
    made_leaves (no_room (kind_at p s) p s) (put_node p Dir) s (record { same = λ sid name. refl })

parents_leave : (p : PathValue) → Leaves (make_parents p)
unfolding make_parents
parents_leave p s = record { same = λ sid name. refl }

mkdir_all : (sid : ℕ) (operands : List (List ℕ)) → Leaves (mkdir sid operands)
unfolding mkdir
mkdir_all sid [] s = same_vars s
mkdir_all sid (x ∷ xs) s =
    turn_leaves (codes "mkdir") (at_operand sid make_dir) (x ∷ xs) (nothing_done 0)
    (λ y. operand_leaves sid make_dir y make_leaves) s

parents_all : (sid : ℕ) (operands : List (List ℕ)) → Leaves (mkdir_parents sid operands)
unfolding mkdir_parents
parents_all sid [] s = same_vars s
parents_all sid (x ∷ xs) s =
    turn_leaves (codes "mkdir") (at_operand sid make_parents) (x ∷ xs) (nothing_done 0)
    (λ y. operand_leaves sid make_parents y parents_leave) s

either_leaves : {X : Type 0} (b : Bool) (one two : State × X) (s : State) → SameVars s one.0 → SameVars s two.0
    → SameVars s (if b then one else two).0
either_leaves true one two s first second = first
either_leaves false one two s first second = second

mkdir_leaves : (sid : ℕ) (r : RequestValue) → Leaves (mkdir_request sid r)
mkdir_leaves sid r s =
    either_leaves (has_option (letter (codes "p")) r.options) _ _ s (parents_all sid r.operands s)
    (mkdir_all sid r.operands s)

-- ---- `rm`

remove_leaves : (options : List Given) (operand : List ℕ) (p : PathValue) → Leaves (remove_at (removal options) operand p)
unfolding remove_at remove_path
remove_leaves options operand p s =
    if_leaves (is_protected operand p) (Err NotPermitted) _ s
    (made_leaves (not_removed (removal options) (kind_of (node_in p s.tree))) _ s
    (record { same = λ sid name. refl }))

-- ---- `cp`

put_copy_leaves : (reason : Option Reason) (q : PathValue) (text : List ℕ) → Leaves (put_copy reason q text)
put_copy_leaves None q text s = record { same = λ sid name. refl }
put_copy_leaves (Some reason) q text s = same_vars s

write_leaves : (q : PathValue) (text : List ℕ) → Leaves (write_copy q text)
unfolding write_copy
write_leaves q text s = if_leaves (is_null q) _ _ s (put_copy_leaves (refusal (permit_of q 0 s)) q text s)

reading_leaves : (p q : PathValue) (r : Result (List ℕ) Reason) → Leaves (copy_reading p q r)
reading_leaves p q (Err reason) s = same_vars s
reading_leaves p q (Ok text) s = if_leaves (path_eq p q) _ _ s (write_leaves q text s)

copy_leaves : (target : _) (p : Result PathValue Reason) → Leaves (copy_at target p)
unfolding copy_path
copy_leaves target (Ok p) s = reading_leaves p (target_path target p) (path_reading p s) s
copy_leaves target (Err reason) s = same_vars s

copy_all_leaves : (sid : ℕ) (target : _) (last : List ℕ) (sources : List (List ℕ)) (done : Done)
    → Leaves (copy_all sid target last sources done)
unfolding copy_operand
copy_all_leaves sid target last [] done s = same_vars s
copy_all_leaves sid target last (x ∷ xs) done s =
    then_same s (copy_operand sid target x s).0 _ (copy_leaves target (located sid x s) s)
    (copy_all_leaves sid target last xs _ (copy_operand sid target x s).0)

-- ---- `mv`

put_moved_leaves : (reason : Option Reason) (p q : PathValue) → Leaves (put_moved reason p q)
put_moved_leaves None p q s = record { same = λ sid name. refl }
put_moved_leaves (Some reason) p q s = same_vars s

move_unless_leaves : (reason : Option Reason) (kind : Kind) (p q : PathValue) → Leaves (move_unless reason kind p q)
move_unless_leaves None kind p q s = put_moved_leaves (no_place kind q s) p q s
move_unless_leaves (Some reason) kind p q s = same_vars s

move_path_leaves : (p q : PathValue) → Leaves (move_path p q)
unfolding move_path
move_path_leaves p q s =
    move_unless_leaves (no_source (kind_of (node_in p s.tree)) p q) (kind_of (node_in p s.tree)) p q s

move_to_leaves : (source : List ℕ) (p q : PathValue) → Leaves (move_to source p q)
unfolding move_to
move_to_leaves source p q s = if_leaves (is_protected source p || is_device q) _ _ s (move_path_leaves p q s)

move_leaves : (source : List ℕ) (target : _) (p : Result PathValue Reason) → Leaves (move_at source target p)
move_leaves source target (Ok p) s = move_to_leaves source p (target_path target p) s
move_leaves source target (Err reason) s = same_vars s

move_all_leaves : (sid : ℕ) (target : _) (last : List ℕ) (sources : List (List ℕ)) (done : Done)
    → Leaves (move_all sid target last sources done)
unfolding move_operand
move_all_leaves sid target last [] done s = same_vars s
move_all_leaves sid target last (x ∷ xs) done s =
    then_same s (move_operand sid target x s).0 _ (move_leaves x target (located sid x s) s)
    (move_all_leaves sid target last xs _ (move_operand sid target x s).0)

copy_to_leaves : (sid : ℕ) (target : _) (last : List ℕ) (sources : List (List ℕ)) → Leaves (copy_to sid target last sources)
copy_to_leaves sid (Ok target) last sources s = copy_all_leaves sid target last sources (nothing_done 0) s
copy_to_leaves sid (Err reason) last sources s = same_vars s

move_to_target : (sid : ℕ) (target : _) (last : List ℕ) (sources : List (List ℕ)) → Leaves (move_all_to sid target last sources)
move_to_target sid (Ok target) last sources s = move_all_leaves sid target last sources (nothing_done 0) s
move_to_target sid (Err reason) last sources s = same_vars s

cp_leaves : (sid : ℕ) (last : List ℕ) (sources : List (List ℕ)) → Leaves (cp sid last sources)
unfolding cp
cp_leaves sid last [] s = same_vars s
cp_leaves sid last (x ∷ xs) s = copy_to_leaves sid (target_of sid (is_several (x ∷ xs)) last s) last (x ∷ xs) s

mv_leaves : (sid : ℕ) (last : List ℕ) (sources : List (List ℕ)) → Leaves (mv sid last sources)
unfolding mv
mv_leaves sid last [] s = same_vars s
mv_leaves sid last (x ∷ xs) s = move_to_target sid (target_of sid (is_several (x ∷ xs)) last s) last (x ∷ xs) s

rm_leaves : (sid : ℕ) (options : List Given) (operands : List (List ℕ)) → Leaves (rm sid (removal options) operands)
unfolding rm
rm_leaves sid options [] s = same_vars s
rm_leaves sid options (x ∷ xs) s =
    turn_leaves (codes "rm") (remove_operand sid (removal options)) (x ∷ xs) (nothing_done 0)
    (λ y. operand_leaves sid (remove_at (removal options) y) y (remove_leaves options y)) s

-- ---- `tee`

path_opened_leaves : (p : PathValue) (s : State) (step : State × Result (Unit {0}) Reason) → SameVars s step.0
    → SameVars s (path_opened p step).0
path_opened_leaves p s (t, Ok done) leaves = leaves
path_opened_leaves p s (t, Err reason) leaves = leaves

open_leaves : (mode : Mode) (p : Result PathValue Reason) → Leaves (open_at mode p)
open_leaves mode (Ok p) s = path_opened_leaves p s (opened mode p s) (opened_leaves mode p s)
open_leaves mode (Err reason) s = same_vars s

open_all_leaves : (sid : ℕ) (mode : Mode) (operands : List (List ℕ)) (files : Files)
    → Leaves (open_all sid mode operands files)
unfolding open_operand
open_all_leaves sid mode [] files s = same_vars s
open_all_leaves sid mode (x ∷ xs) files s =
    then_same s (open_operand sid mode x s).0 _ (open_leaves mode (located sid x s) s)
    (open_all_leaves sid mode xs _ (open_operand sid mode x s).0)

append_all_leaves : (text : List ℕ) (files : List (List ℕ × PathValue)) (done : Done) → Leaves (append_all text files done)
append_all_leaves text [] done s = same_vars s
append_all_leaves text ((x, p) ∷ files) done s =
    then_same s (appended text p s).0 _ (appended_leaves text p s)
    (append_all_leaves text files _ (appended text p s).0)

write_all_leaves : (text : List ℕ) (files : Files) → Leaves (write_all text files)
unfolding write_all
write_all_leaves [] (files, done) s = same_vars s
write_all_leaves (b ∷ text) (files, done) s = append_all_leaves (b ∷ text) files _ s

tee_leaves : (sid : ℕ) (mode : Mode) (operands : List (List ℕ)) (input : Input) → Leaves (tee sid mode operands input)
unfolding tee
tee_leaves sid mode operands input s =
    let all : State × Files = open_all sid mode operands ([], nothing_done 0) s in
    then_same s all.0 _ (open_all_leaves sid mode operands ([], nothing_done 0) s)
    (write_all_leaves (input_in input all.0) all.1 all.0)

-- ---- `cd`

cwd_leaves : (sid : ℕ) (p : PathValue) (s : State) → SameVars s (put_cwd sid p s)
cwd_leaves sid p s = record {
  same = λ other name. kept (λ t. map.get t.vars name) s.sessions sid other (with_cwd p) (λ t. refl);
}

directory_leaves : (place : Place) (p : PathValue) (s : State) → SameVars s (with_directory place p s)
directory_leaves place p s = by_place place.sub
  where
    by_place : (sub : Bool) → SameVars s (if sub then s else put_cwd place.sid p s)
    by_place true = same_vars s
    by_place false = cwd_leaves place.sid p s

enter_leaves : (place : Place) (p : PathValue) → Leaves (enter place p)
unfolding enter
enter_leaves place p s = made_leaves (no_directory (kind_at p s)) (with_directory place p) s (directory_leaves place p s)

cd_to_leaves : (place : Place) (operand : List ℕ) → Leaves (cd_to place operand)
unfolding cd_to
cd_to_leaves place operand s = operand_leaves place.sid (enter place) operand (enter_leaves place) s

cd_home_leaves : (place : Place) (home : Option (List ℕ)) → Leaves (cd_home place home)
cd_home_leaves place None s = same_vars s
cd_home_leaves place (Some []) s = same_vars s
cd_home_leaves place (Some (b ∷ text)) s = cd_to_leaves place (b ∷ text) s

cd_leaves : (place : Place) (operands : List (List ℕ)) → Leaves (cd place operands)
unfolding cd
cd_leaves place [] s = cd_home_leaves place (home_in place.sid s) s
cd_leaves place (x ∷ []) s = if_leaves (is_dash x) (usage (codes "cd")) _ s (cd_to_leaves place x s)
cd_leaves place (x ∷ y ∷ more) s = same_vars s

-- ---- all utilities

usage_leaves : {X : Type 0} (name : List ℕ) (o : Option X) (step : X → State → State × Done) (s : State)
    → ((x : X) → SameVars s (step x s).0) → SameVars s (or_usage name o step s).0
usage_leaves name None step s leaves = same_vars s
usage_leaves name (Some x) step s leaves = leaves x

pwd_leaves : (sid : ℕ) (operands : List (List ℕ)) → Leaves (pwd sid operands)
unfolding pwd
pwd_leaves sid [] s = same_vars s
pwd_leaves sid (x ∷ xs) s = same_vars s

id_leaves : (operands : List (List ℕ)) → Leaves (id operands)
unfolding id
id_leaves [] s = same_vars s
id_leaves (x ∷ []) s = same_vars s
id_leaves (x ∷ y ∷ more) s = same_vars s

cat_leaves : (sid : ℕ) (operands : List (List ℕ)) (input : Input) → Leaves (cat sid operands input)
unfolding cat
cat_leaves sid operands input s = same_vars s

id_request_leaves : (r : RequestValue) → Leaves (id_request r)
id_request_leaves r s =
    either_leaves (has_option (letter (codes "u")) r.options) _ _ s (id_leaves r.operands s) (same_vars s)

cut_request_leaves : (sid : ℕ) (input : Input) (r : RequestValue) → Leaves (cut_request sid input r)
unfolding cut
cut_request_leaves sid input r s = usage_leaves (codes "cut") (cut_in r.options) _ s (λ how. same_vars s)

grep_request_leaves : (sid : ℕ) (input : Input) (r : RequestValue) → Leaves (grep_request sid input r)
unfolding grep
grep_request_leaves sid input r s = usage_leaves (codes "grep") (search_in r) _ s (λ w. same_vars s)

cp_request_leaves : (sid : ℕ) (r : RequestValue) → Leaves (cp_request sid r)
cp_request_leaves sid r s = usage_leaves (codes "cp") (split_last r.operands) _ s (λ o. cp_leaves sid o.0 o.1 s)

mv_request_leaves : (sid : ℕ) (r : RequestValue) → Leaves (mv_request sid r)
mv_request_leaves sid r s = usage_leaves (codes "mv") (split_last r.operands) _ s (λ o. mv_leaves sid o.0 o.1 s)

condition_leaves : (name : List ℕ) (sid : ℕ) (operands : List (List ℕ)) → Leaves (condition_call name sid operands)
unfolding condition_call
condition_leaves name sid operands s = usage_leaves name (condition_in operands) _ s (λ c. same_vars s)

bracket_leaves : (sid : ℕ) (fields : List (List ℕ)) → Leaves (bracket_call sid fields)
unfolding bracket_call
bracket_leaves sid fields s =
    usage_leaves (codes "[") (before_bracket fields) _ s (λ operands. condition_leaves (codes "[") sid operands s)

request_leaves : (u : Utility) (fields : List (List ℕ)) (step : RequestValue → State → State × Done) (s : State)
    → ((r : RequestValue) → SameVars s (step r s).0)
    → SameVars s (or_usage (name_of u) (request_in (letters_of u) fields) step s).0
request_leaves u fields step s leaves = usage_leaves (name_of u) (request_in (letters_of u) fields) step s leaves

call_leaves : (u : Utility) (fields : List (List ℕ)) (input : Input) (place : Place) → Leaves (meaning u fields input place)
unfolding pwd_call cd_call id_call cat_call tee_call cut_call grep_call mkdir_call rm_call cp_call mv_call
call_leaves utilities.Echo fields input place s = same_vars s
call_leaves utilities.True fields input place s = same_vars s
call_leaves utilities.False fields input place s = same_vars s
call_leaves utilities.Colon fields input place s = same_vars s
call_leaves utilities.Test fields input place s = condition_leaves (codes "test") place.sid fields s
call_leaves utilities.Bracket fields input place s = bracket_leaves place.sid fields s
call_leaves utilities.Pwd fields input place s =
    request_leaves utilities.Pwd fields (λ r. pwd place.sid r.operands) s (λ r. pwd_leaves place.sid r.operands s)
call_leaves utilities.Cd fields input place s =
    request_leaves utilities.Cd fields (λ r. cd place r.operands) s (λ r. cd_leaves place r.operands s)
call_leaves utilities.Id fields input place s =
    request_leaves utilities.Id fields (λ r. id_request r) s (λ r. id_request_leaves r s)
call_leaves utilities.Cat fields input place s =
    request_leaves utilities.Cat fields (λ r. cat place.sid r.operands input) s (λ r. cat_leaves place.sid r.operands input s)
call_leaves utilities.Tee fields input place s =
    request_leaves utilities.Tee fields (λ r. tee place.sid (tee_mode r.options) r.operands input) s (λ r. tee_leaves place.sid (tee_mode r.options) r.operands input s)
call_leaves utilities.Cut fields input place s =
    request_leaves utilities.Cut fields (λ r. cut_request place.sid input r) s (λ r. cut_request_leaves place.sid input r s)
call_leaves utilities.Grep fields input place s =
    request_leaves utilities.Grep fields (λ r. grep_request place.sid input r) s (λ r. grep_request_leaves place.sid input r s)
call_leaves utilities.Mkdir fields input place s =
    request_leaves utilities.Mkdir fields (λ r. mkdir_request place.sid r) s (λ r. mkdir_leaves place.sid r s)
call_leaves utilities.Rm fields input place s =
    request_leaves utilities.Rm fields (λ r. rm place.sid (removal r.options) r.operands) s (λ r. rm_leaves place.sid r.options r.operands s)
call_leaves utilities.Cp fields input place s =
    request_leaves utilities.Cp fields (λ r. cp_request place.sid r) s (λ r. cp_request_leaves place.sid r s)
call_leaves utilities.Mv fields input place s =
    request_leaves utilities.Mv fields (λ r. mv_request place.sid r) s (λ r. mv_request_leaves place.sid r s)

pub no_variable_set : (u : Utility) (fields : List (List ℕ)) (input : Input) (place : Place) (s : State) (sid : ℕ)
    (name : List ℕ)
    → map.get (session_in sid (meaning u fields input place s).0.sessions).vars name
    ≡ map.get (session_in sid s.sessions).vars name
no_variable_set u fields input place s sid name = (call_leaves u fields input place s).same sid name
