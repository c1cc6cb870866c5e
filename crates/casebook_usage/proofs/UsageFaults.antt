-- Which calls are usage faults.
use Rattle.std.proofs.Common.{◌≡◌, ◌≢◌, ℕ, suc, ◌<◌, ◌==◌, Bool, true, false, not, ◌&&◌, ◌||◌, List, [], ◌∷◌, length, Option, Some, None}
use Rattle.std.proofs.Common.{refl, ap, sym, ◌∙◌, ◌-◌, arith, codes, le-leb, eqb→eq, T, subst, take}
use Rattle.std.specs.Prelude.{if◌then◌else◌, nat_le}
use Rattle.std.proofs.lemmas.Bool.{false≢true, true≢false}
use Rattle.std.specs.List.{slice_get}
use Rattle.std.specs.Option.{is_some, option_map}
use Rattle.retro_text.specs.Ascii.{letter}
use Rattle.retro_text.specs.Condition.{before_bracket, condition_in}
use Rattle.retro_text.specs.Cut.{cut_in}
use Rattle.retro_text.specs.Request.{Given, RequestValue, has_option, request_in}
use Rattle.retro_text.specs.Search.{search_in}
use Rattle.retro_text.specs.Utility.{name_of}
use Rattle.retro_text.specs.declared.utility.Utility.{Utility}
use Rattle.retro_text.specs.declared.utility.Utility.TheVariants as utilities
use Rattle.retro_tree.specs.Path.{passwd}
use Rattle.retro_tree.specs.Tree.{node_in}
use Rattle.retro_tree.specs.User.{user_in}
use Rattle.retro_tree.specs.declared.state.State.{State}
use Rattle.retro_tree.specs.declared.user.User.{User}
use Rattle.retro_utils.specs.Calls.{cat_call, cd_call, cp_call, cut_call, grep_call, id_call, mkdir_call, mv_call}
use Rattle.retro_utils.specs.Calls.{pwd_call, rm_call, tee_call, split_last}
use Rattle.retro_utils.specs.Calls.{cp_request, cut_request, grep_request, id_request, mkdir_request, mv_request}
use Rattle.retro_utils.specs.Calls.{removal, tee_mode}
use Rattle.retro_utils.specs.Cat.{cat}
use Rattle.retro_utils.specs.Conditions.{bracket_call, condition_call, condition_done, condition_holds}
use Rattle.retro_utils.specs.Cp.{cp}
use Rattle.retro_utils.specs.Cutting.{cut}
use Rattle.retro_utils.specs.Directories.{cd, cd_home, cd_to, home_in, pwd}
use Rattle.retro_utils.specs.Mkdir.{mkdir}
use Rattle.retro_utils.specs.MkdirParents.{mkdir_parents}
use Rattle.retro_utils.specs.Mv.{mv}
use Rattle.retro_utils.specs.Operands.{is_dash}
use Rattle.retro_utils.specs.Outcomes.{nothing_done, or_usage, usage}
use Rattle.retro_utils.specs.Rm.{rm}
use Rattle.retro_utils.specs.Searching.{grep}
use Rattle.retro_utils.specs.Tee.{tee}
use Rattle.retro_utils.specs.Users.{id, user_done}
use Rattle.retro_utils.specs.Utility.{meaning}
use Rattle.retro_utils.specs.declared.done.Done.{Done}
use Rattle.retro_utils.specs.declared.input.Input.{Input}
use Rattle.retro_utils.specs.declared.place.Place.{Place}
use Rattle.casebook_usage.specs.Forms.{is_condition, is_directory_use, is_form, is_request_form, letters_of, takes}
use Rattle.casebook_usage.proofs.Grepping.{grep_is_no_usage}
use Rattle.casebook_usage.proofs.Statuses.{IsLow, cat_low, cd_home_low, cd_to_low, cp_low, cut_all_low, low_is_no_usage}
use Rattle.casebook_usage.proofs.Statuses.{mkdir_low, mv_low, parents_low, rm_low, tee_low}

-- ---- uses outside the forms

-- what a call of a utility leaves, if it is a usage fault
abbrev fault : Utility → State → State × Done
fault u s = (s, usage (name_of u))

other_use : {X : Type 0} (u : Utility) (o : Option X) (step : X → State → State × Done) (s : State)
    → is_some o ≡ false → or_usage (name_of u) o step s ≡ fault u s
other_use u None step s none = refl
other_use u (Some x) step s none = absurd (true≢false none)

other_request : (u : Utility) (o : Option RequestValue) (step : RequestValue → State → State × Done) (s : State)
    → ((r : RequestValue) → is_form u r ≡ false → step r s ≡ fault u s) → is_request_form u o ≡ false
    → or_usage (name_of u) o step s ≡ fault u s
other_request u None step s other none = refl
other_request u (Some r) step s other none = other r none

other_pwd : (sid : ℕ) (operands : List (List ℕ)) (s : State) → (length operands == 0) ≡ false
    → pwd sid operands s ≡ fault utilities.Pwd s
unfolding pwd
other_pwd sid [] s other = absurd (true≢false other)
other_pwd sid (x ∷ xs) s other = refl

other_cd : (place : Place) (operands : List (List ℕ)) (s : State) → is_directory_use operands ≡ false
    → cd place operands s ≡ fault utilities.Cd s
unfolding cd
other_cd place [] s other = absurd (true≢false other)
other_cd place (x ∷ []) s other = by_dash (is_dash x) other
  where
    by_dash : (dash : Bool) → not dash ≡ false → (if dash then (s, usage (codes "cd")) else cd_to place x s) ≡ fault utilities.Cd s
    by_dash true other = refl
    by_dash false other = absurd (true≢false other)
other_cd place (x ∷ y ∷ more) s other = refl

id_operands : (operands : List (List ℕ)) (s : State) → (length operands == 1) ≡ false
    → id operands s ≡ fault utilities.Id s
unfolding id
id_operands [] s other = refl
id_operands (x ∷ []) s other = absurd (true≢false other)
id_operands (x ∷ y ∷ more) s other = refl

other_id : (r : RequestValue) (s : State) → is_form utilities.Id r ≡ false → id_request r s ≡ fault utilities.Id s
other_id r s other = by_option (has_option (letter (codes "u")) r.options) other
  where
    by_option : (u : Bool) → (u && (length r.operands == 1)) ≡ false
        → (if u then id r.operands s else (s, usage (codes "id"))) ≡ fault utilities.Id s
    by_option true other = id_operands r.operands s other
    by_option false other = refl

one_at_least : (n : ℕ) → nat_le 1 (suc n) ≡ true
one_at_least n = le-leb 1 (suc n) (omega arith)

two_at_least : (n : ℕ) → nat_le 2 (suc (suc n)) ≡ true
two_at_least n = le-leb 2 (suc (suc n)) (omega arith)

no_parents : (sid : ℕ) (s : State) → mkdir_parents sid [] s ≡ fault utilities.Mkdir s
unfolding mkdir_parents
no_parents sid s = refl

no_directories : (sid : ℕ) (s : State) → mkdir sid [] s ≡ fault utilities.Mkdir s
unfolding mkdir
no_directories sid s = refl

other_mkdir : (sid : ℕ) (r : RequestValue) (s : State) → is_form utilities.Mkdir r ≡ false
    → mkdir_request sid r s ≡ fault utilities.Mkdir s
other_mkdir sid r s other = by_option (has_option (letter (codes "p")) r.options) r.operands other
  where
    by_option : (p : Bool) (operands : List (List ℕ)) → nat_le 1 (length operands) ≡ false
        → (if p then mkdir_parents sid operands s else mkdir sid operands s) ≡ fault utilities.Mkdir s
    by_option true [] other = no_parents sid s
    by_option false [] other = no_directories sid s
    by_option p (x ∷ xs) other = absurd (true≢false (sym (one_at_least (length xs)) ∙ other))

rm_operands : (sid : ℕ) (options : List Given) (operands : List (List ℕ)) (s : State)
    → (nat_le 1 (length operands) || has_option (letter (codes "f")) options) ≡ false
    → rm sid (removal options) operands s ≡ fault utilities.Rm s
unfolding rm
rm_operands sid options [] s other = by_option (has_option (letter (codes "f")) options) other
  where
    by_option : (f : Bool) → f ≡ false → (s, if f then nothing_done 0 else usage (codes "rm")) ≡ fault utilities.Rm s
    by_option true other = absurd (true≢false other)
    by_option false other = refl
rm_operands sid options (x ∷ xs) s other =
    absurd (true≢false (ap (λ b. b || has_option (letter (codes "f")) options) (sym (one_at_least (length xs))) ∙ other))

cp_operands : (sid : ℕ) (operands : List (List ℕ)) (s : State) → nat_le 2 (length operands) ≡ false
    → or_usage (codes "cp") (split_last operands) (λ o. cp sid o.0 o.1) s ≡ fault utilities.Cp s
unfolding split_last cp
cp_operands sid [] s other = refl
cp_operands sid (x ∷ []) s other = refl
cp_operands sid (x ∷ y ∷ more) s other = absurd (true≢false (sym (two_at_least (length more)) ∙ other))

mv_operands : (sid : ℕ) (operands : List (List ℕ)) (s : State) → nat_le 2 (length operands) ≡ false
    → or_usage (codes "mv") (split_last operands) (λ o. mv sid o.0 o.1) s ≡ fault utilities.Mv s
unfolding split_last mv
mv_operands sid [] s other = refl
mv_operands sid (x ∷ []) s other = refl
mv_operands sid (x ∷ y ∷ more) s other = absurd (true≢false (sym (two_at_least (length more)) ∙ other))

other_cp : (sid : ℕ) (r : RequestValue) (s : State) → is_form utilities.Cp r ≡ false
    → cp_request sid r s ≡ fault utilities.Cp s
other_cp sid r s other = cp_operands sid r.operands s other

other_mv : (sid : ℕ) (r : RequestValue) (s : State) → is_form utilities.Mv r ≡ false
    → mv_request sid r s ≡ fault utilities.Mv s
other_mv sid r s other = mv_operands sid r.operands s other

other_condition : (u : Utility) (sid : ℕ) (operands : List (List ℕ)) (s : State) → is_some (condition_in operands) ≡ false
    → condition_call (name_of u) sid operands s ≡ fault u s
unfolding condition_call
other_condition u sid operands s other = other_use u (condition_in operands) (condition_done sid) s other

other_bracket : (sid : ℕ) (fields : List (List ℕ)) (s : State) → is_condition (before_bracket fields) ≡ false
    → bracket_call sid fields s ≡ fault utilities.Bracket s
unfolding bracket_call
other_bracket sid fields s other = by_operands (before_bracket fields) other
  where
    by_operands : (o : Option (List (List ℕ))) → is_condition o ≡ false
        → or_usage (codes "[") o (condition_call (codes "[") sid) s ≡ fault utilities.Bracket s
    by_operands None other = refl
    by_operands (Some operands) other = other_condition utilities.Bracket sid operands s other

pub other_calls : (u : Utility) (fields : List (List ℕ)) (input : Input) (place : Place) (s : State)
    → takes u fields ≡ false → meaning u fields input place s ≡ (s, usage (name_of u))
unfolding takes pwd_call cd_call id_call cat_call tee_call cut_call grep_call mkdir_call rm_call cp_call mv_call
other_calls utilities.Echo fields input place s other = absurd (true≢false other)
other_calls utilities.True fields input place s other = absurd (true≢false other)
other_calls utilities.False fields input place s other = absurd (true≢false other)
other_calls utilities.Colon fields input place s other = absurd (true≢false other)
other_calls utilities.Test fields input place s other = other_condition utilities.Test place.sid fields s other
other_calls utilities.Bracket fields input place s other = other_bracket place.sid fields s other
other_calls utilities.Pwd fields input place s other =
    other_request utilities.Pwd (request_in (letters_of utilities.Pwd) fields) (λ r. pwd place.sid r.operands) s (λ r. other_pwd place.sid r.operands s) other
other_calls utilities.Cd fields input place s other =
    other_request utilities.Cd (request_in (letters_of utilities.Cd) fields) (λ r. cd place r.operands) s (λ r. other_cd place r.operands s) other
other_calls utilities.Id fields input place s other =
    other_request utilities.Id (request_in (letters_of utilities.Id) fields) (λ r. id_request r) s (λ r. other_id r s) other
other_calls utilities.Cat fields input place s other =
    other_request utilities.Cat (request_in (letters_of utilities.Cat) fields) (λ r. cat place.sid r.operands input) s (λ r. λ no. absurd (true≢false no)) other
other_calls utilities.Tee fields input place s other =
    other_request utilities.Tee (request_in (letters_of utilities.Tee) fields) (λ r. tee place.sid (tee_mode r.options) r.operands input) s (λ r. λ no. absurd (true≢false no)) other
other_calls utilities.Cut fields input place s other =
    other_request utilities.Cut (request_in (letters_of utilities.Cut) fields) (λ r. cut_request place.sid input r) s (λ r. other_use utilities.Cut (cut_in r.options) (λ how. cut place.sid how r.operands input) s) other
other_calls utilities.Grep fields input place s other =
    other_request utilities.Grep (request_in (letters_of utilities.Grep) fields) (λ r. grep_request place.sid input r) s (λ r. other_use utilities.Grep (search_in r) (λ w. grep place.sid w.0 w.1 input) s) other
other_calls utilities.Mkdir fields input place s other =
    other_request utilities.Mkdir (request_in (letters_of utilities.Mkdir) fields) (λ r. mkdir_request place.sid r) s (λ r. other_mkdir place.sid r s) other
other_calls utilities.Rm fields input place s other =
    other_request utilities.Rm (request_in (letters_of utilities.Rm) fields) (λ r. rm place.sid (removal r.options) r.operands) s (λ r. rm_operands place.sid r.options r.operands s) other
other_calls utilities.Cp fields input place s other =
    other_request utilities.Cp (request_in (letters_of utilities.Cp) fields) (λ r. cp_request place.sid r) s (λ r. other_cp place.sid r s) other
other_calls utilities.Mv fields input place s other =
    other_request utilities.Mv (request_in (letters_of utilities.Mv) fields) (λ r. mv_request place.sid r) s (λ r. other_mv place.sid r s) other

-- ---- uses in the forms

-- not a usage fault of the utility
abbrev NoFault : Utility → State × Done → Type 0
NoFault u step = step.1 ≢ usage (name_of u)

low_step : (u : Utility) (step : State × Done) → IsLow step.1 → NoFault u step
low_step u step low = low_is_no_usage step.1 (name_of u) low

low_status : (done : Done) → done.status < 2 → IsLow done
low_status done low = record { low = low }

form_use : {X : Type 0} (u : Utility) (o : Option X) (step : X → State → State × Done) (s : State)
    → ((x : X) → NoFault u (step x s)) → is_some o ≡ true → NoFault u (or_usage (name_of u) o step s)
form_use u None step s form some = absurd (false≢true some)
form_use u (Some x) step s form some = form x

form_request : (u : Utility) (o : Option RequestValue) (step : RequestValue → State → State × Done) (s : State)
    → ((r : RequestValue) → is_form u r ≡ true → NoFault u (step r s)) → is_request_form u o ≡ true
    → NoFault u (or_usage (name_of u) o step s)
form_request u None step s form some = absurd (false≢true some)
form_request u (Some r) step s form some = form r some

same_number : (m n : ℕ) → (m == n) ≡ true → m ≡ n
same_number m n e = let P : Bool → Type 0 = λ b. T b in eqb→eq m n (subst P (sym e) tt)

one_and_none : (n : ℕ) → (suc n == 0) ≡ true → ⊥
one_and_none n e = let same : suc n ≡ 0 = same_number (suc n) 0 e in absurd (omega arith)

two_and_one : (n : ℕ) → (suc (suc n) == 1) ≡ true → ⊥
two_and_one n e = let same : suc (suc n) ≡ 1 = same_number (suc (suc n)) 1 e in absurd (omega arith)

pwd_form : (sid : ℕ) (operands : List (List ℕ)) (s : State) → (length operands == 0) ≡ true
    → NoFault utilities.Pwd (pwd sid operands s)
unfolding pwd
pwd_form sid [] s form = low_step utilities.Pwd (pwd sid [] s) (low_status (pwd sid [] s).1 (omega arith))
pwd_form sid (x ∷ xs) s form = absurd (one_and_none (length xs) form)

cd_form : (place : Place) (operands : List (List ℕ)) (s : State) → is_directory_use operands ≡ true
    → NoFault utilities.Cd (cd place operands s)
unfolding cd
cd_form place [] s form =
    low_step utilities.Cd (cd_home place (home_in place.sid s) s) (cd_home_low place (home_in place.sid s) s)
cd_form place (x ∷ []) s form = by_dash (is_dash x) form
  where
    by_dash : (dash : Bool) → not dash ≡ true
        → NoFault utilities.Cd (if dash then (s, usage (codes "cd")) else cd_to place x s)
    by_dash true form = absurd (false≢true form)
    by_dash false form = low_step utilities.Cd (cd_to place x s) (cd_to_low place x s)
cd_form place (x ∷ y ∷ more) s form = absurd (false≢true form)

user_low : (name : List ℕ) (user : Option User) → IsLow (user_done name user)
user_low name None = record { low = omega arith }
user_low name (Some user) = record { low = omega arith }

id_operand : (operands : List (List ℕ)) (s : State) → (length operands == 1) ≡ true
    → NoFault utilities.Id (id operands s)
unfolding id
id_operand [] s form = absurd (false≢true form)
id_operand (name ∷ []) s form =
    low_step utilities.Id (id (name ∷ []) s) (user_low name (user_in name (node_in passwd s.tree)))
id_operand (x ∷ y ∷ more) s form = absurd (two_and_one (length more) form)

id_form : (r : RequestValue) (s : State) → is_form utilities.Id r ≡ true → NoFault utilities.Id (id_request r s)
id_form r s form = by_option (has_option (letter (codes "u")) r.options) form
  where
    by_option : (u : Bool) → (u && (length r.operands == 1)) ≡ true
        → NoFault utilities.Id (if u then id r.operands s else (s, usage (codes "id")))
    by_option true form = id_operand r.operands s form
    by_option false form = absurd (false≢true form)

mkdir_form : (sid : ℕ) (r : RequestValue) (s : State) → is_form utilities.Mkdir r ≡ true
    → NoFault utilities.Mkdir (mkdir_request sid r s)
mkdir_form sid r s form = by_option (has_option (letter (codes "p")) r.options) r.operands form
  where
    by_option : (p : Bool) (operands : List (List ℕ)) → nat_le 1 (length operands) ≡ true
        → NoFault utilities.Mkdir (if p then mkdir_parents sid operands s else mkdir sid operands s)
    by_option p [] form = absurd (false≢true form)
    by_option true (x ∷ xs) form = low_step utilities.Mkdir (mkdir_parents sid (x ∷ xs) s) (parents_low sid x xs s)
    by_option false (x ∷ xs) form = low_step utilities.Mkdir (mkdir sid (x ∷ xs) s) (mkdir_low sid x xs s)

rm_form : (sid : ℕ) (options : List Given) (operands : List (List ℕ)) (s : State)
    → (nat_le 1 (length operands) || has_option (letter (codes "f")) options) ≡ true
    → NoFault utilities.Rm (rm sid (removal options) operands s)
unfolding rm
rm_form sid options [] s form = by_option (has_option (letter (codes "f")) options) form
  where
    by_option : (f : Bool) → f ≡ true
        → NoFault utilities.Rm (s, if f then nothing_done 0 else usage (codes "rm"))
    by_option true form = low_step utilities.Rm (s, nothing_done 0) (low_status (nothing_done 0) (omega arith))
    by_option false form = absurd (false≢true form)
rm_form sid options (x ∷ xs) s form =
    low_step utilities.Rm (rm sid (removal options) (x ∷ xs) s) (rm_low sid options x xs s)

abbrev with_first : List ℕ → List ℕ × List (List ℕ) → List ℕ × List (List ℕ)
with_first x (last, before) = (last, x ∷ before)

split_more : (x y : List ℕ) (more : List (List ℕ))
    → split_last (x ∷ y ∷ more) ≡ option_map (with_first x) (split_last (y ∷ more))
unfolding split_last
split_more x y more =
    let e : length (x ∷ y ∷ more) - 1 ≡ suc (length (y ∷ more) - 1) = omega arith in
    rw e (by_last (slice_get (y ∷ more) (length (y ∷ more) - 1)) (take (length (y ∷ more) - 1) (y ∷ more)))
  where
    by_last : (o : Option (List ℕ)) (front : List (List ℕ))
        → option_map (λ last. (last, x ∷ front)) o ≡ option_map (with_first x) (option_map (λ last. (last, front)) o)
    by_last None front = refl
    by_last (Some last) front = refl

last_alone : (y : List ℕ) → split_last (y ∷ []) ≡ Some (y, [])
unfolding split_last
last_alone y = refl

last_of_one : (y : List ℕ) (more : List (List ℕ))
    → (before : List (List ℕ)) × ((last : List ℕ) × (split_last (y ∷ more) ≡ Some (last, before)))
last_of_one y [] = ([], (y, last_alone y))
last_of_one y (z ∷ more) =
    let (before, (last, e)) = last_of_one z more in
    (y ∷ before, (last, split_more y z more ∙ ap (option_map (with_first y)) e))

-- the first of two or more is before the last
last_of_two : (x y : List ℕ) (more : List (List ℕ))
    → (before : List (List ℕ)) × ((last : List ℕ) × (split_last (x ∷ y ∷ more) ≡ Some (last, x ∷ before)))
last_of_two x y more =
    let (before, (last, e)) = last_of_one y more in
    (before, (last, split_more x y more ∙ ap (option_map (with_first x)) e))

cp_form : (sid : ℕ) (operands : List (List ℕ)) (s : State) → nat_le 2 (length operands) ≡ true
    → NoFault utilities.Cp (or_usage (codes "cp") (split_last operands) (λ o. cp sid o.0 o.1) s)
cp_form sid [] s form = absurd (false≢true form)
cp_form sid (x ∷ []) s form = absurd (false≢true form)
cp_form sid (x ∷ y ∷ more) s form =
    let (before, (last, e)) = last_of_two x y more in
    rw e (low_step utilities.Cp (cp sid last (x ∷ before) s) (cp_low sid last x before s))

mv_form : (sid : ℕ) (operands : List (List ℕ)) (s : State) → nat_le 2 (length operands) ≡ true
    → NoFault utilities.Mv (or_usage (codes "mv") (split_last operands) (λ o. mv sid o.0 o.1) s)
mv_form sid [] s form = absurd (false≢true form)
mv_form sid (x ∷ []) s form = absurd (false≢true form)
mv_form sid (x ∷ y ∷ more) s form =
    let (before, (last, e)) = last_of_two x y more in
    rw e (low_step utilities.Mv (mv sid last (x ∷ before) s) (mv_low sid last x before s))

test_low : (holds : Bool) → IsLow (nothing_done (if holds then 0 else 1))
test_low true = record { low = omega arith }
test_low false = record { low = omega arith }

condition_form : (u : Utility) (sid : ℕ) (operands : List (List ℕ)) (s : State) → is_some (condition_in operands) ≡ true
    → NoFault u (condition_call (name_of u) sid operands s)
unfolding condition_call
condition_form u sid operands s form =
    form_use u (condition_in operands) (condition_done sid) s
    (λ c. low_step u (condition_done sid c s) (test_low (condition_holds sid c s))) form

bracket_form : (sid : ℕ) (fields : List (List ℕ)) (s : State) → is_condition (before_bracket fields) ≡ true
    → NoFault utilities.Bracket (bracket_call sid fields s)
unfolding bracket_call
bracket_form sid fields s form = by_operands (before_bracket fields) form
  where
    by_operands : (o : Option (List (List ℕ))) → is_condition o ≡ true
        → NoFault utilities.Bracket (or_usage (codes "[") o (condition_call (codes "[") sid) s)
    by_operands None form = absurd (false≢true form)
    by_operands (Some operands) form = condition_form utilities.Bracket sid operands s form

pub fitting_calls : (u : Utility) (fields : List (List ℕ)) (input : Input) (place : Place) (s : State)
    → takes u fields ≡ true → (meaning u fields input place s).1 ≢ usage (name_of u)
unfolding takes pwd_call cd_call id_call cat_call tee_call cut_call grep_call mkdir_call rm_call cp_call mv_call
fitting_calls utilities.Echo fields input place s form =
    low_step utilities.Echo (meaning utilities.Echo fields input place s) (record { low = omega arith })
fitting_calls utilities.True fields input place s form =
    low_step utilities.True (meaning utilities.True fields input place s) (record { low = omega arith })
fitting_calls utilities.False fields input place s form =
    low_step utilities.False (meaning utilities.False fields input place s) (record { low = omega arith })
fitting_calls utilities.Colon fields input place s form =
    low_step utilities.Colon (meaning utilities.Colon fields input place s) (record { low = omega arith })
fitting_calls utilities.Test fields input place s form = condition_form utilities.Test place.sid fields s form
fitting_calls utilities.Bracket fields input place s form = bracket_form place.sid fields s form
fitting_calls utilities.Pwd fields input place s form =
    form_request utilities.Pwd (request_in (letters_of utilities.Pwd) fields) (λ r. pwd place.sid r.operands) s
    (λ r. pwd_form place.sid r.operands s) form
fitting_calls utilities.Cd fields input place s form =
    form_request utilities.Cd (request_in (letters_of utilities.Cd) fields) (λ r. cd place r.operands) s
    (λ r. cd_form place r.operands s) form
fitting_calls utilities.Id fields input place s form =
    form_request utilities.Id (request_in (letters_of utilities.Id) fields) (λ r. id_request r) s
    (λ r. id_form r s) form
fitting_calls utilities.Cat fields input place s form =
    form_request utilities.Cat (request_in (letters_of utilities.Cat) fields) (λ r. cat place.sid r.operands input) s
    (λ r. λ yes. low_step utilities.Cat (cat place.sid r.operands input s) (cat_low place.sid r.operands input s)) form
fitting_calls utilities.Tee fields input place s form =
    form_request utilities.Tee (request_in (letters_of utilities.Tee) fields) (λ r. tee place.sid (tee_mode r.options) r.operands input) s
    (λ r. λ yes. low_step utilities.Tee (tee place.sid (tee_mode r.options) r.operands input s) (tee_low place.sid (tee_mode r.options) r.operands input s)) form
fitting_calls utilities.Cut fields input place s form =
    form_request utilities.Cut (request_in (letters_of utilities.Cut) fields) (λ r. cut_request place.sid input r) s
    (λ r. form_use utilities.Cut (cut_in r.options) (λ how. cut place.sid how r.operands input) s (λ how. low_step utilities.Cut (cut place.sid how r.operands input s) (cut_all_low place.sid how r.operands input s))) form
fitting_calls utilities.Grep fields input place s form =
    form_request utilities.Grep (request_in (letters_of utilities.Grep) fields) (λ r. grep_request place.sid input r) s
    (λ r. form_use utilities.Grep (search_in r) (λ w. grep place.sid w.0 w.1 input) s (λ w. grep_is_no_usage place.sid w.0 w.1 input s)) form
fitting_calls utilities.Mkdir fields input place s form =
    form_request utilities.Mkdir (request_in (letters_of utilities.Mkdir) fields) (λ r. mkdir_request place.sid r) s
    (λ r. mkdir_form place.sid r s) form
fitting_calls utilities.Rm fields input place s form =
    form_request utilities.Rm (request_in (letters_of utilities.Rm) fields) (λ r. rm place.sid (removal r.options) r.operands) s
    (λ r. rm_form place.sid r.options r.operands s) form
fitting_calls utilities.Cp fields input place s form =
    form_request utilities.Cp (request_in (letters_of utilities.Cp) fields) (λ r. cp_request place.sid r) s
    (λ r. cp_form place.sid r.operands s) form
fitting_calls utilities.Mv fields input place s form =
    form_request utilities.Mv (request_in (letters_of utilities.Mv) fields) (λ r. mv_request place.sid r) s
    (λ r. mv_form place.sid r.operands s) form
