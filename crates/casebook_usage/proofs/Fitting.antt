-- A use that is understood is one that the utility takes, whatever its words become.
use Rattle.std.proofs.Common.{◌≡◌, ℕ, Bool, true, false, not, ◌||◌, ◌&&◌, List, map, Option, Some, None, refl, ap, sym, []}
use Rattle.std.specs.Prelude.{if◌then◌else◌}
use Rattle.std.proofs.lemmas.Bool.{false≢true}
use Rattle.std.specs.List.{list_all, list_any}
use Rattle.std.specs.Option.{is_some}
use Rattle.retro_text.specs.Condition.{before_bracket}
use Rattle.retro_text.specs.Request.{KnownValue, RequestValue, is_option, request_in}
use Rattle.retro_text.specs.declared.utility.Utility.{Utility}
use Rattle.retro_text.specs.declared.utility.Utility.TheVariants as utilities
use Rattle.casebook_usage.specs.Forms.{is_condition, is_form, is_request_form, letters_of, takes}
use Rattle.casebook_usage.specs.Obstacles.{form_unless, has_own_arguments, is_one_field, known_front, option_use_obstacle}
use Rattle.casebook_usage.specs.Obstacles.{reads_input, request_obstacle, sample, takes_sample, use_obstacle}
use Rattle.casebook_usage.specs.Shape.{ShapeValue, AllBecome}
use Rattle.casebook_usage.specs.declared.obstacle.Obstacle.{Obstacle}
use Rattle.casebook_usage.specs.declared.obstacle.Obstacle.TheVariants.{Form, Terminal}
use Rattle.casebook_usage.proofs.Alike.{AllFit, all_fit, samples_alike}
use Rattle.casebook_usage.proofs.Conditions.{alike_bracket, alike_condition}
use Rattle.casebook_usage.proofs.Requests.{ReadAlike, form_of_alike, read_alike}

some_none : {A : Type 0} (x : A) → Some x ≡ None → ⊥
some_none x e = false≢true (sym (ap (λ o. is_some o) e))

-- no obstacle, so what an obstacle is given unless it holds does
both_hold : (a b : Bool) (o : Option Obstacle) → (if a && b then o else Some Form) ≡ None
    → (a ≡ true) × ((b ≡ true) × (o ≡ None))
both_hold true true o e = (refl, (refl, e))
both_hold true false o e = absurd (some_none Form e)
both_hold false b o e = absurd (some_none Form e)

holds : (a b : Bool) → form_unless (a && b) ≡ None → (a ≡ true) × (b ≡ true)
holds true true e = (refl, refl)
holds true false e = absurd (some_none Form e)
holds false b e = absurd (some_none Form e)

form_of_request : (u : Utility) (has_input : Bool) (r : Option RequestValue) → request_obstacle u has_input r ≡ None
    → is_request_form u r ≡ true
form_of_request u has_input None e = absurd (some_none Form e)
form_of_request u has_input (Some r) e =
    by_tests (list_any is_option r.operands) (is_form u r) (if reads_input u r && not has_input then Some Terminal else None) e
  where
    by_tests : (late form : Bool) (o : Option Obstacle) → (if late || not form then Some Form else o) ≡ None
        → form ≡ true
    by_tests true form o e = absurd (some_none Form e)
    by_tests false true o e = refl
    by_tests false false o e = absurd (some_none Form e)

read_all_alike : (known : KnownValue) (words : List ShapeValue) (fields : List (List ℕ)) → AllFit words fields
    → is_some (request_in known (known_front words)) ≡ true
    → ReadAlike (request_in known (map sample words)) (request_in known fields)
unfolding request_in
read_all_alike known words fields fit own = read_alike known words fields [] None fit own

-- a use of a utility with options
options_fit : (u : Utility) (has_input : Bool) (words : List ShapeValue) (fields : List (List ℕ))
    → option_use_obstacle u has_input words ≡ None → AllBecome words fields
    → is_request_form u (request_in (letters_of u) fields) ≡ true
options_fit u has_input words fields e become =
    let (one, (own, none)) = both_hold (list_all is_one_field words) (has_own_arguments u words)
    (request_obstacle u has_input (request_in (letters_of u) (map sample words))) e in
    form_of_alike u (request_in (letters_of u) (map sample words)) (request_in (letters_of u) fields)
    (read_all_alike (letters_of u) words fields (all_fit words fields one become) own)
    (form_of_request u has_input (request_in (letters_of u) (map sample words)) none)

test_fits : (words : List ShapeValue) (fields : List (List ℕ))
    → form_unless (takes_sample utilities.Test words) ≡ None → AllBecome words fields
    → takes utilities.Test fields ≡ true
unfolding takes
test_fits words fields e become =
    let (one, taken) = holds (list_all is_one_field words) (is_condition (Some (map sample words))) e in
    alike_condition (map sample words) fields (samples_alike words fields (all_fit words fields one become)) taken

bracket_fits : (words : List ShapeValue) (fields : List (List ℕ))
    → form_unless (takes_sample utilities.Bracket words) ≡ None → AllBecome words fields
    → takes utilities.Bracket fields ≡ true
unfolding takes
bracket_fits words fields e become =
    let (one, taken) = holds (list_all is_one_field words) (is_condition (before_bracket (map sample words))) e in
    alike_bracket (map sample words) fields (samples_alike words fields (all_fit words fields one become)) taken

pub understood_fits : (u : Utility) (has_input : Bool) (words : List ShapeValue) (fields : List (List ℕ))
    → use_obstacle u has_input words ≡ None → AllBecome words fields → takes u fields ≡ true
unfolding use_obstacle takes
understood_fits utilities.Echo has_input words fields e become = refl
understood_fits utilities.True has_input words fields e become = refl
understood_fits utilities.False has_input words fields e become = refl
understood_fits utilities.Colon has_input words fields e become = refl
understood_fits utilities.Test has_input words fields e become = test_fits words fields e become
understood_fits utilities.Bracket has_input words fields e become = bracket_fits words fields e become
understood_fits utilities.Pwd has_input words fields e become = options_fit utilities.Pwd has_input words fields e become
understood_fits utilities.Cd has_input words fields e become = options_fit utilities.Cd has_input words fields e become
understood_fits utilities.Id has_input words fields e become = options_fit utilities.Id has_input words fields e become
understood_fits utilities.Cat has_input words fields e become = options_fit utilities.Cat has_input words fields e become
understood_fits utilities.Tee has_input words fields e become = options_fit utilities.Tee has_input words fields e become
understood_fits utilities.Cut has_input words fields e become = options_fit utilities.Cut has_input words fields e become
understood_fits utilities.Grep has_input words fields e become = options_fit utilities.Grep has_input words fields e become
understood_fits utilities.Mkdir has_input words fields e become = options_fit utilities.Mkdir has_input words fields e become
understood_fits utilities.Rm has_input words fields e become = options_fit utilities.Rm has_input words fields e become
understood_fits utilities.Cp has_input words fields e become = options_fit utilities.Cp has_input words fields e become
understood_fits utilities.Mv has_input words fields e become = options_fit utilities.Mv has_input words fields e become
