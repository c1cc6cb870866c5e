-- The request in fields, from that in a sample of them.
use Rattle.std.proofs.Common.{◌≡◌, inl, inr, ℕ, Bool, true, false, List, [], ◌∷◌, ◌++◌, drop}
use Rattle.std.proofs.Common.{map, Option, Some, None, codes, refl, ap, sym, ◌∙◌, subst}
use Rattle.std.specs.Prelude.{if◌then◌else◌}
use Rattle.std.proofs.lemmas.Bool.{false≢true}
use Rattle.std.specs.Option.{is_some}
use Rattle.retro_path.specs.Order.{text_eq}
use Rattle.retro_text.specs.Ascii.{letter}
use Rattle.retro_text.specs.Request.{Given, Group, KnownValue, RequestValue, after_group, group, has_option, is_option}
use Rattle.retro_text.specs.Request.{request, request_after}
use Rattle.retro_text.specs.Search.{search_in, search_for}
use Rattle.retro_text.specs.declared.utility.Utility.{Utility}
use Rattle.retro_text.specs.declared.utility.Utility.TheVariants as utilities
use Rattle.casebook_usage.specs.Forms.{is_form, is_request_form}
use Rattle.casebook_usage.specs.Obstacles.{known_front, sample}
use Rattle.casebook_usage.specs.Shape.{ShapeValue, literal, operand, phrase, loose}
use Rattle.casebook_usage.proofs.Alike.{AllFit, Alike, samples_alike, same_length, same_directory_use, plain_apart}
use Rattle.casebook_usage.proofs.Alike.{plain_is_no_option}

abbrev pub ReadAlike : Option RequestValue → Option RequestValue → Type 0
ReadAlike None None = Unit {0}
ReadAlike None (Some q) = ⊥
ReadAlike (Some r) None = ⊥
ReadAlike (Some r) (Some q) = (r.options ≡ q.options) × Alike r.operands q.operands

-- what follows a field of known text
abbrev then_read : KnownValue → List Given → List ℕ → Bool → Bool → Option Group → List (List ℕ) → Option RequestValue
then_read known given field ends is_opt g fields =
    if ends then Some (request given fields)
    else if is_opt then after_group g (λ all waiting. request_after known all waiting fields)
    else Some (request given (field ∷ fields))

-- after a field of known text, if the fields after it are read alike
next_alike : (known : KnownValue) (words : List ShapeValue) (fields : List (List ℕ)) (given : List Given)
    (text : List ℕ)
    → ((all : List Given) (waiting : Option ℕ) → is_some (request_after known all waiting (known_front words)) ≡ true
    → ReadAlike (request_after known all waiting (map sample words)) (request_after known all waiting fields))
    → AllFit words fields → (ends is_opt : Bool) (g : Option Group)
    → is_some (then_read known given text ends is_opt g (known_front words)) ≡ true
    → ReadAlike (then_read known given text ends is_opt g (map sample words))
    (then_read known given text ends is_opt g fields)
next_alike known words fields given text more fit true is_opt g own = (refl, samples_alike words fields fit)
next_alike known words fields given text more fit false true None own = tt
next_alike known words fields given text more fit false true (Some g) own = more g.0 g.1 own
next_alike known words fields given text more fit false false g own = (refl, (inl refl, samples_alike words fields fit))

pub read_alike : (known : KnownValue) (words : List ShapeValue) (fields : List (List ℕ)) (given : List Given)
    (waiting : Option ℕ) → AllFit words fields
    → is_some (request_after known given waiting (known_front words)) ≡ true
    → ReadAlike (request_after known given waiting (map sample words)) (request_after known given waiting fields)
read_alike known [] [] given None fit own = (refl, tt)
read_alike known [] [] given (Some letter) fit own = tt
read_alike known [] (y ∷ ys) given waiting fit own = absurd fit
read_alike known (word ∷ words) [] given waiting fit own = absurd fit
read_alike known (literal text ∷ words) (y ∷ ys) given (Some letter) (e, fit) own =
    let P : List ℕ → Type 0 = λ t. ReadAlike
    (request_after known (given ++ (letter, Some text) ∷ []) None (map sample words))
    (request_after known (given ++ (letter, Some t) ∷ []) None ys) in
    subst P (sym e) (read_alike known words ys (given ++ (letter, Some text) ∷ []) None fit own)
read_alike known (literal text ∷ words) (y ∷ ys) given None (e, fit) own =
    let P : List ℕ → Type 0 = λ t. ReadAlike
    (request_after known given None (text ∷ map sample words)) (request_after known given None (t ∷ ys)) in
    subst P (sym e)
    (next_alike known words ys given text (λ g w. read_alike known words ys g w fit) fit
    (text_eq text (codes "--")) (is_option text) (group known given (drop 1 text)) own)
read_alike known (operand ∷ words) (y ∷ ys) given (Some letter) fit own = absurd (false≢true own)
read_alike known (operand ∷ words) (y ∷ ys) given None (plain, fit) own =
    rw (plain_apart y (codes "-") plain, plain_is_no_option y plain)
    (refl, (inr (refl, plain), samples_alike words ys fit))
read_alike known (phrase ∷ words) (y ∷ ys) given waiting (wrong, fit) own = absurd wrong
read_alike known (loose ∷ words) (y ∷ ys) given waiting (wrong, fit) own = absurd wrong

same_search : (options : List Given) (xs ys : List (List ℕ)) → Alike xs ys
    → is_some (search_in (request options xs)) ≡ is_some (search_in (request options ys))
unfolding search_in
same_search options xs ys alike = by_option (has_option (letter (codes "F")) options) xs ys alike
  where
    by_option : (is_fixed : Bool) (xs ys : List (List ℕ)) → Alike xs ys
        → is_some (search_for is_fixed options xs) ≡ is_some (search_for is_fixed options ys)
    by_option true [] [] alike = refl
    by_option true [] (y ∷ ys) alike = absurd alike
    by_option true (x ∷ xs) [] alike = absurd alike
    by_option true (x ∷ xs) (y ∷ ys) alike = refl
    by_option false xs ys alike = refl

-- whether operands are in a form doesn't depend on those of unknown text
same_form : (u : Utility) (options : List Given) (xs ys : List (List ℕ)) → Alike xs ys
    → is_form u (request options xs) ≡ is_form u (request options ys)
same_form utilities.Echo options xs ys alike = refl
same_form utilities.True options xs ys alike = refl
same_form utilities.False options xs ys alike = refl
same_form utilities.Colon options xs ys alike = refl
same_form utilities.Pwd options xs ys alike = rw (same_length xs ys alike) refl
same_form utilities.Cd options xs ys alike = same_directory_use xs ys alike
same_form utilities.Id options xs ys alike = rw (same_length xs ys alike) refl
same_form utilities.Test options xs ys alike = refl
same_form utilities.Bracket options xs ys alike = refl
same_form utilities.Cat options xs ys alike = refl
same_form utilities.Tee options xs ys alike = refl
same_form utilities.Cut options xs ys alike = refl
same_form utilities.Grep options xs ys alike = same_search options xs ys alike
same_form utilities.Mkdir options xs ys alike = rw (same_length xs ys alike) refl
same_form utilities.Rm options xs ys alike = rw (same_length xs ys alike) refl
same_form utilities.Cp options xs ys alike = rw (same_length xs ys alike) refl
same_form utilities.Mv options xs ys alike = rw (same_length xs ys alike) refl

pub form_of_alike : (u : Utility) (r q : Option RequestValue) → ReadAlike r q → is_request_form u r ≡ true
    → is_request_form u q ≡ true
form_of_alike u None q alike form = absurd (false≢true form)
form_of_alike u (Some r) None alike form = absurd alike
form_of_alike u (Some r) (Some q) (same, alike) form =
    let e : is_form u (request r.options q.operands) ≡ is_form u (request q.options q.operands) =
    ap (λ o. is_form u (request o q.operands)) same in
    sym e ∙ sym (same_form u r.options r.operands q.operands alike) ∙ form
