-- A sample of fields in place of others: the fields of words whose text is unknown differ.
use Rattle.std.proofs.Common.{◌≡◌, ◌⊎◌, inl, inr, ℕ, suc, ◌==◌, Bool, true, false, not, ◌&&◌, List, [], ◌∷◌, ◌++◌, length}
use Rattle.std.proofs.Common.{map, codes, refl, ap, sym, ◌∙◌, subst}
use Rattle.std.proofs.lemmas.Bool.{false≢true}
use Rattle.std.specs.List.{list_all}
use Rattle.retro_path.specs.Order.{text_eq}
use Rattle.retro_text.specs.Ascii.{dash}
use Rattle.retro_text.specs.Request.{is_option}
use Rattle.casebook_usage.specs.Forms.{is_dash, is_directory_use}
use Rattle.casebook_usage.specs.Obstacles.{is_one_field, sample}
use Rattle.casebook_usage.specs.Shape.{ShapeValue, literal, operand, phrase, loose, is_plain, AllBecome}

-- ---- the fields of words that become one field each

abbrev pub Fits : ShapeValue → List ℕ → Type 0
Fits (literal text) field = field ≡ text
Fits operand field = is_plain field ≡ true
Fits phrase field = ⊥
Fits loose field = ⊥

abbrev pub AllFit : List ShapeValue → List (List ℕ) → Type 0
AllFit [] [] = Unit {0}
AllFit [] (field ∷ fields) = ⊥
AllFit (word ∷ words) [] = ⊥
AllFit (word ∷ words) (field ∷ fields) = Fits word field × AllFit words fields

-- fields of which the first is that of a word
fits_first : (word : ShapeValue) (words : List ShapeValue) (text : List ℕ) (fields first rest : List (List ℕ))
    → fields ≡ first ++ rest → first ≡ text ∷ [] → Fits word text → AllFit words rest
    → AllFit (word ∷ words) fields
fits_first word words text fields first rest e is fit more =
    let P : List (List ℕ) → Type 0 = λ fs. AllFit (word ∷ words) fs in
    subst P (sym (e ∙ ap (λ f. f ++ rest) is)) (fit, more)

pub all_fit : (words : List ShapeValue) (fields : List (List ℕ)) → list_all is_one_field words ≡ true
    → AllBecome words fields → AllFit words fields
all_fit [] fields one e = let P : List (List ℕ) → Type 0 = λ fs. AllFit [] fs in subst P (sym e) tt
all_fit (literal text ∷ words) fields one (first, (rest, (e, (is, more)))) =
    fits_first (literal text) words text fields first rest e is refl (all_fit words rest one more)
all_fit (operand ∷ words) fields one (first, (rest, (e, ((text, (is, plain)), more)))) =
    fits_first operand words text fields first rest e is plain (all_fit words rest one more)
all_fit (phrase ∷ words) fields one become = absurd (false≢true one)
all_fit (loose ∷ words) fields one become = absurd (false≢true one)

-- ---- a sample and the fields

abbrev pub Alike : List (List ℕ) → List (List ℕ) → Type 0
Alike [] [] = Unit {0}
Alike [] (y ∷ ys) = ⊥
Alike (x ∷ xs) [] = ⊥
Alike (x ∷ xs) (y ∷ ys) = ((x ≡ y) ⊎ ((x ≡ codes "x") × (is_plain y ≡ true))) × Alike xs ys

pub samples_alike : (words : List ShapeValue) (fields : List (List ℕ)) → AllFit words fields
    → Alike (map sample words) fields
samples_alike [] [] fit = tt
samples_alike [] (y ∷ ys) fit = absurd fit
samples_alike (word ∷ words) [] fit = absurd fit
samples_alike (literal text ∷ words) (y ∷ ys) (e, fit) = (inl (sym e), samples_alike words ys fit)
samples_alike (operand ∷ words) (y ∷ ys) (plain, fit) = (inr (refl, plain), samples_alike words ys fit)
samples_alike (phrase ∷ words) (y ∷ ys) (wrong, fit) = absurd wrong
samples_alike (loose ∷ words) (y ∷ ys) (wrong, fit) = absurd wrong

pub same_length : (xs ys : List (List ℕ)) → Alike xs ys → length xs ≡ length ys
same_length [] [] alike = refl
same_length [] (y ∷ ys) alike = absurd alike
same_length (x ∷ xs) [] alike = absurd alike
same_length (x ∷ xs) (y ∷ ys) alike = ap (λ n. suc n) (same_length xs ys alike.1)

-- ---- fields that don't begin with a dash

pub plain_apart : (text more : List ℕ) → is_plain text ≡ true → text_eq text (dash ∷ more) ≡ false
plain_apart [] more plain = refl
plain_apart (b ∷ text) more plain = apart (b == dash) plain
  where
    apart : (same : Bool) → not same ≡ true → (same && text_eq text more) ≡ false
    apart true wrong = absurd (false≢true wrong)
    apart false right = refl

pub plain_is_no_option : (text : List ℕ) → is_plain text ≡ true → is_option text ≡ false
plain_is_no_option [] plain = refl
plain_is_no_option (b ∷ []) plain = refl
plain_is_no_option (b ∷ c ∷ more) plain = no_dash (b == dash) plain
  where
    no_dash : (same : Bool) → not same ≡ true → same ≡ false
    no_dash true wrong = absurd (false≢true wrong)
    no_dash false right = refl

pub same_directory_use : (xs ys : List (List ℕ)) → Alike xs ys → is_directory_use xs ≡ is_directory_use ys
same_directory_use [] [] alike = refl
same_directory_use [] (y ∷ ys) alike = absurd alike
same_directory_use (x ∷ xs) [] alike = absurd alike
same_directory_use (x ∷ []) (y ∷ []) (inl e, alike) = ap (λ t. not (is_dash t)) e
same_directory_use (x ∷ []) (y ∷ []) (inr (e, plain), alike) =
    ap (λ t. not (is_dash t)) e ∙ ap not (sym (plain_apart y [] plain))
same_directory_use (x ∷ []) (y ∷ z ∷ ys) alike = absurd alike.1
same_directory_use (x ∷ z ∷ xs) (y ∷ []) alike = absurd alike.1
same_directory_use (x ∷ z ∷ xs) (y ∷ w ∷ ys) alike = refl
