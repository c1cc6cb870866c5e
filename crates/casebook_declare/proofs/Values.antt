-- Values, printed and read.
use Rattle.std.proofs.Common.{◌≡◌, ◌∙◌, ℕ, ◌+◌, ◌<◌, Bool, true, false, not, refl, ap, All}
use Rattle.std.proofs.Common.{List, [], ◌∷◌, ◌++◌}
use Rattle.std.proofs.Common.{Some, option_map, ⊎_elim, append_assoc}
use Rattle.std.specs.Prelude.{◌||◌, ◌&&◌, flat_map}
use Rattle.std.proofs.lemmas.Bool.{and_parts, cases_Bool}
use Rattle.std.proofs.lemmas.List.Elements.{All-head, All-tail}
use Rattle.casebook_declare.specs.Quoted.{quoted, said_from}
use Rattle.casebook_declare.specs.Rows.{value_of}
use Rattle.casebook_declare.specs.Printed.{all_printed, ansi_text, ansi_texts, double_text}
use Rattle.casebook_declare.specs.Printed.{is_printed, value_text}
use Rattle.casebook_declare.specs.declared.quoting.Quoting.TheVariants.{Ansi, Double}
use Rattle.casebook_declare.proofs.Bytes.{ansi_again, double_again, with_byte}

double_body : (is_shown : ℕ → Bool) (k : ℕ) (value rest : List ℕ)
    → all_printed is_shown k value ≡ true
    → said_from Double 0 (flat_map double_text value ++ 34 ∷ rest)
    ≡ Some (record { value = value; has_code = false; rest = rest })
unfolding said_from
double_body is_shown k [] rest printed = refl
double_body is_shown k (b ∷ bs) rest printed =
    let h = and_parts (is_printed (is_shown k) b) (all_printed is_shown (k + 1) bs) printed in
    ap (said_from Double 0) (append_assoc (double_text b) (flat_map double_text bs) (34 ∷ rest))
    ∙ double_again (is_shown k) b (flat_map double_text bs ++ 34 ∷ rest) h.0
    ∙ ap (option_map (with_byte b false)) (double_body is_shown (k + 1) bs rest h.1)

not_and : (p q : Bool) → (not p || not q) ≡ not (p && q)
not_and true q = refl
not_and false q = refl

-- neither NUL nor more than a byte
abbrev pub IsByte : ℕ → Type 0
IsByte b = (0 < b) × (b < 256)

ansi_body : (is_shown : ℕ → Bool) (k : ℕ) (value rest : List ℕ) → All IsByte value
    → said_from Ansi 0 (ansi_texts is_shown k value ++ 39 ∷ rest)
    ≡ Some (record { value = value; has_code = not (all_printed is_shown k value); rest = rest })
unfolding said_from
ansi_body is_shown k [] rest small = refl
ansi_body is_shown k (b ∷ bs) rest small =
    let here = All-head IsByte b bs small in
    let p = is_printed (is_shown k) b in
    ap (said_from Ansi 0) (append_assoc (ansi_text (is_shown k) b)
    (ansi_texts is_shown (k + 1) bs) (39 ∷ rest))
    ∙ ansi_again (is_shown k) b (ansi_texts is_shown (k + 1) bs ++ 39 ∷ rest) here.0 here.1
    ∙ ap (option_map (with_byte b (not p)))
    (ansi_body is_shown (k + 1) bs rest (All-tail IsByte b bs small))
    ∙ ap (λ (code : Bool). Some (record { value = b ∷ bs; has_code = code; rest = rest }))
    (not_and p (all_printed is_shown (k + 1) bs))

in_double : (is_shown : ℕ → Bool) (value : List ℕ) → all_printed is_shown 0 value ≡ true
    → value_of (34 ∷ (flat_map double_text value ++ 34 ∷ [])) ≡ Some value
unfolding value_of quoted
in_double is_shown value printed = rw (double_body is_shown 0 value [] printed) refl

in_ansi : (is_shown : ℕ → Bool) (value : List ℕ) → All IsByte value
    → all_printed is_shown 0 value ≡ false
    → value_of (36 ∷ 39 ∷ (ansi_texts is_shown 0 value ++ 39 ∷ [])) ≡ Some value
unfolding value_of quoted
in_ansi is_shown value small hidden = rw (ansi_body is_shown 0 value [] small, hidden) refl

pub value_again : (is_shown : ℕ → Bool) (value : List ℕ) → All IsByte value
    → value_of (value_text is_shown value) ≡ Some value
unfolding value_text
value_again is_shown value small =
    ⊎_elim (λ (printed : all_printed is_shown 0 value ≡ true). rw printed
    (in_double is_shown value printed))
    (λ (hidden : all_printed is_shown 0 value ≡ false). rw hidden
    (in_ansi is_shown value small hidden))
    (cases_Bool (all_printed is_shown 0 value))
