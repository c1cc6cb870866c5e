-- Escaped texts do no harm.
use Rattle.std.proofs.Common.{◌≡◌, ◌≢◌, ℕ, ◌≤◌, Bool, true, false, not, ◌&&◌, ◌||◌, refl, sym, ap, ◌∙◌, subst}
use Rattle.std.proofs.Common.{List, [], ◌∷◌, ◌++◌, ⊎_elim}
use Rattle.std.specs.List.{list_all}
use Rattle.std.proofs.lemmas.Bool.{and_from, and_parts, cases_eq, ne_eqb, or_left, not_from_false}
use Rattle.casebook_text.specs.Html.{written, escaped}
use Rattle.casebook_text.specs.SafeText.{is_safe_byte}
use Rattle.casebook_text.specs.declared.safe_text.Breaks.TheVariants.{Keep}
use Rattle.casebook_text.proofs.HtmlLemmas.{IsPlain, no_markup, unescapes}
use Rattle.casebook_text.proofs.Lists.{flat_map_all}
use Rattle.casebook_html.specs.Harmless.{IsHarmlessHtml, begins_escapes}
use Rattle.casebook_html.specs.Safe.{is_safe_text}

-- a proof for each byte, by its escape
by_escape : (P : ℕ → Type 0) → P 38 → P 60 → P 62 → P 34 → P 39 → ((b : ℕ) → IsPlain b → P b) → (b : ℕ) → P b
by_escape P p38 p60 p62 p34 p39 plain b =
    ⊎_elim (λ e. subst P (sym e) p38) (λ n38.
    ⊎_elim (λ e. subst P (sym e) p60) (λ n60.
    ⊎_elim (λ e. subst P (sym e) p62) (λ n62.
    ⊎_elim (λ e. subst P (sym e) p34) (λ n34.
    ⊎_elim (λ e. subst P (sym e) p39) (λ n39.
    plain b (record { ampersand = n38; less_than = n60; greater_than = n62; double_quote = n34; single_quote = n39 }))
    (cases_eq b 39))
    (cases_eq b 34))
    (cases_eq b 62))
    (cases_eq b 60))
    (cases_eq b 38)

plain_written : (b : ℕ) → IsPlain b → written b ≡ b ∷ []
unfolding written
plain_written b h =
    rw (
      ne_eqb b 38 h.ampersand,
      ne_eqb b 60 h.less_than,
      ne_eqb b 62 h.greater_than,
      ne_eqb b 34 h.double_quote,
      ne_eqb b 39 h.single_quote,
    ) refl

-- ---- each '&' begins an escape

plain_begins : (b : ℕ) (rest : List ℕ) → IsPlain b → begins_escapes rest ≡ true → begins_escapes (b ∷ rest) ≡ true
unfolding begins_escapes
plain_begins b rest h so_far = and_from _ _ (or_left _ _ (not_from_false _ (ne_eqb b 38 h.ampersand))) so_far

written_begins : (rest : List ℕ) → begins_escapes rest ≡ true → (b : ℕ) → begins_escapes (written b ++ rest) ≡ true
unfolding written begins_escapes
written_begins rest so_far =
    by_escape (λ x. begins_escapes (written x ++ rest) ≡ true) so_far so_far so_far so_far so_far
    (λ x h. ap (λ t. begins_escapes (t ++ rest)) (plain_written x h) ∙ plain_begins x rest h so_far)

all_begin : (text : List ℕ) → begins_escapes (escaped text) ≡ true
unfolding begins_escapes
all_begin [] = refl
all_begin (b ∷ text) = written_begins (escaped text) (all_begin text) b

-- ---- no control codes

plain_safe : (b : ℕ) → IsPlain b → is_safe_byte Keep b ≡ true → list_all (is_safe_byte Keep) (written b) ≡ true
plain_safe b h safe = ap (list_all (is_safe_byte Keep)) (plain_written b h) ∙ and_from _ _ safe refl

written_safe : (b : ℕ) → is_safe_byte Keep b ≡ true → list_all (is_safe_byte Keep) (written b) ≡ true
unfolding written
written_safe =
    by_escape (λ x. is_safe_byte Keep x ≡ true → list_all (is_safe_byte Keep) (written x) ≡ true)
    (λ safe. refl) (λ safe. refl) (λ safe. refl) (λ safe. refl) (λ safe. refl) plain_safe

pub harmless : (text : List ℕ) → is_safe_text text ≡ true → IsHarmlessHtml text (escaped text)
harmless text safe = record {
  no_markup = no_markup text (escaped text) refl;
  ampersands = all_begin text;
  no_control =
      flat_map_all (is_safe_byte Keep) (is_safe_byte Keep) written written_safe text
      (and_parts (list_all (is_safe_byte Keep) text) _ safe).0;
  unescapes = unescapes text (escaped text) refl;
}
