-- What `cut` leaves of a text, line by line.
use Rattle.std.proofs.Common.{◌≡◌, ℕ, ◌==◌, Bool, true, false, List, [], ◌∷◌, ◌++◌, refl, sym, ap, ◌∙◌}
use Rattle.std.specs.Prelude.{Option, Some, None}
use Rattle.std.specs.List.{list_any, slice_split, join_with_byte, cons_option}
use Rattle.std.proofs.lemmas.List.{append-nil, append_assoc}
use Rattle.std.proofs.lemmas.Bool.{cond-true, cond-false}
use Rattle.retro_text.specs.declared.span.Span.{Span}
use Rattle.retro_text.specs.declared.cut.Cut.{Cut}
use Rattle.retro_text.specs.declared.cut.Cut.TheVariants.{Bytes, Fields}
use Rattle.retro_text.specs.Lines.{lines_in, text_of_lines}
use Rattle.retro_text.specs.Cut.{cut_line, cut_lines, cut_text, line_text, selected_items}

-- the text of one line, if it isn't dropped
kept : (how : Cut) (line left : List ℕ) → cut_line how line ≡ Some left → line_text how line ≡ left ++ 10 ∷ []
unfolding line_text
kept how line left h = ap (λ o. text_of_lines (cons_option o [])) h ∙ append-nil (left ++ 10 ∷ [])

pub bytes_kept : (how : Cut) (spans : List Span) (line : List ℕ) → how ≡ Bytes spans
    → line_text how line ≡ selected_items spans line ++ 10 ∷ []
unfolding cut_line
bytes_kept how spans line is = kept how line (selected_items spans line) (ap (λ h. cut_line h line) is)

pub fields_kept : (how : Cut) (spans : List Span) (d : ℕ) (only : Bool) (line : List ℕ) → how ≡ Fields spans d only
    → list_any (λ b. b == d) line ≡ true
    → line_text how line ≡ join_with_byte d (selected_items spans (slice_split (λ b. b == d) line)) ++ 10 ∷ []
unfolding cut_line
fields_kept how spans d only line is delimited =
    kept how line _ (ap (λ h. cut_line h line) is ∙ cond-true (list_any (λ b. b == d) line) _ _ delimited)

pub line_kept : (how : Cut) (spans : List Span) (d : ℕ) (only : Bool) (line : List ℕ) → how ≡ Fields spans d only
    → list_any (λ b. b == d) line ≡ false → only ≡ false → line_text how line ≡ line ++ 10 ∷ []
unfolding cut_line
line_kept how spans d only line is delimited all =
    kept how line line
    (ap (λ h. cut_line h line) is ∙ cond-false (list_any (λ b. b == d) line) _ _ delimited ∙ cond-false only _ _ all)

pub line_dropped : (how : Cut) (spans : List Span) (d : ℕ) (only : Bool) (line : List ℕ) → how ≡ Fields spans d only
    → list_any (λ b. b == d) line ≡ false → only ≡ true → line_text how line ≡ []
unfolding cut_line line_text
line_dropped how spans d only line is delimited dropped =
    ap (λ o. text_of_lines (cons_option o []))
    (ap (λ h. cut_line h line) is ∙ cond-false (list_any (λ b. b == d) line) _ _ delimited ∙ cond-true only _ _ dropped)

-- a line, and those after it
pub more : (how : Cut) (out : List ℕ) (line : List ℕ) (lines : List (List ℕ))
    → (out ++ line_text how line) ++ text_of_lines (cut_lines how lines)
    ≡ out ++ text_of_lines (cut_lines how (line ∷ lines))
unfolding line_text
more how out line lines =
    append_assoc out (text_of_lines (cut_lines how (line ∷ []))) (text_of_lines (cut_lines how lines))
    ∙ ap (λ text. out ++ text) (go (cut_line how line))
  where
    go : (o : Option (List ℕ)) → text_of_lines (cons_option o []) ++ text_of_lines (cut_lines how lines)
        ≡ text_of_lines (cons_option o (cut_lines how lines))
    go None = refl
    go (Some left) = ap (λ text. text ++ text_of_lines (cut_lines how lines)) (append-nil (left ++ 10 ∷ []))

pub whole_text : (how : Cut) (text : List ℕ) → text_of_lines (cut_lines how (lines_in text)) ≡ cut_text how text
unfolding cut_text
whole_text how text = refl

pub ruleset more_lines = (more, whole_text, append-nil)
