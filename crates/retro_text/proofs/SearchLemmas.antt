-- The selected lines of a text, line by line.
use Rattle.std.proofs.Common.{◌≡◌, ℕ, ◌+◌, ◌<◌, ◌≤◌, ◌==◌, Bool, true, false, not, cond, nat_lt, ◌||◌, List, [], ◌∷◌}
use Rattle.std.proofs.Common.{◌++◌, length, refl, sym, ap, ◌∙◌, arith}
use Rattle.std.specs.Prelude.{filter, decimal}
use Rattle.std.specs.List.{list_any, slice_split, onto_first}
use Rattle.std.proofs.lemmas.List.{append-nil, append_assoc, length-append}
use Rattle.std.proofs.lemmas.Bool.{cond_both, lt-ltb, ne_eqb}
use Rattle.retro_text.specs.Lines.{lines_in, lines_of_pieces}
use Rattle.retro_text.specs.Search.{SearchValue, selects, selected_lines, labelled_text, output_of}

-- ---- a text has no more lines than bytes

after_newline : (pieces : List (List ℕ)) → length (lines_of_pieces ([] ∷ pieces)) ≤ 1 + length (lines_of_pieces pieces)
after_newline [] = omega arith
after_newline (next ∷ pieces) = omega arith

one_byte_more : (b : ℕ) (pieces : List (List ℕ))
    → length (lines_of_pieces (onto_first b pieces)) ≤ 1 + length (lines_of_pieces pieces)
one_byte_more b [] = omega arith
one_byte_more b (piece ∷ []) = omega arith
one_byte_more b (piece ∷ next ∷ pieces) = omega arith

line_bound : (text : List ℕ) → length (lines_of_pieces (slice_split (λ b. b == 10) text)) ≤ length text
line_bound [] = omega arith
line_bound (b ∷ text) =
    let rest = slice_split (λ x. x == 10) text in
    let so_far : length (lines_of_pieces rest) ≤ length text = line_bound text in
    cond_both (b == 10) ([] ∷ rest) (onto_first b rest) (λ pieces. length (lines_of_pieces pieces) ≤ length (b ∷ text))
    (λ _. omega (arith, after_newline rest)) (λ _. omega (arith, one_byte_more b rest))

filter_bound : (p : List ℕ → Bool) (lines : List (List ℕ)) → length (filter p lines) ≤ length lines
filter_bound p [] = omega arith
filter_bound p (line ∷ lines) =
    cond_both (p line) (line ∷ filter p lines) (filter p lines) (λ kept. length kept ≤ length (line ∷ lines))
    (λ _. omega (arith, filter_bound p lines)) (λ _. omega (arith, filter_bound p lines))

pub selected_bound : (s : SearchValue) (text : List ℕ) → length (selected_lines s text) ≤ length text
unfolding selected_lines lines_in
selected_bound s text = omega (arith, filter_bound (selects s) (lines_in text), line_bound text)

pub all_selected : (s : SearchValue) (text : List ℕ) → filter (selects s) (lines_in text) ≡ selected_lines s text
unfolding selected_lines
all_selected s text = refl

pub ruleset counting = (selected_bound, all_selected)

-- ---- labelled lines

pub line_labelled : (out label line : List ℕ) (lines : List (List ℕ))
    → (((out ++ label) ++ line) ++ 10 ∷ []) ++ labelled_text label lines ≡ out ++ labelled_text label (line ∷ lines)
line_labelled out label line lines =
    ap (λ text. (text ++ 10 ∷ []) ++ labelled_text label lines) (append_assoc out label line)
    ∙ ap (λ text. text ++ labelled_text label lines) (append_assoc out (label ++ line) (10 ∷ []))
    ∙ append_assoc out ((label ++ line) ++ 10 ∷ []) (labelled_text label lines)

pub ruleset labelling = (line_labelled, all_selected, append-nil)

-- ---- whether a line is selected

selected_counted : (p : List ℕ → Bool) (lines : List (List ℕ)) → nat_lt 0 (length (filter p lines)) ≡ list_any p lines
selected_counted p [] = refl
selected_counted p (line ∷ lines) = go (p line) (selected_counted p lines)
  where
    go : (b : Bool) → nat_lt 0 (length (filter p lines)) ≡ list_any p lines
        → nat_lt 0 (length (cond b (line ∷ filter p lines) (filter p lines))) ≡ (b || list_any p lines)
    go true rest = lt-ltb 0 (length (line ∷ filter p lines)) (omega arith)
    go false rest = rest

pub counted_selected : (s : SearchValue) (text : List ℕ)
    → nat_lt 0 (length (selected_lines s text)) ≡ list_any (selects s) (lines_in text)
unfolding selected_lines
counted_selected s text = selected_counted (selects s) (lines_in text)

printed : (label : List ℕ) (lines : List (List ℕ))
    → not (length (labelled_text label lines) == 0) ≡ nat_lt 0 (length lines)
printed label [] = refl
printed label (line ∷ lines) =
    let text = (label ++ line) ++ 10 ∷ [] in
    let filled : 0 < length (text ++ labelled_text label lines) =
    omega (arith, length-append text (labelled_text label lines), length-append (label ++ line) (10 ∷ [])) in
    ap not (ne_eqb (length (text ++ labelled_text label lines)) 0 (λ e. omega (arith, e)))
    ∙ sym (lt-ltb 0 (length (line ∷ lines)) (omega arith))

pub printed_selected : (s : SearchValue) (label text : List ℕ)
    → not (length (labelled_text label (selected_lines s text)) == 0) ≡ list_any (selects s) (lines_in text)
printed_selected s label text = printed label (selected_lines s text) ∙ counted_selected s text

-- ---- what is printed

pub quiet_output : (s : SearchValue) (label : List ℕ) (lines : List (List ℕ)) → s.quiet ≡ true
    → output_of s label lines ≡ []
unfolding output_of
quiet_output s label lines quiet = rw quiet refl

pub count_output : (s : SearchValue) (label : List ℕ) (lines : List (List ℕ)) → s.quiet ≡ false → s.counted ≡ true
    → output_of s label lines ≡ label ++ decimal (length lines) ++ 10 ∷ []
unfolding output_of
count_output s label lines quiet counted = rw (quiet, counted) refl

pub lines_output : (s : SearchValue) (label : List ℕ) (lines : List (List ℕ)) → s.quiet ≡ false → s.counted ≡ false
    → output_of s label lines ≡ labelled_text label lines
unfolding output_of
lines_output s label lines quiet counted = rw (quiet, counted) refl

pub ruleset running = (quiet_output, count_output, lines_output, counted_selected, printed_selected)
