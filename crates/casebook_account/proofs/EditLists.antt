-- Edits of texts that were found, and what is left of them.
use Rattle.std.proofs.Common.{◌≡◌, ◌≤◌, ◌<◌, ◌+◌, ◌-◌, ◌∙◌, ◌++◌, ◌∷◌, [], ℕ, suc, List, Some, None, Result, Ok, Err, ap}
use Rattle.std.proofs.Common.{add-one, append-nil, append_assoc, arith, drop, drop-cons, get_or, length, map, refl, sym}
use Rattle.std.specs.List.{range_with_len}
use Rattle.std.proofs.lemmas.List.FromFn.{map-range_with_len_more}
use Rattle.retro_keep.specs.Edit.{edited_number}
use Rattle.retro_keep.specs.declared.edit.Edit.{Edit}
use Rattle.retro_keep.specs.declared.edit.Edit.TheVariants.{Cancel}
use Rattle.casebook_account.specs.Edits.{edit_of_text, edits_in, edits_of_texts, line_at, text_numbers, with_edit}
use Rattle.casebook_account.specs.declared.machine_line.MachineLine.{MachineLine}

-- the first of the edits that are left
pub left_from : (edits : List Edit) (k : ℕ) (d e : Edit) → k < length edits → e ≡ get_or edits k d
    → drop k edits ≡ e ∷ drop (k + 1) edits
left_from edits k d e lt is = drop-cons edits k d lt ∙ rw (sym is, add-one k) refl

-- edits before others, unless there are none
abbrev pub after_some : List Edit → Result (List Edit) ℕ → Result (List Edit) ℕ
after_some found (Ok edits) = Ok (found ++ edits)
after_some found (Err n) = Err n

more : (found : List Edit) (e : Edit) (line : MachineLine) (rest : Result (List Edit) ℕ)
    → after_some (found ++ edits_of_texts e (text_numbers line)) rest
    ≡ after_some found (with_edit e (Some line) rest)
more found e line (Ok edits) = ap Ok (append_assoc found (edits_of_texts e (text_numbers line)) edits)
more found e line (Err n) = λ i. Err n

-- one more edit of a line that is there
pub one_more : (lines : List MachineLine) (found : List Edit) (e : Edit) (rest : List Edit) (line : MachineLine)
    → line_at (edited_number e) lines ≡ Some line
    → after_some (found ++ edits_of_texts e (text_numbers line)) (edits_in lines rest)
    ≡ after_some found (edits_in lines (e ∷ rest))
unfolding edits_in
one_more lines found e rest line is =
    more found e line (edits_in lines rest)
    ∙ ap (λ at. after_some found (with_edit e at (edits_in lines rest))) (sym is)

-- an edit of a line that isn't there
pub none_there : (lines : List MachineLine) (found : List Edit) (e : Edit) (rest : List Edit)
    → line_at (edited_number e) lines ≡ None
    → after_some found (edits_in lines (e ∷ rest)) ≡ Err (edited_number e)
unfolding edits_in
none_there lines found e rest is = ap (λ at. after_some found (with_edit e at (edits_in lines rest))) is

-- no edits are left
pub none_left : (lines : List MachineLine) (found : List Edit) → after_some found (edits_in lines []) ≡ Ok found
unfolding edits_in
none_left lines found = ap Ok (append-nil found)

-- ---- the edits of one line's texts

pub one_more_cancelled : (old edits more : List Edit) (first number : ℕ) → first ≤ number
    → edits ≡ old ++ map Cancel (range_with_len first (number - first)) → more ≡ edits ++ Cancel number ∷ []
    → more ≡ old ++ map Cancel (range_with_len first ((number + 1) - first))
one_more_cancelled old edits more first number le so_far pushed =
    let here : first + (number - first) ≡ number = omega (arith, le) in
    let next : (number - first) + 1 ≡ (number + 1) - first = omega (arith, le) in
    pushed ∙ ap (λ es. es ++ Cancel number ∷ []) so_far
    ∙ append_assoc old (map Cancel (range_with_len first (number - first))) (Cancel number ∷ [])
    ∙ ap (λ es. old ++ es) (sym (map-range_with_len_more Cancel first (number - first) number here))
    ∙ ap (λ n. old ++ map Cancel (range_with_len first n)) next

pub no_texts : (e : Edit) (line : MachineLine) → line.end ≤ line.first → edits_of_texts e (text_numbers line) ≡ []
no_texts e line le =
    let none : line.end - line.first ≡ 0 = omega (arith, le) in
    ap (λ n. edits_of_texts e (range_with_len line.first n)) none

pub some_texts : (e : Edit) (line : MachineLine) → line.first < line.end
    → edits_of_texts e (text_numbers line)
    ≡ edit_of_text line.first e ∷ map Cancel (range_with_len (line.first + 1) (line.end - (line.first + 1)))
some_texts e line lt =
    let some : line.end - line.first ≡ suc (line.end - (line.first + 1)) = omega (arith, lt) in
    ap (λ n. edits_of_texts e (range_with_len line.first n)) some

pub ruleset of_texts = (no_texts, some_texts)
