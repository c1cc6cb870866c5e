use Rattle.std.proofs.Common.{◌≡◌, ◌∙◌, ◌≤◌, ◌++◌, ◌∷◌, [], Some, ap, codes, false, subst, sym, true}
use Rattle.std.specs.Prelude.{IsUtf8}
use Rattle.std.specs.List.{list_all}
use Rattle.std.proofs.lemmas.Str.{IsUtf8-append}
use Rattle.serde_json.specs.Data.{depth}
use Rattle.serde_json.specs.Read.{max_depth, read}
use Rattle.serde_json.specs.View.{view}
use Rattle.serde_json.specs.Written.{compact_text, has_float}
use Rattle.retro_log.proofs.Newline.{newline_reads, newline_utf8}
use Rattle.casebook_undo.specs.Documents.{is_writable_row, undo_data, undo_text}
use Rattle.casebook_undo.specs.Reading.{undo_in}
use Rattle.casebook_undo.specs.inner.Typed.{row_typed}
use Rattle.casebook_undo.proofs.Shapes.{undo_float, undo_low}
use Rattle.casebook_undo.proofs.Trip.{text_again}
use Rattle.casebook_undo.proofs.writing.write_rows.Goals as goal

pub returns-clause-text : goal.returns-clause-text
unfolding undo_text
returns-clause-text c =
    let at = c.args.at.now in
    let rows = c.args.rows.now.items.items in
    let written : view c.in_ok-value.value ≡ undo_data at rows =
    c.in_ok-value.ensures.value ∙ ap (undo_data at) c.as_slice-rows.ensures.value in
    let none : has_float (view c.in_ok-value.value) ≡ false = ap has_float written ∙ undo_float at rows in
    c.in_ok-push.ensures.items
    ∙ ap (λ text. text ++ codes "\n") (c.in_ok-text.ensures.text none ∙ ap compact_text written)

pub returns-clause-again : goal.returns-clause-again
returns-clause-again c =
    let at = c.args.at.now in
    let rows = c.args.rows.now.items.items in
    let same = c.as_slice-rows.ensures.value in
    let texts = c.in_ok-text.ensures in
    let text = c.in_ok-text.text.items in
    let written : view c.in_ok-value.value ≡ undo_data at rows =
    c.in_ok-value.ensures.value ∙ ap (undo_data at) same in
    let low : depth (view c.in_ok-value.value) ≤ max_depth =
    subst (λ d. depth d ≤ max_depth) (sym written) (undo_low at rows) in
    let reads : read (text ++ 10 ∷ []) ≡ Some (undo_data at rows) =
    newline_reads text _ texts.compact texts.order.1 ∙ texts.reads_back low ∙ ap Some written in
    let utf8 : IsUtf8 (text ++ 10 ∷ []) = IsUtf8-append text (10 ∷ []) texts.utf8 newline_utf8 in
    let fits : list_all is_writable_row rows ≡ true =
    ap (list_all is_writable_row) (sym same) ∙ sym c.are_writable.ensures ∙ c.if-not-are_writable.false in
    let typed : list_all row_typed rows ≡ true =
    ap (list_all row_typed) (sym same) ∙ c.in_ok-value.ensures.typed in
    ap undo_in c.in_ok-push.ensures.items
    ∙ text_again (text ++ 10 ∷ []) at rows utf8 reads c.in_ok-value.ensures.names fits typed
