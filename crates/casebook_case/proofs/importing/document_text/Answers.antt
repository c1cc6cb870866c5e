use Rattle.std.proofs.Common.{◌≡◌, ◌∙◌, ◌≤◌, ◌++◌, ◌∷◌, [], Some, ap, codes, false, subst, sym, true}
use Rattle.std.specs.Prelude.{IsUtf8}
use Rattle.std.specs.List.{list_all}
use Rattle.std.proofs.lemmas.Str.{IsUtf8-append}
use Rattle.serde_json.specs.Data.{depth}
use Rattle.serde_json.specs.Read.{max_depth, read}
use Rattle.serde_json.specs.View.{view}
use Rattle.serde_json.specs.Written.{compact_text, has_float}
use Rattle.retro_json.specs.Typed.{are_bytes}
use Rattle.retro_log.proofs.Newline.{newline_reads, newline_utf8}
use Rattle.casebook_case.specs.Documents.{case_data, case_text}
use Rattle.casebook_case.specs.Reading.{case_in}
use Rattle.casebook_case.proofs.Shapes.{case_float, case_low}
use Rattle.casebook_case.proofs.Trip.{text_again}
use Rattle.casebook_case.proofs.importing.document_text.Goals as goal

pub returns-clause-written : goal.returns-clause-written
unfolding case_text
returns-clause-written c =
    let contents = c.args.contents.now in
    let first = c.args.first.now in
    let lines = c.args.lines.now in
    let unseen = c.args.unseen.now in
    let written : view c.in_ok-value.value ≡ case_data contents first lines unseen =
    c.in_ok-value.ensures.value
    ∙ ap (λ x. case_data contents x c.in_ok-lines.lines.now c.in_ok-unseen.unseen.now) c.in_ok-first.ensures
    ∙ ap (λ x. case_data contents first x c.in_ok-unseen.unseen.now) c.in_ok-lines.ensures
    ∙ ap (case_data contents first lines) c.in_ok-unseen.ensures in
    let none : has_float (view c.in_ok-value.value) ≡ false =
    ap has_float written ∙ case_float contents first lines unseen in
    c.in_ok-push.ensures.items
    ∙ ap (λ text. text ++ codes "\n") (c.in_ok-text.ensures.text none ∙ ap compact_text written)

pub returns-clause-again : goal.returns-clause-again
returns-clause-again c =
    let contents = c.args.contents.now in
    let first = c.args.first.now in
    let lines = c.args.lines.now in
    let texts = c.in_ok-text.ensures in
    let text = c.in_ok-text.text.items in
    let unseen = c.args.unseen.now in
    let written : view c.in_ok-value.value ≡ case_data contents first lines unseen =
    c.in_ok-value.ensures.value
    ∙ ap (λ x. case_data contents x c.in_ok-lines.lines.now c.in_ok-unseen.unseen.now) c.in_ok-first.ensures
    ∙ ap (λ x. case_data contents first x c.in_ok-unseen.unseen.now) c.in_ok-lines.ensures
    ∙ ap (case_data contents first lines) c.in_ok-unseen.ensures in
    let low : depth (view c.in_ok-value.value) ≤ max_depth =
    subst (λ d. depth d ≤ max_depth) (sym written) (case_low contents first lines unseen) in
    let reads : read (text ++ 10 ∷ []) ≡ Some (case_data contents first lines unseen) =
    newline_reads text _ texts.compact texts.order.1 ∙ texts.reads_back low ∙ ap Some written in
    let utf8 : IsUtf8 (text ++ 10 ∷ []) = IsUtf8-append text (10 ∷ []) texts.utf8 newline_utf8 in
    ap case_in c.in_ok-push.ensures.items
    ∙ text_again (text ++ 10 ∷ []) contents first lines unseen utf8 reads c.in_ok-value.ensures.typed
