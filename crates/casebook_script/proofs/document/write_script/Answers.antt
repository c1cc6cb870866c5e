use Rattle.std.proofs.Common.{◌≡◌, ◌∙◌, ◌≤◌, ◌++◌, ◌∷◌, [], Some, ap, codes, false, subst, sym}
use Rattle.std.specs.Prelude.{IsUtf8}
use Rattle.std.proofs.lemmas.Str.{IsUtf8-append}
use Rattle.serde_json.specs.Data.{depth}
use Rattle.serde_json.specs.Read.{max_depth, read}
use Rattle.serde_json.specs.View.{view}
use Rattle.serde_json.specs.Written.{compact_text, has_float}
use Rattle.retro_log.specs.Document.{script_in}
use Rattle.retro_log.proofs.Newline.{newline_reads, newline_utf8}
use Rattle.casebook_script.specs.Scripts.{script_data, script_text, script_with}
use Rattle.casebook_script.proofs.Trip.{script_again, script_float, script_low}
use Rattle.casebook_script.proofs.document.write_script.Goals as goal

pub returns-clause-text : goal.returns-clause-text
unfolding script_text
returns-clause-text c =
    let script = script_with c.args.tree.now.tree c.args.sessions.now.sessions c.args.lines.now in
    let written : view c.in_ok-value.value ≡ script_data script = c.in_ok-value.ensures.value in
    let none : has_float (view c.in_ok-value.value) ≡ false = ap has_float written ∙ script_float script in
    c.in_ok-push.ensures.items
    ∙ ap (λ text. text ++ codes "\n") (c.in_ok-text.ensures.text none ∙ ap compact_text written)

pub returns-clause-again : goal.returns-clause-again
returns-clause-again c = λ readable.
    let script = script_with c.args.tree.now.tree c.args.sessions.now.sessions c.args.lines.now in
    let texts = c.in_ok-text.ensures in
    let text = c.in_ok-text.text.items in
    let written : view c.in_ok-value.value ≡ script_data script = c.in_ok-value.ensures.value in
    let low : depth (view c.in_ok-value.value) ≤ max_depth =
    subst (λ d. depth d ≤ max_depth) (sym written) (script_low script) in
    let reads : read (text ++ 10 ∷ []) ≡ Some (script_data script) =
    newline_reads text _ texts.compact texts.order.1 ∙ texts.reads_back low ∙ ap Some written in
    let utf8 : IsUtf8 (text ++ 10 ∷ []) = IsUtf8-append text (10 ∷ []) texts.utf8 newline_utf8 in
    ap script_in c.in_ok-push.ensures.items
    ∙ script_again (text ++ 10 ∷ []) script utf8 reads readable c.in_ok-value.ensures.tree
    c.in_ok-value.ensures.sessions c.in_ok-value.ensures.lines
