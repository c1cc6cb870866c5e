use Rattle.std.proofs.Common.{◌+◌, ◌-◌, ◌++◌, ◌∷◌, ◌∙◌, [], ap, append_assoc, map, sym}
use Rattle.std.specs.List.{range_with_len}
use Rattle.retro_keep.specs.declared.edit.Edit.TheVariants.{Cancel}
use Rattle.casebook_account.proofs.EditLists.{some_texts}
use Rattle.casebook_account.proofs.text_edits.push_edits.Goals as goal

pub returns : goal.returns
returns c =
    let old = c.args.edits.now.items in
    let line = c.args.line.now in
    let others = map Cancel (range_with_len (line.first + 1) (line.end - (line.first + 1))) in
    c.in_ok-push_cancels.ensures
    ∙ ap (λ es. es ++ others)
    (c.in_ok-push.ensures.items ∙ ap (λ own. old ++ own ∷ []) c.in_ok-edit_of_text.ensures)
    ∙ append_assoc old _ others
    ∙ ap (λ es. old ++ es) (sym (some_texts c.args.edit.now line c.if-end-first.false))
