use Rattle.std.proofs.Common.{◌≡◌, ◌+◌, ◌∙◌, Err, ap, drop, sym}
use Rattle.std.proofs.Math.ListN.{drop_of_length-le}
use Rattle.std.specs.Option.{option_copied}
use Rattle.casebook_account.specs.Edits.{edits_in, line_at}
use Rattle.casebook_account.proofs.EditLists.{after_some, left_from, none_left, none_there, one_more}
use Rattle.casebook_account.proofs.text_edits.edits_in.Goals as goal

pub loop-edit-preserved : goal.loop-edit-preserved
loop-edit-preserved c =
    let lines = c.args.machine.now.lines.items in
    let k = c.loop-edit.edit-index in
    let rest = drop (k + 1) c.args.edits.now in
    let old = c.loop-edit.found.items in
    let there : line_at c.number.result lines ≡ option_copied c.line.result = sym c.line.ensures in
    ap (λ es. after_some es (edits_in lines rest)) c.in_ok-push_edits-in-Some.ensures
    ∙ one_more lines old c.edit-item.result rest c.in-Some.line.now
    (ap (λ n. line_at n lines) (sym c.number.ensures) ∙ there ∙ ap option_copied c.in-Some.is)
    ∙ ap (λ es. after_some old (edits_in lines es)) (sym (left_from c.args.edits.now k _ c.edit-item.result c.loop-edit-test.true c.edit-item.is))
    ∙ c.loop-edit.invariant

pub returns-clause-ok : goal.returns-clause-ok
returns-clause-ok c =
    let lines = c.args.machine.now.lines.items in
    sym c.loop-edit.invariant
    ∙ ap (λ es. after_some c.loop-edit.found.items (edits_in lines es))
    (drop_of_length-le c.args.edits.now c.loop-edit-test.false)
    ∙ none_left lines c.loop-edit.found.items

pub returns-in-None-clause-err : goal.returns-in-None-clause-err
returns-in-None-clause-err c =
    let lines = c.args.machine.now.lines.items in
    let k = c.loop-edit.edit-index in
    let rest = drop (k + 1) c.args.edits.now in
    let old = c.loop-edit.found.items in
    sym c.loop-edit.invariant
    ∙ ap (λ es. after_some old (edits_in lines es))
    (left_from c.args.edits.now k _ c.edit-item.result c.loop-edit-test.true c.edit-item.is)
    ∙ none_there lines old c.edit-item.result rest
    (ap (λ n. line_at n lines) (sym c.number.ensures) ∙ sym c.line.ensures ∙ ap option_copied c.in-None.is)
    ∙ ap Err (sym c.number-in-None.ensures)
