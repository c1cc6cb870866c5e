use Rattle.std.proofs.Common.{◌≡◌, ◌++◌, ◌-◌, ◌∙◌, ap, arith, map}
use Rattle.std.specs.List.{range_with_len}
use Rattle.retro_keep.specs.declared.edit.Edit.TheVariants.{Cancel}
use Rattle.casebook_account.proofs.EditLists.{one_more_cancelled}
use Rattle.casebook_account.proofs.text_edits.push_cancels.Goals as goal

pub loop-number-preserved : goal.loop-number-preserved
loop-number-preserved c =
    one_more_cancelled c.args.edits.now.items c.loop-number.edits.items c.push.new.self.items c.args.first
    c.loop-number.number c.loop-number.auto.number c.loop-number.invariant c.in_ok-push.ensures.items

pub returns : goal.returns
returns c =
    let n = c.loop-number.number in
    let same : n ≡ c.args.end =
    omega (arith, c.loop-number-test.false, c.loop-number.auto.number-end c.requires) in
    c.loop-number.invariant
    ∙ ap (λ m. c.args.edits.now.items ++ map Cancel (range_with_len c.args.first (m - c.args.first))) same
