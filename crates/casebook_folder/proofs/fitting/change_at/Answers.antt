use Rattle.std.proofs.Common.{rules, sym}
use Rattle.std.proofs.lemmas.Fn.{always_returns_same}
use Rattle.retro_path.specs.Order.{path_cmp}
use Rattle.casebook_folder.specs.declared.planned_row.PlannedRow.{PlannedRow}
use Rattle.casebook_folder.proofs.Searching.{change_at_found, change_at_none}
use Rattle.casebook_folder.proofs.fitting.change_at.Goals as goal

pub returns-in-Ok : goal.returns-in-Ok
returns-in-Ok c =
    let equal = c.in-Ok.ensures.position
    (λ (r : PlannedRow). path_cmp r.change.path c.args.path.now)
    (always_returns_same _ _ _ (λ a r g called. search rules)) in
    sym (change_at_found c.args.plan.now c.args.path.now c.requires c.in-Ok.index _
    c.in-Ok.ensures.bound equal)

pub returns-in-Err : goal.returns-in-Err
returns-in-Err c =
    let apart = c.in-Err.ensures.position
    (λ (r : PlannedRow). path_cmp r.change.path c.args.path.now)
    (always_returns_same _ _ _ (λ a r g called. search rules)) in
    sym (change_at_none c.args.plan.now c.args.path.now c.requires c.in-Err.field-0 apart)
