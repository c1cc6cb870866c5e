use Rattle.std.proofs.Common.{ap, refl, ◌∙◌}
use Rattle.std.proofs.lemmas.Option.{IfSome_then}
use Rattle.std.proofs.lemmas.Result.{on_ok_weaker}
use Rattle.casebook_folder.specs.Rows.{row_at}
use Rattle.casebook_folder.specs.Steps.{after_steps}
use Rattle.casebook_folder.proofs.GoingOn.{none_stays}
use Rattle.casebook_folder.proofs.Leftover.{both_some, restores, either_moments, nothing_made}
use Rattle.casebook_folder.proofs.Leftover.{some_always}
use Rattle.casebook_folder.proofs.Touching.{either_touches, nothing_touched}
use Rattle.casebook_folder.proofs.restoring.restore.Goals as goal

pub returns-in_err-left-clause-any_moment : goal.returns-in_err-left-clause-any_moment
returns-in_err-left-clause-any_moment g c =
    some_always (g.F.Folder.first c.args.folder.now) (λ first. nothing_made c.args.rows.now first _ _ refl)

pub returns-in_err-left-clause-touched : goal.returns-in_err-left-clause-touched
returns-in_err-left-clause-touched g c =
    some_always (g.F.Folder.first c.args.folder.now) (λ first. nothing_touched c.args.rows.now first _ _ refl)

pub returns-clause-restored : goal.returns-clause-restored
returns-clause-restored g c =
    on_ok_weaker c.make_steps.result
    (λ h. IfSome_then (g.F.Folder.first c.args.folder.now) c.in_ok-left.ensures.left
    (λ first e. restores c.args.rows.now c.as_slice.result.now first _ _
    c.requires (c.as_slice.ensures.value ∙ e) h))
    c.make_steps.ensures.ok

pub returns-clause-any_moment : goal.returns-clause-any_moment
returns-clause-any_moment g c =
    both_some (g.F.Folder.first c.args.folder.now) c.in_ok-left.ensures.left c.in_ok-left.ensures.begun
    (λ first e b. either_moments c.make_steps.result c.args.rows.now c.as_slice.result.now first _ _
    c.requires b (c.as_slice.ensures.value ∙ e)
    c.make_steps.ensures.ok c.make_steps.ensures.err)

pub returns-clause-touched : goal.returns-clause-touched
returns-clause-touched g c =
    both_some (g.F.Folder.first c.args.folder.now) c.in_ok-left.ensures.left c.in_ok-left.ensures.begun
    (λ first e b. either_touches c.make_steps.result c.args.rows.now c.as_slice.result.now first _ _
    c.requires b (c.as_slice.ensures.value ∙ e)
    c.make_steps.ensures.ok c.make_steps.ensures.err)

pub returns-clause-other_parts : goal.returns-clause-other_parts
returns-clause-other_parts g c =
    both_some (g.F.Folder.first c.args.folder.now) c.in_ok-left.ensures.left c.make_steps.ensures.other_parts
    (λ first e stay q none. stay q (ap (row_at q) (c.as_slice.ensures.value ∙ e)
    ∙ none_stays c.args.rows.now (after_steps (g.F.Folder.made c.args.folder.now) first) q c.requires none))
