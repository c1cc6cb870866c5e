use Rattle.std.proofs.Common.{◌∙◌, ap, subst, sym}
use Rattle.retro_tree.specs.Commit.{committed}
use Rattle.retro_keep.specs.Recording.{IsWellFormed, last_state}
use Rattle.retro_redo.specs.inner.Altered.{keeps_near}
use Rattle.retro_redo.specs.Progress.{lines_chosen}
use Rattle.retro_redo.proofs.Choices.{last_chosen}
use Rattle.retro_redo.proofs.ChosenLines.{recording_far}
use Rattle.retro_redo.proofs.outcome.chosen_recording.Goals as goal

pub of_well_formed-requires-clause-well_formed : goal.of_well_formed-requires-clause-well_formed
of_well_formed-requires-clause-well_formed c =
    let r = c.args.recording.now in
    let steps = c.args.choices.items in
    let first_is = c.in_ok-first.ensures ∙ c.first.ensures.value in
    let from_is = c.from-from.ensures.value in
    let lines_are = c.in_ok-chosen.ensures ∙ ap (λ ls. lines_chosen ls steps) c.lines-lines.ensures.value in
    let far = sym (c.in_ok-near.ensures
    ∙ (λ i. keeps_near (c.lines-lines.ensures.value i) (c.as_slice.ensures.value i))) ∙ c.if-near.false in
    subst IsWellFormed (λ i. record { first = sym first_is i; from = sym from_is i; lines = sym lines_are i })
    (recording_far c.requires.settles.0 r steps c.lines-lines.ensures.well_formed c.requires.settles.1 far)

pub of_well_formed-requires-clause-last : goal.of_well_formed-requires-clause-last
of_well_formed-requires-clause-last c =
    let r = c.args.recording.now in
    let steps = c.args.choices.items in
    let first_is = c.in_ok-first.ensures ∙ c.first.ensures.value in
    let lines_are = c.in_ok-chosen.ensures ∙ ap (λ ls. lines_chosen ls steps) c.lines-lines.ensures.value in
    c.in_ok-commit.ensures.ok ∙ ap (committed c.args.overlay) (c.in_ok-last.ensures ∙ c.last.ensures.value)
    ∙ c.requires.last ∙ sym (last_chosen r.lines steps r.first)
    ∙ (λ i. last_state (sym lines_are i) (sym first_is i))
