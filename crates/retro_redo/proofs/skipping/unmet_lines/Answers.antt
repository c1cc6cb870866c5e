use Rattle.std.proofs.Common.{◌≡◌, ◌∙◌, List, None, Option, Some, ap, drop, length, nat_lt, rules, subst, sym, take, ℕ}
use Rattle.std.specs.FinMap as finmap
use Rattle.std.specs.List.{slice_get}
use Rattle.std.specs.List.Sorted.{IsNonDecreasingBy}
use Rattle.std.specs.Option.{option_copied}
use Rattle.std.proofs.lemmas.List.{length-take-le}
use Rattle.std.proofs.lemmas.List.Sorted.{IsPartitionedBy-ltb, IsPartitionPoint-from_clause}
use Rattle.retro_tree.specs.Exact.{IsExact}
use Rattle.retro_tree.specs.declared.state.State.{State}
use Rattle.retro_keep.specs.Edit.{sooner}
use Rattle.retro_difference.specs.Difference.{IsAmong}
use Rattle.retro_difference.specs.NextUses.{first_number}
use Rattle.retro_redo.specs.Skipping.{AreUnmet}
use Rattle.retro_redo.proofs.Finishing.{none_is}
use Rattle.retro_redo.proofs.Positions.{Line}
use Rattle.retro_redo.proofs.Skipped.{AreUnder, all_under, skipped_from, some_under}
use Rattle.retro_difference.proofs.UsedLines.{no_more, numbers_rise}
use Rattle.retro_redo.proofs.skipping.unmet_lines.Goals as goal

pub returns-in_default-clause-unmet : goal.returns-in_default-clause-unmet
returns-in_default-clause-unmet c =
    let lines = c.args.recording.now.lines in
    let none = no_more lines c.args.from
    (sym (ap (λ (ls : List Line). slice_get ls c.args.from) c.lines-lines.ensures.value) ∙ sym c.line_at.ensures.line
    ∙ ap option_copied (none_is c.line_at.result c.in_default.not-Some)) in
    λ keeps. (
      λ s t exact. subst (λ ls. AreUnmet (finmap.get c.args.edits.now) 0 ls s t) (sym none) tt,
      keeps,
    )

pub returns-in-None-clause-unmet : goal.returns-in-None-clause-unmet
returns-in-None-clause-unmet c =
    let lines = c.args.recording.now.lines in
    let from = c.args.from in
    let one = c.next_from.result in
    let rest_is = c.lines_from-rest.ensures ∙ ap (drop from) c.lines-lines.ensures.value in
    let stop_is : sooner one (first_number c.args.difference.now.uses) ≡ None =
    ap (sooner one) (sym c.next.ensures) ∙ sym c.in-None.ensures in
    λ keeps.
    skipped_from c.args.edits.now c.args.difference.now.overlay c.args.difference.now.uses c.args.recording.now from c.in-Some.line.now one
    (length c.lines_from-rest.result.now) c.lines-lines.ensures.well_formed.rising
    (sym (ap (λ (ls : List Line). slice_get ls from) c.lines-lines.ensures.value) ∙ sym c.line_at.ensures.line
    ∙ ap option_copied c.in-Some.is) c.requires c.next_from.ensures
    (subst (λ (o : Option ℕ). AreUnder o (length c.lines_from-rest.result.now) (drop from lines)) (sym stop_is)
    (subst (AreUnder None (length c.lines_from-rest.result.now)) rest_is (all_under c.lines_from-rest.result.now)))
    keeps

pub returns-in-Some-sooner-clause-unmet : goal.returns-in-Some-sooner-clause-unmet
returns-in-Some-sooner-clause-unmet c =
    let lines = c.args.recording.now.lines in
    let from = c.args.from in
    let one = c.next_from.result in
    let number = c.in-Some-sooner.number in
    let n = c.partition_point.result in
    let rise = c.lines-lines.ensures.well_formed.rising in
    let rest_is = c.lines_from-rest.ensures ∙ ap (drop from) c.lines-lines.ensures.value in
    let stop_is : sooner one (first_number c.args.difference.now.uses) ≡ Some number =
    ap (sooner one) (sym c.next.ensures) ∙ sym c.in-Some-sooner.ensures in
    let parted = IsPartitionPoint-from_clause (λ (x : Line). nat_lt x.0 number) c.lines_from-rest.result.now n
    c.partition_point.ensures.partitioned
    (IsPartitionedBy-ltb (λ (x : Line). x.0) c.lines_from-rest.result.now number
    (subst (IsNonDecreasingBy (λ (x : Line). x.0)) (sym rest_is) (numbers_rise 0 lines from rise)))
    (λ a r g called. search rules) in
    let count : length (take n c.lines_from-rest.result.now) ≡ n =
    length-take-le n c.lines_from-rest.result.now c.partition_point.ensures.bound in
    λ keeps.
    subst (λ k. ((s t : State) → IsExact c.args.difference.now.overlay s t
    → AreUnmet (finmap.get c.args.edits.now) k (drop from lines) s t) × IsAmong (drop k (drop from lines)) c.args.difference.now)
    (sym count)
    (skipped_from c.args.edits.now c.args.difference.now.overlay c.args.difference.now.uses c.args.recording.now from c.in-Some.line.now one n
    rise
    (sym (ap (λ (ls : List Line). slice_get ls from) c.lines-lines.ensures.value) ∙ sym c.line_at.ensures.line
    ∙ ap option_copied c.in-Some.is) c.requires c.next_from.ensures
    (subst (λ (o : Option ℕ). AreUnder o n (drop from lines)) (sym stop_is)
    (subst (AreUnder (Some number) n) rest_is
    (some_under number c.lines_from-rest.result.now n c.partition_point.ensures.bound parted))) keeps)
