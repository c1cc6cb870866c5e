use Rattle.std.proofs.Common.{◌∙◌, ◌||◌, ap, sym, map}
use Rattle.std.specs.List.{list_any}
use Rattle.casebook_folder.specs.Steps.{after_steps}
use Rattle.casebook_folder.specs.inner.Memory.{contents_of, entry_path, is_other, made_path}
use Rattle.casebook_folder.specs.Made.{step_of}
use Rattle.casebook_folder.proofs.Memories.{other_child}
use Rattle.casebook_folder.proofs.Small.{first_or, last_or}
use Rattle.casebook_folder.proofs.memory.Memory.has_child_besides.Goals as goal

pub returns-then-at_first : goal.returns-then-at_first
returns-then-at_first c =
    let first = c.args.self.now.first.items in
    let made = c.args.self.now.made.items in
    let test = is_other (after_steps (map step_of made) (contents_of first)) c.args.path.now c.args.names.now in
    let all = other_child first made c.args.path.now c.args.names.now c.in_ok-at_first.at_first c.in_ok-since.since
    (c.in_ok-at_first.ensures ∙ ap (λ es. list_any test (map entry_path es)) c.as_slice.ensures.value) (c.in_ok-since.ensures ∙ ap (λ ss. list_any test (map made_path ss)) c.as_slice-2.ensures.value) in
    (λ h. all.0 (first_or c.in_ok-at_first.at_first c.in_ok-since.since h), λ h. c.if-at_first.true)

pub returns-else-at_first : goal.returns-else-at_first
returns-else-at_first c =
    let first = c.args.self.now.first.items in
    let made = c.args.self.now.made.items in
    let test = is_other (after_steps (map step_of made) (contents_of first)) c.args.path.now c.args.names.now in
    let all = other_child first made c.args.path.now c.args.names.now c.in_ok-at_first.at_first c.in_ok-since.since
    (c.in_ok-at_first.ensures ∙ ap (λ es. list_any test (map entry_path es)) c.as_slice.ensures.value) (c.in_ok-since.ensures ∙ ap (λ ss. list_any test (map made_path ss)) c.as_slice-2.ensures.value) in (
      λ h. all.0 (last_or c.in_ok-at_first.at_first c.in_ok-since.since h),
      λ h. sym (ap (λ b. b || c.in_ok-since.since) c.if-at_first.false) ∙ all.1 h,
    )
