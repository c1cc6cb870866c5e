use Rattle.std.proofs.Common.{List, Some, ap, arith, drop, length, refl, subst, sym, ◌-◌, ◌<◌, ◌≡◌, ◌∙◌}
use Rattle.std.specs.FinMap as finmap
use Rattle.std.specs.List.{slice_get}
use Rattle.std.proofs.lemmas.Option.{slice_get_read}
use Rattle.retro_tree.specs.Exact.{IsExact}
use Rattle.retro_keep.specs.Recording.{IsWellFormed, RecordingValue}
use Rattle.retro_redo.specs.Editing.{AreLines, EditMap}
use Rattle.retro_difference.specs.NextUses.{KeepsUses}
use Rattle.retro_difference.specs.NextUses.{AreNumbersUntil}
use Rattle.retro_redo.specs.inner.Meetings.{AddsEdited}
use Rattle.retro_redo.specs.Progress.{ProgressValue, recorded_now, repaired_now}
use Rattle.retro_redo.specs.declared.step.Step.{Step}
use Rattle.retro_redo.proofs.StopNumbers.{stops_picked}
use Rattle.retro_redo.proofs.Positions.{Line}
use Rattle.retro_redo.proofs.repairer.Repairer.stops_until.Goals as goal

pub returns : goal.returns
returns c =
    let overlay = c.self.inside.difference.overlay in
    let same : c.self.inside.recording.now ≡ c.args.self.now.recording =
    ap (λ (p : ProgressValue). p.recording) c.self.view_is in
    let choices : c.self.inside.choices.items ≡ c.args.self.now.choices =
    ap (λ (p : ProgressValue). p.choices) c.self.view_is in
    let lines = c.lines-lines.ensures.value ∙ ap (λ (r : RecordingValue). r.lines) same in
    let settled = c.len-settled.ensures ∙ c.self.inside.choices.ok.0 in
    let settled_now = ap (λ (steps : List Step). length steps) choices in
    let settled_is : c.len-settled.result ≡ length c.args.self.now.choices = settled ∙ settled_now in
    let less : length c.args.self.now.choices < c.args.end =
    omega (arith, settled, settled_now, c.if-end-settled.false) in
    let fits = ap (λ (ls : List Line). length ls) lines in
    let next_at : slice_get c.lines-lines.result.now c.len-settled.result ≡ Some c.index-lines-settled.result =
    slice_get_read c.lines-lines.result.now (length c.lines-lines.result.now) c.len-settled.result
    c.index-lines-settled.result refl (omega (arith, less, settled_is, fits, c.requires)) c.index-lines-settled.is in
    let last_at : slice_get c.lines-lines.result.now (c.args.end - 1) ≡ Some c.index-lines-end.result =
    slice_get_read c.lines-lines.result.now (length c.lines-lines.result.now) (c.args.end - 1)
    c.index-lines-end.result refl (omega (arith, less, fits, c.requires)) c.index-lines-end.is in
    stops_picked c.args.self.now overlay c.self.inside.difference.uses c.in_ok-numbers.numbers.keys c.add_edited.new.numbers.keys
    c.args.end c.index-lines-settled.result c.index-lines-end.result
    (subst (λ (p : ProgressValue). IsExact overlay (recorded_now p) (repaired_now p)) c.self.view_is
    c.self.invariant.0.exact)
    (subst (λ (p : ProgressValue). KeepsUses overlay (drop (length p.choices) p.recording.lines) c.self.inside.difference.uses)
    c.self.view_is c.self.invariant.1)
    (subst (λ (p : ProgressValue). AreLines p.edits p.recording) c.self.view_is c.self.invariant.0.known)
    (subst IsWellFormed same c.lines-lines.ensures.well_formed)
    less
    (sym (ap (λ (ls : List Line). slice_get ls (length c.args.self.now.choices)) lines)
    ∙ ap (slice_get c.lines-lines.result.now) (sym settled_is) ∙ next_at)
    (sym (ap (λ (ls : List Line). slice_get ls (c.args.end - 1)) lines) ∙ last_at) c.iter.ensures.ordered
    (subst (λ (r : RecordingValue). AreNumbersUntil c.index-lines-end.result.0 overlay r.lines c.self.inside.difference.uses
    c.in_ok-numbers.numbers.keys) (c.self.invariant.2 ∙ same) c.in_ok-numbers.ensures)
    (subst (λ (m : EditMap). AddsEdited (finmap.contains_key m) c.index-lines-settled.result.0 c.index-lines-end.result.0
    c.in_ok-numbers.numbers.keys c.add_edited.new.numbers.keys)
    (ap (λ (p : ProgressValue). p.edits) c.self.view_is) c.in_ok-add_edited.ensures)
