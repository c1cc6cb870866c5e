use Rattle.std.proofs.Common.{◌≡◌, ap, sym, subst, ◌∙◌}
use Rattle.retro_tree.specs.Ask.{names_in}
use Rattle.retro_tree.specs.Commit.{committed}
use Rattle.retro_tree.specs.Overlay.{Overlays}
use Rattle.retro_keep.specs.Recording.{RecordingValue}
use Rattle.retro_keep.specs.Recorded.{recorded_before}
use Rattle.retro_history.proofs.Tracking.{if_ok}
use Rattle.retro_history.proofs.Recalled.{all_rise, names_recalled, marks_at, marks_overlay}
use Rattle.retro_history.proofs.history.History.children.Goals as goal

pub marks_below-requires : goal.marks_below-requires
marks_below-requires c =
    all_rise c.self.inside.recording.now c.self.inside.index.cells c.self.invariant.tracked
    c.self.invariant.well_formed.rising

pub returns : goal.returns
returns c =
    let r = c.self.inside.recording.now in
    let tracks = c.self.inside.index.cells in
    let kept = c.self.invariant.tracked in
    let rise = c.self.invariant.well_formed.rising in
    let p = c.args.path.now in
    let n = c.args.number in
    let is : c.in_ok-marks.marks ≡ marks_at r tracks kept rise p n = c.in_ok-marks.ensures in
    let over : Overlays c.in_ok-marks.marks c.first.result.now (committed (marks_at r tracks kept rise p n) r.first) =
    subst (λ s. Overlays c.in_ok-marks.marks s (committed (marks_at r tracks kept rise p n) r.first))
    (sym c.first.ensures.value)
    (subst (λ m. Overlays m r.first (committed (marks_at r tracks kept rise p n) r.first)) (sym is)
    (marks_overlay r tracks kept rise p n)) in
    if_ok c.children.result _ _ (λ names h. h (committed (marks_at r tracks kept rise p n) r.first) over
    ∙ names_recalled r tracks kept rise p n
    ∙ ap (λ (s : RecordingValue). names_in p (recorded_before n s).tree) c.self.view_is) c.children.ensures
