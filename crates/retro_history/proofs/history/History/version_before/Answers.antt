use Rattle.std.proofs.Common.{ap, sym, subst, ◌∙◌, Option}
use Rattle.std.specs.Option.{option_copied, option_map, unwrap_or}
use Rattle.retro_tree.specs.Cell.{value}
use Rattle.retro_history.specs.inner.CellHistory.{new_history}
use Rattle.retro_history.specs.inner.Tracks.{RiseFrom, all_versions}
use Rattle.retro_history.specs.declared.cell_history.CellHistory.{CellHistory}
use Rattle.retro_history.specs.inner.History.{version_ref_parts, parts_before}
use Rattle.retro_history.proofs.Recalled.{track_rises, parts_found, parts_missing, parts_without_track}
use Rattle.retro_history.proofs.history.History.version_before.Goals as goal
use Rattle.retro_history.proofs.history.History.version_before.Goals.{in-Some+in_default-version_below, in_default}

pub version_below-requires : goal.version_below-requires
version_below-requires c =
    let r = c.self.inside.recording.now in
    subst (λ (o : Option CellHistory).
    RiseFrom 0 (all_versions (unwrap_or o (new_history (value c.args.cell.now r.first))).track))
    (sym c.get.ensures ∙ ap option_copied c.in-Some.is)
    (track_rises r c.self.inside.index.cells c.self.invariant.tracked c.self.invariant.well_formed.rising
    c.args.cell.now)

pub returns-in-Some-version_below-clause-value : goal.returns-in-Some-version_below-clause-value
returns-in-Some-version_below-clause-value c =
    let r = c.self.inside.recording.now in
    parts_found r c.self.inside.index.cells c.self.invariant.tracked c.self.invariant.well_formed.rising
    c.args.cell.now c.args.number c.in-Some.history.now (version_ref_parts c.in-Some-version_below.version)
    (sym c.get.ensures ∙ ap option_copied c.in-Some.is)
    (ap (option_map version_ref_parts) (sym c.in-Some-version_below.is) ∙ c.version_below.ensures)
    ∙ ap (parts_before c.args.cell.now c.args.number) c.self.view_is

pub returns-clause-value : goal.returns-clause-value
returns-clause-value c =
    let r = c.self.inside.recording.now in
    ap (λ v. (0, v)) (c.get-2.ensures ∙ ap (value c.args.cell.now) c.first.ensures.value)
    ∙ elim c.match-get.branch [
      | in-Some+in_default-version_below w ↦
          parts_missing r c.self.inside.index.cells c.self.invariant.tracked c.self.invariant.well_formed.rising
          c.args.cell.now c.args.number w.in-Some.history.now
          (sym c.get.ensures ∙ ap option_copied w.in-Some.is)
          (ap (option_map version_ref_parts) (sym w.in_default-version_below.is) ∙ w.version_below.ensures)
      | in_default w ↦
          parts_without_track r c.self.inside.index.cells c.self.invariant.tracked c.self.invariant.well_formed.rising
          c.args.cell.now c.args.number
          (sym c.get.ensures ∙ ap option_copied w.in_default.is)
    ]
    ∙ ap (parts_before c.args.cell.now c.args.number) c.self.view_is
