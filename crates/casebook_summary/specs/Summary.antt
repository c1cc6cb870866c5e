-- What a repair would do.
use Rattle.std.specs.Prelude.{◌≡◌, List, map}
use Rattle.std.specs.List.{filter}
use Rattle.retro_keep.specs.Recording.{RecordingValue}
use Rattle.retro_keep.specs.declared.edit.Edit.{Edit}
use Rattle.retro_redo.specs.declared.repair.Repair.{Repair}
use Rattle.casebook_cause.specs.Compensations.{leaks, tellings}
use Rattle.casebook_view.specs.Lines.{AreLines}
use Rattle.casebook_view.specs.Sources.{SourceValue}
use Rattle.casebook_view.specs.Unknown.{is_understood, numbers_to_run, unknown_in}
use Rattle.casebook_summary.specs.Doubts.{AreUndecided}
use Rattle.casebook_summary.specs.Effects.{effect_value, effects_of}
use Rattle.casebook_summary.specs.Groups.{group_value, grouped}
use Rattle.casebook_summary.specs.Restorations.{AreRestorations, restored_path}
use Rattle.casebook_summary.specs.Summaries.{leak_for, notice_for, notices_at}
use Rattle.casebook_summary.specs.declared.summary.Summary.{Summary}

-- What a repair by edits of lines from a source would do.
pub record IsSummary (source : SourceValue) (edits : List Edit) (r : RecordingValue) (repair : Repair)
    (summary : Summary) : Type 0 where
  pub unknown : summary.unknown.items ≡ unknown_in source r repair
  pub lines : AreLines source edits r repair summary.unknown.items summary.lines
  pub restorations : AreRestorations r repair summary.unknown.items summary.restorations.items
  pub undecided : AreUndecided r repair.recording summary.unknown.items (map restored_path summary.restorations.items)
      summary.undecided.items
  pub notices : summary.notices.items ≡ map (notice_for r summary.lines)
      (filter (is_understood summary.unknown.items) (tellings r repair))
  pub told : map group_value summary.told.items ≡ grouped summary.notices.items
  pub looks : summary.looks.items ≡ notices_at r summary.lines (numbers_to_run summary.unknown.items)
  pub looked : map group_value summary.looked.items ≡ grouped summary.looks.items
  pub leaks : summary.leaks.items ≡ map (leak_for r) (filter (is_understood summary.unknown.items) (leaks r repair))
  pub effects : map effect_value summary.effects.items ≡ effects_of r summary.lines
