-- The page of a repair.
use Rattle.std.specs.Prelude.{ℕ, Bool, List}
use Rattle.std.specs.Option.{unwrap_or}
use Rattle.retro_keep.specs.Recording.{RecordingValue}
use Rattle.retro_keep.specs.declared.edit.Edit.{Edit}
use Rattle.retro_redo.specs.declared.repair.Repair.{Repair}
use Rattle.casebook_html.specs.Page as pages
use Rattle.casebook_page.specs.Told.{page_told}
use Rattle.casebook_about.specs.declared.labels.Labels.{Labels}
use Rattle.casebook_view.specs.Sources.{SourceValue}
use Rattle.casebook_summary.specs.declared.summary.Summary.{Summary}
use Rattle.casebook_request.specs.Request.{PageRequest}
use Rattle.casebook_repairs.specs.Inputs.{InputsValue}
use Rattle.casebook_repairs.specs.Repairs.{IsAsked}
use Rattle.casebook_repairs.specs.Repairs.{asked_source}
use Rattle.casebook_cli.specs.Screens.{IsSummaryOf}
use Rattle.casebook_repairs.specs.declared.repairs.AskedRepair.{AskedRepair}

-- The text is a page of a repair by edits of lines from a source, with these names, times and title.
-- It tells what such a repair would do, and has a row for each line of the recording, but for
-- untouched lines if they are many and not all are asked for.
pub record IsPageOf (source : SourceValue) (edits : List Edit) (r : RecordingValue) (repair : Repair) (labels : Labels)
    (title : List ℕ) (all : Bool) (text : List ℕ) : Type 0 where
  pub summary : Summary
  pub is_summary : IsSummaryOf source edits r repair summary
  pub page : pages.IsPage (page_told (record {
    source = source;
    recording = r;
    repair = repair;
    summary = summary;
    labels = labels;
    title = title;
    shows_all = all;
  })) text

-- the title that is asked for, or else the name of the log
abbrev pub title_of : PageRequest → List ℕ
title_of request = unwrap_or request.title request.repair.log

-- The text is a page of the repair of the log or of the case that is asked for.
pub record IsPage (inputs : InputsValue) (request : PageRequest) (text : List ℕ) : Type 0 where
  pub asked : AskedRepair
  pub is_asked : IsAsked inputs request.repair asked
  pub is_page : IsPageOf (asked_source asked) asked.edits.items asked.recording asked.repair asked.labels
      (title_of request) request.all text
