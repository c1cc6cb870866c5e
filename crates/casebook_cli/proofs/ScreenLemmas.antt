-- What a screen and a page show of the case that is asked for.
use Rattle.std.proofs.Common.{◌≡◌, ℕ, Bool, List, subst}
use Rattle.retro_keep.specs.Recording.{RecordingValue}
use Rattle.retro_keep.specs.declared.edit.Edit.{Edit}
use Rattle.retro_redo.specs.declared.repair.Repair.{Repair}
use Rattle.casebook_view.specs.Sources.{SourceValue}
use Rattle.casebook_about.specs.declared.labels.Labels.{Labels}
use Rattle.casebook_request.specs.declared.shown.ShownPart.{ShownPart}
use Rattle.casebook_cli.specs.Pages.{IsPageOf}
use Rattle.casebook_cli.specs.Screens.{IsShownOf}

module _ {edits those : List Edit} {r s : RecordingValue} {repair other : Repair} {source from : SourceValue}
    (is_source : source ≡ from) (are_edits : edits ≡ those) (is_recording : r ≡ s) (is_repair : repair ≡ other) where
  pub shown_same : (labels : Labels) (shown : ShownPart) (colours : Bool) (text : List ℕ)
      → IsShownOf source edits r repair labels shown colours text
      → IsShownOf from those s other labels shown colours text
  shown_same labels shown colours text h =
      subst (λ p. IsShownOf from those s p labels shown colours text) is_repair
      (subst (λ o. IsShownOf from those o repair labels shown colours text) is_recording
      (subst (λ es. IsShownOf from es r repair labels shown colours text) are_edits
      (subst (λ at. IsShownOf at edits r repair labels shown colours text) is_source h)))

  pub page_same : (labels : Labels) (title : List ℕ) (all : Bool) (text : List ℕ)
      → IsPageOf source edits r repair labels title all text → IsPageOf from those s other labels title all text
  page_same labels title all text h =
      subst (λ p. IsPageOf from those s p labels title all text) is_repair
      (subst (λ o. IsPageOf from those o repair labels title all text) is_recording
      (subst (λ es. IsPageOf from es r repair labels title all text) are_edits
      (subst (λ at. IsPageOf at edits r repair labels title all text) is_source h)))
