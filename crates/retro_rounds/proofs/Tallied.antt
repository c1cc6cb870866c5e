-- The tally of a repair, in the words of the two runs.
use Rattle.std.proofs.Common.{◌≡◌, ℕ, List, Option, sym, subst}
use Rattle.retro_keep.specs.Edit.{edit_of}
use Rattle.retro_keep.specs.Recording.{IsWellFormed, RecordingValue}
use Rattle.retro_keep.specs.declared.edit.Edit.{Edit}
use Rattle.retro_redo.specs.Progress.{ProgressValue, edit_in, settled_now}
use Rattle.retro_redo.specs.Repair.{moments_of}
use Rattle.retro_redo.specs.Settled.{IsSettled}
use Rattle.retro_redo.specs.declared.repair.Repair.{Repair}
use Rattle.retro_redo.specs.declared.tally.Tally.{Tally}
use Rattle.retro_redo.proofs.Final.{settles_final}
use Rattle.retro_rounds.specs.Jobs.{IsJob, IsUnused}
use Rattle.retro_rounds.specs.Pieces.{InPiece, in_pieces}
use Rattle.retro_rounds.specs.Tally.{IsCount, IsTally}
use Rattle.retro_rounds.specs.inner.Rounds.{IsOwn, IsTallied}

-- what settled lines come to are the moments of the two runs
on_the_way : (p : ProgressValue) (repair : Repair) → IsOwn p.recording → IsWellFormed p.recording
    → IsSettled (edit_in p) p.recording p.choices repair
    → moments_of (edit_in p) p.recording ≡ settled_now p
on_the_way p repair own well settled =
    (settles_final (edit_in p) p.recording.lines p.choices p.recording.first p.recording.first own.recorded
    well.lawful well.known settled.settles settled.all).on_the_way

pub tallied : (cuts : List ℕ) (edits : List Edit) (r : RecordingValue) (p : ProgressValue) (tally : Tally) (repair : Repair)
    → ((n : ℕ) → edit_in p n ≡ edit_of edits n) → p.recording ≡ r → IsWellFormed r
    → IsSettled (edit_in p) p.recording p.choices repair → IsTallied cuts p tally
    → IsTally (edit_of edits) cuts r tally
tallied cuts edits r p tally repair same recording well settled is = record {
  adds_up = is.adds_up;
  jobs_are = λ own. counted (λ e. IsJob e) tally.jobs own is.jobs_are;
  unused_are = λ own. counted (λ e. IsUnused e) tally.unused own (is.unused_are (mine own));
}
  where
    mine : IsOwn r → IsOwn p.recording
    mine own = subst IsOwn (sym recording) own

    counted : (P : (ℕ → Option Edit) → InPiece → Type 0) (n : ℕ) → IsOwn r
        → IsCount (P (edit_in p)) (in_pieces cuts (settled_now p)) n
        → IsCount (P (edit_of edits)) (in_pieces cuts (moments_of (edit_of edits) r)) n
    counted P n own h =
        subst (λ (x : (ℕ → Option Edit) × RecordingValue). IsCount (P x.0) (in_pieces cuts (moments_of x.0 x.1)) n)
        (λ i. ((λ k. same k i), recording i))
        (subst (λ ms. IsCount (P (edit_in p)) (in_pieces cuts ms) n)
        (sym (on_the_way p repair (mine own) (subst IsWellFormed (sym recording) well) settled)) h)
