-- A difference that goes over a line, and one that stays where it is.
use Rattle.std.proofs.Common.{◌≡◌, ◌⊎◌, ℕ, suc, Bool, true, List, Option, None, Some, drop, refl, subst, sym}
use Rattle.std.proofs.Common.{Err, Ok, OnErr, Result}
use Rattle.std.specs.FinMap as finmap
use Rattle.std.specs.Option.{option_copied, unwrap_or}
use Rattle.retro_tree.specs.Exact.{IsExact}
use Rattle.retro_tree.specs.Notes.{after}
use Rattle.retro_tree.specs.Overlay.{OverlayMap}
use Rattle.retro_tree.specs.declared.cell.Cell.{Cell}
use Rattle.retro_tree.specs.declared.note.Note.{Note}
use Rattle.retro_tree.specs.declared.state.State.{State}
use Rattle.retro_keep.specs.Recorded.{recorded_before}
use Rattle.retro_keep.specs.Recording.{RecordingValue}
use Rattle.retro_difference.specs.Difference.{DifferenceValue, GoesOver, Stays, chosen_by, recorded_by}
use Rattle.retro_difference.specs.NextUses.{AddsUses, HasNext, KeepsUses, Prunes, Use, has_use}
use Rattle.retro_difference.specs.declared.line_run.LineRun.{LineRun}
use Rattle.retro_difference.specs.inner.MayDiffer.{may_change, may_differ}
use Rattle.retro_difference.proofs.KeptUses.{entry_from, entry_kept, keeps_settled, keeps_unsettled}
use Rattle.retro_difference.proofs.UsedLines.{rise_from}

-- a cell with an entry after a line has one before it, or is one in which the line may make the
-- states differ
entry_by : (recorded : List Note) (chosen : Option (List Note)) (old new : OverlayMap) (s t : State) → IsExact old s t
    → IsExact new (after recorded s) (after (unwrap_or chosen recorded) t) → (c : Cell)
    → finmap.contains_key new c ≡ true
    → (finmap.contains_key old c ≡ true) ⊎ (may_change recorded chosen c ≡ true)
entry_by recorded None old new s t was is c has = entry_kept old new s t recorded was is c has
entry_by recorded (Some chosen) old new s t was is c has = entry_from old new s t recorded chosen was is c has

-- what the calls of a difference leave that goes over a line
pub record Renews (r : RecordingValue) (line : LineRun) (old : DifferenceValue) (next : OverlayMap) (mid new : List Use)
    (s : State) : Type 0 where
  pub state : s ≡ recorded_before line.number r
  pub exact : (t : State) → IsExact old.overlay s t
      → IsExact next (after (recorded_by line) s) (after (chosen_by line) t)
  pub adds : AddsUses line.number r.lines old.uses mid
  pub pruned : Prunes line.number next mid new
  pub used : (c : Cell) → has_use line.number c old.uses ≡ true → finmap.contains_key old.overlay c ≡ true
      → HasNext line.number r.lines c mid
  pub written : (c : Cell) → may_differ line c ≡ true → HasNext line.number r.lines c mid

pub goes_over : (r : RecordingValue) (line : LineRun) (old : DifferenceValue) (next : OverlayMap) (mid new : List Use)
    (s : State) → Renews r line old next mid new s → GoesOver r line old (record { overlay = next; uses = new })
goes_over r line old next mid new s h = record {
  exact = subst (λ x. (t : State) → IsExact old.overlay x t
      → IsExact next (after (recorded_by line) x) (after (chosen_by line) t)) h.state h.exact;
  uses = λ k l t well at same notes is keeps.
      let here = subst (λ x. IsExact old.overlay x t) (sym h.state) is in
      keeps_settled r.lines k l old.overlay old.uses mid new well.rising at keeps
      (subst (λ n. AddsUses n r.lines old.uses mid) (sym same) h.adds) next (may_differ line)
      (entry_by (recorded_by line) (option_copied line.chosen) old.overlay next s t here (h.exact t here))
      (λ c has key. subst (λ n. HasNext n r.lines c mid) (sym same)
      (h.used c (subst (λ n. has_use n c old.uses ≡ true) same has) key))
      (λ c is_written. subst (λ n. HasNext n r.lines c mid) (sym same) (h.written c is_written))
      (subst (λ n. Prunes n next mid new) (sym same) h.pruned);
}

pub stays : (r : RecordingValue) (number : ℕ) (old : DifferenceValue) (same_overlay : OverlayMap) (mid new : List Use)
    → same_overlay ≡ old.overlay → AddsUses number r.lines old.uses mid → Prunes 0 same_overlay mid new
    → Stays r number old (record { overlay = same_overlay; uses = new })
stays r number old same_overlay mid new same_is adds pruned = record {
  overlay = same_is;
  uses = λ k l well at same keeps.
      subst (λ (o : OverlayMap). KeepsUses o (drop k r.lines) new) (sym same_is)
      (keeps_unsettled r.lines k l old.overlay old.uses mid new well.rising at keeps
      (subst (λ n. AddsUses n r.lines old.uses mid) (sym same) adds) (rise_from 0 r.lines k well.rising)
      (subst (λ (o : OverlayMap). Prunes 0 o mid new) same_is pruned));
}

pub stays_same : (r : RecordingValue) (number : ℕ) (d : DifferenceValue) → Stays r number d d
stays_same r number d = record { overlay = refl; uses = λ k l well at same keeps. keeps }

pub after_any : {A E P : Type 0} (x : Result A E) → P → OnErr x P
after_any (Ok a) p = tt
after_any (Err e) p = p
