-- What a history keeps of each cell: its versions, and the lines that use it.
use Rattle.std.specs.Prelude.{ℕ, List, [], ◌∷◌}
use Rattle.std.specs.Option.{option_map, unwrap_or}
use Rattle.std.specs.FinMap as map
use Rattle.retro_tree.specs.Maps.{update}
use Rattle.retro_tree.specs.CellOrder.{cell_cmp}
use Rattle.retro_tree.specs.Cell.{value}
use Rattle.retro_tree.specs.Notes.{changes}
use Rattle.retro_tree.specs.declared.cell.Cell.{Cell}
use Rattle.retro_tree.specs.declared.note.Note.{Note}
use Rattle.retro_tree.specs.declared.state.State.{State}
use Rattle.retro_tree.specs.declared.value.Value.{Value}
use Rattle.retro_history.specs.inner.LineUse.{UseValue, reads_directly}
use Rattle.retro_history.specs.inner.Numbers.{noted}
use Rattle.retro_history.specs.inner.Tracks.{RiseFrom, TrackValue, all_versions, new_track}
use Rattle.retro_history.specs.inner.Tracks.{track_by, track_noted}
use Rattle.retro_history.specs.inner.Uses.{no_uses, uses_with}
use Rattle.retro_history.specs.declared.cell_history.CellHistory.{CellHistory}
use Rattle.retro_history.specs.declared.uses.Uses.{Uses}

-- the history of a cell that no line uses, with its first value
abbrev pub new_history : Value → CellHistory
new_history v = record { track = new_track v; uses = no_uses }

-- the history of a cell after one more line uses it
abbrev pub history_used : UseValue → CellHistory → CellHistory
history_used u h = record { track = track_by u.number u.changes h.track; uses = uses_with u h.uses }

-- the history of a cell after the notes of line n
abbrev pub history_noted : Cell → ℕ → List Note → CellHistory → CellHistory
history_noted c n notes h = record {
  track = track_noted c n notes h.track;
  uses = record {
    written = noted (changes notes c) n h.uses.written;
    read = noted (reads_directly notes c) n h.uses.read;
  };
}

abbrev pub HistoryMap : Type 0
HistoryMap = map.FinMap cell_cmp CellHistory

-- the history of a cell, its versions, and the lines that use it
abbrev pub history_in : Cell → State → HistoryMap → CellHistory
history_in c first m = unwrap_or (map.get m c) (new_history (value c first))

abbrev pub track_in : Cell → State → HistoryMap → TrackValue
track_in c first m = (history_in c first m).track

abbrev pub uses_at : HistoryMap → Cell → Uses
uses_at m c = unwrap_or (option_map (λ h. h.uses) (map.get m c)) no_uses

-- histories with one more use of a cell
abbrev pub with_use : Cell → State → UseValue → HistoryMap → HistoryMap
with_use c first u m = update m c (new_history (value c first)) (history_used u)

-- the numbers of versions rise in each history
abbrev pub AllRise : List (Cell × CellHistory) → Type 0
AllRise [] = Unit {0}
AllRise (e ∷ es) = RiseFrom 0 (all_versions e.1.track) × AllRise es
