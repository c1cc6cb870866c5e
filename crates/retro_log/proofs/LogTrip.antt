-- A recording is read back from the log that it is written as.
use Rattle.std.proofs.Common.{◌≡◌, ℕ, ◌<◌, ◌≤◌, List, [], ◌∷◌, map, Bool, true, not, ◌&&◌, Some, Ok, nat_lt}
use Rattle.std.proofs.Common.{refl}
use Rattle.std.proofs.Common.{arith}
use Rattle.std.specs.Prelude.{IsUtf8}
use Rattle.std.specs.List.{list_all}
use Rattle.std.proofs.lemmas.Bool.{and_parts, and_from, not_from_false, ltb-true, lt-ltb}
use Rattle.std.proofs.lemmas.Str.{is_utf8-from_IsUtf8}
use Rattle.serde_json.specs.Data.{Data}
use Rattle.serde_json.specs.Read.{read}
use Rattle.retro_tree.specs.Change.{apply, grows_dir, has_its_session, IsLawfulChange}
use Rattle.retro_tree.specs.Notes.{after, AllAllowed}
use Rattle.retro_tree.specs.declared.change.Change.{Change}
use Rattle.retro_tree.specs.declared.note.Note.{Note}
use Rattle.retro_tree.specs.declared.note.Note.TheVariants.{Asked, Made}
use Rattle.retro_tree.specs.declared.state.State.{State}
use Rattle.retro_tree.proofs.WholeLaw.{test_from_tree, test_from_sessions, test_from_state}
use Rattle.retro_keep.specs.Recording.{RecordingValue, number_in, is_own_line, is_line_of_kind, AllLinesAllowed}
use Rattle.retro_keep.specs.Recording.{IsWellFormed}
use Rattle.retro_keep.specs.Script.{rises_from}
use Rattle.retro_keep.specs.declared.noted.Noted.{Noted}
use Rattle.retro_log.specs.LogLinesPart.{log_line_of, log_lines_of}
use Rattle.retro_log.specs.Allowed.{is_lawful_change, are_allowed, are_lines_allowed}
use Rattle.retro_log.specs.Document.{recording_of, log_from, log_parts_of, log_of, log_in}
use Rattle.retro_log.specs.LogText.{line_data, lines_data, log_data, log_object}
use Rattle.retro_json.specs.NoNul.{tree_without_nul, sessions_without_nul, line_without_nul, recording_without_nul}
use Rattle.retro_json.specs.NoteLimits.{line_fits, notes_fit}
use Rattle.retro_json.specs.Typed.{is_u32, note_typed, tree_typed, sessions_typed, line_typed, recording_typed}
use Rattle.retro_json.specs.Values.{sessions_data, tree_data}
use Rattle.retro_json.proofs.Json.{item_list-items_of}
use Rattle.retro_json.proofs.Listed.{all_both, every_again, map_unchanged}
use Rattle.retro_json.proofs.TreeTrip.{tree_again}
use Rattle.retro_json.proofs.SessionsTrip.{sessions_again}
use Rattle.retro_json.proofs.NotesTrip.{hex_field_again, notes_again}

-- ---- lines

is_counted : ℕ × Noted → Bool
is_counted l = nat_lt 0 l.0

is_sound : ℕ × Noted → Bool
is_sound l = is_own_line l && is_line_of_kind l

is_written : ℕ × Noted → Bool
is_written l = line_typed l && (line_fits l && line_without_nul l)

-- what is known of each line
passes : ℕ × Noted → Bool
passes l = is_counted l && (is_sound l && is_written l)

line_again : (l : ℕ × Noted) → passes l ≡ true → log_line_of (line_data l) ≡ Ok l
unfolding passes is_counted is_sound is_written line_typed log_line_of line_data
line_again l h =
    let a = and_parts (nat_lt 0 l.0) _ h in
    let b = and_parts (is_own_line l && is_line_of_kind l) _ a.1 in
    let sound = and_parts (is_own_line l) (is_line_of_kind l) b.0 in
    let c = and_parts (line_typed l) (line_fits l && line_without_nul l) b.1 in
    let fits = and_parts (line_fits l) (line_without_nul l) c.1 in
    let number = and_parts (is_u32 l.0) _ c.0 in
    let sid = and_parts (is_u32 l.1.sid) _ number.1 in
    let notes = and_parts (list_all note_typed l.1.notes) _ sid.1 in
    rw (
      number.0,
      a.0,
      sid.0,
      notes_again l.1.sid l.1.notes sound.1 sound.0 notes.0 fits.0 fits.1,
      hex_field_again l.1.output notes.1,
    ) refl

all_counted : (n : ℕ) (lines : List (ℕ × Noted)) → rises_from n (map number_in lines) ≡ true
    → list_all is_counted lines ≡ true
unfolding is_counted
all_counted n [] h = refl
all_counted n (l ∷ lines) h =
    let parts = and_parts (nat_lt n l.0) _ h in
    let above = ltb-true n l.0 parts.0 in
    let some : 0 < l.0 = omega arith in
    and_from (nat_lt 0 l.0) _ (lt-ltb 0 l.0 some) (all_counted l.0 lines parts.1)

lines_again : (lines : List (ℕ × Noted)) → list_all passes lines ≡ true → log_lines_of (lines_data lines) ≡ Ok lines
unfolding log_lines_of lines_data
lines_again lines h =
    let rows = every_again log_line_of line_data (λ l. l) passes line_again lines h in
    rw (item_list-items_of (map line_data lines), rows, map_unchanged lines) refl

-- ---- the beginning

-- a log that is written says where it begins
from_again : (from : ℕ) (lines sessions tree_of : Data) → is_u32 from ≡ true → 1 ≤ from
    → log_from (log_object from lines sessions tree_of) ≡ Ok from
unfolding log_from
from_again from lines sessions tree_of typed begins = rw (typed, lt-ltb 0 from begins) refl

-- ---- changes

change_allowed : (c : Change) (s : State) → IsLawfulChange c s → is_lawful_change c s ≡ true
change_allowed c s l =
    and_from (not (grows_dir c s)) _ (not_from_false (grows_dir c s) l.growth)
    (and_from (has_its_session c s) _ l.session (test_from_state (apply c s) l.after))

notes_allowed : (notes : List Note) (s : State) → AllAllowed notes s → are_allowed notes s ≡ true
notes_allowed [] s all = refl
notes_allowed (Asked ask answer ∷ notes) s all = notes_allowed notes s all
notes_allowed (Made c ∷ notes) s all =
    and_from (is_lawful_change c s) _ (change_allowed c s all.0) (notes_allowed notes (apply c s) all.1)

lines_allowed : (lines : List (ℕ × Noted)) (s : State) → AllLinesAllowed lines s → are_lines_allowed lines s ≡ true
lines_allowed [] s all = refl
lines_allowed (l ∷ lines) s all =
    and_from (are_allowed l.1.notes s) _ (notes_allowed l.1.notes s all.0)
    (lines_allowed lines (after l.1.notes s) all.1)

-- ---- recordings

all_written : (lines : List (ℕ × Noted)) → list_all line_typed lines ≡ true → list_all line_fits lines ≡ true
    → list_all line_without_nul lines ≡ true → list_all is_written lines ≡ true
unfolding is_written
all_written lines typed fits plain =
    all_both line_typed (λ l. line_fits l && line_without_nul l) lines typed
    (all_both line_fits line_without_nul lines fits plain)

all_pass : (r : RecordingValue) → IsWellFormed r → list_all is_written r.lines ≡ true
    → list_all passes r.lines ≡ true
unfolding passes is_sound
all_pass r well written =
    all_both is_counted (λ l. (is_own_line l && is_line_of_kind l) && is_written l) r.lines
    (all_counted 0 r.lines well.rising)
    (all_both (λ l. is_own_line l && is_line_of_kind l) is_written r.lines
    (all_both is_own_line is_line_of_kind r.lines well.own well.of_kind) written)

recording_again : (r : RecordingValue) → IsWellFormed r → recording_typed r ≡ true → notes_fit r ≡ true
    → recording_without_nul r ≡ true → log_of (log_data r) ≡ Ok r
unfolding log_of log_parts_of log_data recording_of recording_typed notes_fit recording_without_nul
recording_again r well typed fits plain =
    let f = and_parts (is_u32 r.from) _ typed in
    let t = and_parts (tree_typed r.first.tree) _ f.1 in
    let ts = and_parts (sessions_typed r.first.sessions) _ t.1 in
    let p = and_parts (tree_without_nul r.first.tree) _ plain in
    let ps = and_parts (sessions_without_nul r.first.sessions) _ p.1 in
    let lines = all_pass r well (all_written r.lines ts.1 fits ps.1) in
    rw (
      from_again r.from (lines_data r.lines) (sessions_data r.first.sessions) (tree_data r.first.tree) f.0 well.begins,
      tree_again r.first.tree (test_from_tree r.first.tree well.lawful.tree) t.0 p.0,
      sessions_again r.first.sessions (test_from_sessions r.first.sessions well.lawful.sessions) ts.0 ps.0,
      lines_again r.lines lines,
      well.rising,
      well.not_before,
      well.known,
      lines_allowed r.lines r.first well.allowed,
    ) refl

-- a text that is read as the value of a recording is its log
pub log_again : (text : List ℕ) (r : RecordingValue) → IsUtf8 text → read text ≡ Some (log_data r) → IsWellFormed r
    → recording_typed r ≡ true → notes_fit r ≡ true → recording_without_nul r ≡ true → log_in text ≡ Ok r
unfolding log_in
log_again text r utf8 is well typed fits plain =
    rw (is_utf8-from_IsUtf8 text utf8, is) (recording_again r well typed fits plain)
