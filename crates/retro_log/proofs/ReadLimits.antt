-- The notes of a recording that was read keep the limits that it was read with.
use Rattle.std.proofs.Common.{◌≡◌, ℕ, List, [], ◌∷◌, length, Bool, true, false, cond, Some, None}
use Rattle.std.proofs.Common.{Result, Ok}
use Rattle.std.proofs.Common.{Err, nat_le, refl, subst, codes, ◌⊎◌, inl, inr}
use Rattle.std.specs.Prelude.{bytes_eq, is_some, ok_or}
use Rattle.std.specs.List.{list_all}
use Rattle.std.proofs.lemmas.Bool.{and_from}
use Rattle.serde_json.specs.Data.{Data}
use Rattle.serde_json.specs.Find.{as_null}
use Rattle.retro_tree.specs.Node.{file_limit}
use Rattle.retro_tree.specs.declared.node.Node.TheVariants as nodes
use Rattle.retro_tree.specs.declared.note.Note.{Note}
use Rattle.retro_tree.specs.declared.state.State.{State}
use Rattle.retro_keep.specs.Recording.{RecordingValue, IsRecordingOf, IsWellFormed, script_in}
use Rattle.retro_keep.specs.RecordingFault.{numbers_rise, sessions_exist}
use Rattle.retro_keep.specs.declared.noted.Noted.{Noted}
use Rattle.retro_json.specs.declared.fault.Part.TheVariants.{Lines}
use Rattle.retro_json.specs.declared.fault.Refusal.{Refusal}
use Rattle.retro_json.specs.declared.fault.Refusal.TheVariants.{OverLimit, NumbersNotRising, UnknownSession, LawlessTree}
use Rattle.retro_json.specs.declared.fault.Refusal.TheVariants.{NotJson}
use Rattle.retro_json.specs.Steps.{◌>>=◌, guard}
use Rattle.retro_json.specs.Worst.{both, every}
use Rattle.retro_json.specs.Shape.{Text, cells, text_in, u32_in, u8_in}
use Rattle.retro_log.specs.LinesPart.{head_of}
use Rattle.retro_json.specs.LogFields.{wrong, or_null, hex_field, path_field, listing_field, kind_field, permit_field}
use Rattle.retro_json.specs.LogFields.{file_field, tagged_node, node_cells, node_field, user_field, var_field}
use Rattle.retro_json.specs.LogFields.{value_field}
use Rattle.retro_json.specs.NotesPart.{kind_cells, bytes_cells, names_cells, can_write_cells, user_note_cells, var_cells}
use Rattle.retro_json.specs.NotesPart.{cwd_cells, status_cells, put_cells, grow_cells, set_var_cells, set_cwd_cells}
use Rattle.retro_json.specs.NotesPart.{set_status_cells, tagged_note, note_cells, note_of, notes_field}
use Rattle.retro_log.specs.LogLinesPart.{with_run, log_line_cells, log_line_of, log_lines_of}
use Rattle.retro_log.specs.Allowed.{are_lines_allowed}
use Rattle.retro_log.specs.Document.{member_at, first_of, json_of, recording_of, log_from, log_parts_of, log_of}
use Rattle.retro_log.specs.Document.{log_in}
use Rattle.retro_json.specs.NoteLimits.{node_fits, value_fits, found_fits, note_fits}
use Rattle.retro_json.specs.NoteLimits.{line_fits, notes_fit}
use Rattle.retro_log.specs.RoundTrip.{WasRead}
use Rattle.retro_json.proofs.RecordedLimits.{recorded_fits}

-- ---- reading that gives what passes a test, if it isn't refused

abbrev Gives : {A : Type 0} → (A → Bool) → Result A Refusal → Type 0
Gives test (Ok x) = test x ≡ true
Gives test (Err e) = Unit {0}

given : {A : Type 0} (test : A → Bool) (read : Result A Refusal) (x : A) → read ≡ Ok x → Gives test read
    → test x ≡ true
given test read x is h = subst (Gives test) is h

then_gives : {A B : Type 0} (test : B → Bool) (read : Result A Refusal) (next : A → Result B Refusal)
    → ((x : A) → read ≡ Ok x → Gives test (next x)) → Gives test (read >>= next)
then_gives test (Ok x) next h = h x refl
then_gives test (Err e) next h = tt

-- of two branches
either_gives : {A : Type 0} (test : A → Bool) (b : Bool) (one two : Result A Refusal) → Gives test one
    → Gives test two → Gives test (cond b one two)
either_gives test true one two first second = first
either_gives test false one two first second = second

-- what is read after a test that holds
guard_gives : {A : Type 0} (test : A → Bool) (b : Bool) (e : Refusal) (read : Result A Refusal)
    → (b ≡ true → Gives test read) → Gives test (guard b e >>= λ u. read)
guard_gives test true e read h = h refl
guard_gives test false e read h = tt

same_ok : {A : Type 0} (x y : A) → ◌≡◌ {A = Result A Refusal} (Ok x) (Ok y) → x ≡ y
same_ok x y h = cc

both_parts : {A B : Type 0} (one : Result A Refusal) (two : Result B Refusal) (p : A × B) → both one two ≡ Ok p
    → (one ≡ Ok p.0) × (two ≡ Ok p.1)
both_parts (Ok x) (Ok y) p h =
    let same = same_ok (x, y) p h in
    (λ i. Ok (same i).0, λ i. Ok (same i).1)
both_parts (Ok x) (Err e) p h = absurd (cc)
both_parts (Err e) (Ok y) p h = absurd (cc)
both_parts (Err e) (Err f) p h = absurd (cc)

every_gives : {A B : Type 0} (test : B → Bool) (f : A → Result B Refusal) → ((x : A) → Gives test (f x))
    → (xs : List A) → Gives (list_all test) (every f xs)
unfolding every
every_gives test f one [] = refl
every_gives {B = B} test f one (x ∷ xs) =
    then_gives (list_all test) (both (f x) (every f xs)) (λ (p : B × List B). Ok (p.0 ∷ p.1)) (λ p is.
    let parts = both_parts (f x) (every f xs) p is in
    and_from (test p.0) (list_all test p.1) (given test (f x) p.0 parts.0 (one x))
    (given (list_all test) (every f xs) p.1 parts.1 (every_gives test f one xs)))

-- ---- nodes and values

value_gives : (d : Data) → Gives value_fits (value_field d)
value_gives d =
    then_gives value_fits (text_in Lines d) (λ value. guard (value_fits value) OverLimit >>= λ u. Ok value)
    (λ value is. guard_gives value_fits (value_fits value) OverLimit (Ok value) (λ fits. fits))

found_gives : (d : Data) → Gives found_fits (or_null value_field d)
found_gives d =
    either_gives found_fits (is_some (as_null d)) (Ok None) (value_field d >>= λ value. Ok (Some value)) refl
    (then_gives found_fits (value_field d) (λ value. Ok (Some value))
    (λ value is. given value_fits (value_field d) value is (value_gives d)))

file_gives : (d : Data) → Gives node_fits (file_field d)
file_gives d =
    then_gives node_fits (hex_field d)
    (λ bytes. guard (nat_le (length bytes) file_limit) OverLimit >>= λ u. Ok (nodes.File bytes))
    (λ bytes is. guard_gives node_fits (nat_le (length bytes) file_limit) OverLimit (Ok (nodes.File bytes))
    (λ fits. fits))

tagged_node_gives : (tag : Text) (rest : List Data) → Gives node_fits (tagged_node tag rest)
tagged_node_gives tag [] = either_gives node_fits (bytes_eq tag (codes "d")) (Ok nodes.Dir) wrong refl tt
tagged_node_gives tag (h ∷ []) =
    either_gives node_fits (bytes_eq tag (codes "f")) (file_field h) wrong (file_gives h) tt
tagged_node_gives tag (h ∷ d ∷ rest) = tt

node_gives : (d : Data) → Gives node_fits (node_field d)
unfolding node_field
node_gives d = then_gives node_fits (cells Lines d) node_cells (λ ds is. of_cells ds)
  where
    of_cells : (ds : List Data) → Gives node_fits (node_cells ds)
    of_cells [] = refl
    of_cells (t ∷ rest) =
        then_gives node_fits (text_in Lines t) (λ tag. tagged_node tag rest) (λ tag is. tagged_node_gives tag rest)

-- ---- notes, by their tag

kind_gives : (rest : List Data) → Gives note_fits (kind_cells rest)
kind_gives (p ∷ k ∷ []) = then_gives note_fits (both (path_field p) (kind_field k)) _ (λ x is. refl)
kind_gives _ = tt

bytes_gives : (rest : List Data) → Gives note_fits (bytes_cells rest)
bytes_gives (p ∷ n ∷ []) =
    then_gives note_fits (both (path_field p) (node_field n)) _
    (λ x is. given node_fits (node_field n) x.1 (both_parts (path_field p) (node_field n) x is).1 (node_gives n))
bytes_gives _ = tt

names_gives : (rest : List Data) → Gives note_fits (names_cells rest)
names_gives (p ∷ ns ∷ []) = then_gives note_fits (both (path_field p) (or_null listing_field ns)) _ (λ x is. refl)
names_gives _ = tt

can_write_gives : (rest : List Data) → Gives note_fits (can_write_cells rest)
can_write_gives (p ∷ n ∷ w ∷ []) =
    then_gives note_fits (both (path_field p) (both (u32_in Lines n) (permit_field w))) _ (λ x is. refl)
can_write_gives _ = tt

user_gives : (rest : List Data) → Gives note_fits (user_note_cells rest)
user_gives (n ∷ u ∷ []) = then_gives note_fits (both (text_in Lines n) (or_null user_field u)) _ (λ x is. refl)
user_gives _ = tt

var_gives : (sid : ℕ) (rest : List Data) → Gives note_fits (var_cells sid rest)
var_gives sid (n ∷ v ∷ []) =
    then_gives note_fits (both (var_field n) (or_null value_field v)) _
    (λ x is. given found_fits (or_null value_field v) x.1 (both_parts (var_field n) (or_null value_field v) x is).1
    (found_gives v))
var_gives sid _ = tt

cwd_gives : (sid : ℕ) (rest : List Data) → Gives note_fits (cwd_cells sid rest)
cwd_gives sid (p ∷ []) = then_gives note_fits (path_field p) _ (λ x is. refl)
cwd_gives sid _ = tt

status_gives : (sid : ℕ) (rest : List Data) → Gives note_fits (status_cells sid rest)
status_gives sid (n ∷ []) = then_gives note_fits (u8_in Lines n) _ (λ x is. refl)
status_gives sid _ = tt

put_gives : (rest : List Data) → Gives note_fits (put_cells rest)
put_gives (p ∷ n ∷ []) =
    then_gives note_fits (both (path_field p) (node_field n)) _
    (λ x is. given node_fits (node_field n) x.1 (both_parts (path_field p) (node_field n) x is).1 (node_gives n))
put_gives _ = tt

grow_gives : (rest : List Data) → Gives note_fits (grow_cells rest)
grow_gives (p ∷ h ∷ []) = then_gives note_fits (both (path_field p) (hex_field h)) _ (λ x is. refl)
grow_gives _ = tt

set_var_gives : (sid : ℕ) (rest : List Data) → Gives note_fits (set_var_cells sid rest)
set_var_gives sid (n ∷ v ∷ []) =
    then_gives note_fits (both (var_field n) (value_field v)) _
    (λ x is. given value_fits (value_field v) x.1 (both_parts (var_field n) (value_field v) x is).1 (value_gives v))
set_var_gives sid _ = tt

set_cwd_gives : (sid : ℕ) (rest : List Data) → Gives note_fits (set_cwd_cells sid rest)
set_cwd_gives sid (p ∷ []) = then_gives note_fits (path_field p) _ (λ x is. refl)
set_cwd_gives sid _ = tt

set_status_gives : (sid : ℕ) (rest : List Data) → Gives note_fits (set_status_cells sid rest)
set_status_gives sid (n ∷ []) = then_gives note_fits (u8_in Lines n) _ (λ x is. refl)
set_status_gives sid _ = tt

-- as a record, so that the notes read are told from its type
record Fits (read : Result Note Refusal) : Type 0 where
  gives : Gives note_fits read

fits : (read : Result Note Refusal) → Gives note_fits read → Fits read
fits read h = record { gives = h }

either_fits : {one two : Result Note Refusal} (b : Bool) → Fits one → Fits two → Fits (cond b one two)
either_fits true first second = first
either_fits false first second = second

tagged_fits : (sid : ℕ) (tag : Text) (rest : List Data) → Fits (tagged_note sid tag rest)
unfolding tagged_note
tagged_fits sid tag rest =
    either_fits (bytes_eq tag (codes "kind")) (fits (kind_cells rest) (kind_gives rest))
    (either_fits (bytes_eq tag (codes "bytes")) (fits (bytes_cells rest) (bytes_gives rest))
    (either_fits (bytes_eq tag (codes "names")) (fits (names_cells rest) (names_gives rest))
    (either_fits (bytes_eq tag (codes "canwrite")) (fits (can_write_cells rest) (can_write_gives rest))
    (either_fits (bytes_eq tag (codes "user")) (fits (user_note_cells rest) (user_gives rest))
    (either_fits (bytes_eq tag (codes "var")) (fits (var_cells sid rest) (var_gives sid rest))
    (either_fits (bytes_eq tag (codes "cwd")) (fits (cwd_cells sid rest) (cwd_gives sid rest))
    (either_fits (bytes_eq tag (codes "status")) (fits (status_cells sid rest) (status_gives sid rest))
    (either_fits (bytes_eq tag (codes "put")) (fits (put_cells rest) (put_gives rest))
    (either_fits (bytes_eq tag (codes "grow")) (fits (grow_cells rest) (grow_gives rest))
    (either_fits (bytes_eq tag (codes "setvar")) (fits (set_var_cells sid rest) (set_var_gives sid rest))
    (either_fits (bytes_eq tag (codes "setcwd")) (fits (set_cwd_cells sid rest) (set_cwd_gives sid rest))
    (either_fits (bytes_eq tag (codes "setstatus")) (fits (set_status_cells sid rest) (set_status_gives sid rest))
    (fits wrong tt)))))))))))))

note_gives : (sid : ℕ) (d : Data) → Gives note_fits (note_of sid d)
unfolding note_of
note_gives sid d = then_gives note_fits (cells Lines d) (note_cells sid) (λ ds is. of_cells ds)
  where
    of_cells : (ds : List Data) → Gives note_fits (note_cells sid ds)
    of_cells [] = tt
    of_cells (t ∷ rest) =
        then_gives note_fits (text_in Lines t) (λ tag. tagged_note sid tag rest)
        (λ tag is. (tagged_fits sid tag rest).gives)

notes_give : (sid : ℕ) (d : Data) → Gives (list_all note_fits) (notes_field sid d)
unfolding notes_field
notes_give sid d =
    then_gives (list_all note_fits) (cells Lines d) (every (note_of sid))
    (λ ds is. every_gives note_fits (note_of sid) (note_gives sid) ds)

-- ---- lines and logs

line_gives : (d : Data) → Gives line_fits (log_line_of d)
unfolding log_line_of
line_gives d = then_gives line_fits (cells Lines d) log_line_cells (λ ds is. of_cells ds)
  where
    of_cells : (ds : List Data) → Gives line_fits (log_line_cells ds)
    of_cells (n ∷ s ∷ t ∷ ns ∷ o ∷ []) =
        then_gives line_fits (head_of n s t) (λ head. with_run head ns o) (λ head is.
        then_gives line_fits (both (notes_field head.sid ns) (hex_field o)) _ (λ x parts.
        given (list_all note_fits) (notes_field head.sid ns) x.0
        (both_parts (notes_field head.sid ns) (hex_field o) x parts).0 (notes_give head.sid ns)))
    of_cells _ = tt

lines_give : (d : Data) → Gives (list_all line_fits) (log_lines_of d)
unfolding log_lines_of
lines_give d =
    then_gives (list_all line_fits) (cells Lines d) (every log_line_of)
    (λ ds is. every_gives line_fits log_line_of line_gives ds)

recording_gives : (first : State) (from : ℕ) (lines : List (ℕ × Noted)) → list_all line_fits lines ≡ true
    → Gives notes_fit (recording_of first from lines)
unfolding recording_of notes_fit
recording_gives first from lines h =
    guard_gives notes_fit (numbers_rise from lines) NumbersNotRising _ (λ rising.
    guard_gives notes_fit (sessions_exist first lines) UnknownSession _ (λ known.
    guard_gives notes_fit (are_lines_allowed lines first) LawlessTree _ (λ allowed. h)))

parts_fit : State × List (ℕ × Noted) → Bool
parts_fit parts = list_all line_fits parts.1

parts_give : (d : Data) → Gives parts_fit (log_parts_of d)
unfolding log_parts_of parts_fit
parts_give d =
    then_gives parts_fit (first_of d) _ (λ first is.
    then_gives parts_fit (member_at (codes "lines") d) _ (λ lines_data is.
    then_gives parts_fit (log_lines_of lines_data) _ (λ lines read.
    given (list_all line_fits) (log_lines_of lines_data) lines read (lines_give lines_data))))

log_gives : (d : Data) → Gives notes_fit (log_of d)
unfolding log_of parts_fit
log_gives d =
    then_gives notes_fit (log_from d) (λ from. log_parts_of d >>= λ parts. recording_of parts.0 from parts.1)
    (λ from begins.
    then_gives notes_fit (log_parts_of d) (λ parts. recording_of parts.0 from parts.1) (λ parts is.
    recording_gives parts.0 from parts.1 (given parts_fit (log_parts_of d) parts is (parts_give d))))

text_gives : (bytes : List ℕ) → Gives notes_fit (log_in bytes)
unfolding log_in
text_gives bytes = then_gives notes_fit (ok_or (json_of bytes) NotJson) log_of (λ d is. log_gives d)

pub read_fits : (r : RecordingValue) → WasRead r → notes_fit r ≡ true
read_fits r was = given notes_fit (log_in was.bytes) r was.read (text_gives was.bytes)

-- a recording that is that of a script or was read
pub fits_again : (r : RecordingValue) → IsWellFormed r → IsRecordingOf (script_in r) r ⊎ WasRead r
    → notes_fit r ≡ true
fits_again r well (inl is) = recorded_fits r well is
fits_again r well (inr was) = read_fits r was
