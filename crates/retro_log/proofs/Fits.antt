-- Notes as they are read: they name only their line's session, and answers are of their queries'
-- kinds.
use Rattle.std.proofs.Common.{◌≡◌, ℕ, ◌==◌, Bool, true, false, ◌&&◌, List, [], ◌∷◌, Option, Some, None, Result, Ok, Err}
use Rattle.std.proofs.Common.{refl, sym, subst, eq-eqb}
use Rattle.std.specs.Prelude.{IfOk, codes, bytes_eq, if◌then◌else◌}
use Rattle.std.specs.List.{list_all}
use Rattle.serde_json.specs.Data.{Data}
use Rattle.retro_tree.specs.declared.ask.Ask.TheVariants as asks
use Rattle.retro_tree.specs.declared.answer.Answer.TheVariants as answers
use Rattle.retro_tree.specs.declared.change.Change.TheVariants as changes
use Rattle.retro_tree.specs.declared.note.Note.{Note}
use Rattle.retro_tree.specs.declared.note.Note.TheVariants.{Asked, Made}
use Rattle.retro_local.specs.Trace.{asked_session, changed_session, named_sessions, with_session}
use Rattle.retro_keep.specs.Recording.{answers_are_of_kind, are_own, is_line_of_kind, is_of_kind, is_own_line}
use Rattle.retro_keep.specs.declared.noted.Noted.{Noted}
use Rattle.retro_keep.specs.declared.script.ScriptLine.{ScriptLine}
use Rattle.retro_json.specs.declared.fault.Part.TheVariants.{Lines}
use Rattle.retro_json.specs.declared.fault.Refusal.{Refusal}
use Rattle.retro_json.specs.Steps.{◌>>=◌}
use Rattle.retro_json.specs.Worst.{both, every}
use Rattle.retro_json.specs.Shape.{Text, cells, text_in, u32_in, u8_in}
use Rattle.retro_log.specs.LinesPart.{head_of}
use Rattle.retro_json.specs.LogFields.{hex_field, kind_field, listing_field, node_field, or_null, path_field}
use Rattle.retro_json.specs.LogFields.{permit_field, user_field, value_field, var_field}
use Rattle.retro_json.specs.NotesPart.{bytes_cells, can_write_cells, cwd_cells, grow_cells, kind_cells, names_cells}
use Rattle.retro_json.specs.NotesPart.{note_cells, note_of, notes_field, put_cells, set_cwd_cells, set_status_cells}
use Rattle.retro_json.specs.NotesPart.{set_var_cells, status_cells, tagged_note, user_note_cells, var_cells}
use Rattle.retro_log.specs.LogLinesPart.{log_line_cells, log_line_of, log_lines_of, with_run}

-- ---- what holds of all that is read

then_holds : {A B : Type 0} (P : B → Type 0) (r : Result A Refusal) (f : A → B) → ((x : A) → P (f x))
    → IfOk (r >>= λ x. Ok (f x)) P
then_holds P (Ok x) f h = h x
then_holds P (Err e) f h = tt

bind_holds : {A B : Type 0} (P : B → Type 0) (r : Result A Refusal) (f : A → Result B Refusal)
    → ((x : A) → IfOk (f x) P) → IfOk (r >>= f) P
bind_holds P (Ok x) f h = h x
bind_holds P (Err e) f h = tt

both_holds : {A B C : Type 0} (P : A → Type 0) (Q : C → Type 0) (r : Result A Refusal) (s : Result B Refusal)
    (f : A × B → C)
    → ((x : A) (y : B) → P x → Q (f (x, y))) → IfOk r P → IfOk (both r s >>= λ p. Ok (f p)) Q
both_holds P Q (Ok x) (Ok y) f h holds = h x y holds
both_holds P Q (Ok x) (Err e) f h holds = tt
both_holds P Q (Err e) (Ok y) f h holds = tt
both_holds P Q (Err e) (Err g) f h holds = tt

if_holds : {A : Type 0} (P : A → Type 0) (b : Bool) (x y : Result A Refusal) → IfOk x P → IfOk y P
    → IfOk (if b then x else y) P
if_holds P true x y h g = h
if_holds P false x y h g = g

before_holds : {B : Type 0} (P : B → Type 0) (Q : List B → Type 0) → ((y : B) (ys : List B) → P y → Q ys → Q (y ∷ ys))
    → (r : Result B Refusal) (rs : Result (List B) Refusal)
    → IfOk r P → IfOk rs Q → IfOk (both r rs >>= λ p. Ok (p.0 ∷ p.1)) Q
before_holds P Q more (Ok y) (Ok ys) h g = more y ys h g
before_holds P Q more (Ok y) (Err e) h g = tt
before_holds P Q more (Err e) (Ok ys) h g = tt
before_holds P Q more (Err e) (Err f) h g = tt

every_holds : {A B : Type 0} (P : B → Type 0) (Q : List B → Type 0) (f : A → Result B Refusal) → Q []
    → ((y : B) (ys : List B) → P y → Q ys → Q (y ∷ ys))
    → ((x : A) → IfOk (f x) P) → (xs : List A) → IfOk (every f xs) Q
unfolding every
every_holds P Q f none more one [] = none
every_holds P Q f none more one (x ∷ xs) =
    before_holds P Q more (f x) (every f xs) (one x) (every_holds P Q f none more one xs)

-- ---- notes

-- all notes name no other session, and all answers are of their queries' kinds
abbrev AllFit : ℕ → List Note → Type 0
AllFit sid notes = (are_own sid notes ≡ true) × (answers_are_of_kind notes ≡ true)

abbrev Fits : ℕ → Note → Type 0
Fits sid note = AllFit sid (note ∷ [])

own_alone : (sid : ℕ) → list_all (λ k. k == sid) (sid ∷ []) ≡ true
own_alone sid = rw (eq-eqb sid sid refl) refl

and_more : (a b : Bool) → a && true ≡ true → b ≡ true → a && b ≡ true
and_more true b h g = g
and_more false b h g = h

own_more : (sid : ℕ) (named : Option ℕ) (sids : List ℕ) → list_all (λ k. k == sid) (with_session named []) ≡ true
    → list_all (λ k. k == sid) sids ≡ true → list_all (λ k. k == sid) (with_session named sids) ≡ true
own_more sid None sids h g = g
own_more sid (Some k) sids h g = and_more (k == sid) (list_all (λ k. k == sid) sids) h g

more_fit : (sid : ℕ) (note : Note) (notes : List Note) → Fits sid note → AllFit sid notes → AllFit sid (note ∷ notes)
unfolding named_sessions
more_fit sid (Asked a r) notes h g = (
  own_more sid (asked_session a) (named_sessions notes) h.0 g.0,
  and_more (is_of_kind a r) (answers_are_of_kind notes) h.1 g.1,
)
more_fit sid (Made c) notes h g = (own_more sid (changed_session c) (named_sessions notes) h.0 g.0, g.1)

kind_fits : (sid : ℕ) (ds : List Data) → IfOk (kind_cells ds) (Fits sid)
unfolding named_sessions
kind_fits sid (p ∷ k ∷ []) =
    then_holds (Fits sid) (both (path_field p) (kind_field k)) (λ x. Asked (asks.Kind x.0) (answers.Kind x.1))
    (λ x. (refl, refl))
kind_fits sid _ = tt

bytes_fits : (sid : ℕ) (ds : List Data) → IfOk (bytes_cells ds) (Fits sid)
unfolding named_sessions
bytes_fits sid (p ∷ n ∷ []) =
    then_holds (Fits sid) (both (path_field p) (node_field n)) (λ x. Asked (asks.Bytes x.0) (answers.Bytes x.1))
    (λ x. (refl, refl))
bytes_fits sid _ = tt

names_fits : (sid : ℕ) (ds : List Data) → IfOk (names_cells ds) (Fits sid)
unfolding named_sessions
names_fits sid (p ∷ ns ∷ []) =
    then_holds (Fits sid) (both (path_field p) (or_null listing_field ns))
    (λ x. Asked (asks.Names x.0) (answers.Names x.1)) (λ x. (refl, refl))
names_fits sid _ = tt

can_write_fits : (sid : ℕ) (ds : List Data) → IfOk (can_write_cells ds) (Fits sid)
unfolding named_sessions
can_write_fits sid (p ∷ n ∷ w ∷ []) =
    then_holds (Fits sid) (both (path_field p) (both (u32_in Lines n) (permit_field w)))
    (λ x. Asked (asks.CanWrite x.0 x.1.0) (answers.CanWrite x.1.1)) (λ x. (refl, refl))
can_write_fits sid _ = tt

user_fits : (sid : ℕ) (ds : List Data) → IfOk (user_note_cells ds) (Fits sid)
unfolding named_sessions
user_fits sid (n ∷ u ∷ []) =
    then_holds (Fits sid) (both (text_in Lines n) (or_null user_field u))
    (λ x. Asked (asks.User x.0) (answers.User x.1)) (λ x. (refl, refl))
user_fits sid _ = tt

var_fits : (sid : ℕ) (ds : List Data) → IfOk (var_cells sid ds) (Fits sid)
unfolding named_sessions
var_fits sid (n ∷ v ∷ []) =
    then_holds (Fits sid) (both (var_field n) (or_null value_field v))
    (λ x. Asked (asks.VarOf sid x.0) (answers.Var x.1)) (λ x. (own_alone sid, refl))
var_fits sid _ = tt

cwd_fits : (sid : ℕ) (ds : List Data) → IfOk (cwd_cells sid ds) (Fits sid)
unfolding named_sessions
cwd_fits sid (p ∷ []) =
    then_holds (Fits sid) (path_field p) (λ x. Asked (asks.CwdOf sid) (answers.Cwd x)) (λ x. (own_alone sid, refl))
cwd_fits sid _ = tt

status_fits : (sid : ℕ) (ds : List Data) → IfOk (status_cells sid ds) (Fits sid)
unfolding named_sessions
status_fits sid (n ∷ []) =
    then_holds (Fits sid) (u8_in Lines n) (λ x. Asked (asks.StatusOf sid) (answers.Status x))
    (λ x. (own_alone sid, refl))
status_fits sid _ = tt

put_fits : (sid : ℕ) (ds : List Data) → IfOk (put_cells ds) (Fits sid)
unfolding named_sessions
put_fits sid (p ∷ n ∷ []) =
    then_holds (Fits sid) (both (path_field p) (node_field n)) (λ x. Made (changes.Put x.0 x.1)) (λ x. (refl, refl))
put_fits sid _ = tt

grow_fits : (sid : ℕ) (ds : List Data) → IfOk (grow_cells ds) (Fits sid)
unfolding named_sessions
grow_fits sid (p ∷ h ∷ []) =
    then_holds (Fits sid) (both (path_field p) (hex_field h)) (λ x. Made (changes.Grow x.0 x.1)) (λ x. (refl, refl))
grow_fits sid _ = tt

set_var_fits : (sid : ℕ) (ds : List Data) → IfOk (set_var_cells sid ds) (Fits sid)
unfolding named_sessions
set_var_fits sid (n ∷ v ∷ []) =
    then_holds (Fits sid) (both (var_field n) (value_field v)) (λ x. Made (changes.SetVar sid x.0 x.1))
    (λ x. (own_alone sid, refl))
set_var_fits sid _ = tt

set_cwd_fits : (sid : ℕ) (ds : List Data) → IfOk (set_cwd_cells sid ds) (Fits sid)
unfolding named_sessions
set_cwd_fits sid (p ∷ []) =
    then_holds (Fits sid) (path_field p) (λ x. Made (changes.SetCwd sid x)) (λ x. (own_alone sid, refl))
set_cwd_fits sid _ = tt

set_status_fits : (sid : ℕ) (ds : List Data) → IfOk (set_status_cells sid ds) (Fits sid)
unfolding named_sessions
set_status_fits sid (n ∷ []) =
    then_holds (Fits sid) (u8_in Lines n) (λ x. Made (changes.SetStatus sid x)) (λ x. (own_alone sid, refl))
set_status_fits sid _ = tt

tagged_fits : (sid : ℕ) (tag : Text) (ds : List Data) → IfOk (tagged_note sid tag ds) (Fits sid)
unfolding tagged_note
tagged_fits sid tag ds =
    if_holds (Fits sid) (bytes_eq tag (codes "kind")) _ _ (kind_fits sid ds)
    (if_holds (Fits sid) (bytes_eq tag (codes "bytes")) _ _ (bytes_fits sid ds)
    (if_holds (Fits sid) (bytes_eq tag (codes "names")) _ _ (names_fits sid ds)
    (if_holds (Fits sid) (bytes_eq tag (codes "canwrite")) _ _ (can_write_fits sid ds)
    (if_holds (Fits sid) (bytes_eq tag (codes "user")) _ _ (user_fits sid ds)
    (if_holds (Fits sid) (bytes_eq tag (codes "var")) _ _ (var_fits sid ds)
    (if_holds (Fits sid) (bytes_eq tag (codes "cwd")) _ _ (cwd_fits sid ds)
    (if_holds (Fits sid) (bytes_eq tag (codes "status")) _ _ (status_fits sid ds)
    (if_holds (Fits sid) (bytes_eq tag (codes "put")) _ _ (put_fits sid ds)
    (if_holds (Fits sid) (bytes_eq tag (codes "grow")) _ _ (grow_fits sid ds)
    (if_holds (Fits sid) (bytes_eq tag (codes "setvar")) _ _ (set_var_fits sid ds)
    (if_holds (Fits sid) (bytes_eq tag (codes "setcwd")) _ _ (set_cwd_fits sid ds)
    (if_holds (Fits sid) (bytes_eq tag (codes "setstatus")) _ _ (set_status_fits sid ds) tt))))))))))))

note_cells_fit : (sid : ℕ) (ds : List Data) → IfOk (note_cells sid ds) (Fits sid)
note_cells_fit sid [] = tt
note_cells_fit sid (t ∷ rest) =
    bind_holds (Fits sid) (text_in Lines t) (λ tag. tagged_note sid tag rest) (λ tag. tagged_fits sid tag rest)

note_fits : (sid : ℕ) (d : Data) → IfOk (note_of sid d) (Fits sid)
unfolding note_of
note_fits sid d = bind_holds (Fits sid) (cells Lines d) (note_cells sid) (note_cells_fit sid)

notes_fit : (sid : ℕ) (d : Data) → IfOk (notes_field sid d) (AllFit sid)
unfolding notes_field named_sessions
notes_fit sid d =
    bind_holds (AllFit sid) (cells Lines d) (every (note_of sid))
    (every_holds (Fits sid) (AllFit sid) (note_of sid) (refl, refl) (more_fit sid) (note_fits sid))

-- ---- lines

abbrev LineFits : ℕ × Noted → Type 0
LineFits l = (is_own_line l ≡ true) × (is_line_of_kind l ≡ true)

abbrev pub LinesFit : List (ℕ × Noted) → Type 0
LinesFit lines = (list_all is_own_line lines ≡ true) × (list_all is_line_of_kind lines ≡ true)

and_both : (a b : Bool) → a ≡ true → b ≡ true → a && b ≡ true
and_both a b h g = rw (h, g) refl

more_lines_fit : (l : ℕ × Noted) (lines : List (ℕ × Noted)) → LineFits l → LinesFit lines → LinesFit (l ∷ lines)
more_lines_fit l lines h g = (
  and_both (is_own_line l) (list_all is_own_line lines) h.0 g.0,
  and_both (is_line_of_kind l) (list_all is_line_of_kind lines) h.1 g.1,
)

run_fits : (ns o : Data) (head : ScriptLine) → IfOk (with_run head ns o) LineFits
run_fits ns o head =
    both_holds (AllFit head.sid) LineFits (notes_field head.sid ns) (hex_field o)
    (λ p. (head.number, record { sid = head.sid; text = head.text; notes = p.0; output = p.1 })) (λ notes output h. h)
    (notes_fit head.sid ns)

line_cells_fit : (ds : List Data) → IfOk (log_line_cells ds) LineFits
line_cells_fit (n ∷ s ∷ t ∷ ns ∷ o ∷ []) =
    bind_holds LineFits (head_of n s t) (λ head. with_run head ns o) (run_fits ns o)
line_cells_fit _ = tt

line_fits : (d : Data) → IfOk (log_line_of d) LineFits
unfolding log_line_of
line_fits d = bind_holds LineFits (cells Lines d) log_line_cells line_cells_fit

lines_hold : (d : Data) → IfOk (log_lines_of d) LinesFit
unfolding log_lines_of
lines_hold d =
    bind_holds LinesFit (cells Lines d) (every log_line_of)
    (every_holds LineFits LinesFit log_line_of (refl, refl) more_lines_fit line_fits)

pub lines_fit : (d : Data) (lines : List (ℕ × Noted)) → Ok lines ≡ log_lines_of d → LinesFit lines
lines_fit d lines is = subst (λ r. IfOk r LinesFit) (sym is) (lines_hold d)
