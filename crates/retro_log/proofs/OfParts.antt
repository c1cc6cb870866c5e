-- A document is what its parts are.
use Rattle.std.proofs.Common.{◌≡◌, ℕ, ◌==◌, List, ◌∷◌, Bool, true, false, not, ◌&&◌, Option, Some, None}
use Rattle.std.proofs.Common.{Global, Result, Ok, Err, Vec, map, option_map, refl, sym, ap, subst, ◌∙◌}
use Rattle.std.specs.Prelude.{IfOk, codes, if◌then◌else◌, is_some, ok_or}
use Rattle.std.specs.FinMap.{FinMap}
use Rattle.std.specs.List.{list_all}
use Rattle.std.specs.Ordering.{nat_cmp}
use Rattle.serde_json.specs.Data.{Data, Members, object}
use Rattle.serde_json.specs.Find.{get_member}
use Rattle.retro_tree.specs.Path.{PathValue}
use Rattle.retro_tree.specs.Tree.{Tree}
use Rattle.retro_tree.specs.declared.entry.Entry.{Entry}
use Rattle.retro_tree.specs.declared.session.Session.{Session}
use Rattle.retro_tree.specs.declared.state.State.{State}
use Rattle.retro_keep.specs.Recording.{RecordingValue, is_line_of_kind, is_own_line}
use Rattle.retro_keep.specs.Script.{ScriptValue, script_of_lines}
use Rattle.retro_keep.specs.declared.noted.Noted.{Noted}
use Rattle.retro_keep.specs.declared.script.ScriptLine.{ScriptLine}
use Rattle.retro_json.specs.declared.fault.LogFault.{LogFault}
use Rattle.retro_json.specs.declared.fault.LogFault.TheVariants as faults
use Rattle.retro_json.specs.declared.fault.Part.TheVariants.{Document}
use Rattle.retro_json.specs.declared.fault.Refusal.{Refusal}
use Rattle.retro_json.specs.declared.fault.Refusal.TheVariants.{BadVersion, UnknownKey, WrongShape}
use Rattle.retro_json.specs.declared.reading.sessions.Row.{Row}
use Rattle.retro_json.specs.ReadsAs.{FailsAs, seen}
use Rattle.retro_json.specs.Shape.{Text}
use Rattle.retro_json.specs.Steps.{◌>>=◌, guard}
use Rattle.retro_json.specs.Rows.{session_rows, sessions_of_all, tree_of_rows, tree_rows}
use Rattle.retro_json.specs.Views.{row_view}
use Rattle.retro_json.proofs.InSteps.{sessions_in_steps, tree_in_steps}
use Rattle.retro_log.specs.Document.{from_key, has_keys, is_key, line_number_in, log_keys, log_from, log_of, log_parts_of}
use Rattle.retro_log.specs.Document.{recording_of, script_keys, script_of, script_version, state_of, version_in, with_refusal}
use Rattle.retro_log.specs.LinesPart.{line_of, lines_of}
use Rattle.retro_log.specs.LogLinesPart.{log_line_of, log_lines_of}
use Rattle.retro_log.specs.declared.reading.parts.Parts.{Parts as Read}
use Rattle.retro_log.specs.inner.Parts.{Parts, all_lines, first_of_parts, from_of_parts, log_of_parts, log_parts, part_at, parts_fit}
use Rattle.retro_log.specs.inner.Parts.{script_of_parts, script_parts, state_of_rows}
use Rattle.retro_log.specs.inner.PartsView.{parts_view}
use Rattle.retro_log.proofs.Fits.{lines_fit}
use Rattle.retro_log.proofs.Lines.{lines_by_worst}
use Rattle.retro_log.proofs.Parts.{parts_read}
use Rattle.retro_log.proofs.Puts.{keys_without}

-- ---- the first state

module _ {X Y T S : Type 0} (f : X → Result T Refusal) (g : Y → Result S Refusal) (make : T → S → State) where
  of_tree : (tree : Result T Refusal) (read : Result Y Refusal)
      → (tree >>= λ t. (read >>= g) >>= λ s. Ok (make t s)) ≡ (tree >>= λ t. read >>= λ y. g y >>= λ s. Ok (make t s))
  of_tree (Ok t) (Ok y) = refl
  of_tree (Ok t) (Err e) = refl
  of_tree (Err e) read = refl

  of_rows : (rows : Result X Refusal) (read : Result Y Refusal)
      → ((rows >>= f) >>= λ t. (read >>= g) >>= λ s. Ok (make t s))
      ≡ (rows >>= λ x. f x >>= λ t. read >>= λ y. g y >>= λ s. Ok (make t s))
  of_rows (Ok x) read = of_tree (f x) read
  of_rows (Err e) read = refl

made : Tree → FinMap nat_cmp Session → State
made tree sessions = record { tree = tree; sessions = sessions }

pub state_in_steps : (t s : Data)
    → state_of t s ≡ (tree_rows t >>= λ rows. state_of_rows rows (session_rows s))
unfolding made
state_in_steps t s =
    (λ i. tree_in_steps t i >>= λ tree. sessions_in_steps s i >>= λ sessions. Ok (made tree sessions))
    ∙ of_rows tree_of_rows sessions_of_all made (tree_rows t) (session_rows s)

-- ---- logs

abbrev pair : {L : Type 0} → State → L → State × L
pair first lines = (first, lines)

-- a recording's steps, however they are grouped
module _ {L : Type 0} (next : State → ℕ → L → Result RecordingValue Refusal) where
  of_lines : (from : ℕ) (first : Result State Refusal) (lines : Result L Refusal)
      → ((first >>= λ s. lines >>= λ ls. Ok (pair s ls)) >>= λ p. next p.0 from p.1)
      ≡ (first >>= λ s. lines >>= λ ls. next s from ls)
  of_lines from (Ok s) (Ok ls) = refl
  of_lines from (Ok s) (Err e) = refl
  of_lines from (Err e) lines = refl

  of_from : (from : Result ℕ Refusal) (first : Result State Refusal) (lines : Result L Refusal)
      → (from >>= λ n. (first >>= λ s. lines >>= λ ls. Ok (pair s ls)) >>= λ p. next p.0 n p.1)
      ≡ (from >>= λ n. first >>= λ s. lines >>= λ ls. next s n ls)
  of_from (Ok n) first lines = of_lines n first lines
  of_from (Err e) first lines = refl

  of_version : (version : Result ℕ Refusal) (f : ℕ → Result ℕ Refusal) (first : Result State Refusal)
      (lines : Result L Refusal)
      → ((version >>= f) >>= λ n. (first >>= λ s. lines >>= λ ls. Ok (pair s ls)) >>= λ p. next p.0 n p.1)
      ≡ (version >>= λ v. f v >>= λ n. first >>= λ s. lines >>= λ ls. next s n ls)
  of_version (Ok v) f first lines = of_from (f v) first lines
  of_version (Err e) f first lines = refl

-- where a log begins, by its member `from`
abbrev begins_at : Option Data → ℕ → Result ℕ Refusal
begins_at from version =
    if version == 1 then (guard (not (is_some from)) UnknownKey >>= λ unsaid. Ok 1)
    else if version == 2 then (ok_or from (WrongShape Document) >>= line_number_in)
    else Err BadVersion

begins_by_parts : (from : Option Data) (version : ℕ)
    → begins_at from version ≡ from_of_parts version (option_map line_number_in from)
begins_by_parts None version = refl
begins_by_parts (Some d) version = refl

-- a log, by the members at its keys
abbrev log_by : Bool → Option Data → Option Data → Option Data → Option Data → Option Data → Result RecordingValue Refusal
log_by known version from tree sessions lines =
    (((guard known UnknownKey
    >>= λ only. guard (is_some version && (is_some tree && (is_some sessions && (is_some lines && true)))) (WrongShape Document))
    >>= λ fit. ok_or version (WrongShape Document) >>= version_in) >>= begins_at from)
    >>= λ n. ((ok_or tree (WrongShape Document) >>= λ t. ok_or sessions (WrongShape Document) >>= λ s. state_of t s)
    >>= λ first. ok_or lines (WrongShape Document) >>= λ l. log_lines_of l >>= λ ls. Ok (pair first ls))
    >>= λ parts. recording_of parts.0 n parts.1

log_by_parts : (known : Bool) (version from tree sessions lines : Option Data)
    → log_by known version from tree sessions lines
    ≡ log_of_parts (parts_read log_line_of known version from tree sessions lines)
unfolding log_lines_of
log_by_parts false version from tree sessions lines = refl
log_by_parts true None from tree sessions lines = refl
log_by_parts true (Some v) from None sessions lines = refl
log_by_parts true (Some v) from (Some t) None lines = refl
log_by_parts true (Some v) from (Some t) (Some s) None = refl
log_by_parts true (Some v) from (Some t) (Some s) (Some l) =
    of_version recording_of (version_in v) (begins_at from) (state_of t s) (log_lines_of l)
    ∙ (λ i. version_in v >>= λ n. begins_by_parts from n i
    >>= λ begins. state_in_steps t s i >>= λ first. log_lines_of l >>= λ lines. recording_of first begins lines)

pub log_of_object : (ms : Members) → log_of (object ms) ≡ log_of_parts (log_parts ms)
unfolding log_of log_from log_parts_of
log_of_object ms =
    log_by_parts (has_keys (is_key (from_key ∷ log_keys)) ms) (get_member (codes "log") ms) (get_member from_key ms)
    (get_member (codes "tree") ms) (get_member (codes "sessions") ms) (get_member (codes "lines") ms)

-- ---- scripts

module _ {L : Type 0} (next : State → L → Result ScriptValue Refusal) where
  of_number : (number : Result ℕ Refusal) (first : Result State Refusal) (lines : Result L Refusal)
      → ((number >>= λ n. guard (n == script_version) BadVersion) >>= λ form. first >>= λ s. lines >>= next s)
      ≡ (number >>= λ n. guard (n == script_version) BadVersion >>= λ supported. first >>= λ s. lines >>= next s)
  of_number (Ok n) first lines = refl
  of_number (Err e) first lines = refl

abbrev script_by : Bool → Option Data → Option Data → Option Data → Option Data → Result ScriptValue Refusal
script_by known version tree sessions lines =
    ((guard known UnknownKey
    >>= λ only. guard (is_some version && (is_some tree && (is_some sessions && (is_some lines && true)))) (WrongShape Document))
    >>= λ fit. ok_or version (WrongShape Document)
    >>= λ v. version_in v >>= λ n. guard (n == script_version) BadVersion)
    >>= λ form. (ok_or tree (WrongShape Document) >>= λ t. ok_or sessions (WrongShape Document) >>= λ s. state_of t s)
    >>= λ first. ok_or lines (WrongShape Document)
    >>= λ l. lines_of l >>= λ ls. with_refusal (script_of_lines first ls)

script_by_parts : (known : Bool) (version from tree sessions lines : Option Data)
    → script_by (known && not (is_some from)) version tree sessions lines
    ≡ script_of_parts (parts_read line_of known version from tree sessions lines)
script_by_parts true version (Some f) tree sessions lines = refl
script_by_parts false version (Some f) tree sessions lines = refl
script_by_parts false version None tree sessions lines = refl
script_by_parts true None None tree sessions lines = refl
script_by_parts true (Some v) None None sessions lines = refl
script_by_parts true (Some v) None (Some t) None lines = refl
script_by_parts true (Some v) None (Some t) (Some s) None = refl
script_by_parts true (Some v) None (Some t) (Some s) (Some l) =
    of_number (λ first ls. with_refusal (script_of_lines first ls)) (version_in v) (state_of t s) (lines_of l)
    ∙ (λ i. version_in v >>= λ n. guard (n == script_version) BadVersion
    >>= λ supported. state_in_steps t s i >>= λ first. lines_by_worst l i >>= λ ls. with_refusal (script_of_lines first ls))

pub script_of_object : (ms : Members) → script_of (object ms) ≡ script_of_parts (script_parts ms)
unfolding script_of
script_of_object ms =
    let at : Text → Option Data = λ key. get_member key ms in
    (λ i. script_by (keys_without from_key (is_key script_keys) refl ms i) (at (codes "script")) (at (codes "tree"))
    (at (codes "sessions")) (at (codes "lines")))
    ∙ script_by_parts (has_keys (is_key (from_key ∷ script_keys)) ms) (at (codes "script")) (at from_key)
    (at (codes "tree")) (at (codes "sessions")) (at (codes "lines"))

-- ---- what is known of parts that were read

abbrev items : {T : Type 0} → Vec T Global → List T
items v = v.items

abbrev row_views : Vec Row Global → List (ℕ × Result Session Refusal)
row_views v = map row_view v.items

part_read : {A : Type 0} (read : Data → A) (member : Option Data) (part : A)
    → Some part ≡ option_map read member → (d : Data) × (part ≡ read d)
part_read read None part e = absurd (cc)
part_read {A = A} read (Some d) part e = (d, ap (value part) e)
  where
    value : A → Option A → A
    value x None = x
    value x (Some y) = y

-- a part that was read is that of a value
pub part_is_read : {V A : Type 0} (f : V → A) (read : Data → Result A Refusal) (part : Option (Result V Refusal))
    (member : Option Data) → option_map (seen f) part ≡ option_map read member
    → IfOk (part_at part) (λ v. (d : Data) × (Ok (f v) ≡ read d))
part_is_read f read None member e = tt
part_is_read f read (Some (Err refusal)) member e = tt
part_is_read f read (Some (Ok v)) member e = part_read read member (Ok (f v)) e

part_at_seen : {V A : Type 0} (f : V → A) (part : Option (Result V Refusal))
    → part_at (option_map (seen f) part) ≡ seen f (part_at part)
part_at_seen f None = refl
part_at_seen f (Some part) = refl

-- the rows of a tree that was read
pub tree_seen : {L : Type 0} (p : Read L) (rows : Vec (PathValue × Entry) Global) → Ok rows ≡ part_at p.tree
    → part_at (parts_view p).tree ≡ Ok rows.items
tree_seen p rows e = part_at_seen items p.tree ∙ ap (seen items) (sym e)

-- the rows of sessions that were read, or their refusal
pub sessions_seen : {L : Type 0} (p : Read L) (rows : Result (Vec Row Global) Refusal) → rows ≡ part_at p.sessions
    → part_at (parts_view p).sessions ≡ seen row_views rows
sessions_seen p rows e = part_at_seen row_views p.sessions ∙ ap (seen row_views) (sym e)

refused_then : {X Y : Type 0} (fault : LogFault) (read : Result X Refusal) (next : X → Result Y Refusal)
    → FailsAs fault read → FailsAs fault (read >>= next)
refused_then faults.NoMem read next h = tt
refused_then (faults.Refused refusal) read next h = ap (λ r. r >>= next) h

-- a first state that is refused
module _ {L : Type 0} (p : Parts L) (rows : List (PathValue × Entry))
    (others : Result (List (ℕ × Result Session Refusal)) Refusal) (fault : LogFault)
    (tree : part_at p.tree ≡ Ok rows) (sessions : part_at p.sessions ≡ others)
    (h : FailsAs fault (state_of_rows rows others)) where
  first_refused : {Y : Type 0} (next : State → Result Y Refusal) → FailsAs fault (first_of_parts p >>= next)
  first_refused next =
      refused_then fault (first_of_parts p) next (rw (tree, sessions) h)

-- a log whose first state is refused
pub log_first_refused : (p : Parts (ℕ × Noted)) (number begin : ℕ) (rows : List (PathValue × Entry))
    (others : Result (List (ℕ × Result Session Refusal)) Refusal) (fault : LogFault)
    → part_at p.tree ≡ Ok rows → part_at p.sessions ≡ others → FailsAs fault (state_of_rows rows others)
    → Ok tt ≡ parts_fit p → Ok number ≡ part_at p.version → Ok begin ≡ from_of_parts number p.from
    → FailsAs fault (log_of_parts p)
log_first_refused p number begin rows others fault tree sessions h fit version from =
    let next : State → Result RecordingValue Refusal =
    λ first. part_at p.lines >>= λ lines. recording_of first begin lines in
    let steps : log_of_parts p ≡ (first_of_parts p >>= next) = rw (sym fit, sym version, sym from) refl in
    subst (FailsAs fault) (sym steps) (first_refused p rows others fault tree sessions h next)

-- a script whose first state is refused
pub script_first_refused : (p : Parts ScriptLine) (number : ℕ) (rows : List (PathValue × Entry))
    (others : Result (List (ℕ × Result Session Refusal)) Refusal) (fault : LogFault)
    → part_at p.tree ≡ Ok rows → part_at p.sessions ≡ others → FailsAs fault (state_of_rows rows others)
    → is_some p.from ≡ false → Ok tt ≡ parts_fit p → Ok number ≡ part_at p.version → (number == script_version) ≡ true
    → FailsAs fault (script_of_parts p)
script_first_refused p number rows others fault tree sessions h unsaid fit version supported =
    let next : State → Result ScriptValue Refusal =
    λ first. part_at p.lines >>= λ lines. with_refusal (script_of_lines first lines) in
    let steps : script_of_parts p ≡ (first_of_parts p >>= next) =
    rw (unsaid, sym fit, sym version, supported) refl in
    subst (FailsAs fault) (sym steps) (first_refused p rows others fault tree sessions h next)

-- lines that were read fit a recording
pub noted_fit : (p : Read (ℕ × Noted)) (ms : Members) (lines : Vec (ℕ × Noted) Global)
    → parts_view p ≡ log_parts ms → Ok lines ≡ part_at p.lines
    → (list_all is_own_line lines.items ≡ true) × (list_all is_line_of_kind lines.items ≡ true)
unfolding log_lines_of
noted_fit p ms lines is e =
    let read = part_is_read items (all_lines log_line_of) p.lines (get_member (codes "lines") ms) (ap (λ q. q.lines) is) in
    let found : (d : Data) × (Ok lines.items ≡ log_lines_of d) =
    subst (λ r. IfOk r (λ v. (d : Data) × (Ok (items v) ≡ log_lines_of d))) (sym e) read in
    lines_fit found.0 lines.items found.1
