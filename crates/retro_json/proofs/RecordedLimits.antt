-- The notes of a recording of a script keep the limits that a log is read with.
use Rattle.std.proofs.Common.{◌≡◌, ◌∙◌, ℕ, ◌≤◌, List, [], ◌∷◌, length, true, Option, Some, None, refl}
use Rattle.std.proofs.Common.{sym, ap}
use Rattle.std.specs.List.{list_all}
use Rattle.std.specs.Option.{unwrap_or}
use Rattle.std.specs.FinMap as map
use Rattle.std.specs.FinMap.{get-empty}
use Rattle.std.proofs.lemmas.Bool.{and_from, le-leb}
use Rattle.retro_tree.specs.Order.{text_cmp}
use Rattle.retro_tree.specs.Path.{parent_of}
use Rattle.retro_tree.specs.Node.{file_limit, size_of}
use Rattle.retro_tree.specs.Tree.{node_in}
use Rattle.retro_tree.specs.Session.{default_session}
use Rattle.retro_tree.specs.Limits.{IsLawfulSession, AreLawfulSessions}
use Rattle.retro_tree.specs.Lawful.{IsLawful, law_at}
use Rattle.retro_tree.specs.Ask.{answer}
use Rattle.retro_tree.specs.Change.{apply, may_make}
use Rattle.retro_tree.specs.Notes.{after, Holds, AllAllowed}
use Rattle.retro_tree.specs.declared.ask.Ask.{Ask}
use Rattle.retro_tree.specs.declared.ask.Ask.TheVariants as asks
use Rattle.retro_tree.specs.declared.change.Change.{Change}
use Rattle.retro_tree.specs.declared.change.Change.TheVariants as changes
use Rattle.retro_tree.specs.declared.node.Node.{Node}
use Rattle.retro_tree.specs.declared.node.Node.TheVariants as nodes
use Rattle.retro_tree.specs.declared.note.Note.{Note}
use Rattle.retro_tree.specs.declared.note.Note.TheVariants.{Asked, Made}
use Rattle.retro_tree.specs.declared.session.Session.{Session}
use Rattle.retro_tree.specs.declared.state.State.{State}
use Rattle.retro_tree.proofs.Small.{first_true}
use Rattle.retro_tree.proofs.WholeLaw.{limits_of_lawful, size_under_law}
use Rattle.retro_tree.proofs.Allowed.{whole}
use Rattle.retro_tree.proofs.NoteLaws.{lawful_after}
use Rattle.retro_keep.specs.Recording.{RecordingValue, AllLinesAllowed, AllRecorded, IsWellFormed, IsRecordingOf}
use Rattle.retro_keep.specs.Recording.{script_in}
use Rattle.retro_keep.specs.declared.noted.Noted.{Noted}
use Rattle.retro_json.specs.Shape.{Text}
use Rattle.retro_json.specs.NoteLimits.{node_fits, found_fits, answer_fits, change_fits}
use Rattle.retro_json.specs.NoteLimits.{note_fits, line_fits, notes_fit}

-- ---- answers of a lawful state

fits_by_size : (node : Node) → size_of node ≤ file_limit → node_fits node ≡ true
fits_by_size nodes.Missing h = refl
fits_by_size nodes.Dir h = refl
fits_by_size (nodes.File bytes) h = le-leb (length bytes) file_limit h

found_fits_by : (found : Option Text) → ((value : Text) → found ≡ Some value → length value ≤ 65536)
    → found_fits found ≡ true
found_fits_by None h = refl
found_fits_by (Some value) h = le-leb (length value) 65536 (h value refl)

var_fits : (session : Option Session) (name : Text)
    → ((found : Session) → session ≡ Some found → IsLawfulSession found)
    → found_fits (map.get (unwrap_or session default_session).vars name) ≡ true
unfolding default_session
var_fits None name h = ap found_fits (get-empty text_cmp name)
var_fits (Some session) name h =
    found_fits_by (map.get session.vars name) (λ value is. (h session refl).values name value is)

answer_fits_by_law : (ask : Ask) (s : State) → IsLawful s → answer_fits (answer ask s) ≡ true
unfolding answer AreLawfulSessions
answer_fits_by_law (asks.Kind p) s lawful = refl
answer_fits_by_law (asks.Bytes p) s lawful =
    fits_by_size (node_in p s.tree) ((limits_of_lawful s lawful).files p)
answer_fits_by_law (asks.Names p) s lawful = refl
answer_fits_by_law (asks.CanWrite p more) s lawful = refl
answer_fits_by_law (asks.User name) s lawful = refl
answer_fits_by_law (asks.VarOf sid name) s lawful =
    var_fits (map.get s.sessions sid) name (λ found is. lawful.sessions sid found is)
answer_fits_by_law (asks.CwdOf sid) s lawful = refl
answer_fits_by_law (asks.StatusOf sid) s lawful = refl

-- ---- lawful changes

change_fits_by_test : (c : Change) (s : State) → may_make c s ≡ true → change_fits c ≡ true
unfolding may_make
change_fits_by_test (changes.Put p node) s h =
    let law : law_at p node (node_in (parent_of p) s.tree) ≡ true = first_true _ _ h in
    fits_by_size node (size_under_law p node (node_in (parent_of p) s.tree) law)
change_fits_by_test (changes.Grow p bytes) s h = refl
change_fits_by_test (changes.SetVar sid name value) s h = h
change_fits_by_test (changes.SetCwd sid p) s h = refl
change_fits_by_test (changes.SetStatus sid status) s h = refl

-- ---- notes, lines and recordings

-- what held and was lawful in a lawful state
pub all_fit : (notes : List Note) (s : State) → IsLawful s → Holds notes s → AllAllowed notes s
    → list_all note_fits notes ≡ true
all_fit [] s lawful holds allowed = refl
all_fit (Asked ask noted ∷ notes) s lawful holds allowed =
    and_from (answer_fits noted) _ (ap answer_fits (sym holds.0) ∙ answer_fits_by_law ask s lawful)
    (all_fit notes s lawful holds.1 allowed)
all_fit (Made c ∷ notes) s lawful holds allowed =
    and_from (change_fits c) _ (change_fits_by_test c s (whole c s allowed.0))
    (all_fit notes (apply c s) allowed.0.after holds allowed.1)

lines_fit : (lines : List (ℕ × Noted)) (s : State) → IsLawful s → AllRecorded lines s → AllLinesAllowed lines s
    → list_all line_fits lines ≡ true
lines_fit [] s lawful recorded allowed = refl
lines_fit (l ∷ lines) s lawful recorded allowed =
    and_from (line_fits l) _ (all_fit l.1.notes s lawful recorded.0.holds allowed.0)
    (lines_fit lines (after l.1.notes s) (lawful_after l.1.notes s lawful allowed.0) recorded.1 allowed.1)

pub recorded_fits : (r : RecordingValue) → IsWellFormed r → IsRecordingOf (script_in r) r → notes_fit r ≡ true
unfolding notes_fit
recorded_fits r well is = lines_fit r.lines r.first well.lawful is.recorded well.allowed
