-- The notes of a line are read back from the value that they are written as.
use Rattle.std.proofs.Common.{◌≡◌, ℕ, ◌==◌, List, [], ◌∷◌, length, map, Bool, true, ◌&&◌, Option, Some}
use Rattle.std.proofs.Common.{None, Result, Ok, nat_le, refl, sym, ap}
use Rattle.std.specs.List.{list_all}
use Rattle.std.proofs.lemmas.Bool.{and_parts, and_from, eqb-true, false≢true}
use Rattle.serde_json.specs.Data.{string}
use Rattle.retro_tree.specs.Name.{is_name}
use Rattle.retro_tree.specs.Path.{PathValue}
use Rattle.retro_tree.specs.VarName.{is_var_name}
use Rattle.retro_tree.specs.declared.ask.Ask.{Ask}
use Rattle.retro_tree.specs.declared.ask.Ask.TheVariants as asks
use Rattle.retro_tree.specs.declared.answer.Answer.{Answer}
use Rattle.retro_tree.specs.declared.answer.Answer.TheVariants as answers
use Rattle.retro_tree.specs.declared.change.Change.{Change}
use Rattle.retro_tree.specs.declared.change.Change.TheVariants as changes
use Rattle.retro_tree.specs.declared.kind.Kind.{Kind}
use Rattle.retro_tree.specs.declared.kind.Kind.TheVariants as kinds
use Rattle.retro_tree.specs.declared.node.Node.{Node}
use Rattle.retro_tree.specs.declared.node.Node.TheVariants as nodes
use Rattle.retro_tree.specs.declared.note.Note.{Note}
use Rattle.retro_tree.specs.declared.note.Note.TheVariants.{Asked, Made}
use Rattle.retro_tree.specs.declared.permit.Permit.{Permit}
use Rattle.retro_tree.specs.declared.permit.Permit.TheVariants as permits
use Rattle.retro_tree.specs.declared.user.User.{User}
use Rattle.retro_local.specs.Trace.{asked_session, changed_session, with_session, named_sessions}
use Rattle.retro_keep.specs.Recording.{is_of_kind, answers_are_of_kind, are_own}
use Rattle.retro_json.specs.declared.fault.Part.TheVariants.{Lines}
use Rattle.retro_json.specs.declared.fault.Refusal.{Refusal}
use Rattle.retro_json.specs.Worst.{every}
use Rattle.retro_json.specs.Shape.{Text}
use Rattle.retro_json.specs.LogFields.{or_null, hex_field, path_field, name_field, listing_field, kind_field}
use Rattle.retro_json.specs.LogFields.{permit_field}
use Rattle.retro_json.specs.LogFields.{file_field, node_field, user_field, var_field, value_field}
use Rattle.retro_json.specs.NotesPart.{tagged_note, note_of, notes_field}
use Rattle.retro_json.specs.Values.{hex_data}
use Rattle.retro_json.specs.NoteValues.{path_data, kind_text, permit_text, node_data, listing_data, user_data}
use Rattle.retro_json.specs.NoteValues.{value_data}
use Rattle.retro_json.specs.NoteValues.{answer_data, asked_data, change_data, note_data, notes_data}
use Rattle.retro_json.specs.Typed.{are_bytes, is_u32, are_names, node_typed, listing_typed, user_typed, answer_typed}
use Rattle.retro_json.specs.Typed.{ask_typed, change_typed, note_typed}
use Rattle.retro_json.specs.NoNul.{has_no_nul, have_no_nul, ask_without_nul, listing_without_nul, answer_without_nul}
use Rattle.retro_json.specs.NoNul.{change_without_nul, note_without_nul}
use Rattle.retro_json.specs.NoteLimits.{node_fits, value_fits, found_fits, answer_fits}
use Rattle.retro_json.specs.NoteLimits.{change_fits, note_fits}
use Rattle.retro_json.proofs.Json.{item_list-items_of}
use Rattle.retro_json.proofs.Listed.{all_both, every_again, map_unchanged}
use Rattle.retro_json.proofs.Names.{written, short}
use Rattle.retro_json.proofs.PathTrip.{path_again}
use Rattle.retro_json.proofs.TreeTrip.{hex_again}

-- ---- what notes are made of

path_field_again : (p : PathValue) → are_names p ≡ true → have_no_nul p ≡ true → path_field (path_data p) ≡ Ok p
path_field_again p names plain = path_again Lines p names plain

pub hex_field_again : (bytes : List ℕ) → are_bytes bytes ≡ true → hex_field (hex_data bytes) ≡ Ok bytes
hex_field_again bytes typed = rw (hex_again bytes typed) refl

kind_again : (kind : Kind) → kind_field (string (kind_text kind)) ≡ Ok kind
unfolding kind_field
kind_again kinds.Missing = refl
kind_again kinds.Dir = refl
kind_again kinds.File = refl

permit_again : (permit : Permit) → permit_field (string (permit_text permit)) ≡ Ok permit
unfolding permit_field
permit_again permits.Yes = refl
permit_again permits.NoParent = refl
permit_again permits.NotDir = refl
permit_again permits.IsDir = refl
permit_again permits.TooLarge = refl

file_again : (bytes : List ℕ) → are_bytes bytes ≡ true → nat_le (length bytes) 1048576 ≡ true
    → file_field (hex_data bytes) ≡ Ok (nodes.File bytes)
file_again bytes typed fits = rw (hex_again bytes typed) (rw fits refl)

node_again : (node : Node) → node_typed node ≡ true → node_fits node ≡ true → node_field (node_data node) ≡ Ok node
unfolding node_field node_data
node_again nodes.Missing typed fits = refl
node_again nodes.Dir typed fits = refl
node_again (nodes.File bytes) typed fits = file_again bytes typed fits

name_again : (name : Text) → is_name name && has_no_nul name ≡ true → name_field (string name) ≡ Ok name
name_again name h =
    let parts = and_parts (is_name name) (has_no_nul name) h in
    rw (written name parts.0 parts.1, short name parts.0) refl

listing_again : (names : Option (List Text)) → listing_typed names ≡ true → listing_without_nul names ≡ true
    → or_null listing_field (listing_data names) ≡ Ok names
unfolding listing_field listing_data
listing_again None typed plain = refl
listing_again (Some names) typed plain =
    let items = every_again name_field string (λ name. name) (λ name. is_name name && has_no_nul name) name_again names
    (all_both is_name has_no_nul names typed plain) in
    rw (item_list-items_of (map string names), items, map_unchanged names) refl

user_again : (user : Option User) → user_typed user ≡ true → or_null user_field (user_data user) ≡ Ok user
unfolding user_field user_data
user_again None typed = refl
user_again (Some user) typed = rw typed refl

var_field_again : (name : Text) → is_var_name name ≡ true → var_field (string name) ≡ Ok name
var_field_again name typed = rw typed refl

value_again : (value : Text) → value_fits value ≡ true → value_field (string value) ≡ Ok value
value_again value fits = rw fits refl

found_again : (value : Option Text) → found_fits value ≡ true → or_null value_field (value_data value) ≡ Ok value
found_again None fits = refl
found_again (Some value) fits = rw fits refl

-- ---- notes

-- whether a session, if one is named, is this one
abbrev is_own : ℕ → Option ℕ → Bool
is_own sid named = list_all (λ k. k == sid) (with_session named [])

re_own : (f : ℕ → Note) (k sid : ℕ) → is_own sid (Some k) ≡ true
    → ◌≡◌ {A = Result Note Refusal} (Ok (f sid)) (Ok (f k))
re_own f k sid own = ap (λ (j : ℕ). Ok (f j)) (sym (eqb-true k sid (and_parts (k == sid) true own).0))

asked_again : (sid : ℕ) (ask : Ask) (answer : Answer) → is_of_kind ask answer ≡ true
    → is_own sid (asked_session ask) ≡ true → ask_typed ask ≡ true → answer_typed answer ≡ true
    → answer_fits answer ≡ true → ask_without_nul ask ≡ true → answer_without_nul answer ≡ true
    → note_of sid (asked_data ask (answer_data answer)) ≡ Ok (Asked ask answer)
unfolding note_of tagged_note asked_data answer_data
asked_again sid (asks.Kind p) (answers.Kind kind) is own names typed fits plain clean =
    rw (path_field_again p names plain, kind_again kind) refl
asked_again sid (asks.Bytes p) (answers.Bytes node) is own names typed fits plain clean =
    rw (path_field_again p names plain, node_again node typed fits) refl
asked_again sid (asks.Names p) (answers.Names listing) is own names typed fits plain clean =
    rw (path_field_again p names plain, listing_again listing typed clean) refl
asked_again sid (asks.CanWrite p more) (answers.CanWrite permit) is own names typed fits plain clean =
    let parts = and_parts (are_names p) (is_u32 more) names in
    rw (path_field_again p parts.0 plain, parts.1, permit_again permit) refl
asked_again sid (asks.User name) (answers.User user) is own names typed fits plain clean =
    rw (user_again user typed) refl
asked_again sid (asks.VarOf k name) (answers.Var value) is own names typed fits plain clean =
    rw (var_field_again name names, found_again value fits)
    (re_own (λ j. Asked (asks.VarOf j name) (answers.Var value)) k sid own)
asked_again sid (asks.CwdOf k) (answers.Cwd p) is own names typed fits plain clean =
    rw (path_field_again p typed clean) (re_own (λ j. Asked (asks.CwdOf j) (answers.Cwd p)) k sid own)
asked_again sid (asks.StatusOf k) (answers.Status status) is own names typed fits plain clean =
    rw typed (re_own (λ j. Asked (asks.StatusOf j) (answers.Status status)) k sid own)
asked_again sid ask answer is own names typed fits plain clean = absurd (false≢true is)

change_again : (sid : ℕ) (change : Change) → is_own sid (changed_session change) ≡ true
    → change_typed change ≡ true → change_fits change ≡ true → change_without_nul change ≡ true
    → note_of sid (change_data change) ≡ Ok (Made change)
unfolding note_of tagged_note change_data
change_again sid (changes.Put p node) own typed fits plain =
    let parts = and_parts (are_names p) (node_typed node) typed in
    rw (path_field_again p parts.0 plain, node_again node parts.1 fits) refl
change_again sid (changes.Grow p bytes) own typed fits plain =
    let parts = and_parts (are_names p) (are_bytes bytes) typed in
    rw (path_field_again p parts.0 plain, hex_field_again bytes parts.1) refl
change_again sid (changes.SetVar k name value) own typed fits plain =
    rw (var_field_again name typed, value_again value fits)
    (re_own (λ j. Made (changes.SetVar j name value)) k sid own)
change_again sid (changes.SetCwd k p) own typed fits plain =
    rw (path_field_again p typed plain) (re_own (λ j. Made (changes.SetCwd j p)) k sid own)
change_again sid (changes.SetStatus k status) own typed fits plain =
    rw typed (re_own (λ j. Made (changes.SetStatus j status)) k sid own)

own_parts : (sid : ℕ) (named : Option ℕ) (sids : List ℕ)
    → list_all (λ k. k == sid) (with_session named sids) ≡ true
    → (is_own sid named ≡ true) × (list_all (λ k. k == sid) sids ≡ true)
own_parts sid None sids h = (refl, h)
own_parts sid (Some k) sids h =
    let parts = and_parts (k == sid) _ h in
    (and_from (k == sid) true parts.0 refl, parts.1)

items_again : (sid : ℕ) (notes : List Note) → answers_are_of_kind notes ≡ true → are_own sid notes ≡ true
    → list_all note_typed notes ≡ true → list_all note_fits notes ≡ true → list_all note_without_nul notes ≡ true
    → every (note_of sid) (map note_data notes) ≡ Ok notes
unfolding every named_sessions
items_again sid [] kinds own typed fits plain = refl
items_again sid (Asked ask answer ∷ notes) kinds own typed fits plain =
    let k = and_parts (is_of_kind ask answer) _ kinds in
    let o = own_parts sid (asked_session ask) (named_sessions notes) own in
    let t = and_parts (ask_typed ask && answer_typed answer) _ typed in
    let ts = and_parts (ask_typed ask) (answer_typed answer) t.0 in
    let f = and_parts (answer_fits answer) _ fits in
    let p = and_parts (ask_without_nul ask && answer_without_nul answer) _ plain in
    let ps = and_parts (ask_without_nul ask) (answer_without_nul answer) p.0 in
    rw (asked_again sid ask answer k.0 o.0 ts.0 ts.1 f.0 ps.0 ps.1, items_again sid notes k.1 o.1 t.1 f.1 p.1) refl
items_again sid (Made change ∷ notes) kinds own typed fits plain =
    let o = own_parts sid (changed_session change) (named_sessions notes) own in
    let t = and_parts (change_typed change) _ typed in
    let f = and_parts (change_fits change) _ fits in
    let p = and_parts (change_without_nul change) _ plain in
    rw (change_again sid change o.0 t.0 f.0 p.0, items_again sid notes kinds o.1 t.1 f.1 p.1) refl

pub notes_again : (sid : ℕ) (notes : List Note) → answers_are_of_kind notes ≡ true → are_own sid notes ≡ true
    → list_all note_typed notes ≡ true → list_all note_fits notes ≡ true → list_all note_without_nul notes ≡ true
    → notes_field sid (notes_data notes) ≡ Ok notes
unfolding notes_field notes_data
notes_again sid notes kinds own typed fits plain =
    rw (item_list-items_of (map note_data notes), items_again sid notes kinds own typed fits plain) refl
