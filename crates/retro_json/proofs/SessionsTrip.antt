-- Lawful sessions are read back from the value that they are written as.
use Rattle.std.proofs.Common.{◌≡◌, ◌∙◌, ℕ, ◌^◌, List, [], ◌∷◌, map, Bool, true, ◌&&◌, Result, Ok, nat_lt, nat_le}
use Rattle.std.proofs.Common.{refl, ap, arith}
use Rattle.std.specs.List.{list_all}
use Rattle.std.specs.Ordering.{nat_cmp}
use Rattle.std.specs.Cmp.{nat_cmp_total}
use Rattle.std.specs.FinMap as map
use Rattle.std.specs.FinMap.{entries_sorted, nat_cmp-IsAntisymmetric}
use Rattle.std.proofs.lemmas.Bool.{and_parts, leb-true, lt-ltb}
use Rattle.retro_tree.specs.Order.{text_cmp, text_total, text_exact}
use Rattle.retro_tree.specs.Limits.{are_lawful_sessions, session_fits, values_fit}
use Rattle.retro_tree.specs.declared.session.Session.{Session}
use Rattle.retro_json.specs.declared.fault.Part.{Part}
use Rattle.retro_json.specs.declared.fault.Part.TheVariants.{Sessions}
use Rattle.retro_json.specs.declared.fault.Refusal.{Refusal}
use Rattle.retro_json.specs.Keyed.{are_distinct, keys_of}
use Rattle.retro_json.specs.Shape.{Text, number_in}
use Rattle.retro_json.specs.SessionsPart.{entry_of, row_of, sessions_of, sessions_of_rows, var_of, vars_of}
use Rattle.retro_json.specs.Worst.{every}
use Rattle.retro_json.specs.Values.{number_data, var_data, vars_data, session_data, sessions_data}
use Rattle.retro_json.specs.NoNul.{session_without_nul, sessions_without_nul}
use Rattle.retro_json.specs.Typed.{is_u32, are_names, var_typed, vars_typed, session_typed, sessions_typed}
use Rattle.retro_json.proofs.Json.{item_list-items_of}
use Rattle.retro_json.proofs.KeyedTrip.{distinct, entries_again, map_again}
use Rattle.retro_json.proofs.Listed.{every_again, all_both, map_unchanged}
use Rattle.retro_json.proofs.PathTrip.{path_again}

pub number_again : (part : Part) (limit n : ℕ) → nat_lt n limit ≡ true → number_in part limit (number_data n) ≡ Ok n
number_again part limit n h = rw h refl

-- ---- variables

var_again : (e : Text × Text) → var_typed e ≡ true → var_of (var_data e) ≡ Ok e
unfolding var_of
var_again e h = rw h refl

vars_again : (vars : map.FinMap text_cmp Text) → vars_typed vars ≡ true → values_fit vars ≡ true
    → vars_of (vars_data vars) ≡ Ok vars
unfolding vars_of vars_data vars_typed
vars_again vars typed fit =
    let rows = every_again var_of var_data (λ e. e) var_typed var_again (map.entries vars) typed in
    let same = map_unchanged (map.entries vars) in
    rw (item_list-items_of (map var_data (map.entries vars)), rows, same, map_again text_total text_exact vars, fit)
    refl

-- ---- sessions

whole_row : ℕ × Session → ℕ × Result Session Refusal
whole_row e = (e.0, Ok e.1)

-- what is known of each session
passes : ℕ × Session → Bool
passes e = session_fits e && (session_typed e && session_without_nul e)

status_fits : (status : ℕ) → nat_le status 255 ≡ true → nat_lt status (2 ^ 8) ≡ true
status_fits status h = let le = leb-true status 255 h in lt-ltb status 256 (omega arith)

session_again : (e : ℕ × Session) → passes e ≡ true → row_of (session_data e) ≡ Ok (whole_row e)
unfolding row_of session_data session_typed passes whole_row
session_again e h =
    let a = and_parts (session_fits e) _ h in
    let b = and_parts (session_typed e) _ a.1 in
    let c = and_parts (is_u32 e.0) _ b.0 in
    let d = and_parts (are_names e.1.cwd) _ c.1 in
    let limits = and_parts (nat_le e.1.status 255) _ a.0 in
    let status = status_fits e.1.status limits.0 in
    rw (c.0, path_again Sessions e.1.cwd d.0 b.1, status, vars_again e.1.vars d.1 limits.1) refl

map_back_keys : (es : List (ℕ × Session)) → keys_of (map whole_row es) ≡ keys_of es
unfolding whole_row
map_back_keys [] = refl
map_back_keys (e ∷ es) = ap (λ ks. e.0 ∷ ks) (map_back_keys es)

rows_again : (es : List (ℕ × Session)) → every entry_of (map whole_row es) ≡ Ok es
unfolding every whole_row
rows_again [] = refl
rows_again (e ∷ es) = rw (rows_again es) refl

all_fit : (sessions : map.FinMap nat_cmp Session) → are_lawful_sessions sessions ≡ true
    → list_all session_fits (map.entries sessions) ≡ true
unfolding are_lawful_sessions
all_fit sessions lawful = lawful

pub sessions_again : (sessions : map.FinMap nat_cmp Session) → are_lawful_sessions sessions ≡ true
    → sessions_typed sessions ≡ true → sessions_without_nul sessions ≡ true
    → sessions_of (sessions_data sessions) ≡ Ok sessions
unfolding sessions_of sessions_of_rows sessions_data sessions_typed sessions_without_nul passes
sessions_again sessions lawful typed plain =
    let es = map.entries sessions in
    let good : list_all passes es ≡ true =
    all_both session_fits (λ e. session_typed e && session_without_nul e) es (all_fit sessions lawful)
    (all_both session_typed session_without_nul es typed plain) in
    let rows = every_again row_of session_data whole_row passes session_again es good in
    let keys : keys_of (map whole_row es) ≡ keys_of es = map_back_keys es in
    let apart : are_distinct nat_cmp (keys_of (map whole_row es)) ≡ true =
    ap (are_distinct nat_cmp) keys ∙ distinct nat_cmp es (entries_sorted sessions) in
    rw (
      item_list-items_of (map session_data es),
      rows,
      apart,
      rows_again es,
      entries_again nat_cmp_total nat_cmp-IsAntisymmetric sessions,
    ) refl
