-- The sessions that are read are lawful.
use Rattle.std.proofs.Common.{◌≡◌, ◌∙◌, ℕ, ◌^◌, Bool, true, false, cond, List, [], ◌∷◌, Option, Some, None}
use Rattle.std.proofs.Common.{Result, Ok, Err, nat_le, nat_lt, refl, sym, ap, arith, subst}
use Rattle.std.specs.Prelude.{IfOk, ok_or, option_and_then}
use Rattle.std.specs.List.{list_all}
use Rattle.std.specs.Ordering.{eq_by_cmp, nat_cmp}
use Rattle.std.specs.Cmp.{nat_cmp_total}
use Rattle.std.specs.FinMap.{FinMap, find, from_entries, get-from_entries}
use Rattle.std.proofs.lemmas.Bool.{and_from, and_parts, le-leb, leb-true, ltb-true}
use Rattle.serde_json.specs.Data.{Data}
use Rattle.retro_tree.specs.Limits.{AreLawfulSessions, IsLawfulSession, are_lawful_sessions, session_fits, values_fit}
use Rattle.retro_tree.specs.Order.{text_cmp}
use Rattle.retro_tree.specs.Path.{PathValue}
use Rattle.retro_tree.specs.declared.session.Session.{Session}
use Rattle.retro_tree.proofs.Small.{some_same}
use Rattle.retro_tree.proofs.WholeLaw.{test_from_sessions, values_from_test}
use Rattle.retro_json.specs.declared.fault.Part.{Part}
use Rattle.retro_json.specs.declared.fault.Part.TheVariants.{Sessions}
use Rattle.retro_json.specs.declared.fault.Refusal.{Refusal}
use Rattle.retro_json.specs.declared.fault.Refusal.TheVariants.{OverLimit, WrongShape}
use Rattle.retro_json.specs.Keyed.{are_distinct, keys_of, map_of}
use Rattle.retro_json.specs.PathText.{path_in}
use Rattle.retro_json.specs.SessionsPart.{entry_of, row_cells, row_of, session_in, sessions_of, sessions_of_rows}
use Rattle.retro_json.specs.SessionsPart.{var_of, vars_of, vars_of_entries}
use Rattle.retro_json.specs.Shape.{Text, below, cells, u32_in, u8_in, unsigned_in}
use Rattle.retro_json.specs.Steps.{◌>>=◌, guard}
use Rattle.retro_json.specs.Worst.{both, every}

then_holds : {A B : Type 0} (P : B → Type 0) (read : Result A Refusal) (next : A → Result B Refusal)
    → ((x : A) → IfOk read (λ y. x ≡ y) → IfOk (next x) P) → IfOk (read >>= next) P
then_holds P (Ok x) next h = h x refl
then_holds P (Err e) next h = tt

guard_holds : {B : Type 0} (P : B → Type 0) (b : Bool) (e : Refusal) (read : Result B Refusal)
    → (b ≡ true → IfOk read P) → IfOk (guard b e >>= λ u. read) P
guard_holds P true e read h = h refl
guard_holds P false e read h = tt

every_holds : {A B : Type 0} (test : B → Bool) (f : A → Result B Refusal) → ((x : A) → IfOk (f x) (λ y. test y ≡ true))
    → (xs : List A) → IfOk (every f xs) (λ ys. list_all test ys ≡ true)
unfolding every
every_holds test f one [] = refl
every_holds test f one (x ∷ xs) = before (f x) (every f xs) (one x) (every_holds test f one xs)
  where
    before : (r : Result _ Refusal) (rest : Result (List _) Refusal) → IfOk r (λ y. test y ≡ true)
        → IfOk rest (λ ys. list_all test ys ≡ true)
        → IfOk (both r rest >>= λ p. Ok (p.0 ∷ p.1)) (λ ys. list_all test ys ≡ true)
    before (Ok y) (Ok ys) h g = and_from (test y) _ h g
    before (Ok y) (Err e) h g = tt
    before (Err e) (Ok ys) h g = tt
    before (Err e) (Err g) h k = tt

-- ---- rows

abbrev row_fits : ℕ × Result Session Refusal → Bool
row_fits (sid, Ok session) = session_fits (sid, session)
row_fits (sid, Err e) = true

status_fits : (part : Part) (d : Data) → IfOk (u8_in part d) (λ n. nat_le n 255 ≡ true)
status_fits part d = at_number (unsigned_in d)
  where
    at_test : (n : ℕ) (b : Bool) → nat_lt n (2 ^ 8) ≡ b
        → IfOk (ok_or (cond b (Some n) None) (WrongShape part)) (λ n. nat_le n 255 ≡ true)
    at_test n true h = let lt = ltb-true n 256 h in le-leb n 255 (omega arith)
    at_test n false h = tt

    at_number : (o : Option ℕ) → IfOk (ok_or (option_and_then (below (2 ^ 8)) o) (WrongShape part))
        (λ n. nat_le n 255 ≡ true)
    at_number None = tt
    at_number (Some n) = at_test n (nat_lt n (2 ^ 8)) refl

abbrev VarsFit : FinMap text_cmp Text → Type 0
VarsFit vars = values_fit vars ≡ true

entries_fit : (entries : List (Text × Text)) → IfOk (vars_of_entries entries) VarsFit
entries_fit entries =
    then_holds VarsFit (ok_or (map_of text_cmp entries) (WrongShape Sessions))
    (λ vars. guard (values_fit vars) OverLimit >>= λ u. Ok vars)
    (λ vars is. guard_holds VarsFit (values_fit vars) OverLimit (Ok vars) (λ fit. fit))

vars_fit : (d : Data) → IfOk (vars_of d) VarsFit
unfolding vars_of
vars_fit d =
    then_holds VarsFit (cells Sessions d) (λ items. every var_of items >>= vars_of_entries)
    (λ items is. then_holds VarsFit (every var_of items) vars_of_entries (λ entries are. entries_fit entries))

parts_fit : (sid : ℕ) (cwd : Result PathValue Refusal) (status : Result ℕ Refusal)
    (vars : Result (FinMap text_cmp Text) Refusal)
    → IfOk status (λ n. nat_le n 255 ≡ true) → IfOk vars (λ vs. values_fit vs ≡ true)
    → row_fits (
      sid,
      (both cwd (both status vars)
          >>= λ p. Ok (record { cwd = p.0; vars = p.1.1; status = p.1.0 })),
    ) ≡ true
parts_fit sid (Ok cwd) (Ok status) (Ok vars) h g = and_from (nat_le status 255) _ h g
parts_fit sid (Ok cwd) (Ok status) (Err e) h g = refl
parts_fit sid (Ok cwd) (Err e) (Ok vars) h g = refl
parts_fit sid (Ok cwd) (Err e) (Err f) h g = refl
parts_fit sid (Err d) (Ok status) (Ok vars) h g = refl
parts_fit sid (Err d) (Ok status) (Err e) h g = refl
parts_fit sid (Err d) (Err e) (Ok vars) h g = refl
parts_fit sid (Err d) (Err e) (Err f) h g = refl

abbrev RowFits : ℕ × Result Session Refusal → Type 0
RowFits row = row_fits row ≡ true

cells_fit : (items : List Data) → IfOk (row_cells items) RowFits
cells_fit (n ∷ p ∷ s ∷ v ∷ []) =
    then_holds RowFits (u32_in Sessions n) (λ sid. Ok (sid, session_in p s v))
    (λ sid is. parts_fit sid (path_in Sessions p) (u8_in Sessions s) (vars_of v) (status_fits Sessions s) (vars_fit v))
cells_fit [] = tt
cells_fit (a ∷ []) = tt
cells_fit (a ∷ b ∷ []) = tt
cells_fit (a ∷ b ∷ c ∷ []) = tt
cells_fit (a ∷ b ∷ c ∷ d ∷ e ∷ rest) = tt

rows_fit : (d : Data) → IfOk (row_of d) RowFits
unfolding row_of
rows_fit d = then_holds RowFits (cells Sessions d) row_cells (λ items is. cells_fit items)

-- ---- sessions

before_fits : (sid : ℕ) (one : Result Session Refusal) (rest : Result (List (ℕ × Session)) Refusal)
    → row_fits (sid, one) ≡ true → IfOk rest (λ es. list_all session_fits es ≡ true)
    → IfOk (both (entry_of (sid, one)) rest >>= λ p. Ok (p.0 ∷ p.1)) (λ es. list_all session_fits es ≡ true)
before_fits sid (Ok s) (Ok es) h g = and_from (session_fits (sid, s)) _ h g
before_fits sid (Ok s) (Err e) h g = tt
before_fits sid (Err e) (Ok es) h g = tt
before_fits sid (Err e) (Err f) h g = tt

entries_of_rows : (rows : List (ℕ × Result Session Refusal)) → list_all row_fits rows ≡ true
    → IfOk (every entry_of rows) (λ es. list_all session_fits es ≡ true)
unfolding every
entries_of_rows [] h = refl
entries_of_rows (r ∷ rows) h =
    let parts = and_parts (row_fits r) (list_all row_fits rows) h in
    before_fits r.0 r.1 (every entry_of rows) parts.0 (entries_of_rows rows parts.1)

found_fits : (sid : ℕ) (es : List (ℕ × Session)) → list_all session_fits es ≡ true
    → (session : Session) → find nat_cmp sid es ≡ Some session → session_fits (sid, session) ≡ true
found_fits sid [] h session is = absurd (cc)
found_fits sid (e ∷ es) h session is =
    let parts = and_parts (session_fits e) (list_all session_fits es) h in
    at_first parts.0 (found_fits sid es parts.1 session) (eq_by_cmp nat_cmp sid e.0) is
  where
    at_first : session_fits e ≡ true
        → (find nat_cmp sid es ≡ Some session → session_fits (sid, session) ≡ true) → (b : Bool)
        → cond b (Some e.1) (find nat_cmp sid es) ≡ Some session → session_fits (sid, session) ≡ true
    at_first fits others true same = ap (λ s. session_fits (sid, s)) (sym (some_same e.1 session same)) ∙ fits
    at_first fits others false later = others later

lawful_session : (sid : ℕ) (session : Session) → session_fits (sid, session) ≡ true → IsLawfulSession session
lawful_session sid session h =
    let parts = and_parts (nat_le session.status 255) (values_fit session.vars) h in
    record {
      status = leb-true session.status 255 parts.0;
      values = values_from_test session.vars parts.1;
    }

lawful_entries : (es : List (ℕ × Session)) → list_all session_fits es ≡ true
    → are_lawful_sessions (from_entries es) ≡ true
unfolding AreLawfulSessions
lawful_entries es h =
    test_from_sessions (from_entries es) (λ sid session is. lawful_session sid session
    (found_fits sid es h session (sym (get-from_entries nat_cmp_total es sid) ∙ is)))

abbrev AreLawful : FinMap nat_cmp Session → Type 0
AreLawful sessions = are_lawful_sessions sessions ≡ true

lawful_rows : (rows : List (ℕ × Result Session Refusal)) → list_all row_fits rows ≡ true
    → IfOk (sessions_of_rows rows) AreLawful
unfolding sessions_of_rows
lawful_rows rows h = at_read (every entry_of rows) (entries_of_rows rows h)
  where
    at_read : (read : Result (List (ℕ × Session)) Refusal) → IfOk read (λ es. list_all session_fits es ≡ true)
        → IfOk (read >>= λ es. Ok (from_entries es)) AreLawful
    at_read (Ok es) g = lawful_entries es g
    at_read (Err e) g = tt

read_lawful : (d : Data) → IfOk (sessions_of d) AreLawful
unfolding sessions_of
read_lawful d =
    then_holds AreLawful (cells Sessions d) of_items (λ items is. at_rows (every row_of items)
    (every_holds row_fits row_of rows_fit items))
  where
    of_rows : List (ℕ × Result Session Refusal) → Result (FinMap nat_cmp Session) Refusal
    of_rows rows = guard (are_distinct nat_cmp (keys_of rows)) (WrongShape Sessions) >>= λ u. sessions_of_rows rows

    of_items : List Data → Result (FinMap nat_cmp Session) Refusal
    of_items items = every row_of items >>= of_rows

    at_rows : (read : Result (List (ℕ × Result Session Refusal)) Refusal)
        → IfOk read (λ rows. list_all row_fits rows ≡ true) → IfOk (read >>= of_rows) AreLawful
    at_rows (Ok rows) h =
        guard_holds AreLawful (are_distinct nat_cmp (keys_of rows)) (WrongShape Sessions) (sessions_of_rows rows)
        (λ u. lawful_rows rows h)
    at_rows (Err e) h = tt

pub lawful_as_read : (d : Data) (sessions : FinMap nat_cmp Session) → Ok sessions ≡ sessions_of d
    → are_lawful_sessions sessions ≡ true
lawful_as_read d sessions is = subst (λ read. IfOk read AreLawful) (sym is) (read_lawful d)
