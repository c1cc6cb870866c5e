-- A change writes its own cell, and leaves every other cell unchanged.
use Rattle.std.proofs.Common.{◌≡◌, ◌≢◌, ℕ, List, refl, sym, ap, ◌∙◌, nat_cmp, ⊎_elim}
use Rattle.std.proofs.lemmas.Bool.{cases_eq}
use Rattle.std.specs.FinMap as map
use Rattle.std.specs.FinMap.{FinMap}
use Rattle.retro_tree.specs.Order.{text_total, text_exact}
use Rattle.retro_tree.specs.Maps.{update}
use Rattle.retro_tree.specs.Node.{grown}
use Rattle.retro_tree.specs.Tree.{node_in}
use Rattle.retro_tree.specs.Session.{default_session, session_in, with_var, with_cwd, with_status}
use Rattle.retro_tree.specs.Cell.{value}
use Rattle.retro_tree.specs.Change.{apply, cell_of, written}
use Rattle.retro_tree.specs.declared.session.Session.{Session}
use Rattle.retro_tree.specs.declared.cell.Cell.{Cell}
use Rattle.retro_tree.specs.declared.cell.Cell.TheVariants as cells
use Rattle.retro_tree.specs.declared.value.Value.TheVariants as values
use Rattle.retro_tree.specs.declared.change.Change.{Change}
use Rattle.retro_tree.specs.declared.change.Change.TheVariants as changes
use Rattle.retro_tree.specs.declared.state.State.{State}
use Rattle.retro_tree.proofs.Lookups.{get_inserted, get_inserted_apart, node_put, node_put_apart, session_updated}
use Rattle.retro_tree.proofs.Lookups.{session_updated_apart}

pub value_changed : (change : Change) (s : State) → value (cell_of change) (apply change s)
    ≡ written change (value (cell_of change) s)
unfolding value apply
value_changed (changes.Put p node) s = ap values.Node (node_put p node s.tree)
value_changed (changes.Grow p bytes) s = ap values.Node (node_put p _ s.tree)
value_changed (changes.SetVar sid name text) s =
    ap (λ (t : Session). values.Text (map.get t.vars name)) (session_updated s.sessions sid (with_var name text))
    ∙ ap values.Text (get_inserted text_total (session_in sid s.sessions).vars name text)
value_changed (changes.SetCwd sid p) s =
    ap (λ (t : Session). values.Cwd t.cwd) (session_updated s.sessions sid (with_cwd p))
value_changed (changes.SetStatus sid status) s =
    ap (λ (t : Session). values.Status t.status) (session_updated s.sessions sid (with_status status))

-- a field of a session that the update leaves alone
pub kept : {A : Type 0} (read : Session → A) (m : FinMap nat_cmp Session) (sid other : ℕ) (f : Session
    → Session) → ((t : Session) → read (f t) ≡ read t)
    → read (session_in other (update m sid default_session f)) ≡ read (session_in other m)
kept read m sid other f same =
    ⊎_elim
    (λ e. ap (λ k. read (session_in k (update m sid default_session f))) e ∙ ap read (session_updated m sid f)
    ∙ same _ ∙ ap (λ k. read (session_in k m)) (sym e))
    (λ ne. ap read (session_updated_apart m sid other f ne))
    (cases_eq other sid)

var_kept : (m : FinMap nat_cmp Session) (sid other : ℕ) (name q text : List ℕ) → (other ≡ sid → q ≢ name)
    → map.get (session_in other (update m sid default_session (with_var name text))).vars q
    ≡ map.get (session_in other m).vars q
var_kept m sid other name q text h =
    ⊎_elim
    (λ e. ap (λ k. map.get (session_in k (update m sid default_session (with_var name text))).vars q) e
    ∙ ap (λ (t : Session). map.get t.vars q) (session_updated m sid (with_var name text))
    ∙ get_inserted_apart text_total text_exact (session_in sid m).vars name text q (h e)
    ∙ ap (λ k. map.get (session_in k m).vars q) (sym e))
    (λ ne. ap (λ (t : Session). map.get t.vars q) (session_updated_apart m sid other (with_var name text) ne))
    (cases_eq other sid)

-- a change leaves every other cell unchanged
pub value_kept : (change : Change) (c : Cell) (s : State) → c ≢ cell_of change → value c (apply change s) ≡ value c s
unfolding value apply
value_kept (changes.Put p node) (cells.At q) s h =
    ap values.Node (node_put_apart p q node s.tree (λ e. h (ap cells.At e)))
value_kept (changes.Put p node) (cells.Cwd sid) s h = refl
value_kept (changes.Put p node) (cells.Var sid q) s h = refl
value_kept (changes.Put p node) (cells.Status sid) s h = refl
value_kept (changes.Grow p bytes) (cells.At q) s h =
    ap values.Node (node_put_apart p q (grown bytes (node_in p s.tree)) s.tree (λ e. h (ap cells.At e)))
value_kept (changes.Grow p bytes) (cells.Cwd sid) s h = refl
value_kept (changes.Grow p bytes) (cells.Var sid q) s h = refl
value_kept (changes.Grow p bytes) (cells.Status sid) s h = refl
value_kept (changes.SetVar sid name text) (cells.At q) s h = refl
value_kept (changes.SetVar sid name text) (cells.Cwd other) s h =
    ap values.Cwd (kept (λ t. t.cwd) s.sessions sid other (with_var name text) (λ t. refl))
value_kept (changes.SetVar sid name text) (cells.Var other q) s h =
    ap values.Text (var_kept s.sessions sid other name q text (λ e f. h (λ i. cells.Var (e i) (f i))))
value_kept (changes.SetVar sid name text) (cells.Status other) s h =
    ap values.Status (kept (λ t. t.status) s.sessions sid other (with_var name text) (λ t. refl))
value_kept (changes.SetCwd sid p) (cells.At q) s h = refl
value_kept (changes.SetCwd sid p) (cells.Cwd other) s h =
    ap (λ (t : Session). values.Cwd t.cwd) (session_updated_apart s.sessions sid other (with_cwd p)
    (λ e. h (ap cells.Cwd e)))
value_kept (changes.SetCwd sid p) (cells.Var other q) s h =
    ap values.Text (kept (λ t. map.get t.vars q) s.sessions sid other (with_cwd p) (λ t. refl))
value_kept (changes.SetCwd sid p) (cells.Status other) s h =
    ap values.Status (kept (λ t. t.status) s.sessions sid other (with_cwd p) (λ t. refl))
value_kept (changes.SetStatus sid status) (cells.At q) s h = refl
value_kept (changes.SetStatus sid status) (cells.Cwd other) s h =
    ap values.Cwd (kept (λ t. t.cwd) s.sessions sid other (with_status status) (λ t. refl))
value_kept (changes.SetStatus sid status) (cells.Var other q) s h =
    ap values.Text (kept (λ t. map.get t.vars q) s.sessions sid other (with_status status) (λ t. refl))
value_kept (changes.SetStatus sid status) (cells.Status other) s h =
    ap (λ (t : Session). values.Status t.status)
    (session_updated_apart s.sessions sid other (with_status status) (λ e. h (ap cells.Status e)))

pub ruleset cell_laws = (value_changed, value_kept)
