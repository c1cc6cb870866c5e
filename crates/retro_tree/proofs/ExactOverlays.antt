-- Exact overlays: they follow both states from line to line, and make the repaired state.
use Rattle.std.proofs.Common.{◌≡◌, ◌≢◌, ℕ, Bool, true, false, not, ◌||◌, List, Option, Some, None, refl, sym, ap, subst}
use Rattle.std.proofs.Common.{◌∙◌, nat_cmp}
use Rattle.std.specs.Option.{is_some, unwrap_or}
use Rattle.std.specs.Ordering.{eq_by_cmp}
use Rattle.std.specs.List.{list_any}
use Rattle.std.specs.FinMap as map
use Rattle.std.proofs.lemmas.Bool.{true≢false, false≢true}
use Rattle.retro_tree.specs.CellOrder.{cell_total, cell_exact}
use Rattle.retro_tree.specs.Cell.{value}
use Rattle.retro_tree.specs.Session.{session_in, default_session}
use Rattle.retro_tree.specs.State.{SameSessions}
use Rattle.retro_tree.specs.Notes.{after, changes, effects, AgreeOn}
use Rattle.retro_tree.specs.Overlay.{OverlayMap, Overlays, Fits, AllValues, combined_value, fits_cell, is_value}
use Rattle.retro_tree.specs.Commit.{committed, makes}
use Rattle.retro_tree.specs.Exact.{IsDifference, IsExact, IsTight}
use Rattle.retro_tree.specs.declared.cell.Cell.{Cell}
use Rattle.retro_tree.specs.declared.cell.Cell.TheVariants as cells
use Rattle.retro_tree.specs.declared.value.Value.{Value}
use Rattle.retro_tree.specs.declared.value.Value.TheVariants as values
use Rattle.retro_tree.specs.declared.note.Note.{Note}
use Rattle.retro_tree.specs.declared.overlay_entry.OverlayEntry.{OverlayEntry}
use Rattle.retro_tree.specs.declared.overlay_entry.OverlayEntry.TheVariants as entries
use Rattle.retro_tree.specs.declared.session.Session.{Session}
use Rattle.retro_tree.specs.declared.state.State.{State}
use Rattle.retro_tree.proofs.Entries.{all_tested}
use Rattle.retro_tree.proofs.PutCells.{state_committed}
use Rattle.retro_tree.proofs.NoteLaws.{value_after, value_unchanged, touched_where_changed}
use Rattle.retro_tree.proofs.KeptSessions.{same_key, any_of_none}

-- ---- entries
difference_combined : (o : Option OverlayEntry) (was now : Value) → IsDifference o was now → now ≡ combined_value o was
difference_combined None was now h = sym h
difference_combined (Some (entries.Value v)) was now h = sym h.0
difference_combined (Some (entries.Growth bytes)) was now h = absurd h

pub exact_overlays : (overlay : OverlayMap) (s t : State) → IsExact overlay s t → Overlays overlay s t
exact_overlays overlay s t h c = difference_combined (map.get overlay c) (value c s) (value c t) (h c)

pub exact_tight : (overlay : OverlayMap) (s t : State) → IsExact overlay s t → IsTight overlay s
exact_tight overlay s t h c =
    subst (IsDifference (map.get overlay c) (value c s)) (exact_overlays overlay s t h c) (h c)

pub tight_exact : (overlay : OverlayMap) (s t : State) → IsTight overlay s → Overlays overlay s t → IsExact overlay s t
tight_exact overlay s t h o c = subst (IsDifference (map.get overlay c) (value c s)) (sym (o c)) (h c)

difference_same : (o : Option OverlayEntry) (was now a b : Value) → IsDifference o was now → was ≡ now → a ≡ b
    → IsDifference o a b
difference_same None was now a b h e f = f
difference_same (Some (entries.Value v)) was now a b h e f = absurd (h.1 e)
difference_same (Some (entries.Growth bytes)) was now a b h e f = h

-- ---- a line: the entries of the cells that either list of notes changes are set, and no other
pub step_exact : (old new : OverlayMap) (s t : State) (ns ms : List Note) → IsExact old s t
    → ((c : Cell) → (changes ns c || changes ms c) ≡ true → IsDifference (map.get new c) (value c (after ns s))
    (value c (after ms t)))
    → ((c : Cell) → (changes ns c || changes ms c) ≡ false → map.get new c ≡ map.get old c)
    → IsExact new (after ns s) (after ms t)
step_exact old new s t ns ms h wrote kept c = go (changes ns c) (changes ms c) refl refl
  where
    go : (a b : Bool) → changes ns c ≡ a → changes ms c ≡ b
        → IsDifference (map.get new c) (value c (after ns s)) (value c (after ms t))
    go true b e f = wrote c (ap (λ x. x || changes ms c) e)
    go false true e f = wrote c ((λ i. e i || f i))
    go false false e f =
        subst (λ o. IsDifference o (value c (after ns s)) (value c (after ms t))) (sym (kept c (λ i. e i || f i)))
        (subst (λ v. IsDifference (map.get old c) v (value c (after ms t))) (sym (value_unchanged ns c s e))
        (subst (λ v. IsDifference (map.get old c) (value c s) v) (sym (value_unchanged ms c t f)) (h c)))

-- a line whose cells agree, and that is kept, leaves the overlay
pub unmet_step : (overlay : OverlayMap) (s t : State) (ns : List Note) → IsExact overlay s t → AgreeOn ns s t
    → IsExact overlay (after ns s) (after ns t)
unmet_step overlay s t ns h u c = go (changes ns c) refl
  where
    go : (b : Bool) → changes ns c ≡ b → IsDifference (map.get overlay c) (value c (after ns s)) (value c (after ns t))
    go true e =
        let same = u c (touched_where_changed ns c e) in
        difference_same (map.get overlay c) (value c s) (value c t) _ _ (h c) same (value_after ns c s
        ∙ ap (effects ns c) same ∙ sym (value_after ns c t))
    go false e =
        subst (λ v. IsDifference (map.get overlay c) v (value c (after ns t))) (sym (value_unchanged ns c s e))
        (subst (λ v. IsDifference (map.get overlay c) (value c s) v) (sym (value_unchanged ns c t e)) (h c))

-- every entry of a tight overlay, and so of an exact one, is a value
pub tight_values : (overlay : OverlayMap) (s : State) → IsTight overlay s → AllValues overlay
unfolding AllValues
tight_values overlay s h c l is = go l (subst (λ o. IsDifference o (value c s) (combined_value o (value c s))) is (h c))
  where
    go : (l : OverlayEntry) → IsDifference (Some l) (value c s) (combined_value (Some l) (value c s))
        → is_value l ≡ true
    go (entries.Value v) k = refl
    go (entries.Growth bytes) k = absurd k

-- both states change in the same way, in cells that have no entry
pub apart_exact : (overlay : OverlayMap) (s t : State) (ns : List Note) → IsExact overlay s t
    → ((c : Cell) → changes ns c ≡ true → map.contains_key overlay c ≡ false)
    → IsExact overlay (after ns s) (after ns t)
apart_exact overlay s t ns h apart c = go (changes ns c) refl
  where
    none : (o : Option OverlayEntry) → is_some o ≡ false → IsDifference o (value c s) (value c t)
        → value c s ≡ value c t
    none None e k = k
    none (Some l) e k = absurd (true≢false e)

    go : (b : Bool) → changes ns c ≡ b → IsDifference (map.get overlay c) (value c (after ns s)) (value c (after ns t))
    go true e =
        let same = none (map.get overlay c) (apart c e) (h c) in
        difference_same (map.get overlay c) (value c s) (value c t) _ _ (h c) same (value_after ns c s
        ∙ ap (effects ns c) same ∙ sym (value_after ns c t))
    go false e =
        subst (λ v. IsDifference (map.get overlay c) v (value c (after ns t))) (sym (value_unchanged ns c s e))
        (subst (λ v. IsDifference (map.get overlay c) (value c s) v) (sym (value_unchanged ns c t e)) (h c))

-- ---- kinds
value_fits : (c : Cell) (s : State) → fits_cell c (entries.Value (value c s)) ≡ true
unfolding value
value_fits (cells.At p) s = refl
value_fits (cells.Cwd sid) s = refl
value_fits (cells.Var sid name) s = refl
value_fits (cells.Status sid) s = refl

pub exact_fits : (overlay : OverlayMap) (s t : State) → IsExact overlay s t → Fits overlay
unfolding Fits
exact_fits overlay s t h c l is = go l (subst (λ o. IsDifference o (value c s) (value c t)) is (h c))
  where
    go : (l : OverlayEntry) → IsDifference (Some l) (value c s) (value c t) → fits_cell c l ≡ true
    go (entries.Value v) k = ap (λ x. fits_cell c (entries.Value x)) k.0 ∙ value_fits c t
    go (entries.Growth bytes) k = absurd k

-- ---- the session of a cell
moved : (k sid : ℕ) (s t : State) → eq_by_cmp nat_cmp k sid ≡ true → session_in k s.sessions
    ≡ session_in k t.sessions → session_in sid s.sessions ≡ session_in sid t.sessions
moved k sid s t e same = subst (λ n. session_in n s.sessions ≡ session_in n t.sessions) (same_key k sid e) same

makes_own : (k : ℕ) (c : Cell) (l : OverlayEntry) (s t : State) → makes k c l ≡ true → session_in k s.sessions
    ≡ session_in k t.sessions → value c s ≡ value c t
unfolding value
makes_own k (cells.At p) l s t e same = absurd (false≢true e)
makes_own k (cells.Cwd sid) (entries.Value (values.Cwd p)) s t e same =
    ap (λ (x : Session). values.Cwd x.cwd) (moved k sid s t e same)
makes_own k (cells.Cwd sid) (entries.Value (values.Node n)) s t e same = absurd (false≢true e)
makes_own k (cells.Cwd sid) (entries.Value (values.Text x)) s t e same = absurd (false≢true e)
makes_own k (cells.Cwd sid) (entries.Value (values.Status n)) s t e same = absurd (false≢true e)
makes_own k (cells.Cwd sid) (entries.Growth bytes) s t e same = absurd (false≢true e)
makes_own k (cells.Var sid name) (entries.Value (values.Cwd p)) s t e same = absurd (false≢true e)
makes_own k (cells.Var sid name) (entries.Value (values.Node n)) s t e same = absurd (false≢true e)
makes_own k (cells.Var sid name) (entries.Value (values.Text None)) s t e same = absurd (false≢true e)
makes_own k (cells.Var sid name) (entries.Value (values.Text (Some x))) s t e same =
    ap (λ (y : Session). values.Text (map.get y.vars name)) (moved k sid s t e same)
makes_own k (cells.Var sid name) (entries.Value (values.Status n)) s t e same = absurd (false≢true e)
makes_own k (cells.Var sid name) (entries.Growth bytes) s t e same = absurd (false≢true e)
makes_own k (cells.Status sid) (entries.Value (values.Cwd p)) s t e same = absurd (false≢true e)
makes_own k (cells.Status sid) (entries.Value (values.Node n)) s t e same = absurd (false≢true e)
makes_own k (cells.Status sid) (entries.Value (values.Text x)) s t e same = absurd (false≢true e)
makes_own k (cells.Status sid) (entries.Value (values.Status n)) s t e same =
    ap (λ (x : Session). values.Status x.status) (moved k sid s t e same)
makes_own k (cells.Status sid) (entries.Growth bytes) s t e same = absurd (false≢true e)

default_where_absent : (o : Option Session) → is_some o ≡ false → unwrap_or o default_session ≡ default_session
default_where_absent None e = refl
default_where_absent (Some x) e = absurd (true≢false e)

none_makes : (overlay : OverlayMap) (s t : State) (k : ℕ) → IsExact overlay s t → session_in k s.sessions
    ≡ session_in k t.sessions → (c : Cell) (l : OverlayEntry) → map.get overlay c ≡ Some l → not (makes k c l) ≡ true
none_makes overlay s t k h same c l is = go (makes k c l) refl
  where
    differs : (x : OverlayEntry) → IsDifference (Some x) (value c s) (value c t) → value c s ≢ value c t
    differs (entries.Value v) i = i.1
    differs (entries.Growth bytes) i = absurd i

    go : (b : Bool) → makes k c l ≡ b → not b ≡ true
    go true e = absurd (differs l (subst (λ o. IsDifference o (value c s) (value c t)) is (h c))
        (makes_own k c l s t e same))
    go false e = refl

pub exact_state : (overlay : OverlayMap) (s t : State) → IsExact overlay s t → SameSessions s t
    → committed overlay s ≡ t
exact_state overlay s t h same = state_committed overlay s t (exact_overlays overlay s t h) (λ k. sym (same k)
    ∙ go k (map.contains_key s.sessions k) refl)
  where
    made : ℕ → Bool
    made k = list_any (λ e. makes k e.0 e.1) (map.entries overlay)

    go : (k : ℕ) (b : Bool) → map.contains_key s.sessions k ≡ b → map.contains_key s.sessions k
        ≡ (list_any (λ e. makes k e.0 e.1) (map.entries overlay) || map.contains_key s.sessions k)
    go k true e = e ∙ sym (or_true (list_any (λ e. makes k e.0 e.1) (map.entries overlay)) _ e)
      where
        or_true : (x y : Bool) → y ≡ true → (x || y) ≡ true
        or_true true y i = refl
        or_true false y i = i
    go k false e =
        let both = default_where_absent (map.get s.sessions k) e
        ∙ sym (default_where_absent (map.get t.sessions k) (sym (same k) ∙ e)) in
        sym (ap (λ b. b || map.contains_key s.sessions k) (any_of_none (λ e. makes k e.0 e.1) (map.entries overlay)
        (all_tested cell_total cell_exact (λ e. not (makes k e.0 e.1)) overlay (none_makes overlay s t k h both))))

pub ruleset exactness = (exact_overlays, exact_tight, tight_exact, tight_values)

pub ruleset stepping = (step_exact, unmet_step, apart_exact)

pub ruleset making = (exact_fits, exact_state)
