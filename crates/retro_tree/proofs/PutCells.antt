-- Entries written to cells: the value of each cell, and which sessions are created.
use Rattle.std.proofs.Common.{◌≡◌, ◌≢◌, ℕ, Bool, true, false, not, ◌||◌, ◌&&◌, cond, List, [], ◌∷◌}
use Rattle.std.proofs.Common.{Option, Some, None, refl, sym, ap, subst, ◌∙◌, nat_cmp, T, ⊎_elim}
use Rattle.std.specs.Bool.{if◌then◌else◌}
use Rattle.std.specs.Option.{is_some, unwrap_or}
use Rattle.std.specs.Ordering.{eq_by_cmp, is_eq}
use Rattle.std.specs.List.{filter, list_any, list_all}
use Rattle.std.specs.Cmp.{nat_cmp_total, eq_by_cmp_equiv, tied_itself}
use Rattle.std.specs.FinMap as finmap
use Rattle.std.specs.FinMap.{FinMap, nat_cmp-IsAntisymmetric, get-insert, get-entries, entries_sorted}
use Rattle.std.specs.FinMap.Entries.{find, is_sorted, below_all}
use Rattle.std.proofs.lemmas.Bool.{true≢false, cases_eq}
use Rattle.retro_tree.specs.Order.{text_total, text_exact}
use Rattle.retro_tree.specs.CellOrder.{cell_cmp, cell_total}
use Rattle.retro_tree.specs.Maps.{update}
use Rattle.retro_tree.specs.Session.{default_session, session_in, without_var, unset}
use Rattle.retro_tree.specs.Cell.{value}
use Rattle.retro_tree.specs.Change.{apply, value_grown}
use Rattle.retro_tree.specs.Notes.{cell_eq}
use Rattle.retro_tree.specs.Overlay.{OverlayMap, Overlays, combined_value}
use Rattle.retro_tree.specs.Commit.{put_text, put_cell, put_cells, makes, committed}
use Rattle.retro_tree.specs.inner.CommitSteps.{removes, removals, writes}
use Rattle.retro_tree.specs.declared.cell.Cell.{Cell}
use Rattle.retro_tree.specs.declared.cell.Cell.TheVariants as cells
use Rattle.retro_tree.specs.declared.value.Value.{Value}
use Rattle.retro_tree.specs.declared.value.Value.TheVariants as values
use Rattle.retro_tree.specs.declared.overlay_entry.OverlayEntry.{OverlayEntry}
use Rattle.retro_tree.specs.declared.overlay_entry.OverlayEntry.TheVariants as entries
use Rattle.retro_tree.specs.declared.change.Change.TheVariants as changes
use Rattle.retro_tree.specs.declared.session.Session.{Session}
use Rattle.retro_tree.specs.declared.state.State.{State}
use Rattle.retro_tree.proofs.Small.{and_true, tied, less, both_fst, both_snd, none_some}
use Rattle.retro_tree.proofs.Lookups.{get_removed, get_removed_apart, session_updated, session_updated_apart}
use Rattle.retro_tree.proofs.Lookups.{var_of_none}
use Rattle.retro_tree.proofs.CellLaw.{kept}
use Rattle.retro_tree.proofs.Agree.{same_state}
use Rattle.retro_tree.proofs.NoteLaws.{same_cells, cells_apart, value_applied}
use Rattle.retro_tree.proofs.OverlayLemmas.{none_found}

same_if : {A : Type 0} (b : Bool) (x : A) → x ≡ if b then x else x
same_if true x = refl
same_if false x = refl

-- ---- a variable unset
unset_updates : (m : FinMap nat_cmp Session) (sid : ℕ) (name : List ℕ) (x : Session) → finmap.get m sid ≡ Some x
    → unset (Some x) sid name m ≡ update m sid default_session (without_var name)
unset_updates m sid name x is = ap (λ o. finmap.insert m sid (without_var name (unwrap_or o default_session))) (sym is)

var_left : (m : FinMap nat_cmp Session) (sid other : ℕ) (name q : List ℕ) → (other ≡ sid → q ≢ name)
    → finmap.get (session_in other (update m sid default_session (without_var name))).vars q
    ≡ finmap.get (session_in other m).vars q
var_left m sid other name q h =
    ⊎_elim
    (λ e. ap (λ k. finmap.get (session_in k (update m sid default_session (without_var name))).vars q) e
    ∙ ap (λ (t : Session). finmap.get t.vars q) (session_updated m sid (without_var name))
    ∙ get_removed_apart text_total text_exact (session_in sid m).vars name q (h e)
    ∙ ap (λ k. finmap.get (session_in k m).vars q) (sym e))
    (λ ne. ap (λ (t : Session). finmap.get t.vars q) (session_updated_apart m sid other (without_var name) ne))
    (cases_eq other sid)

var_gone : (m : FinMap nat_cmp Session) (sid : ℕ) (name : List ℕ)
    → finmap.get (session_in sid (update m sid default_session (without_var name))).vars name ≡ None
var_gone m sid name = ap (λ (t : Session). finmap.get t.vars name) (session_updated m sid (without_var name))
    ∙ get_removed text_total (session_in sid m).vars name

updated_without : (sid : ℕ) (name : List ℕ) (s : State) (d : Cell)
    → value d (record s { sessions = update s.sessions sid default_session (without_var name) })
    ≡ if cell_eq (cells.Var sid name) d then values.Text None else value d s
unfolding value
updated_without sid name s (cells.At q) = refl
updated_without sid name s (cells.Cwd k) =
    ap values.Cwd (kept (λ t. t.cwd) s.sessions sid k (without_var name) (λ t. refl))
updated_without sid name s (cells.Status k) =
    ap values.Status (kept (λ t. t.status) s.sessions sid k (without_var name) (λ t. refl))
updated_without sid name s (cells.Var k q) = go (cell_eq (cells.Var sid name) (cells.Var k q)) refl
  where
    after : State
    after = record s { sessions = update s.sessions sid default_session (without_var name) }

    go : (b : Bool) → cell_eq (cells.Var sid name) (cells.Var k q) ≡ b → value (cells.Var k q) after
        ≡ if b then values.Text None else value (cells.Var k q) s
    go true e = ap (λ d. value d after) (sym (same_cells (cells.Var sid name) (cells.Var k q) e))
        ∙ ap values.Text (var_gone s.sessions sid name)
    go false e =
        ap values.Text
        (var_left s.sessions sid k name q (λ a b. cells_apart (cells.Var sid name) (cells.Var k q) e
        (λ i. cells.Var (a i) (b i))))

none_there : (sid : ℕ) (name : List ℕ) (s : State) → finmap.get s.sessions sid ≡ None
    → value (cells.Var sid name) s ≡ values.Text None
unfolding value
none_there sid name s is = ap values.Text (var_of_none s.sessions sid name is)

value_unset : (sid : ℕ) (name : List ℕ) (s : State) (d : Cell) → value d (put_text sid name None s)
    ≡ if cell_eq (cells.Var sid name) d then values.Text None else value d s
value_unset sid name s d = by_session (finmap.get s.sessions sid) refl
  where
    not_there : finmap.get s.sessions sid ≡ None → (b : Bool) → cell_eq (cells.Var sid name) d ≡ b
        → value d s ≡ if b then values.Text None else value d s
    not_there is true e = ap (λ k. value k s) (sym (same_cells (cells.Var sid name) d e)) ∙ none_there sid name s is
    not_there is false e = refl

    by_session : (o : Option Session) → finmap.get s.sessions sid ≡ o
        → value d (record s { sessions = unset o sid name s.sessions })
        ≡ if cell_eq (cells.Var sid name) d then values.Text None else value d s
    by_session None is = not_there is (cell_eq (cells.Var sid name) d) refl
    by_session (Some x) is =
        ap (λ m. value d (record s { sessions = m })) (unset_updates s.sessions sid name x is)
        ∙ updated_without sid name s d

-- ---- each cell
abbrev pub held : Cell → OverlayEntry → Value → Value
held (cells.At p) (entries.Value (values.Node node)) old = values.Node node
held (cells.At p) (entries.Growth bytes) old = value_grown bytes old
held (cells.Cwd sid) (entries.Value (values.Cwd q)) old = values.Cwd q
held (cells.Var sid name) (entries.Value (values.Text text)) old = values.Text text
held (cells.Status sid) (entries.Value (values.Status n)) old = values.Status n
held _ _ old = old

pub value_put : (c : Cell) (l : OverlayEntry) (s : State) (d : Cell) → value d (put_cell c l s)
    ≡ if cell_eq c d then held c l (value d s) else value d s
unfolding put_cell apply
value_put (cells.At p) (entries.Value (values.Node node)) s d = value_applied (changes.Put p node) d s
value_put (cells.At p) (entries.Value (values.Cwd q)) s d = same_if (cell_eq (cells.At p) d) (value d s)
value_put (cells.At p) (entries.Value (values.Text text)) s d = same_if (cell_eq (cells.At p) d) (value d s)
value_put (cells.At p) (entries.Value (values.Status n)) s d = same_if (cell_eq (cells.At p) d) (value d s)
value_put (cells.At p) (entries.Growth bytes) s d = value_applied (changes.Grow p bytes) d s
value_put (cells.Cwd sid) (entries.Value (values.Node node)) s d = same_if (cell_eq (cells.Cwd sid) d) (value d s)
value_put (cells.Cwd sid) (entries.Value (values.Cwd q)) s d = value_applied (changes.SetCwd sid q) d s
value_put (cells.Cwd sid) (entries.Value (values.Text text)) s d = same_if (cell_eq (cells.Cwd sid) d) (value d s)
value_put (cells.Cwd sid) (entries.Value (values.Status n)) s d = same_if (cell_eq (cells.Cwd sid) d) (value d s)
value_put (cells.Cwd sid) (entries.Growth bytes) s d = same_if (cell_eq (cells.Cwd sid) d) (value d s)
value_put (cells.Var sid name) (entries.Value (values.Node node)) s d =
    same_if (cell_eq (cells.Var sid name) d) (value d s)
value_put (cells.Var sid name) (entries.Value (values.Cwd q)) s d = same_if (cell_eq (cells.Var sid name) d) (value d s)
value_put (cells.Var sid name) (entries.Value (values.Text None)) s d = value_unset sid name s d
value_put (cells.Var sid name) (entries.Value (values.Text (Some text))) s d =
    value_applied (changes.SetVar sid name text) d s
value_put (cells.Var sid name) (entries.Value (values.Status n)) s d =
    same_if (cell_eq (cells.Var sid name) d) (value d s)
value_put (cells.Var sid name) (entries.Growth bytes) s d = same_if (cell_eq (cells.Var sid name) d) (value d s)
value_put (cells.Status sid) (entries.Value (values.Node node)) s d = same_if (cell_eq (cells.Status sid) d) (value d s)
value_put (cells.Status sid) (entries.Value (values.Cwd q)) s d = same_if (cell_eq (cells.Status sid) d) (value d s)
value_put (cells.Status sid) (entries.Value (values.Text text)) s d = same_if (cell_eq (cells.Status sid) d) (value d s)
value_put (cells.Status sid) (entries.Value (values.Status n)) s d = value_applied (changes.SetStatus sid n) d s
value_put (cells.Status sid) (entries.Growth bytes) s d = same_if (cell_eq (cells.Status sid) d) (value d s)

-- ---- the sessions
pub key_updated : (m : FinMap nat_cmp Session) (sid : ℕ) (x : Session) (k : ℕ)
    → finmap.contains_key (finmap.insert m sid x) k ≡ (eq_by_cmp nat_cmp k sid || finmap.contains_key m k)
key_updated m sid x k = ap is_some (get-insert nat_cmp_total m sid x k) ∙ go (eq_by_cmp nat_cmp k sid)
  where
    go : (b : Bool) → is_some (cond b (Some x) (finmap.get m k)) ≡ (b || finmap.contains_key m k)
    go true = refl
    go false = refl

key_unset : (m : FinMap nat_cmp Session) (sid : ℕ) (name : List ℕ) (k : ℕ) (o : Option Session)
    → finmap.get m sid ≡ o → finmap.contains_key (unset o sid name m) k ≡ finmap.contains_key m k
key_unset m sid name k None is = refl
key_unset m sid name k (Some x) is = key_updated m sid (without_var name x) k ∙ go (eq_by_cmp nat_cmp k sid) refl
  where
    go : (b : Bool) → eq_by_cmp nat_cmp k sid ≡ b → (b || finmap.contains_key m k) ≡ finmap.contains_key m k
    go true e = sym (ap (finmap.contains_key m) (nat_cmp-IsAntisymmetric k sid (tied _ e)) ∙ ap is_some is)
    go false e = refl

pub key_put : (c : Cell) (l : OverlayEntry) (s : State) (k : ℕ)
    → finmap.contains_key (put_cell c l s).sessions k ≡ (makes k c l || finmap.contains_key s.sessions k)
unfolding put_cell
key_put (cells.At p) (entries.Value (values.Node node)) s k = refl
key_put (cells.At p) (entries.Value (values.Cwd q)) s k = refl
key_put (cells.At p) (entries.Value (values.Text text)) s k = refl
key_put (cells.At p) (entries.Value (values.Status n)) s k = refl
key_put (cells.At p) (entries.Growth bytes) s k = refl
key_put (cells.Cwd sid) (entries.Value (values.Node node)) s k = refl
key_put (cells.Cwd sid) (entries.Value (values.Cwd q)) s k = key_updated s.sessions sid _ k
key_put (cells.Cwd sid) (entries.Value (values.Text text)) s k = refl
key_put (cells.Cwd sid) (entries.Value (values.Status n)) s k = refl
key_put (cells.Cwd sid) (entries.Growth bytes) s k = refl
key_put (cells.Var sid name) (entries.Value (values.Node node)) s k = refl
key_put (cells.Var sid name) (entries.Value (values.Cwd q)) s k = refl
key_put (cells.Var sid name) (entries.Value (values.Text None)) s k =
    key_unset s.sessions sid name k (finmap.get s.sessions sid) refl
key_put (cells.Var sid name) (entries.Value (values.Text (Some text))) s k = key_updated s.sessions sid _ k
key_put (cells.Var sid name) (entries.Value (values.Status n)) s k = refl
key_put (cells.Var sid name) (entries.Growth bytes) s k = refl
key_put (cells.Status sid) (entries.Value (values.Node node)) s k = refl
key_put (cells.Status sid) (entries.Value (values.Cwd q)) s k = refl
key_put (cells.Status sid) (entries.Value (values.Text text)) s k = refl
key_put (cells.Status sid) (entries.Value (values.Status n)) s k = key_updated s.sessions sid _ k
key_put (cells.Status sid) (entries.Growth bytes) s k = refl

-- ---- two cells
crossed : {A : Type 0} (a b : Bool) (f g : A → A) (x : A) → (a ≡ true → b ≡ true → ⊥)
    → (if a then f (if b then g x else x) else (if b then g x else x))
    ≡ (if b then g (if a then f x else x) else (if a then f x else x))
crossed true true f g x apart = absurd (apart refl refl)
crossed true false f g x apart = refl
crossed false true f g x apart = refl
crossed false false f g x apart = refl

or_swapped : (a b c : Bool) → (a || (b || c)) ≡ (b || (a || c))
or_swapped true true c = refl
or_swapped true false c = refl
or_swapped false true c = refl
or_swapped false false c = refl

pub puts_swapped : (c d : Cell) (v w : OverlayEntry) (s : State) → cell_eq c d ≡ false
    → put_cell c v (put_cell d w s) ≡ put_cell d w (put_cell c v s)
puts_swapped c d v w s apart =
    same_state _ _
    (λ q. value_put c v (put_cell d w s) q ∙ ap (λ x. if cell_eq c q then held c v x else x) (value_put d w s q)
    ∙ crossed (cell_eq c q) (cell_eq d q) (held c v) (held d w) (value q s)
    (λ a b. true≢false (sym (ap (cell_eq c) (same_cells d q b) ∙ a) ∙ apart))
    ∙ sym (value_put d w (put_cell c v s) q ∙ ap (λ x. if cell_eq d q then held d w x else x) (value_put c v s q)))
    (λ k. key_put c v (put_cell d w s) k ∙ ap (λ b. makes k c v || b) (key_put d w s k)
    ∙ or_swapped (makes k c v) (makes k d w) (finmap.contains_key s.sessions k)
    ∙ sym (key_put d w (put_cell c v s) k ∙ ap (λ b. makes k d w || b) (key_put c v s k)))

-- ---- many cells
both : (a b : Bool) → T a → T b → T (a && b)
both true b p q = q
both false b p q = p

put_past : (c : Cell) (v : OverlayEntry) (es : List (Cell × OverlayEntry)) (s : State)
    → T (below_all cell_cmp c es) → put_cells es (put_cell c v s) ≡ put_cell c v (put_cells es s)
put_past c v [] s h = refl
put_past c v (e ∷ es) s h =
    ap (put_cells es) (puts_swapped e.0 c e.1 v s ((eq_by_cmp_equiv cell_total).symm e.0 c
    ∙ ap is_eq (less _ (both_fst _ _ h))))
    ∙ put_past c v es (put_cell e.0 e.1 s) (both_snd _ _ h)

below_filtered : (c : Cell) (p : Cell × OverlayEntry → Bool) (es : List (Cell × OverlayEntry))
    → T (below_all cell_cmp c es) → T (below_all cell_cmp c (filter p es))
below_filtered c p [] h = tt
below_filtered c p (e ∷ es) h =
    let rest = below_filtered c p es (both_snd _ _ h) in
    elim (p e) as (λ b. T (below_all cell_cmp c (cond b (e ∷ filter p es) (filter p es)))) [
      | true ↦ both _ _ (both_fst _ _ h) rest
      | false ↦ rest
    ]

-- the writes first, and then the removals
in_parts : (es : List (Cell × OverlayEntry)) → T (is_sorted cell_cmp es) → (s : State)
    → put_cells (removals es) (put_cells (writes es) s) ≡ put_cells es s
in_parts [] h s = refl
in_parts (e ∷ es) h s =
    elim (removes e.1) as (λ b. put_cells (cond b (e ∷ removals es) (removals es))
    (put_cells (cond (not b) (e ∷ writes es) (writes es)) s) ≡ put_cells es (put_cell e.0 e.1 s)) [
      | true ↦ ap (put_cells (removals es))
          (sym (put_past e.0 e.1 (writes es) s (below_filtered e.0 (λ f. not (removes f.1)) es (both_fst _ _ h))))
          ∙ in_parts es (both_snd _ _ h) (put_cell e.0 e.1 s)
      | false ↦ in_parts es (both_snd _ _ h) (put_cell e.0 e.1 s)
    ]

pub all_removals : (es : List (Cell × OverlayEntry)) → list_all (λ e. removes e.1) (removals es) ≡ true
all_removals [] = refl
all_removals (e ∷ es) =
    elim (removes e.1) as (λ b. removes e.1 ≡ b
    → list_all (λ f. removes f.1) (cond b (e ∷ removals es) (removals es)) ≡ true) [
      | true ↦ λ t. and_true _ _ t (all_removals es)
      | false ↦ λ t. all_removals es
    ] refl

pub writes_then_removals : (overlay : OverlayMap) (s : State)
    → put_cells (removals (finmap.entries overlay)) (put_cells (writes (finmap.entries overlay)) s)
    ≡ committed overlay s
writes_then_removals overlay s = in_parts (finmap.entries overlay) (entries_sorted overlay) s

-- ---- the combined state
held_own : (c : Cell) (s : State) (old : Value) → held c (entries.Value (value c s)) old ≡ value c s
unfolding value
held_own (cells.At p) s old = refl
held_own (cells.Cwd sid) s old = refl
held_own (cells.Var sid name) s old = refl
held_own (cells.Status sid) s old = refl

-- a cell that has the combined value has it after its entry is written
held_combined : (c : Cell) (l : OverlayEntry) (s now : State) → value c now ≡ combined_value (Some l)
    (value c s) → held c l (value c s) ≡ value c now
unfolding value
held_combined c (entries.Value v) s now h = ap (λ w. held c (entries.Value w) (value c s)) (sym h)
    ∙ held_own c now (value c s)
held_combined (cells.At p) (entries.Growth bytes) s now h = sym h
held_combined (cells.Cwd sid) (entries.Growth bytes) s now h = sym h
held_combined (cells.Var sid name) (entries.Growth bytes) s now h = sym h
held_combined (cells.Status sid) (entries.Growth bytes) s now h = sym h

pub found_first : (e : Cell × OverlayEntry) (es : List (Cell × OverlayEntry)) → find cell_cmp e.0 (e ∷ es) ≡ Some e.1
found_first e es = ap (λ r. cond (is_eq r) (Some e.1) (find cell_cmp e.0 es)) (tied_itself cell_total e.0)

pub found_later : (c : Cell) (e : Cell × OverlayEntry) (es : List (Cell × OverlayEntry)) → cell_eq e.0 c ≡ false
    → find cell_cmp c (e ∷ es) ≡ find cell_cmp c es
found_later c e es apart =
    ap (λ b. cond b (Some e.1) (find cell_cmp c es)) ((eq_by_cmp_equiv cell_total).symm c e.0 ∙ apart)

settled : (now : State) (es : List (Cell × OverlayEntry)) → T (is_sorted cell_cmp es) → (s : State)
    → ((c : Cell) (l : OverlayEntry) → find cell_cmp c es ≡ Some l → value c now ≡ combined_value (Some l)
    (value c s)) → ((c : Cell) → find cell_cmp c es ≡ None → value c s ≡ value c now) → (c : Cell)
    → value c (put_cells es s) ≡ value c now
settled now [] h s own other c = other c refl
settled now (e ∷ es) h s own other c = settled now es (both_snd _ _ h) (put_cell e.0 e.1 s) later next_other c
  where
    not_found : (d : Cell) → cell_eq e.0 d ≡ true → find cell_cmp d es ≡ None
    not_found d t = none_found d es (subst (λ k. T (below_all cell_cmp k es)) (same_cells e.0 d t) (both_fst _ _ h))

    later : (d : Cell) (l : OverlayEntry) → find cell_cmp d es ≡ Some l → value d now ≡ combined_value (Some l)
        (value d (put_cell e.0 e.1 s))
    later d l is = go (cell_eq e.0 d) refl ∙ ap (combined_value (Some l)) (sym (value_put e.0 e.1 s d))
      where
        go : (b : Bool) → cell_eq e.0 d ≡ b
            → value d now ≡ combined_value (Some l) (if b then held e.0 e.1 (value d s) else value d s)
        go true t = absurd (none_some l (sym (not_found d t) ∙ is))
        go false t = own d l (found_later d e es t ∙ is)

    next_other : (d : Cell) → find cell_cmp d es ≡ None → value d (put_cell e.0 e.1 s) ≡ value d now
    next_other d is = value_put e.0 e.1 s d ∙ go (cell_eq e.0 d) refl
      where
        go : (b : Bool) → cell_eq e.0 d ≡ b → if b then held e.0 e.1 (value d s) else value d s ≡ value d now
        go true t =
            let same = same_cells e.0 d t in
            ap (λ k. held e.0 e.1 (value k s)) (sym same)
            ∙ held_combined e.0 e.1 s now (own e.0 e.1 (found_first e es))
            ∙ ap (λ k. value k now) same
        go false t = other d (found_later d e es t ∙ is)

pub cells_committed : (overlay : OverlayMap) (s now : State) → Overlays overlay s now → (c : Cell)
    → value c (committed overlay s) ≡ value c now
cells_committed overlay s now h =
    settled now (finmap.entries overlay) (entries_sorted overlay) s
    (λ c l is. h c ∙ ap (λ o. combined_value o (value c s)) (get-entries overlay c ∙ is))
    (λ c is. sym (h c ∙ ap (λ o. combined_value o (value c s)) (get-entries overlay c ∙ is)))

pub sessions_made : (es : List (Cell × OverlayEntry)) (s : State) (k : ℕ)
    → finmap.contains_key (put_cells es s).sessions k
    ≡ (list_any (λ e. makes k e.0 e.1) es || finmap.contains_key s.sessions k)
sessions_made [] s k = refl
sessions_made (e ∷ es) s k =
    sessions_made es (put_cell e.0 e.1 s) k ∙ ap (λ b. list_any (λ f. makes k f.0 f.1) es || b) (key_put e.0 e.1 s k)
    ∙ moved (list_any (λ f. makes k f.0 f.1) es) (makes k e.0 e.1) (finmap.contains_key s.sessions k)
  where
    moved : (a b c : Bool) → (a || (b || c)) ≡ ((b || a) || c)
    moved true true c = refl
    moved true false c = refl
    moved false true c = refl
    moved false false c = refl

-- the committed state is the state with these cells and these sessions
pub state_committed : (overlay : OverlayMap) (s now : State) → Overlays overlay s now
    → ((k : ℕ) → finmap.contains_key now.sessions k ≡ (list_any (λ e. makes k e.0 e.1) (finmap.entries overlay)
    || finmap.contains_key s.sessions k)) → committed overlay s ≡ now
state_committed overlay s now h sessions =
    same_state _ _ (cells_committed overlay s now h) (λ k. sessions_made (finmap.entries overlay) s k
    ∙ sym (sessions k))

pub ruleset commits = (cells_committed, sessions_made, state_committed)
