-- The names of the children of a path in the combined state.
use Rattle.std.proofs.Common.{◌≡◌, ◌≢◌, ℕ, Bool, true, false, cond, ◌||◌, List, [], ◌∷◌, ◌++◌, Option, Some, None, refl}
use Rattle.std.proofs.Common.{sym, ap, ◌∙◌, subst, T}
use Rattle.std.specs.Option.{unwrap_or, is_some}
use Rattle.std.specs.List.{list_any, filter}
use Rattle.std.specs.Bool.{if◌then◌else◌}
use Rattle.std.specs.Cmp.{tied_itself}
use Rattle.std.specs.Cmp.Lexicographic.{nat_list_eq_equiv}
use Rattle.std.specs.Ordering.{eq_by_cmp, is_eq, is_le}
use Rattle.std.specs.declared.cmp.Ordering.TheVariants.{Less}
use Rattle.std.specs.FinMap as finmap
use Rattle.std.specs.FinMap.{get-entries, entries_sorted}
use Rattle.std.specs.FinMap.Entries.{find, is_sorted, below_all, where_key, is_sorted-where_key, find-where_key}
use Rattle.std.proofs.lemmas.Bool.{true≢false, false≢true}
use Rattle.retro_tree.specs.Order.{path_cmp, text_eq, text_exact, text_ties}
use Rattle.retro_tree.specs.CellOrder.{cell_cmp, cell_total, cell_exact}
use Rattle.retro_tree.specs.Path.{PathValue, below, child_name, only_name, is_child}
use Rattle.retro_tree.specs.Node.{is_present, grown}
use Rattle.retro_tree.specs.Tree.{Tree, node_in, put}
use Rattle.retro_tree.specs.Ask.{names_in}
use Rattle.retro_tree.specs.Cell.{value}
use Rattle.retro_tree.specs.Overlay.{OverlayMap, Overlays, combined_value}
use Rattle.retro_tree.specs.inner.Marks.{overlay_from, cell_below, starts_below, children_tree}
use Rattle.retro_tree.specs.inner.Marks.{mark, mark_of, put_mark}
use Rattle.retro_tree.specs.inner.Marks.{mark_entry, mark_entries}
use Rattle.retro_tree.specs.declared.node.Node.{Node}
use Rattle.retro_tree.specs.declared.node.Node.TheVariants.{Missing, Dir, File}
use Rattle.retro_tree.specs.declared.cell.Cell.{Cell}
use Rattle.retro_tree.specs.declared.cell.Cell.TheVariants as cells
use Rattle.retro_tree.specs.declared.value.Value.{Value}
use Rattle.retro_tree.specs.declared.value.Value.TheVariants as values
use Rattle.retro_tree.specs.declared.overlay_entry.OverlayEntry.{OverlayEntry}
use Rattle.retro_tree.specs.declared.overlay_entry.OverlayEntry.TheVariants as entries
use Rattle.retro_tree.specs.declared.state.State.{State}
use Rattle.retro_tree.proofs.Small.{tied, less, both_fst, both_snd, some_same}
use Rattle.retro_tree.proofs.OverlayLemmas.{none_found}
use Rattle.retro_tree.proofs.Lookups.{node_put, node_put_apart}
use Rattle.retro_tree.proofs.Together.{path_after, apart_from}
use Rattle.retro_tree.proofs.Children.{child_name_of, names_listed, there_in, same_children}

-- ---- the cells below a path are consecutive and follow the path's own cell
abbrev with_prefix : PathValue → List (Cell × OverlayEntry) → List (Cell × OverlayEntry)
with_prefix p [] = []
with_prefix p (e ∷ es) = if cell_below p e.0 then e ∷ with_prefix p es else []

cell_after : (p : PathValue) (c : Cell) → cell_below p c ≡ true → is_le (cell_cmp (cells.At p) c) ≡ true
cell_after p (cells.At q) h = path_after p q h
cell_after p (cells.Cwd sid) h = absurd (false≢true h)
cell_after p (cells.Var sid name) h = absurd (false≢true h)
cell_after p (cells.Status sid) h = absurd (false≢true h)

apart_cell : (p : PathValue) (c d : Cell) → is_le (cell_cmp (cells.At p) c) ≡ true → cell_below p c ≡ false
    → cell_cmp c d ≡ Less → cell_below p d ≡ false
apart_cell p c (cells.Cwd sid) h none e = refl
apart_cell p c (cells.Var sid name) h none e = refl
apart_cell p c (cells.Status sid) h none e = refl
apart_cell p (cells.At k) (cells.At m) h none e = apart_from p k m h none e
apart_cell p (cells.Cwd sid) (cells.At m) h none e = cc
apart_cell p (cells.Var sid name) (cells.At m) h none e = cc
apart_cell p (cells.Status sid) (cells.At m) h none e = cc

none_after : (p : PathValue) (c : Cell) (es : List (Cell × OverlayEntry)) → is_le (cell_cmp (cells.At p) c)
    ≡ true → cell_below p c ≡ false → T (below_all cell_cmp c es) → filter (λ e. cell_below p e.0) es ≡ []
none_after p c [] h none s = refl
none_after p c (e ∷ es) h none s =
    ap (λ b. cond b (e ∷ filter (λ f. cell_below p f.0) es) (filter (λ f. cell_below p f.0) es))
    (apart_cell p c e.0 h none (less _ (both_fst _ _ s)))
    ∙ none_after p c es h none (both_snd _ _ s)

entries_together : (p : PathValue) (es : List (Cell × OverlayEntry)) → T (is_sorted cell_cmp es)
    → with_prefix p (filter (λ e. is_le (cell_cmp (cells.At p) e.0)) es) ≡ filter (λ e. cell_below p e.0) es
entries_together p [] s = refl
entries_together p (e ∷ es) s =
    let from = filter (λ f. is_le (cell_cmp (cells.At p) f.0)) es in
    let under = filter (λ f. cell_below p f.0) es in
    elim (cell_below p e.0) as (λ b. cell_below p e.0 ≡ b
    → with_prefix p (cond (is_le (cell_cmp (cells.At p) e.0)) (e ∷ from) from) ≡ cond b (e ∷ under) under) [
      | true ↦ λ t. ap (λ l. with_prefix p (cond l (e ∷ from) from)) (cell_after p e.0 t)
          ∙ ap (λ b. if b then e ∷ with_prefix p from else []) t
          ∙ ap (λ fs. e ∷ fs) (entries_together p es (both_snd _ _ s))
      | false ↦ λ t. elim (is_le (cell_cmp (cells.At p) e.0)) as (λ l. is_le (cell_cmp (cells.At p) e.0) ≡ l
          → with_prefix p (cond l (e ∷ from) from) ≡ under) [
            | true ↦ λ h. ap (λ b. if b then e ∷ with_prefix p from else []) t
                ∙ sym (none_after p e.0 es h t (both_fst _ _ s))
            | false ↦ λ h. entries_together p es (both_snd _ _ s)
          ] refl
    ] refl

-- ---- marks
abbrev marks_all : PathValue → List (Cell × OverlayEntry) → Tree → Tree
marks_all p [] t = t
marks_all p (e ∷ es) t = marks_all p es (mark_entry p e.0 e.1 t)

marks_prefixed : (p : PathValue) (es : List (Cell × OverlayEntry)) (t : Tree)
    → mark_entries p es t ≡ marks_all p (with_prefix p es) t
marks_prefixed p [] t = refl
marks_prefixed p (e ∷ es) t =
    elim (cell_below p e.0) as (λ b. (if b then mark_entries p es (mark_entry p e.0 e.1 t) else t)
    ≡ marks_all p (if b then e ∷ with_prefix p es else []) t) [
      | true ↦ marks_prefixed p es (mark_entry p e.0 e.1 t)
      | false ↦ refl
    ]

there_mark : (n : Node) → is_present (mark n) ≡ is_present n
there_mark Missing = refl
there_mark Dir = refl
there_mark (File bytes) = refl

there_grown : (bytes : List ℕ) (n : Node) → is_present (grown bytes n) ≡ true
there_grown bytes Missing = refl
there_grown bytes Dir = refl
there_grown bytes (File old) = refl

same_child : (p : PathValue) (n m : List ℕ) → p ++ n ∷ [] ≡ p ++ m ∷ [] → n ≡ m
same_child p n m e = some_same n m (sym (child_name_of p n) ∙ ap (child_name p) e ∙ child_name_of p m)

or_true : (a : Bool) → (a || true) ≡ true
or_true true = refl
or_true false = refl

or_false : (a : Bool) → (a || false) ≡ a
or_false true = refl
or_false false = refl

there_marked : (p : PathValue) (n : List ℕ) (ns : List (List ℕ)) (t : Tree)
    → is_present (node_in (p ++ n ∷ []) (children_tree p ns t))
    ≡ (list_any (text_eq n) ns || is_present (node_in (p ++ n ∷ []) t))
there_marked p n [] t = refl
there_marked p n (m ∷ ns) t =
    there_marked p n ns (put (p ++ m ∷ []) Dir t)
    ∙ elim (text_eq n m) as (λ b. text_eq n m ≡ b
    → (list_any (text_eq n) ns || is_present (node_in (p ++ n ∷ []) (put (p ++ m ∷ []) Dir t)))
    ≡ ((b || list_any (text_eq n) ns) || is_present (node_in (p ++ n ∷ []) t))) [
      | true ↦ λ e. ap (λ x. list_any (text_eq n) ns || is_present x)
          (ap (λ k. node_in (p ++ k ∷ []) (put (p ++ m ∷ []) Dir t))
          (text_exact n m (tied _ (sym (text_ties n m) ∙ e))) ∙ node_put (p ++ m ∷ []) Dir t)
          ∙ or_true (list_any (text_eq n) ns)
      | false ↦ λ e. ap (λ x. list_any (text_eq n) ns || is_present x)
          (node_put_apart (p ++ m ∷ []) (p ++ n ∷ []) Dir t
          (λ s. true≢false (sym (ap (λ k. text_eq k m) (same_child p n m s) ∙ nat_list_eq_equiv.refl m) ∙ e)))
    ] refl

abbrev overlays_mark : Option OverlayEntry → Node → Node
overlays_mark None n = n
overlays_mark (Some l) n = unwrap_or (mark_of l) n

node_marked : (q : PathValue) (o : Option Node) (t : Tree) → node_in q (put_mark q o t) ≡ unwrap_or o (node_in q t)
node_marked q None t = refl
node_marked q (Some node) t = node_put q node t

mark_here : (p q : PathValue) (l : OverlayEntry) (t : Tree) → is_child p q ≡ true
    → node_in q (mark_entry p (cells.At q) l t) ≡ overlays_mark (Some l) (node_in q t)
mark_here p q l t e = ap (λ b. node_in q (if b then put_mark q (mark_of l) t else t)) e ∙ node_marked q (mark_of l) t

marked_apart : (q r : PathValue) (o : Option Node) (t : Tree) → q ≢ r → node_in q (put_mark r o t) ≡ node_in q t
marked_apart q r None t ne = refl
marked_apart q r (Some node) t ne = node_put_apart r q node t ne

mark_there : (p q : PathValue) (c : Cell) (l : OverlayEntry) (t : Tree) → cells.At q ≢ c
    → node_in q (mark_entry p c l t) ≡ node_in q t
mark_there p q (cells.At r) l t ne = go (is_child p r)
  where
    go : (b : Bool) → node_in q (if b then put_mark r (mark_of l) t else t) ≡ node_in q t
    go true = marked_apart q r (mark_of l) t (λ e. ne (ap cells.At e))
    go false = refl
mark_there p q (cells.Cwd sid) l t ne = refl
mark_there p q (cells.Var sid x) l t ne = refl
mark_there p q (cells.Status sid) l t ne = refl

node_marks : (p q : PathValue) → is_child p q ≡ true → (es : List (Cell × OverlayEntry))
    → T (is_sorted cell_cmp es) → (t : Tree) → node_in q (marks_all p es t)
    ≡ overlays_mark (find cell_cmp (cells.At q) es) (node_in q t)
node_marks p q child [] h t = refl
node_marks p q child (e ∷ es) h t =
    node_marks p q child es (both_snd _ _ h) (mark_entry p e.0 e.1 t)
    ∙ elim (eq_by_cmp cell_cmp (cells.At q) e.0) as (λ b. eq_by_cmp cell_cmp (cells.At q) e.0 ≡ b
    → overlays_mark (find cell_cmp (cells.At q) es) (node_in q (mark_entry p e.0 e.1 t))
    ≡ overlays_mark (cond b (Some e.1) (find cell_cmp (cells.At q) es)) (node_in q t)) [
      | true ↦ λ s. let same = cell_exact (cells.At q) e.0 (tied _ s) in
          ap (λ x. overlays_mark x (node_in q (mark_entry p e.0 e.1 t)))
          (none_found (cells.At q) es (subst (λ c. T (below_all cell_cmp c es)) (sym same) (both_fst _ _ h)))
          ∙ ap (λ c. node_in q (mark_entry p c e.1 t)) (sym same) ∙ mark_here p q e.1 t child
      | false ↦ λ s. ap (overlays_mark (find cell_cmp (cells.At q) es))
          (mark_there p q e.0 e.1 t
          (λ same. true≢false (sym (ap (λ c. eq_by_cmp cell_cmp c e.0) same ∙ ap is_eq (tied_itself cell_total
          e.0)) ∙ s)))
    ] refl

-- a child is below its parent
child_is_below : (o : Option PathValue) → is_some (only_name o) ≡ true → is_some o ≡ true
child_is_below None h = h
child_is_below (Some rest) h = refl

-- the mark of a child after all entries
child_marks : (p q : PathValue) (overlay : OverlayMap) (t : Tree) → is_child p q ≡ true
    → node_in q (mark_entries p (overlay_from (cells.At p) overlay) t)
    ≡ overlays_mark (finmap.get overlay (cells.At q)) (node_in q t)
child_marks p q overlay t child =
    ap (node_in q) (marks_prefixed p (overlay_from (cells.At p) overlay) t
    ∙ ap (λ es. marks_all p es t) (entries_together p (finmap.entries overlay) (entries_sorted overlay)))
    ∙ node_marks p q child (where_key cell_cmp (cell_below p) (finmap.entries overlay))
    (is_sorted-where_key cell_cmp (cell_below p) (finmap.entries overlay) (entries_sorted overlay)) t
    ∙ ap (λ x. overlays_mark x (node_in q t))
    (find-where_key cell_cmp (cell_below p) (cells.At q)
    (λ c e. ap (cell_below p) (sym (cell_exact (cells.At q) c e))) (finmap.entries overlay)
    ∙ ap (λ b. cond b (find cell_cmp (cells.At q) (finmap.entries overlay)) None) (child_is_below (below p q) child)
    ∙ sym (get-entries overlay (cells.At q)))

abbrev node_held : Value → Node
node_held (values.Node node) = node
node_held (values.Cwd p) = Missing
node_held (values.Text t) = Missing
node_held (values.Status n) = Missing

none_there : (q : PathValue) → is_present (node_in q finmap.empty) ≡ false
none_there q = there_in q finmap.empty ∙ ap is_some (finmap.get-empty path_cmp q)

listed : (p : PathValue) (overlay : OverlayMap) (under now : State) → Overlays overlay under now → (n : List ℕ)
    → is_present
    (node_in (p ++ n ∷ []) (mark_entries p (overlay_from (cells.At p) overlay)
    (children_tree p (names_in p under.tree) finmap.empty))) ≡ is_present (node_in (p ++ n ∷ []) now.tree)
unfolding value
listed p overlay under now h n =
    let q = p ++ n ∷ [] in
    ap is_present (child_marks p q overlay (children_tree p (names_in p under.tree) finmap.empty)
    (ap is_some (child_name_of p n)))
    ∙ go (finmap.get overlay (cells.At q)) refl
  where
    go : (x : Option OverlayEntry) → finmap.get overlay (cells.At (p ++ n ∷ [])) ≡ x
        → is_present
        (overlays_mark x (node_in (p ++ n ∷ []) (children_tree p (names_in p under.tree) finmap.empty)))
        ≡ is_present (node_in (p ++ n ∷ []) now.tree)
    go None e =
        there_marked p n (names_in p under.tree) finmap.empty
        ∙ ap (λ b. list_any (text_eq n) (names_in p under.tree) || b) (none_there (p ++ n ∷ []))
        ∙ or_false _
        ∙ names_listed p n under.tree ∙ sym (there_in _ under.tree)
        ∙ ap (λ v. is_present (node_held v))
        (sym (h (cells.At (p ++ n ∷ [])) ∙ ap (λ x. combined_value x (value (cells.At (p ++ n ∷ [])) under)) e))
    go (Some (entries.Value v)) e =
        let here : values.Node (node_in (p ++ n ∷ []) now.tree) ≡ v = h (cells.At (p ++ n ∷ []))
        ∙ ap (λ x. combined_value x (value (cells.At (p ++ n ∷ [])) under)) e in
        ap (λ w. is_present
        (overlays_mark (Some (entries.Value w))
        (node_in (p ++ n ∷ []) (children_tree p (names_in p under.tree) finmap.empty)))) (sym here)
        ∙ there_mark (node_in (p ++ n ∷ []) now.tree)
    go (Some (entries.Growth bytes)) e =
        sym (ap (λ v. is_present (node_held v)) (h (cells.At (p ++ n ∷ []))
        ∙ ap (λ x. combined_value x (value (cells.At (p ++ n ∷ [])) under)) e)
        ∙ there_grown bytes (node_in (p ++ n ∷ []) under.tree))

-- the small tree has the names of the children
pub listed_over : (p : PathValue) (overlay : OverlayMap) (under now : State) → Overlays overlay under now
    → names_in p (mark_entries p (overlay_from (cells.At p) overlay)
    (children_tree p (names_in p under.tree) finmap.empty)) ≡ names_in p now.tree
listed_over p overlay under now h = same_children p _ _ (listed p overlay under now h)

marks_none : (p : PathValue) (es : List (Cell × OverlayEntry)) (t : Tree) → starts_below p es ≡ false
    → mark_entries p es t ≡ t
marks_none p [] t h = refl
marks_none p (e ∷ es) t h = ap (λ b. if b then mark_entries p es (mark_entry p e.0 e.1 t) else t) h

marked_again : (p : PathValue) (t : Tree) → names_in p (children_tree p (names_in p t) finmap.empty) ≡ names_in p t
marked_again p t = same_children p _ _ (λ n.
    there_marked p n (names_in p t) finmap.empty
    ∙ ap (λ b. list_any (text_eq n) (names_in p t) || b) (none_there (p ++ n ∷ []))
    ∙ or_false _ ∙ names_listed p n t ∙ sym (there_in _ t))

-- without entries below the path the names are the view's
pub none_listed : (p : PathValue) (overlay : OverlayMap) (under now : State)
    → starts_below p (overlay_from (cells.At p) overlay) ≡ false → Overlays overlay under now
    → names_in p under.tree ≡ names_in p now.tree
none_listed p overlay under now none h =
    sym (marked_again p under.tree)
    ∙ ap (names_in p)
    (sym (marks_none p (overlay_from (cells.At p) overlay) (children_tree p (names_in p under.tree) finmap.empty) none))
    ∙ listed_over p overlay under now h
