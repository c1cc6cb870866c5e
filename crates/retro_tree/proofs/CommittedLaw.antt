-- A lawful tree that changes at some paths stays lawful exactly if it keeps the law at these paths.
use Rattle.std.proofs.Common.{◌≡◌, ◌≢◌, ℕ, Bool, true, false, not, ◌&&◌, ◌||◌, List, [], ◌∷◌, ◌++◌, reverse, Option}
use Rattle.std.proofs.Common.{Some, None, refl, sym, ap, ◌∙◌}
use Rattle.std.specs.Prelude.{IsTrue, ◌↔◌}
use Rattle.std.specs.Bool.{if◌then◌else◌}
use Rattle.std.specs.List.{list_all, list_any, filter_map, cons_option}
use Rattle.std.proofs.lemmas.Bool.{true≢false, false≢true}
use Rattle.std.proofs.lemmas.List.{reverse-append}
use Rattle.std.proofs.lemmas.List.Elements.{filter_map-append}
use Rattle.std.proofs.lemmas.List.Folds.{list_all-append, list_any-append}
use Rattle.std.specs.FinMap as map
use Rattle.retro_tree.specs.Order.{path_eq, path_total, path_exact, path_ties, path_equiv}
use Rattle.retro_tree.specs.Path.{PathValue, parent_of}
use Rattle.retro_tree.specs.Node.{is_dir, node_of, entry_cut}
use Rattle.retro_tree.specs.Tree.{Tree, node_in, has_child}
use Rattle.retro_tree.specs.Lawful.{law_at, IsLawfulTree}
use Rattle.retro_tree.specs.Cell.{value}
use Rattle.retro_tree.specs.Notes.{cell_eq}
use Rattle.retro_tree.specs.Commit.{put_cell, put_cells}
use Rattle.retro_tree.specs.inner.CommitSteps.{keeps_law_at, keeps_law, path_of, undone_path}
use Rattle.retro_tree.specs.inner.CommitSteps.{written_paths, WasLawful}
use Rattle.retro_tree.specs.inner.CommitSteps.{undo, undo_all, cut_at}
use Rattle.retro_tree.specs.declared.cell.Cell.{Cell}
use Rattle.retro_tree.specs.declared.cell.Cell.TheVariants as cells
use Rattle.retro_tree.specs.declared.value.Value.TheVariants as values
use Rattle.retro_tree.specs.declared.entry.Entry.{Entry}
use Rattle.retro_tree.specs.declared.state.State.{State}
use Rattle.retro_tree.specs.declared.overlay_entry.OverlayEntry.{OverlayEntry}
use Rattle.retro_tree.specs.declared.undo.Undo.{Undo}
use Rattle.retro_tree.specs.declared.undo.Undo.TheVariants as undos
use Rattle.retro_tree.specs.declared.node.Node.{Node}
use Rattle.retro_tree.specs.declared.node.Node.TheVariants.{Missing, Dir, File}
use Rattle.retro_tree.proofs.Small.{tied, first_true, both_true, and_true, not_true}
use Rattle.retro_tree.proofs.Lookups.{get_removed_apart, get_inserted_apart}
use Rattle.retro_tree.proofs.NoteLaws.{same_cells}
use Rattle.retro_tree.proofs.PutCells.{held, value_put}
use Rattle.retro_tree.proofs.LawLemmas.{law_under_dir, child_of_parent, nothing_below, none_below_file}

-- ---- sound
-- a path that the changes left as it was, and whose parent keeps the law
under_written : (name : List ℕ) (rest : PathValue) (was now : Tree) (above : Node) → IsLawfulTree was
    → node_in (name ∷ rest) now ≡ node_in (name ∷ rest) was
    → (is_dir above || not (has_child (parent_of (name ∷ rest)) now)) ≡ true
    → law_at (name ∷ rest) (node_in (name ∷ rest) now) above ≡ true
unfolding IsLawfulTree
under_written name rest was now Dir lawful same h =
    ap (λ n. law_at (name ∷ rest) n Dir) same
    ∙ law_under_dir (name ∷ rest) (node_in (name ∷ rest) was) _ (lawful (name ∷ rest))
under_written name rest was now Missing lawful same h =
    ap (λ n. law_at (name ∷ rest) n Missing)
    (nothing_below (parent_of (name ∷ rest)) (name ∷ rest) now (not_true _ h) (child_of_parent name rest))
under_written name rest was now (File bytes) lawful same h =
    ap (λ n. law_at (name ∷ rest) n (File bytes))
    (nothing_below (parent_of (name ∷ rest)) (name ∷ rest) now (not_true _ h) (child_of_parent name rest))

sound_at : (paths : List PathValue) (now : Tree) → (w : WasLawful paths now)
    → ((p : PathValue) → list_any (path_eq p) paths ≡ true → keeps_law_at p now ≡ true) → (q : PathValue)
    → law_at q (node_in q now) (node_in (parent_of q) now) ≡ true
unfolding IsLawfulTree
sound_at paths now w keeps q = go q (list_any (path_eq q) paths) refl
  where
    by_parent : (name : List ℕ) (rest : PathValue) → list_any (path_eq (name ∷ rest)) paths ≡ false → (b : Bool)
        → list_any (path_eq (parent_of (name ∷ rest))) paths ≡ b
        → law_at (name ∷ rest) (node_in (name ∷ rest) now) (node_in (parent_of (name ∷ rest)) now) ≡ true
    by_parent name rest out true is =
        let up = parent_of (name ∷ rest) in
        under_written name rest w.before now (node_in up now) w.lawful (w.apart (name ∷ rest) out)
        (both_true (law_at up (node_in up now) (node_in (parent_of up) now)) _ (keeps up is))
    by_parent name rest out false is =
        (λ i. law_at (name ∷ rest) (w.apart (name ∷ rest) out i) (w.apart (parent_of (name ∷ rest)) is i))
        ∙ w.lawful (name ∷ rest)

    go : (r : PathValue) (b : Bool) → list_any (path_eq r) paths ≡ b
        → law_at r (node_in r now) (node_in (parent_of r) now) ≡ true
    go r true is = first_true (law_at r (node_in r now) (node_in (parent_of r) now)) _ (keeps r is)
    go [] false is = ap is_dir (w.apart [] is) ∙ w.lawful []
    go (name ∷ rest) false is = by_parent name rest is (list_any (path_eq (parent_of (name ∷ rest))) paths) refl

-- each path of a list passes a test that the whole list passes
at_each : (f : PathValue → Bool) (p : PathValue) (paths : List PathValue) → list_all f paths ≡ true
    → list_any (path_eq p) paths ≡ true → f p ≡ true
at_each f p [] all is = absurd (false≢true is)
at_each f p (q ∷ paths) all is =
    elim (path_eq p q) as (λ b. path_eq p q ≡ b → (b || list_any (path_eq p) paths) ≡ true → f p ≡ true) [
      | true ↦ λ t g. ap f (path_exact p q (tied _ (sym (path_ties p q) ∙ t))) ∙ first_true (f q) _ all
      | false ↦ λ t g. at_each f p paths (both_true (f q) _ all) g
    ] refl is

pub law_kept : (paths : List PathValue) (now : Tree) → WasLawful paths now
    → list_all (λ p. keeps_law_at p now) paths ≡ true → IsLawfulTree now
unfolding IsLawfulTree
law_kept paths now w all = sound_at paths now w (λ p is. at_each (λ q. keeps_law_at q now) p paths all is)

-- ---- complete
keeps_everywhere : (tree : Tree) → IsLawfulTree tree → (p : PathValue) → keeps_law_at p tree ≡ true
unfolding IsLawfulTree
keeps_everywhere tree lawful p = and_true _ _ (lawful p) (go (is_dir (node_in p tree)) refl)
  where
    go : (b : Bool) → is_dir (node_in p tree) ≡ b → (b || not (has_child p tree)) ≡ true
    go true is = refl
    go false is = ap not (none_below_file p tree lawful is)

all_pass : {X : Type 0} (f : X → Bool) (xs : List X) → ((x : X) → f x ≡ true) → list_all f xs ≡ true
all_pass f [] h = refl
all_pass f (x ∷ xs) h = and_true _ _ (h x) (all_pass f xs h)

-- ---- the tests of a commit
paths_tested : {X : Type 0} (h : X → Option PathValue) (tree : Tree) (xs : List X)
    → list_all (λ x. keeps_law (h x) tree) xs ≡ list_all (λ p. keeps_law_at p tree) (filter_map h xs)
paths_tested h tree [] = refl
paths_tested h tree (x ∷ xs) =
    elim (h x) as (λ o. (keeps_law o tree && list_all (λ y. keeps_law (h y) tree) xs)
    ≡ list_all (λ p. keeps_law_at p tree) (cons_option o (filter_map h xs))) [
      | None ↦ paths_tested h tree xs
      | Some p ↦ ap (λ b. keeps_law_at p tree && b) (paths_tested h tree xs)
    ]

and_swapped : (a b : Bool) → (a && b) ≡ (b && a)
and_swapped true true = refl
and_swapped true false = refl
and_swapped false true = refl
and_swapped false false = refl

-- the tests of removals and of writes are the test of all paths
all_tested : (us : List Undo) (es : List (Cell × OverlayEntry)) (tree : Tree)
    → (list_all (λ e. keeps_law (path_of e.0) tree) es && list_all (λ u. keeps_law (undone_path u) tree) us)
    ≡ list_all (λ p. keeps_law_at p tree) (written_paths us es)
all_tested us es tree =
    and_swapped (list_all (λ e. keeps_law (path_of e.0) tree) es) (list_all (λ u. keeps_law (undone_path u) tree) us)
    ∙ (λ i. paths_tested undone_path tree us i && paths_tested (λ (e : Cell × OverlayEntry). path_of e.0) tree es i)
    ∙ sym (list_all-append (λ p. keeps_law_at p tree) (filter_map undone_path us) (filter_map (λ e. path_of e.0) es))

lawful_if_passed : (b : Bool) (us : List Undo) (es : List (Cell × OverlayEntry)) (tree : Tree)
    → WasLawful (written_paths us es) tree
    → b ≡ (list_all (λ e. keeps_law (path_of e.0) tree) es && list_all (λ u. keeps_law (undone_path u) tree) us)
    → IsTrue b ↔ IsLawfulTree tree
lawful_if_passed b us es tree w is = (
  λ t. law_kept (written_paths us es) tree w (sym (all_tested us es tree) ∙ sym is ∙ t),
  λ l. is ∙ all_tested us es tree
      ∙ all_pass (λ p. keeps_law_at p tree) (written_paths us es) (keeps_everywhere tree l),
)

-- if the removals pass, the writes decide
pub writes_decide : (a b : Bool) (us : List Undo) (es : List (Cell × OverlayEntry)) (tree : Tree)
    → WasLawful (written_paths us es) tree → a ≡ list_all (λ e. keeps_law (path_of e.0) tree) es → a ≡ true
    → b ≡ list_all (λ u. keeps_law (undone_path u) tree) us → IsTrue b ↔ IsLawfulTree tree
writes_decide a b us es tree w is passed last =
    lawful_if_passed b us es tree w
    (last ∙ ap (λ r. r && list_all (λ u. keeps_law (undone_path u) tree) us) (sym passed ∙ is))

pub removals_decide : (a : Bool) (us : List Undo) (es : List (Cell × OverlayEntry)) (tree : Tree)
    → WasLawful (written_paths us es) tree → a ≡ list_all (λ e. keeps_law (path_of e.0) tree) es → a ≡ false
    → IsTrue a ↔ IsLawfulTree tree
removals_decide a us es tree w is failed =
    lawful_if_passed a us es tree w
    (failed ∙ ap (λ r. r && list_all (λ u. keeps_law (undone_path u) tree) us) (sym failed ∙ is))

-- ---- tests from the last to the first
pub last_passed : {X : Type 0} (f : X → Bool) (xs ys : List X) (x : X) → ys ≡ xs ++ x ∷ [] → f x ≡ true
    → list_all f ys ≡ list_all f xs
last_passed f xs ys x more is =
    ap (list_all f) more ∙ list_all-append f xs (x ∷ []) ∙ ap (λ b. list_all f xs && (b && true)) is
    ∙ and_swapped (list_all f xs) true

pub last_failed : {X : Type 0} (f : X → Bool) (xs ys : List X) (x : X) → ys ≡ xs ++ x ∷ [] → f x ≡ false
    → list_all f ys ≡ false
last_failed f xs ys x more is =
    ap (list_all f) more ∙ list_all-append f xs (x ∷ []) ∙ ap (λ b. list_all f xs && (b && true)) is
    ∙ and_swapped (list_all f xs) false

pub ruleset last_tested = (last_passed, last_failed)

-- ---- what a commit leaves as it was
abbrev names : PathValue → Option PathValue → Bool
names q None = false
names q (Some p) = path_eq q p

named_first : {X : Type 0} (h : X → Option PathValue) (q : PathValue) (x : X) (xs : List X)
    → list_any (path_eq q) (filter_map h (x ∷ xs)) ≡ (names q (h x) || list_any (path_eq q) (filter_map h xs))
named_first h q x xs =
    elim (h x) as (λ o. list_any (path_eq q) (cons_option o (filter_map h xs))
    ≡ (names q o || list_any (path_eq q) (filter_map h xs))) [ None ↦ refl | Some p ↦ refl ]

or_false : (a b : Bool) → (a || b) ≡ false → (a ≡ false) × (b ≡ false)
or_false true b e = absurd (true≢false e)
or_false false b e = (refl, e)

neither : (a b : Bool) → a ≡ false → b ≡ false → (a || b) ≡ false
neither true b e f = absurd (true≢false e)
neither false b e f = f

unnamed_reversed : {X : Type 0} (h : X → Option PathValue) (q : PathValue) (xs : List X)
    → list_any (path_eq q) (filter_map h xs) ≡ false → list_any (path_eq q) (filter_map h (reverse xs)) ≡ false
unnamed_reversed h q [] e = refl
unnamed_reversed h q (x ∷ xs) e =
    let apart = or_false (names q (h x)) _ (sym (named_first h q x xs) ∙ e) in
    ap (λ ys. list_any (path_eq q) (filter_map h ys)) (reverse-append (x ∷ []) xs)
    ∙ ap (list_any (path_eq q)) (filter_map-append h (reverse xs) (x ∷ []))
    ∙ list_any-append (path_eq q) (filter_map h (reverse xs)) (filter_map h (x ∷ []))
    ∙ neither _ _ (unnamed_reversed h q xs apart.1) (named_first h q x [] ∙ neither _ _ apart.0 refl)

apart_from : (q p : PathValue) → path_eq q p ≡ false → q ≢ p
apart_from q p e same = true≢false (sym (path_equiv.refl p) ∙ ap (λ r. path_eq r p) (sym same) ∙ e)

left_by_undo : (q : PathValue) (u : Undo) (s : State) → names q (undone_path u) ≡ false
    → node_in q (undo u s).tree ≡ node_in q s.tree
unfolding node_in
left_by_undo q (undos.Entry p None) s e =
    ap node_of (get_removed_apart path_total path_exact s.tree p q (apart_from q p e))
left_by_undo q (undos.Entry p (Some entry)) s e =
    ap node_of (get_inserted_apart path_total path_exact s.tree p entry q (apart_from q p e))
left_by_undo q (undos.Length p n) s e = go (map.get s.tree p)
  where
    go : (o : Option Entry) → node_of (map.get (cut_at p n o s.tree) q) ≡ node_of (map.get s.tree q)
    go None = refl
    go (Some entry) =
        ap node_of (get_inserted_apart path_total path_exact s.tree p (entry_cut n entry) q (apart_from q p e))
left_by_undo q (undos.Session sid) s e = refl
left_by_undo q (undos.Setting sid previous) s e = refl

left_by_undos : (q : PathValue) (us : List Undo) (s : State)
    → list_any (path_eq q) (filter_map undone_path us) ≡ false
    → node_in q (undo_all us s).tree ≡ node_in q s.tree
left_by_undos q [] s e = refl
left_by_undos q (u ∷ us) s e =
    let apart = or_false (names q (undone_path u)) _ (sym (named_first undone_path q u us) ∙ e) in
    left_by_undos q us (undo u s) apart.1 ∙ left_by_undo q u s apart.0

node_of_value : (a b : Node) → values.Node a ≡ values.Node b → a ≡ b
node_of_value a b e = cc

left_by_entry : (q : PathValue) (c : Cell) (l : OverlayEntry) (s : State) → names q (path_of c) ≡ false
    → node_in q (put_cell c l s).tree ≡ node_in q s.tree
unfolding value
left_by_entry q c l s e = node_of_value _ _ (value_put c l s (cells.At q) ∙ go (cell_eq c (cells.At q)) refl)
  where
    go : (b : Bool) → cell_eq c (cells.At q) ≡ b
        → (if b then held c l (value (cells.At q) s) else value (cells.At q) s) ≡ value (cells.At q) s
    go false is = refl
    go true is =
        absurd (true≢false (sym (path_equiv.refl q)
        ∙ ap (λ d. names q (path_of d)) (sym (same_cells c (cells.At q) is)) ∙ e))

left_by_entries : (q : PathValue) (es : List (Cell × OverlayEntry)) (s : State)
    → list_any (path_eq q) (filter_map (λ e. path_of e.0) es) ≡ false
    → node_in q (put_cells es s).tree ≡ node_in q s.tree
left_by_entries q [] s h = refl
left_by_entries q (e ∷ es) s h =
    let apart = or_false (names q (path_of e.0)) _
    (sym (named_first (λ (f : Cell × OverlayEntry). path_of f.0) q e es) ∙ h) in
    left_by_entries q es (put_cell e.0 e.1 s) apart.1 ∙ left_by_entry q e.0 e.1 s apart.0

-- writes that can be undone, and then removals, change only their paths
pub was_lawful : (us : List Undo) (es : List (Cell × OverlayEntry)) (was written : State)
    → undo_all (reverse us) written ≡ was → IsLawfulTree was.tree
    → WasLawful (written_paths us es) (put_cells es written).tree
was_lawful us es was written undone lawful = record {
  before = was.tree;
  lawful = lawful;
  apart = λ q e.
      let apart = or_false _ _ (sym (list_any-append (path_eq q) (filter_map undone_path us)
      (filter_map (λ f. path_of f.0) es)) ∙ e) in
      left_by_entries q es written apart.1
      ∙ sym (left_by_undos q (reverse us) written (unnamed_reversed undone_path q us apart.0))
      ∙ ap (λ (s : State). node_in q s.tree) undone;
}
