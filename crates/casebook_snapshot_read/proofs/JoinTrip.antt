-- The rows of a snapshot are what joins its tree with the modes and owners of its folder.
use Rattle.std.proofs.Common.{◌≡◌, ◌∙◌, ◌==◌, List, [], ◌∷◌, Bool, true, false, ◌&&◌, ◌||◌, cond, map, length}
use Rattle.std.proofs.Common.{Option, Some, None, Ok, T, Less, refl, sym, ap, ap₂, subst, eq-eqb, eqb-true}
use Rattle.std.specs.Prelude.{is_some, if◌then◌else◌}
use Rattle.std.specs.Cmp.Lexicographic.{nat_list_eq_equiv}
use Rattle.std.specs.FinMap as finite
use Rattle.std.specs.FinMap.{find}
use Rattle.std.specs.FinMap.Entries.{below_all, is_sorted}
use Rattle.std.specs.List.{filter, list_all}
use Rattle.std.specs.Map.{update, update_all}
use Rattle.std.specs.Ordering.{eq_by_cmp, is_eq, is_le, is_lt, ordering_reverse}
use Rattle.std.specs.declared.cmp.Ordering.{Ordering}
use Rattle.std.specs.declared.cmp.Ordering.TheVariants as orders
use Rattle.std.proofs.lemmas.Bool.{and_parts, false≢true, true≢false}
use Rattle.std.proofs.lemmas.List.{length-map}
use Rattle.retro_path.specs.Order.{path_cmp, path_exact, path_total}
use Rattle.retro_path.specs.Path.{PathValue, below}
use Rattle.retro_tree.specs.Tree.{Tree}
use Rattle.retro_tree.proofs.Small.{both_fst, both_snd, less, tied}
use Rattle.retro_tree.proofs.Together.{path_after}
use Rattle.casebook_folder.specs.declared.attributes.Attributes.{Attributes}
use Rattle.casebook_snapshot.specs.Placed.{above}
use Rattle.casebook_snapshot.specs.declared.item.Row.{Row}
use Rattle.casebook_snapshot.proofs.Small.{tied_itself}
use Rattle.casebook_snapshot_json.specs.Documents.{is_known}
use Rattle.casebook_snapshot_read.specs.Joined.{AreInOrder, attributes_at, attributes_by, count_in, each, is_folder}
use Rattle.casebook_snapshot_read.specs.Joined.{is_in, root_of, row_with, rows_of}
use Rattle.casebook_snapshot_read.specs.ReadBack.{are_above, entry_of, is_placed}

abbrev pub attributes_of : PathValue × Row → PathValue × Attributes
attributes_of e = (e.0, e.1.attributes)

-- ---- lists

-- a test of items that are changed one by one
pub filter_mapped : {X Y : Type 0} (f : X → Y) (test : Y → Bool) (xs : List X)
    → filter test (map f xs) ≡ map f (filter (λ x. test (f x)) xs)
filter_mapped f test [] = refl
filter_mapped {X = X} {Y = Y} f test (x ∷ xs) = by (filter_mapped f test xs) (test (f x))
  where
    by : filter test (map f xs) ≡ map f (filter (λ y. test (f y)) xs) → (b : Bool)
        → cond b (f x ∷ filter test (map f xs)) (filter test (map f xs))
        ≡ map f (cond b (x ∷ filter (λ y. test (f y)) xs) (filter (λ y. test (f y)) xs))
    by rest true = ap (λ (ys : List Y). f x ∷ ys) rest
    by rest false = rest

-- ---- order

abbrev Rows : Type 0
Rows = List (PathValue × Row)

from_both : (a b : Bool) → T a → T b → T (a && b)
from_both true b p q = q
from_both false b p q = absurd p

is_less : (o : Ordering) → o ≡ Less → T (is_lt o)
is_less o e = subst (λ r. T (is_lt r)) (sym e) tt

-- a path before another one is before all that follow that one
before_all : (p q : PathValue) (es : Rows) → path_cmp p q ≡ Less → T (below_all path_cmp q es)
    → T (below_all path_cmp p es)
before_all p q [] e h = tt
before_all p q (f ∷ es) e h =
    from_both _ _ (is_less _ (path_total.trans p q f.0 e (less _ (both_fst _ _ h))))
    (before_all p q es e (both_snd _ _ h))

not_found : (p : PathValue) (es : Rows) → T (below_all path_cmp p es) → find path_cmp p (map entry_of es) ≡ None
not_found p [] h = refl
not_found p (e ∷ es) h =
    ap (λ b. cond b (Some e.1.entry) (find path_cmp p (map entry_of es))) (ap is_eq (less _ (both_fst _ _ h)))
    ∙ not_found p es (both_snd _ _ h)

below_mapped : {X : Type 0} (v : Row → X) (p : PathValue) (es : Rows)
    → below_all path_cmp p (map (λ e. (e.0, v e.1)) es) ≡ below_all path_cmp p es
below_mapped v p [] = refl
below_mapped v p (e ∷ es) = ap (λ b. is_lt (path_cmp p e.0) && b) (below_mapped v p es)

pub sorted_mapped : {X : Type 0} (v : Row → X) (es : Rows)
    → is_sorted path_cmp (map (λ e. (e.0, v e.1)) es) ≡ is_sorted path_cmp es
sorted_mapped v [] = refl
sorted_mapped v (e ∷ es) = ap₂ (λ a b. a && b) (below_mapped v e.0 es) (sorted_mapped v es)

below_kept : (test : PathValue × Row → Bool) (p : PathValue) (es : Rows) → T (below_all path_cmp p es)
    → T (below_all path_cmp p (filter test es))
below_kept test p [] h = tt
below_kept test p (e ∷ es) h = by (below_kept test p es (both_snd _ _ h)) (test e)
  where
    by : T (below_all path_cmp p (filter test es)) → (b : Bool)
        → T (below_all path_cmp p (cond b (e ∷ filter test es) (filter test es)))
    by rest true = from_both _ _ (both_fst _ _ h) rest
    by rest false = rest

-- ---- the folder comes first

below_itself : (p : PathValue) → is_some (below p p) ≡ true
below_itself [] = refl
below_itself (n ∷ p) =
    ap (λ b. is_some (if b then below p p else None)) (nat_list_eq_equiv.refl n) ∙ below_itself p

le_less : (o : Ordering) → is_le o ≡ true → is_eq o ≡ false → o ≡ Less
le_less orders.Less h e = refl
le_less orders.Equal h e = absurd (true≢false e)
le_less orders.Greater h e = absurd (false≢true h)

abbrev known_rows : PathValue → Rows → List (PathValue × Attributes)
known_rows at es = map attributes_of (filter (is_known at) es)

pub folder_first : (at : PathValue) (es : Rows) → AreInOrder es
    → is_some (find path_cmp at (map entry_of es)) ≡ true → root_of (known_rows at es) ≡ Ok at
folder_first at [] order found = absurd (false≢true found)
folder_first at (e ∷ es) order found =
    by (folder_first at es (both_snd _ _ order)) (eq_by_cmp path_cmp at e.0) refl (is_known at e) refl found
  where
    none : path_cmp at e.0 ≡ Less → is_some (find path_cmp at (map entry_of es)) ≡ true → ⊥
    none before h =
        false≢true (sym (ap is_some (not_found at es (before_all at e.0 es before (both_fst _ _ order)))) ∙ h)

    by : (is_some (find path_cmp at (map entry_of es)) ≡ true → root_of (known_rows at es) ≡ Ok at)
        → (same : Bool) → eq_by_cmp path_cmp at e.0 ≡ same → (known : Bool) → is_known at e ≡ known
        → is_some (cond same (Some e.1.entry) (find path_cmp at (map entry_of es))) ≡ true
        → root_of (map attributes_of (cond known (e ∷ filter (is_known at) es) (filter (is_known at) es))) ≡ Ok at
    by rest true s true k h = ap (λ p. Ok p) (sym (path_exact at e.0 (tied _ s)))
    by rest true s false k h =
        let here : at ≡ e.0 = path_exact at e.0 (tied _ s) in
        absurd (true≢false (sym (below_itself at) ∙ ap (λ q. is_some (below at q)) here ∙ k))
    by rest false s true k h = absurd (none (le_less _ (path_after at e.0 k) s) h)
    by rest false s false k h = rest h

-- ---- modes and owners by their paths

abbrev same_path : PathValue → PathValue → Bool
same_path = eq_by_cmp path_cmp

abbrev Known : Type 0
Known = PathValue → Option Attributes

later_path : (p q : PathValue) → path_cmp p q ≡ Less → same_path q p ≡ false
later_path p q e = ap is_eq (path_total.antisymm q p ∙ ap ordering_reverse e)

-- rows of later paths say nothing of a path
untouched : (f : Known) (p : PathValue) (rows : List (PathValue × Attributes)) → T (below_all path_cmp p rows)
    → update_all same_path f rows p ≡ f p
untouched f p [] h = refl
untouched f p (r ∷ rows) h =
    untouched (update same_path f r.0 (Some r.1)) p rows (both_snd _ _ h)
    ∙ ap (λ b. cond b (Some r.1) (f p)) (later_path p r.0 (less _ (both_fst _ _ h)))

same_attributes : (a : Attributes) → are_above a ≡ true → above ≡ a
same_attributes a h =
    let mode = and_parts (a.mode == above.mode) _ h in
    let owner = and_parts (a.uid == above.uid) (a.gid == above.gid) mode.1 in
    let m : above.mode ≡ a.mode = sym (eqb-true a.mode above.mode mode.0) in
    let u : above.uid ≡ a.uid = sym (eqb-true a.uid above.uid owner.0) in
    let g : above.gid ≡ a.gid = sym (eqb-true a.gid above.gid owner.1) in
    λ i. record { mode = m i; uid = u i; gid = g i }

-- what is known of each row's path is the row's mode and owner
abbrev AreKnown : PathValue → Known → Rows → Type 0
AreKnown at known [] = Unit {0}
AreKnown at known (e ∷ es) = (attributes_at at known e.0 ≡ Some e.1.attributes) × AreKnown at known es

all_known : (at : PathValue) (f : Known) (es : Rows) → AreInOrder es → list_all (is_placed at) es ≡ true
    → AreKnown at (update_all same_path f (known_rows at es)) es
all_known at f [] order placed = tt
all_known at f (e ∷ es) order placed =
    let parts = and_parts (is_placed at e) (list_all (is_placed at) es) placed in
    by (λ g. all_known at g es (both_snd _ _ order) parts.1) (is_known at e) refl parts.0
  where
    -- by whether the row is in the folder
    by : ((g : Known) → AreKnown at (update_all same_path g (known_rows at es)) es)
        → (known : Bool) → is_known at e ≡ known
        → (known || (is_some (below e.0 at) && are_above e.1.attributes)) ≡ true
        → AreKnown at (update_all same_path f
        (map attributes_of (cond known (e ∷ filter (is_known at) es) (filter (is_known at) es)))) (e ∷ es)
    by rest true k h =
        let g = update same_path f e.0 (Some e.1.attributes) in
        let later : T (below_all path_cmp e.0 (known_rows at es)) =
        subst T (sym (below_mapped (λ r. r.attributes) e.0 (filter (is_known at) es)))
        (below_kept (is_known at) e.0 es (both_fst _ _ order)) in
        let says : update_all same_path g (known_rows at es) e.0 ≡ Some e.1.attributes =
        untouched g e.0 (known_rows at es) later
        ∙ ap (λ b. cond b (Some e.1.attributes) (f e.0)) (tied_itself e.0) in
        (rw k says, rest g)
    by rest false k h =
        let parts = and_parts (is_some (below e.0 at)) (are_above e.1.attributes) h in
        (rw (k, parts.0) (ap Some (same_attributes e.1.attributes parts.1)), rest f)

each_again : (at : PathValue) (known : Known) (es : Rows) → AreKnown at known es
    → each (row_with at known) (map entry_of es) ≡ Ok es
unfolding each
each_again at known [] h = refl
each_again at known (e ∷ es) h = rw (h.0, each_again at known es h.1) refl

-- ---- all rows

counted : (at : PathValue) (es : Rows) → length (known_rows at es) ≡ length (filter (is_in at) (map entry_of es))
counted at es =
    length-map (filter (is_known at) es) attributes_of
    ∙ sym (ap length (filter_mapped entry_of (is_in at) es) ∙ length-map (filter (is_known at) es) entry_of)

pub rows_again : (at : PathValue) (es : Rows) (tree : Tree) → finite.entries tree ≡ map entry_of es
    → AreInOrder es → is_folder at tree ≡ true → list_all (is_placed at) es ≡ true
    → rows_of at (known_rows at es) tree ≡ Ok es
rows_again at es tree has order folder placed =
    let exact : (length (known_rows at es) == count_in at tree) ≡ true =
    eq-eqb _ _ (counted at es ∙ sym (ap (λ found. length (filter (is_in at) found)) has)) in
    rw (folder, exact, has)
    (each_again at (attributes_by (known_rows at es)) es (all_known at (λ _. None) es order placed))
