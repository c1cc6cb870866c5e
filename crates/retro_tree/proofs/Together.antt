-- In the order of paths, the paths below a path are consecutive and follow it.
use Rattle.std.proofs.Common.{◌≡◌, ℕ, Bool, true, false, cond, ◌||◌, List, [], ◌∷◌, map, Option, Some, None, refl, sym}
use Rattle.std.proofs.Common.{ap, ◌∙◌, T}
use Rattle.std.specs.Option.{is_some}
use Rattle.std.specs.Bool.{if◌then◌else◌}
use Rattle.std.specs.List.{filter, filter_map, cons_option, list_any}
use Rattle.std.specs.Ordering.{is_le, is_eq, ordering_then}
use Rattle.std.specs.declared.cmp.Ordering.{Ordering}
use Rattle.std.specs.declared.cmp.Ordering.TheVariants.{Less, Equal, Greater}
use Rattle.std.specs.FinMap as finmap
use Rattle.std.specs.FinMap.Entries.{is_sorted, below_all}
use Rattle.std.proofs.lemmas.Bool.{true≢false, false≢true}
use Rattle.retro_tree.specs.Order.{path_cmp, text_cmp, text_eq, text_total, text_exact, text_ties}
use Rattle.retro_tree.specs.Path.{PathValue, below, only_name, child_name, is_child}
use Rattle.retro_tree.specs.Tree.{Tree, has_child, entries_from}
use Rattle.retro_tree.specs.Ask.{names_in}
use Rattle.retro_tree.proofs.Small.{tied, less, both_fst, both_snd}

-- the prefix of these paths that is below a path
abbrev pub together : PathValue → List PathValue → List PathValue
together p [] = []
together p (k ∷ ks) = if is_some (below p k) then k ∷ together p ks else []

-- ---- the order
then_le : (a b : Ordering) → a ≡ Equal → is_le b ≡ true → is_le (ordering_then a b) ≡ true
then_le a b e h = ap (λ r. is_le (ordering_then r b)) e ∙ h

pub path_after : (p q : PathValue) → is_some (below p q) ≡ true → is_le (path_cmp p q) ≡ true
path_after [] [] h = refl
path_after [] (y ∷ q) h = refl
path_after (x ∷ p) [] h = absurd (false≢true h)
path_after (x ∷ p) (y ∷ q) h =
    elim (text_eq x y) as (λ b. text_eq x y ≡ b → is_some (if b then below p q else None) ≡ true
    → is_le (ordering_then (text_cmp x y) (path_cmp p q)) ≡ true) [
      | true ↦ λ t here. then_le (text_cmp x y) (path_cmp p q) (tied _ (sym (text_ties x y) ∙ t)) (path_after p q here)
      | false ↦ λ t here. absurd (false≢true here)
    ] refl h

differs : (x y : List ℕ) → text_cmp x y ≡ Less → text_eq x y ≡ false
differs x y e = text_ties x y ∙ ap is_eq e

none_if : (b : Bool) (o : Option PathValue) → b ≡ false → is_some (if b then o else None) ≡ false
none_if true o e = absurd (true≢false e)
none_if false o e = refl

if_true : (b : Bool) (o : Option PathValue) → b ≡ true → is_some (if b then o else None) ≡ is_some o
if_true true o e = refl
if_true false o e = absurd (false≢true e)

flat_if : (b : Bool) (o : Option PathValue) → is_some o ≡ false → is_some (if b then o else None) ≡ false
flat_if true o e = e
flat_if false o e = refl

-- a path after one that is after p and not below it isn't below p
pub apart_from : (p k m : PathValue) → is_le (path_cmp p k) ≡ true → is_some (below p k) ≡ false
    → path_cmp k m ≡ Less → is_some (below p m) ≡ false
apart_from [] k m h none e = absurd (true≢false none)
apart_from (x ∷ p) [] m h none e = absurd (false≢true h)
apart_from (x ∷ p) (y ∷ k) [] h none e = refl
apart_from (x ∷ p) (y ∷ k) (z ∷ m) h none e = by_first (text_cmp x y) refl (text_cmp y z) refl (apart_from p k m)
  where
    by_first : (a : Ordering) → text_cmp x y ≡ a → (b : Ordering) → text_cmp y z ≡ b
        → (is_le (path_cmp p k) ≡ true → is_some (below p k) ≡ false → path_cmp k m ≡ Less
        → is_some (below p m) ≡ false) → is_some (below (x ∷ p) (z ∷ m)) ≡ false
    by_first Less s Less t deeper = none_if (text_eq x z) (below p m) (differs x z (text_total.trans x y z s t))
    by_first Less s Equal t deeper =
        none_if (text_eq x z) (below p m) (differs x z (ap (text_cmp x) (sym (text_exact y z t)) ∙ s))
    by_first Less s Greater t deeper = cc
    by_first Equal s Less t deeper = none_if (text_eq x z) (below p m) (differs x z (text_total.congr x y z s ∙ t))
    by_first Equal s Equal t deeper =
        flat_if (text_eq x z) (below p m) (deeper (sym (ap (λ r. is_le (ordering_then r (path_cmp p k))) s) ∙ h)
        (sym (if_true (text_eq x y) (below p k) (text_ties x y ∙ ap is_eq s)) ∙ none)
        (sym (ap (λ r. ordering_then r (path_cmp k m)) t) ∙ e))
    by_first Equal s Greater t deeper = cc
    by_first Greater s b t deeper = absurd (false≢true (sym (ap (λ r. is_le (ordering_then r (path_cmp p k))) s) ∙ h))

-- ---- lists of entries
-- none of these is below p
none_below : {X : Type 0} (p k : PathValue) (es : List (PathValue × X)) → is_le (path_cmp p k) ≡ true
    → is_some (below p k) ≡ false → T (below_all path_cmp k es) → filter (λ e. is_some (below p e.0)) es ≡ []
none_below p k [] h none s = refl
none_below {X} p k (e ∷ es) h none s =
    ap (λ b. cond b (e ∷ filter (λ f. is_some (below p f.0)) es) (filter (λ f. is_some (below p f.0)) es))
    (apart_from p k e.0 h none (less _ (both_fst _ _ s)))
    ∙ none_below p k es h none (both_snd _ _ s)

pub consecutive : {X : Type 0} (p : PathValue) (es : List (PathValue × X)) → T (is_sorted path_cmp es)
    → together p (map (λ e. e.0) (filter (λ e. is_le (path_cmp p e.0)) es))
    ≡ map (λ e. e.0) (filter (λ e. is_some (below p e.0)) es)
consecutive p [] s = refl
consecutive {X} p (e ∷ es) s =
    elim (is_some (below p e.0)) as (λ b. is_some (below p e.0) ≡ b
    → together p
    (map (λ f. f.0) (cond (is_le (path_cmp p e.0)) (e ∷ filter (λ f. is_le (path_cmp p f.0)) es)
    (filter (λ f. is_le (path_cmp p f.0)) es)))
    ≡ map (λ f. f.0) (cond b (e ∷ filter (λ f. is_some (below p f.0)) es)
    (filter (λ f. is_some (below p f.0)) es))) [
      | true ↦ λ t. ap
          (λ c. together p
          (map (λ f. f.0) (cond c (e ∷ filter (λ f. is_le (path_cmp p f.0)) es)
          (filter (λ f. is_le (path_cmp p f.0)) es)))) (path_after p e.0 t)
          ∙ ap (λ b. if b then e.0 ∷ together p (map (λ f. f.0) (filter (λ f. is_le (path_cmp p f.0)) es)) else []) t
          ∙ ap (λ ks. e.0 ∷ ks) (consecutive p es (both_snd _ _ s))
      | false ↦ λ t. elim (is_le (path_cmp p e.0)) as (λ l. is_le (path_cmp p e.0) ≡ l
          → together p
          (map (λ f. f.0) (cond l (e ∷ filter (λ f. is_le (path_cmp p f.0)) es)
          (filter (λ f. is_le (path_cmp p f.0)) es))) ≡ map (λ f. f.0) (filter (λ f. is_some (below p f.0)) es)) [
            | true ↦ λ h. ap
                (λ b. if b then e.0 ∷ together p (map (λ f. f.0) (filter (λ f. is_le (path_cmp p f.0)) es)) else []) t
                ∙ ap (map (λ f. f.0)) (sym (none_below p e.0 es h t (both_fst _ _ s)))
            | false ↦ λ h. consecutive p es (both_snd _ _ s)
          ] refl
    ] refl

names_below : {X : Type 0} (p : PathValue) (es : List (PathValue × X))
    → filter_map (child_name p) (map (λ e. e.0) (filter (λ e. is_some (below p e.0)) es))
    ≡ filter_map (child_name p) (map (λ e. e.0) es)
names_below p [] = refl
names_below {X} p (e ∷ es) =
    elim (below p e.0) as (λ o. below p e.0 ≡ o
    → filter_map (child_name p)
    (map (λ f. f.0) (cond (is_some o) (e ∷ filter (λ f. is_some (below p f.0)) es)
    (filter (λ f. is_some (below p f.0)) es))) ≡ cons_option (only_name o)
    (filter_map (child_name p) (map (λ f. f.0) es))) [
      | None ↦ λ is. names_below p es
      | Some r ↦ λ is. λ i. cons_option (only_name (is i)) (names_below p es i)
    ] refl

child_below : {X : Type 0} (p : PathValue) (es : List (PathValue × X))
    → list_any (is_child p) (map (λ e. e.0) (filter (λ e. is_some (below p e.0)) es)) ≡ list_any (is_child p)
    (map (λ e. e.0) es)
child_below p [] = refl
child_below {X} p (e ∷ es) =
    elim (below p e.0) as (λ o. below p e.0 ≡ o
    → list_any (is_child p)
    (map (λ f. f.0) (cond (is_some o) (e ∷ filter (λ f. is_some (below p f.0)) es)
    (filter (λ f. is_some (below p f.0)) es)))
    ≡ (is_some (only_name o) || list_any (is_child p) (map (λ f. f.0) es))) [
      | None ↦ λ is. child_below p es
      | Some r ↦ λ is. λ i. is_some (only_name (is i)) || child_below p es i
    ] refl

-- ---- a tree: the entries from a path to the first that isn't below it are all entries below it
pub names_together : (p : PathValue) (tree : Tree)
    → filter_map (child_name p) (together p (map (λ e. e.0) (entries_from p tree))) ≡ names_in p tree
unfolding names_in
names_together p tree =
    ap (filter_map (child_name p)) (consecutive p (finmap.entries tree) (finmap.entries_sorted tree))
    ∙ names_below p (finmap.entries tree)

pub child_together : (p : PathValue) (tree : Tree) → has_child p tree ≡ list_any (is_child p)
    (together p (map (λ e. e.0) (entries_from p tree)))
unfolding has_child
child_together p tree =
    sym (ap (list_any (is_child p)) (consecutive p (finmap.entries tree) (finmap.entries_sorted tree))
    ∙ child_below p (finmap.entries tree))
