-- Changes for which `may_make` is true, by answers of the state.
use Rattle.std.proofs.Common.{◌≡◌, ◌≤◌, ◌+◌, ℕ, Bool, true, false, not, nat_lt, List, [], ◌∷◌, length, Option, Some}
use Rattle.std.proofs.Common.{None, refl, sym, ap, ◌∙◌, ◌||◌, arith}
use Rattle.std.specs.Prelude.{min}
use Rattle.std.specs.Option.{is_some}
use Rattle.std.specs.List.{list_any, filter_map, cons_option}
use Rattle.std.specs.FinMap as map
use Rattle.std.proofs.lemmas.Bool.{true≢false}
use Rattle.retro_tree.specs.Name.{AllNames}
use Rattle.retro_tree.specs.Path.{PathValue, is_null, is_root, parent_of, is_child, child_name}
use Rattle.retro_tree.specs.Node.{file_limit, is_dir, grown, permit_at}
use Rattle.retro_tree.specs.Tree.{Tree, node_in, has_child}
use Rattle.retro_tree.specs.Ask.{names_in}
use Rattle.retro_tree.specs.State.{permit_of}
use Rattle.retro_tree.specs.Lawful.{IsLawful}
use Rattle.retro_tree.specs.Change.{apply, may_make}
use Rattle.retro_tree.specs.declared.change.Change.{Change}
use Rattle.retro_tree.specs.declared.change.Change.TheVariants as changes
use Rattle.retro_tree.specs.declared.node.Node.{Node}
use Rattle.retro_tree.specs.declared.node.Node.TheVariants.{Missing, Dir, File}
use Rattle.retro_tree.specs.declared.permit.Permit.TheVariants as permits
use Rattle.retro_tree.specs.declared.state.State.{State}
use Rattle.retro_tree.proofs.Small.{and_true, or_last}
use Rattle.retro_tree.proofs.LawLemmas.{may_put_back, law_after, none_below_file}
use Rattle.retro_tree.proofs.FilesAllowed.{allowed_under, permit_no_dir, file_allowed, growth_allowed}
use Rattle.retro_tree.proofs.Answering.{same_under, over_least}
use Rattle.retro_tree.proofs.CommittedChanges.{key_changed, sets}

-- ---- files
pub may_put_file : (p : PathValue) (bytes : List ℕ) (n : ℕ) (s : State) → IsLawful s → AllNames p
    → is_null p ≡ false → permit_of p n s ≡ permits.Yes → length bytes ≤ file_limit
    → may_make (changes.Put p (File bytes)) s ≡ true
unfolding may_make
may_put_file p bytes n s l names apart may fit =
    may_put_back p (File bytes) s.tree (file_allowed p bytes s.tree n l.tree names apart may fit)

pub may_empty_file : (p : PathValue) (n : ℕ) (s : State) → IsLawful s → AllNames p → is_null p ≡ false
    → permit_of p n s ≡ permits.Yes → may_make (changes.Put p (File [])) s ≡ true
may_empty_file p n s l names apart may = may_put_file p [] n s l names apart may (omega arith)

pub may_grow_file : (p : PathValue) (bytes : List ℕ) (s : State) → IsLawful s → AllNames p → is_null p ≡ false
    → permit_of p (length bytes) s ≡ permits.Yes → may_make (changes.Grow p bytes) s ≡ true
unfolding may_make
may_grow_file p bytes s l names apart may =
    and_true _ _ (ap not (permit_no_dir (node_in p s.tree) (node_in (parent_of p) s.tree) (length bytes) may))
    (law_after p (grown bytes (node_in p s.tree)) s.tree (growth_allowed p bytes s.tree l.tree names apart may))

-- ---- directories
pub may_put_dir : (p : PathValue) (s : State) → IsLawful s → AllNames p → is_null p ≡ false
    → node_in (parent_of p) s.tree ≡ Dir → may_make (changes.Put p Dir) s ≡ true
unfolding may_make
may_put_dir [] s l names apart up = refl
may_put_dir (m ∷ r) s l names apart up =
    and_true _ _ (and_true _ _ (ap is_dir up) (allowed_under (m ∷ r) s.tree l.tree names apart up)) refl

-- ---- removals
abbrev is_empty_list : List (List ℕ) → Bool
is_empty_list [] = true
is_empty_list (n ∷ ns) = false

none_named : (p : PathValue) (ks : List PathValue) → filter_map (child_name p) ks ≡ []
    → list_any (is_child p) ks ≡ false
none_named p [] h = refl
none_named p (k ∷ ks) h = go (child_name p k) h (none_named p ks)
  where
    go : (o : Option (List ℕ)) → cons_option o (filter_map (child_name p) ks) ≡ []
        → (filter_map (child_name p) ks ≡ [] → list_any (is_child p) ks ≡ false)
        → (is_some o || list_any (is_child p) ks) ≡ false
    go None e rest = rest e
    go (Some n) e rest = absurd (true≢false (ap is_empty_list (sym e)))

no_child : (p : PathValue) (t : Tree) → names_in p t ≡ [] → has_child p t ≡ false
unfolding names_in has_child
no_child p t h = none_named p (map.keys t) h

pub may_remove : (p : PathValue) (s : State) → IsLawful s → is_root p ≡ false → names_in p s.tree ≡ []
    → may_make (changes.Put p Missing) s ≡ true
unfolding may_make
may_remove [] s l root none = absurd (true≢false root)
may_remove (m ∷ r) s l root none = ap not (no_child (m ∷ r) s.tree none)

-- in a lawful state only a directory has children
below_none : (p : PathValue) (s : State) → IsLawful s → is_dir (node_in p s.tree) ≡ false
    → list_any (is_child p) (map.keys s.tree) ≡ false
unfolding has_child
below_none p s l file = none_below_file p s.tree l.tree file

not_named : (p : PathValue) (ks : List PathValue) → list_any (is_child p) ks ≡ false → filter_map (child_name p) ks ≡ []
not_named p [] h = refl
not_named p (k ∷ ks) h = go (child_name p k) h (not_named p ks)
  where
    go : (o : Option (List ℕ)) → (is_some o || list_any (is_child p) ks) ≡ false
        → (list_any (is_child p) ks ≡ false → filter_map (child_name p) ks ≡ [])
        → cons_option o (filter_map (child_name p) ks) ≡ []
    go None e rest = rest e
    go (Some n) e rest = absurd (true≢false e)

pub none_in_file : (p : PathValue) (s : State) → IsLawful s → is_dir (node_in p s.tree) ≡ false → names_in p s.tree ≡ []
unfolding names_in
none_in_file p s l file = not_named p (map.keys s.tree) (below_none p s l file)

-- ---- sessions
pub session_stays : (c : Change) (s : State) (sid : ℕ) → map.contains_key s.sessions sid ≡ true
    → map.contains_key (apply c s).sessions sid ≡ true
session_stays c s sid h = key_changed c s sid ∙ or_last (sets sid c) _ h

-- ---- how many bytes are asked for
clamped : (old n : ℕ) → nat_lt file_limit (old + min n 4294967295) ≡ nat_lt file_limit (old + n)
clamped old n = grind arith

pub permit_clamped : (p : PathValue) (n : ℕ) (s : State) → permit_of p (min n 4294967295) s ≡ permit_of p n s
permit_clamped p n s = go (node_in p s.tree)
  where
    go : (node : Node) → permit_at node (node_in (parent_of p) s.tree) (min n 4294967295)
        ≡ permit_at node (node_in (parent_of p) s.tree) n
    go Dir = refl
    go Missing = same_under (node_in (parent_of p) s.tree) _ _ (over_least n)
    go (File bytes) = same_under (node_in (parent_of p) s.tree) _ _ (clamped (length bytes) n)

pub ruleset may_making = (may_put_file, may_empty_file, may_grow_file, may_put_dir, may_remove, none_in_file)
