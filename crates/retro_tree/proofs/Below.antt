-- Paths below a path: their prefixes, and their nodes in a lawful tree.
use Rattle.std.proofs.Common.{◌≡◌, ℕ, Bool, true, false, ◌&&◌, List, [], ◌∷◌, ◌++◌, length, Option, Some, None, refl}
use Rattle.std.proofs.Common.{sym, ap, ◌∙◌, nat_le, append_assoc}
use Rattle.std.specs.Option.{is_some}
use Rattle.std.specs.List.{list_any}
use Rattle.std.specs.Bool.{if◌then◌else◌}
use Rattle.std.specs.Cmp.Lexicographic.{nat_list_eq_equiv}
use Rattle.std.specs.FinMap as finmap
use Rattle.std.proofs.lemmas.Bool.{true≢false, false≢true}
use Rattle.retro_tree.specs.Order.{text_eq}
use Rattle.retro_tree.specs.Path.{PathValue, below, child_name, parent_of, is_root, may_exist}
use Rattle.retro_tree.specs.Node.{file_limit, is_dir, node_of}
use Rattle.retro_tree.specs.Tree.{Tree, node_in, has_child}
use Rattle.retro_tree.specs.Lawful.{law_at, IsLawfulTree}
use Rattle.retro_tree.specs.Ask.{names_in}
use Rattle.retro_tree.specs.declared.entry.Entry.{Entry}
use Rattle.retro_tree.specs.declared.node.Node.{Node}
use Rattle.retro_tree.specs.declared.node.Node.TheVariants.{Missing, Dir, File}
use Rattle.retro_tree.proofs.Small.{some_same, none_some, same_text}
use Rattle.retro_tree.proofs.Children.{child_is, names_listed}
use Rattle.retro_tree.proofs.LawLemmas.{some_child, there_of_key}

-- ---- prefixes
-- a path is below a prefix exactly if it continues the prefix
pub below_append : (q rest : PathValue) → below q (q ++ rest) ≡ Some rest
below_append [] rest = refl
below_append (x ∷ q) rest = ap (λ b. if b then below q (q ++ rest) else None) (nat_list_eq_equiv.refl x)
    ∙ below_append q rest

pub below_split : (q r rest : PathValue) → below q r ≡ Some rest → r ≡ q ++ rest
below_split [] r rest e = some_same r rest e
below_split (x ∷ q) [] rest e = absurd (none_some rest e)
below_split (x ∷ q) (y ∷ r) rest e =
    elim (text_eq x y) as (λ b. text_eq x y ≡ b → (if b then below q r else None) ≡ Some rest
    → y ∷ r ≡ x ∷ (q ++ rest)) [
      | true ↦ λ same here. λ i. sym (same_text x y same) i ∷ below_split q r rest here i
      | false ↦ λ same here. absurd (none_some rest here)
    ] refl e

-- the names that follow a child, by those that follow its parent
abbrev pub step_in : List ℕ → Option PathValue → Option PathValue
step_in n None = None
step_in n (Some []) = None
step_in n (Some (m ∷ rest)) = if text_eq n m then Some rest else None

pub below_child : (q : PathValue) (n : List ℕ) (r : PathValue) → below (q ++ n ∷ []) r ≡ step_in n (below q r)
below_child [] n [] = refl
below_child [] n (m ∷ r) = refl
below_child (x ∷ q) n [] = refl
below_child (x ∷ q) n (y ∷ r) =
    elim (text_eq x y) as (λ b. (if b then below (q ++ n ∷ []) r else None)
    ≡ step_in n (if b then below q r else None)) [
      | true ↦ below_child q n r
      | false ↦ refl
    ]

pub parent_of_append : (q : PathValue) (n : List ℕ) → parent_of (q ++ n ∷ []) ≡ q
parent_of_append [] n = refl
parent_of_append (x ∷ []) n = refl
parent_of_append (x ∷ y ∷ q) n = ap (λ r. x ∷ r) (parent_of_append (y ∷ q) n)

pub child_is_no_root : (q : PathValue) (n : List ℕ) → is_root (q ++ n ∷ []) ≡ false
child_is_no_root [] n = refl
child_is_no_root (x ∷ q) n = refl

append_nothing : (q : PathValue) → q ++ [] ≡ q
append_nothing [] = refl
append_nothing (x ∷ q) = ap (λ r. x ∷ r) (append_nothing q)

-- ---- lawful trees
-- nothing is below a path that isn't a directory
needs_dir : (r : PathValue) (node above : Node) → is_root r ≡ false → law_at r node above ≡ true
    → is_dir above ≡ false → node ≡ Missing
needs_dir [] node above h law absent = absurd (true≢false h)
needs_dir (x ∷ r) Missing above h law absent = refl
needs_dir (x ∷ r) Dir above h law absent = absurd (false≢true (ap (λ b. b && may_exist (x ∷ r)) (sym absent) ∙ law))
needs_dir (x ∷ r) (File bytes) above h law absent =
    absurd (false≢true (ap (λ b. b && (may_exist (x ∷ r) && nat_le (length bytes) file_limit)) (sym absent) ∙ law))

pub child_missing : (t : Tree) → IsLawfulTree t → (q : PathValue) (n : List ℕ) → is_dir (node_in q t) ≡ false
    → node_in (q ++ n ∷ []) t ≡ Missing
unfolding IsLawfulTree
child_missing t lawful q n absent =
    needs_dir (q ++ n ∷ []) _ (node_in q t) (child_is_no_root q n)
    (ap (λ k. law_at (q ++ n ∷ []) (node_in (q ++ n ∷ []) t) (node_in k t)) (sym (parent_of_append q n))
    ∙ lawful (q ++ n ∷ [])) absent

-- nothing is below a missing node
pub below_missing : (t : Tree) → IsLawfulTree t → (q rest : PathValue) → node_in q t ≡ Missing
    → node_in (q ++ rest) t ≡ Missing
below_missing t lawful q [] none = ap (λ k. node_in k t) (append_nothing q) ∙ none
below_missing t lawful q (n ∷ rest) none =
    ap (λ k. node_in k t) (sym (append_assoc q (n ∷ []) rest))
    ∙ below_missing t lawful (q ++ n ∷ []) rest (child_missing t lawful q n (ap is_dir none))

-- a child whose name isn't listed is missing
pub unlisted : (t : Tree) → IsLawfulTree t → (p : PathValue) (n : List ℕ) (rest : PathValue)
    → list_any (text_eq n) (names_in p t) ≡ false → node_in (p ++ n ∷ rest) t ≡ Missing
unfolding node_in
unlisted t lawful p n rest absent =
    ap (λ k. node_in k t) (sym (append_assoc p (n ∷ []) rest))
    ∙ below_missing t lawful (p ++ n ∷ []) rest
    (ap node_of (none_of (finmap.get t (p ++ n ∷ [])) (sym (names_listed p n t) ∙ absent)))
  where
    none_of : (o : Option Entry) → is_some o ≡ false → o ≡ None
    none_of None e = refl
    none_of (Some x) e = absurd (true≢false e)

-- no child, by the cells
pub no_child_there : (t : Tree) (p : PathValue) → ((n : List ℕ) → node_in (p ++ n ∷ []) t ≡ Missing)
    → has_child p t ≡ false
unfolding has_child
no_child_there t p h = go (has_child p t) refl
  where
    named : (q : PathValue) (o : Option (List ℕ)) → child_name p q ≡ o → is_some o ≡ true → node_in q t ≡ Missing
    named q None e there = absurd (false≢true there)
    named q (Some n) e there = ap (λ k. node_in k t) (child_is p q n e) ∙ h n

    go : (b : Bool) → has_child p t ≡ b → b ≡ false
    go false e = refl
    go true e =
        let some = some_child p (finmap.keys t) e in
        absurd (there_of_key t some.0 (finmap.contains_key-keys t some.0 ∙ some.2)
        (named some.0 (child_name p some.0) refl some.1))
