-- The names in a directory: they are in byte order, and are those of the children that exist.
use Rattle.std.proofs.Common.{◌≡◌, ℕ, true, false, ◌||◌, List, [], ◌∷◌, ◌++◌, map, Option, Some, None, refl, sym, ap}
use Rattle.std.proofs.Common.{◌∙◌, subst, T}
use Rattle.std.specs.Option.{is_some}
use Rattle.std.specs.List.{filter_map, cons_option, AllByRecursion, list_any}
use Rattle.std.specs.List.Sorted.{IsStrictlySortedBy}
use Rattle.std.specs.Bool.{if◌then◌else◌}
use Rattle.std.specs.Cmp.{tied_itself}
use Rattle.std.specs.Cmp.Lexicographic.{nat_list_eq_equiv}
use Rattle.std.specs.Ordering.{eq_by_cmp, is_eq, ordering_then}
use Rattle.std.specs.declared.cmp.Ordering.{Ordering}
use Rattle.std.specs.declared.cmp.Ordering.TheVariants.{Less, Equal, Greater}
use Rattle.std.specs.FinMap as finmap
use Rattle.std.specs.FinMap.Entries.{find, is_sorted, below_all, same_entries, is_some-find}
use Rattle.std.proofs.lemmas.Bool.{true≢false, false≢true}
use Rattle.retro_tree.specs.Order.{path_cmp, path_exact, text_cmp, text_eq, text_total, text_exact, text_ties}
use Rattle.retro_tree.specs.Path.{PathValue, below, only_name, child_name}
use Rattle.retro_tree.specs.Node.{node_of, is_present}
use Rattle.retro_tree.specs.Tree.{Tree, node_in}
use Rattle.retro_tree.specs.Ask.{names_in}
use Rattle.retro_tree.specs.declared.entry.Entry.{Entry}
use Rattle.retro_tree.specs.declared.entry.Entry.TheVariants.{Dir as DirEntry, File as FileEntry}
use Rattle.retro_tree.proofs.Small.{tied, less, both_fst, both_snd, some_same, none_some, same_text}
use Rattle.retro_tree.proofs.MapLemmas.{in_order}

-- a child is its parent's path and its name
pub child_is : (p q : PathValue) (n : List ℕ) → child_name p q ≡ Some n → q ≡ p ++ n ∷ []
child_is [] [] n e = absurd (none_some n e)
child_is [] (m ∷ []) n e = ap (λ k. k ∷ []) (some_same m n e)
child_is [] (m ∷ k ∷ rest) n e = absurd (none_some n e)
child_is (x ∷ p) [] n e = absurd (none_some n e)
child_is (x ∷ p) (y ∷ q) n e =
    elim (text_eq x y) as (λ b. text_eq x y ≡ b → only_name (if b then below p q else None) ≡ Some n
    → y ∷ q ≡ (x ∷ p) ++ n ∷ []) [
      | true ↦ λ same here. λ i. sym (same_text x y same) i ∷ child_is p q n here i
      | false ↦ λ same here. absurd (none_some n here)
    ] refl e

then_equal : (r : Ordering) → ordering_then r Equal ≡ r
then_equal Less = refl
then_equal Equal = refl
then_equal Greater = refl

-- siblings are ordered by their names
siblings : (p : PathValue) (n m : List ℕ) → path_cmp (p ++ n ∷ []) (p ++ m ∷ []) ≡ text_cmp n m
siblings [] n m = then_equal (text_cmp n m)
siblings (x ∷ p) n m = ap (λ r. ordering_then r (path_cmp (p ++ n ∷ []) (p ++ m ∷ [])))
    (tied_itself text_total x) ∙ siblings p n m

later : (p : PathValue) (n : List ℕ) (es : List (PathValue × Entry)) → T (below_all path_cmp (p ++ n ∷ []) es)
    → AllByRecursion (λ m. text_cmp n m ≡ Less) (filter_map (child_name p) (map (λ e. e.0) es))
later p n [] h = tt
later p n (e ∷ es) h =
    elim (child_name p e.0) as (λ o. child_name p e.0 ≡ o → AllByRecursion (λ m. text_cmp n m ≡ Less)
    (cons_option o (filter_map (child_name p) (map (λ e. e.0) es)))) [
      | None ↦ λ is. later p n es (both_snd _ _ h)
      | Some m ↦ λ is. (
        sym (siblings p n m) ∙ ap (path_cmp (p ++ n ∷ [])) (sym (child_is p e.0 m is))
            ∙ less _ (both_fst _ _ h),
        later p n es (both_snd _ _ h),
      )
    ] refl

rising : (p : PathValue) (es : List (PathValue × Entry)) → T (is_sorted path_cmp es)
    → IsStrictlySortedBy text_cmp (filter_map (child_name p) (map (λ e. e.0) es))
unfolding IsStrictlySortedBy
rising p [] h = tt
rising p (e ∷ es) h =
    elim (child_name p e.0) as (λ o. child_name p e.0 ≡ o
    → IsStrictlySortedBy text_cmp (cons_option o (filter_map (child_name p) (map (λ e. e.0) es)))) [
      | None ↦ λ is. rising p es (both_snd _ _ h)
      | Some n ↦ λ is. (
        later p n es (subst (λ k. T (below_all path_cmp k es)) (child_is p e.0 n is) (both_fst _ _ h)),
        rising p es (both_snd _ _ h),
      )
    ] refl

-- the names are in byte order, each once
pub names_rise : (p : PathValue) (tree : Tree) → IsStrictlySortedBy text_cmp (names_in p tree)
unfolding names_in
names_rise p tree = rising p (finmap.entries tree) (finmap.entries_sorted tree)

pub child_name_of : (p : PathValue) (n : List ℕ) → child_name p (p ++ n ∷ []) ≡ Some n
child_name_of [] n = refl
child_name_of (x ∷ p) n = ap (λ b. only_name (if b then below p (p ++ n ∷ []) else None))
    (nat_list_eq_equiv.refl x) ∙ child_name_of p n

members : (p : PathValue) (n : List ℕ) (ks : List PathValue)
    → list_any (text_eq n) (filter_map (child_name p) ks) ≡ list_any (eq_by_cmp path_cmp (p ++ n ∷ [])) ks
members p n [] = refl
members p n (k ∷ ks) =
    elim (child_name p k) as (λ o. child_name p k ≡ o
    → list_any (text_eq n) (cons_option o (filter_map (child_name p) ks))
    ≡ list_any (eq_by_cmp path_cmp (p ++ n ∷ [])) (k ∷ ks)) [
      | None ↦ λ is. members p n ks ∙ ap (λ b. b || list_any (eq_by_cmp path_cmp (p ++ n ∷ [])) ks)
          (sym (elim (eq_by_cmp path_cmp (p ++ n ∷ []) k) as (λ b. eq_by_cmp path_cmp (p ++ n ∷ []) k ≡ b → b ≡ false) [
            | true ↦ λ t. absurd
                (none_some n (sym is ∙ ap (child_name p) (sym (path_exact (p ++ n ∷ []) k (tied _ t)))
                ∙ child_name_of p n))
            | false ↦ λ t. refl
          ] refl))
      | Some m ↦ λ is. λ i. (text_ties n m ∙ ap is_eq (sym (siblings p n m))
          ∙ ap (eq_by_cmp path_cmp (p ++ n ∷ [])) (sym (child_is p k m is))) i || members p n ks i
    ] refl

-- a name is listed exactly if the child exists
pub names_listed : (p : PathValue) (n : List ℕ) (tree : Tree) → list_any (text_eq n) (names_in p tree)
    ≡ is_some (finmap.get tree (p ++ n ∷ []))
unfolding names_in
names_listed p n tree = members p n (finmap.keys tree) ∙ sym (finmap.contains_key-keys tree (p ++ n ∷ []))

-- ---- lists in order
abbrev keyed : List (List ℕ) → List (List ℕ × Unit {0})
keyed [] = []
keyed (n ∷ ns) = (n, tt) ∷ keyed ns

keys_keyed : (ns : List (List ℕ)) → map (λ e. e.0) (keyed ns) ≡ ns
keys_keyed [] = refl
keys_keyed (n ∷ ns) = ap (λ t. n ∷ t) (keys_keyed ns)

same_option : (x y : Option (Unit {0})) → is_some x ≡ is_some y → x ≡ y
same_option None None e = refl
same_option None (Some u) e = absurd (false≢true e)
same_option (Some u) None e = absurd (true≢false e)
same_option (Some u) (Some v) e = refl

any_alike : (n : List ℕ) (ns : List (List ℕ)) → list_any (eq_by_cmp text_cmp n) ns ≡ list_any (text_eq n) ns
any_alike n [] = refl
any_alike n (m ∷ ns) = λ i. sym (text_ties n m) i || any_alike n ns i

found : (q : List ℕ) (ns : List (List ℕ)) → is_some (find text_cmp q (keyed ns)) ≡ list_any (text_eq q) ns
found q ns = is_some-find text_cmp q (keyed ns) ∙ ap (list_any (eq_by_cmp text_cmp q)) (keys_keyed ns) ∙ any_alike q ns

keyed_sorted : (ns : List (List ℕ)) → IsStrictlySortedBy text_cmp ns → T (is_sorted text_cmp (keyed ns))
keyed_sorted ns h = in_order text_cmp (keyed ns) (subst (IsStrictlySortedBy text_cmp) (sym (keys_keyed ns)) h)

-- lists of names in order that have the same names are one
pub same_names : (ns ms : List (List ℕ)) → IsStrictlySortedBy text_cmp ns → IsStrictlySortedBy text_cmp ms
    → ((q : List ℕ) → list_any (text_eq q) ns ≡ list_any (text_eq q) ms) → ns ≡ ms
same_names ns ms h k same =
    sym (keys_keyed ns)
    ∙ ap (map (λ e. e.0)) (same_entries text_cmp text_total text_exact (keyed ns) (keyed ms) (keyed_sorted ns h)
    (keyed_sorted ms k) (λ q. same_option _ _ (found q ns ∙ same q ∙ sym (found q ms))))
    ∙ keys_keyed ms

-- ---- children that exist
there_of : (x : Option Entry) → is_present (node_of x) ≡ is_some x
there_of None = refl
there_of (Some DirEntry) = refl
there_of (Some (FileEntry bytes)) = refl

pub there_in : (q : PathValue) (t : Tree) → is_present (node_in q t) ≡ is_some (finmap.get t q)
unfolding node_in
there_in q t = there_of (finmap.get t q)

-- directories with the same children have the same names
pub same_children : (p : PathValue) (a b : Tree)
    → ((n : List ℕ) → is_present (node_in (p ++ n ∷ []) a) ≡ is_present (node_in (p ++ n ∷ []) b))
    → names_in p a ≡ names_in p b
same_children p a b h = same_names _ _ (names_rise p a) (names_rise p b) (λ n. names_listed p n a
    ∙ sym (there_in _ a) ∙ h n ∙ there_in _ b ∙ sym (names_listed p n b))

pub ruleset listings = (names_rise, names_listed)
