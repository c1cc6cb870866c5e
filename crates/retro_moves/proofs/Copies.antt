-- Putting the nodes at and below one path at and below another.
use Rattle.std.proofs.Common.{◌≡◌, ◌≢◌, ℕ, Bool, true, false, not, ◌&&◌, ◌||◌, List, [], ◌∷◌, ◌++◌, Option, Some, None}
use Rattle.std.proofs.Common.{refl, sym, ap, ◌∙◌, append_assoc}
use Rattle.std.specs.Option.{is_some}
use Rattle.std.specs.List.{list_any, list_all}
use Rattle.std.specs.Bool.{if◌then◌else◌}
use Rattle.std.specs.Cmp.Lexicographic.{nat_list_eq_equiv}
use Rattle.std.proofs.lemmas.Bool.{true≢false, false≢true}
use Rattle.std.proofs.lemmas.List.{append-nil}
use Rattle.std.proofs.lemmas.List.Folds.{list_any-append}
use Rattle.retro_tree.specs.Order.{path_eq, path_exact, path_ties, path_equiv, text_eq}
use Rattle.retro_tree.specs.Name.{is_name}
use Rattle.retro_tree.specs.Path.{PathValue, below, parent_of, null_path, is_root, may_exist}
use Rattle.retro_tree.specs.Node.{is_dir}
use Rattle.retro_tree.specs.Tree.{Tree, node_in, put, has_child}
use Rattle.retro_tree.specs.Ask.{names_in}
use Rattle.retro_tree.specs.Lawful.{law_at, IsLawfulTree, may_put}
use Rattle.retro_tree.specs.declared.node.Node.{Node}
use Rattle.retro_tree.specs.declared.node.Node.TheVariants.{Missing, Dir, File}
use Rattle.retro_tree.proofs.Small.{tied, same_text, some_same, first_true, both_true, and_true, or_first, or_last}
use Rattle.retro_tree.proofs.Lookups.{node_put, node_put_apart}
use Rattle.retro_tree.proofs.Below.{below_append, below_split, below_child, step_in, unlisted, no_child_there}
use Rattle.retro_tree.proofs.Below.{parent_of_append}
use Rattle.retro_tree.proofs.Below.{child_is_no_root}
use Rattle.retro_moves.specs.Trees.{Apart}
use Rattle.retro_moves.specs.inner.Move.{starts, node_copied, CanCopy, are_ordered, IsCopied}
use Rattle.retro_moves.specs.inner.Move.{IsCopy}
use Rattle.retro_moves.proofs.Without.{nothing_below}
use Rattle.retro_moves.proofs.Thinning.{names_distinct}
use Rattle.retro_moves.proofs.MovedNodes.{apart_longer, turned, apart_both, beside}

pub same_path : (r k : PathValue) → path_eq r k ≡ true → r ≡ k
same_path r k e = path_exact r k (tied _ (sym (path_ties r k) ∙ e))

pub or_elim : {A : Type 0} (a b : Bool) → (a ≡ true → A) → (b ≡ true → A) → (a || b) ≡ true → A
or_elim true b f g e = f refl
or_elim false b f g e = g e

pub apart_root : (p q : PathValue) → Apart p q → is_root p ≡ false
apart_root [] q h = absurd (true≢false h.left)
apart_root (x ∷ p) q h = refl

-- ---- what may be put
pub may_exist_free : (q : PathValue) → Apart null_path q → list_all is_name q ≡ true → may_exist q ≡ true
unfolding may_exist
may_exist_free q free named = and_true _ _ (ap not free.left) named

pub may_copy : (p q : PathValue) (u : Tree) → IsLawfulTree u → CanCopy p q u → may_put q (node_in p u) u ≡ true
unfolding IsLawfulTree
may_copy p q u lawful can = go q p (apart_root q p (turned p q can.apart)) (apart_root p q can.apart) (node_in p u)
    (lawful p) (λ there. may_exist_free q can.free (can.named there)) (ap is_dir can.above)
    (ap not (no_child_there u q (λ n. can.bare n [])))
  where
    go : (q p : PathValue) → is_root q ≡ false → is_root p ≡ false → (node : Node)
        → law_at p node (node_in (parent_of p) u) ≡ true → (node ≢ Missing → may_exist q ≡ true)
        → is_dir (node_in (parent_of q) u) ≡ true → not (has_child q u) ≡ true
        → (law_at q node (node_in (parent_of q) u) && (is_dir node || not (has_child q u))) ≡ true
    go [] p r s node law stand above none = absurd (true≢false r)
    go (y ∷ q) [] r s node law stand above none = absurd (true≢false s)
    go (y ∷ q) (x ∷ p) r s Missing law stand above none = none
    go (y ∷ q) (x ∷ p) r s Dir law stand above none = and_true _ _ (and_true _ _ above (stand (λ e. cc))) refl
    go (y ∷ q) (x ∷ p) r s (File b) law stand above none =
        and_true _ _ (and_true _ _ above
        (and_true _ _ (stand (λ e. cc))
        (both_true (may_exist (x ∷ p)) _ (both_true (is_dir (node_in (parent_of (x ∷ p)) u)) _ law)))) none

-- ---- the list of old paths
all_apart : (k : PathValue) (ys : List PathValue)
    → ((r : PathValue) → list_any (path_eq r) ys ≡ true → is_some (below r k) ≡ false)
    → list_all (λ r. not (is_some (below r k))) ys ≡ true
all_apart k [] h = refl
all_apart k (y ∷ ys) h = and_true _ _ (ap not (h y (or_first (path_eq y y) _ (path_equiv.refl y))))
    (all_apart k ys (λ r i. h r (or_last (path_eq r y) _ i)))

all_append : (f : PathValue → Bool) (xs ys : List PathValue) → list_all f xs ≡ true → list_all f ys ≡ true
    → list_all f (xs ++ ys) ≡ true
all_append f [] ys h i = i
all_append f (x ∷ xs) ys h i = and_true _ _ (first_true (f x) _ h) (all_append f xs ys (both_true (f x) _ h) i)

pub ordered_append : (xs ys : List PathValue) → are_ordered xs ≡ true → are_ordered ys ≡ true
    → ((k r : PathValue) → list_any (path_eq k) xs ≡ true → list_any (path_eq r) ys ≡ true
    → is_some (below r k) ≡ false) → are_ordered (xs ++ ys) ≡ true
ordered_append [] ys h i cross = i
ordered_append (x ∷ xs) ys h i cross =
    and_true _ _
    (all_append (λ r. not (is_some (below r x))) xs ys (first_true _ _ h)
    (all_apart x ys (λ r there. cross x r (or_first (path_eq x x) _ (path_equiv.refl x)) there)))
    (ordered_append xs ys (both_true (list_all (λ r. not (is_some (below r x))) xs) _ h) i
    (λ k r there. cross k r (or_last (path_eq k x) _ there)))

-- ---- at first
pub dir_first : (p : PathValue) (t : Tree) (node : Node) → node_in p t ≡ node → node_in (p ++ []) t ≡ node
dir_first p t node e = ap (λ k. node_in k t) (append-nil p) ∙ e

pub copy_start : (p q : PathValue) (t : Tree) → IsLawfulTree t → CanCopy p q t → node_in p t ≡ Dir
    → IsCopy p q (names_in p t) (p ∷ []) t (put q Dir t)
copy_start p q t lawful can dir = record {
  nodes = λ r. go r (below q r) refl;
  covers = covers;
  under = λ r there. or_elim (path_eq r p) false
      (λ e. record { rest = []; is = same_path r p e ∙ sym (append-nil p); done = refl })
      (λ e. absurd (false≢true e)) there;
  ordered = refl;
  distinct = names_distinct p t;
  can = can;
}
  where
    covers : (rest : PathValue) → node_in (p ++ rest) t ≢ Missing → starts (names_in p t) rest ≡ false
        → list_any (path_eq (p ++ rest)) (p ∷ []) ≡ true
    covers [] there s = or_first (path_eq (p ++ []) p) false (ap (λ k. path_eq k p) (append-nil p) ∙ path_equiv.refl p)
    covers (n ∷ rest) there s = absurd (there (unlisted t lawful p n rest s))

    not_q : (r : PathValue) (o : Option PathValue) → below q r ≡ o → o ≢ Some [] → r ≢ q
    not_q r o e ne same = ne (sym e ∙ ap (below q) (same ∙ sym (append-nil q)) ∙ below_append q [])

    test : (n : List ℕ) (rest : PathValue) (b : Bool) → list_any (text_eq n) (names_in p t) ≡ b
        → Missing ≡ (if b then Missing else node_in (p ++ n ∷ rest) t)
    test n rest true e = refl
    test n rest false e = sym (unlisted t lawful p n rest e)

    go : (r : PathValue) (o : Option PathValue) → below q r ≡ o
        → node_in r (put q Dir t) ≡ node_copied p t (names_in p t) o (node_in r t)
    go r None e = node_put_apart q r Dir t (not_q r None e (λ h. cc))
    go r (Some []) e = ap (λ k. node_in k (put q Dir t)) (below_split q r [] e ∙ append-nil q) ∙ node_put q Dir t
        ∙ sym (dir_first p t Dir dir)
    go r (Some (n ∷ rest)) e =
        node_put_apart q r Dir t (not_q r _ e (λ h. cc)) ∙ ap (λ k. node_in k t) (below_split q r (n ∷ rest) e)
        ∙ can.bare n rest ∙ test n rest _ refl

-- a file
pub copy_leaf : (p q : PathValue) (t : Tree) → IsLawfulTree t → CanCopy p q t → is_dir (node_in p t) ≡ false
    → IsCopy p q [] (p ∷ []) t (put q (node_in p t) t)
copy_leaf p q t lawful can leaf = record {
  nodes = λ r. go r (below q r) refl;
  covers = covers;
  under = λ r there. or_elim (path_eq r p) false
      (λ e. record { rest = []; is = same_path r p e ∙ sym (append-nil p); done = refl })
      (λ e. absurd (false≢true e)) there;
  ordered = refl;
  distinct = tt;
  can = can;
}
  where
    none_under : (n : List ℕ) (rest : PathValue) → node_in (p ++ n ∷ rest) t ≡ Missing
    none_under n rest = nothing_below t lawful p n rest leaf

    covers : (rest : PathValue) → node_in (p ++ rest) t ≢ Missing → starts [] rest ≡ false
        → list_any (path_eq (p ++ rest)) (p ∷ []) ≡ true
    covers [] there s = or_first (path_eq (p ++ []) p) false (ap (λ k. path_eq k p) (append-nil p) ∙ path_equiv.refl p)
    covers (n ∷ rest) there s = absurd (there (none_under n rest))

    not_q : (r : PathValue) (o : Option PathValue) → below q r ≡ o → o ≢ Some [] → r ≢ q
    not_q r o e ne same = ne (sym e ∙ ap (below q) (same ∙ sym (append-nil q)) ∙ below_append q [])

    go : (r : PathValue) (o : Option PathValue) → below q r ≡ o
        → node_in r (put q (node_in p t) t) ≡ node_copied p t [] o (node_in r t)
    go r None e = node_put_apart q r _ t (not_q r None e (λ h. cc))
    go r (Some []) e = ap (λ k. node_in k (put q (node_in p t) t)) (below_split q r [] e ∙ append-nil q)
        ∙ node_put q _ t ∙ sym (dir_first p t _ refl)
    go r (Some (n ∷ rest)) e =
        node_put_apart q r _ t (not_q r _ e (λ h. cc)) ∙ ap (λ k. node_in k t) (below_split q r (n ∷ rest) e)
        ∙ can.bare n rest ∙ sym (none_under n rest)

-- ---- one name more
pub starts_none : (rest : PathValue) → starts [] rest ≡ false
starts_none [] = refl
starts_none (m ∷ rest) = refl

or_second : (a b : Bool) → (a || b) ≡ false → b ≡ false
or_second true b e = absurd (true≢false e)
or_second false b e = e

fewer : (n : List ℕ) (left : List (List ℕ)) (rest : PathValue) → starts (n ∷ left) rest ≡ false
    → starts left rest ≡ false
fewer n left [] e = refl
fewer n left (m ∷ rest) e = or_second (text_eq m n) _ e

deeper : (p : PathValue) (n : List ℕ) (rest : PathValue) → (p ++ n ∷ []) ++ rest ≡ p ++ n ∷ rest
deeper p n rest = append_assoc p (n ∷ []) rest

module _ (p q : PathValue) (n : List ℕ) (left : List (List ℕ)) (ps : List PathValue) (t u : Tree)
    (h : IsCopy p q (n ∷ left) ps t u) where
  -- what is below p stays
  source_kept : (rest : PathValue) → node_in (p ++ rest) u ≡ node_in (p ++ rest) t
  source_kept rest = h.nodes (p ++ rest) ∙ ap (λ o. node_copied p t (n ∷ left) o (node_in (p ++ rest) t))
      (beside p q rest h.can.apart)

  source_child : (rest : PathValue) → node_in ((p ++ n ∷ []) ++ rest) u ≡ node_in (p ++ n ∷ rest) t
  source_child rest = ap (λ k. node_in k u) (deeper p n rest) ∙ source_kept (n ∷ rest)

  pub copy_step : (more : List PathValue) (v : Tree) → IsCopy (p ++ n ∷ []) (q ++ n ∷ []) [] more u v
      → IsCopy p q left (ps ++ more) t v
  copy_step more v g = record {
    nodes = λ r. g.nodes r ∙ ap (λ o. node_copied (p ++ n ∷ []) u [] o (node_in r u)) (below_child q n r)
        ∙ go r (below q r) refl;
    covers = covers;
    under = λ r there. or_elim _ _ (λ e. earlier r (h.under r e)) (λ e. later r (g.under r e))
        (sym (list_any-append (path_eq r) ps more) ∙ there);
    ordered = ordered_append ps more h.ordered g.ordered
        (λ k r i j. cross k r (h.under k i) (g.under r j) (is_some (below r k)) refl);
    distinct = h.distinct.1;
    can = h.can;
  }
    where
      was : (r : PathValue) (o : Option PathValue) → below q r ≡ o
          → node_in r u ≡ node_copied p t (n ∷ left) o (node_in r t)
      was r o e = h.nodes r ∙ ap (λ x. node_copied p t (n ∷ left) x (node_in r t)) e

      by_name : (r : PathValue) (m : List ℕ) (rest : PathValue) (b : Bool) → below q r ≡ Some (m ∷ rest)
          → text_eq n m ≡ b → node_copied (p ++ n ∷ []) u [] (if b then Some rest else None) (node_in r u) ≡
          (if list_any (text_eq m) left then Missing else node_in (p ++ m ∷ rest) t)
      by_name r m rest true e is =
          ap (λ b. if b then Missing else node_in ((p ++ n ∷ []) ++ rest) u) (starts_none rest)
          ∙ source_child rest
          ∙ ap (λ b. if b then Missing else node_in (p ++ n ∷ rest) t) (sym h.distinct.0)
          ∙ ap (λ k. if list_any (text_eq k) left then Missing else node_in (p ++ k ∷ rest) t) (same_text n m is)
      by_name r m rest false e is =
          was r (Some (m ∷ rest)) e
          ∙ ap (λ b. if b || list_any (text_eq m) left then Missing else node_in (p ++ m ∷ rest) t)
          (nat_list_eq_equiv.symm m n ∙ is)

      go : (r : PathValue) (o : Option PathValue) → below q r ≡ o
          → node_copied (p ++ n ∷ []) u [] (step_in n o) (node_in r u) ≡ node_copied p t left o (node_in r t)
      go r None e = was r None e
      go r (Some []) e = was r (Some []) e
      go r (Some (m ∷ rest)) e = by_name r m rest (text_eq n m) e refl

      cover : (rest : PathValue) (b : Bool) → starts (n ∷ left) rest ≡ b → node_in (p ++ rest) t ≢ Missing
          → starts left rest ≡ false → (list_any (path_eq (p ++ rest)) ps || list_any (path_eq (p ++ rest)) more) ≡ true
      cover rest false s there e = or_first _ _ (h.covers rest there s)
      cover [] true s there e = absurd (false≢true s)
      cover (m ∷ rest) true s there e =
          or_elim (text_eq m n) (list_any (text_eq m) left)
          (λ same. let is = same_text m n same in
          or_last (list_any (path_eq (p ++ m ∷ rest)) ps) _
          (ap (λ k. list_any (path_eq k) more) (ap (λ k. p ++ k ∷ rest) is ∙ sym (deeper p n rest))
          ∙ g.covers rest (λ none. there (ap (λ k. node_in (p ++ k ∷ rest) t) is ∙ sym (source_child rest) ∙ none))
          (starts_none rest)))
          (λ i. absurd (true≢false (sym i ∙ e)))
          s

      covers : (rest : PathValue) → node_in (p ++ rest) t ≢ Missing → starts left rest ≡ false
          → list_any (path_eq (p ++ rest)) (ps ++ more) ≡ true
      covers rest there e = list_any-append (path_eq (p ++ rest)) ps more
          ∙ cover rest (starts (n ∷ left) rest) refl there e

      earlier : (r : PathValue) → IsCopied p (n ∷ left) r → IsCopied p left r
      earlier r d = record { rest = d.rest; is = d.is; done = fewer n left d.rest d.done }

      later : (r : PathValue) → IsCopied (p ++ n ∷ []) [] r → IsCopied p left r
      later r d = record { rest = n ∷ d.rest; is = d.is ∙ deeper p n d.rest; done = h.distinct.0 }

      found : {A : Type 0} (o : Option A) → is_some o ≡ true → (x : A) × (o ≡ Some x)
      found None e = absurd (false≢true e)
      found (Some x) e = (x, refl)

      cross : (k r : PathValue) → IsCopied p (n ∷ left) k → IsCopied (p ++ n ∷ []) [] r → (b : Bool)
          → is_some (below r k) ≡ b → b ≡ false
      cross k r d c false e = refl
      cross k r d c true e =
          let x = found (below r k) e in
          let whole : k ≡ p ++ n ∷ (c.rest ++ x.0) = below_split r k x.0 x.1
          ∙ ap (λ z. z ++ x.0) (c.is ∙ deeper p n c.rest) ∙ append_assoc p (n ∷ c.rest) x.0 in
          let same : d.rest ≡ n ∷ (c.rest ++ x.0) =
          some_same _ _
          (sym (below_append p d.rest) ∙ ap (below p) (sym d.is ∙ whole) ∙ below_append p (n ∷ (c.rest ++ x.0))) in
          absurd (true≢false
          (sym (or_first (text_eq n n) _ (nat_list_eq_equiv.refl n)) ∙ ap (starts (n ∷ left)) (sym same) ∙ d.done))

  exists_at : (r : PathValue) (node above : Node) → is_root r ≡ false → node ≢ Missing → law_at r node above ≡ true
      → may_exist r ≡ true
  exists_at [] node above root there law = absurd (true≢false root)
  exists_at (x ∷ r) Missing above root there law = absurd (there refl)
  exists_at (x ∷ r) Dir above root there law = both_true (is_dir above) _ law
  exists_at (x ∷ r) (File b) above root there law = first_true (may_exist (x ∷ r)) _ (both_true (is_dir above) _ law)

  valid_names : (r : PathValue) → may_exist r ≡ true → list_all is_name r ≡ true
  unfolding may_exist
  valid_names r s = both_true _ (list_all is_name r) s

  last_name : (r : PathValue) → list_all is_name (r ++ n ∷ []) ≡ true → is_name n ≡ true
  last_name [] e = first_true (is_name n) _ e
  last_name (x ∷ r) e = last_name r (both_true (is_name x) _ e)

  name_more : (r : PathValue) → list_all is_name r ≡ true → is_name n ≡ true → list_all is_name (r ++ n ∷ []) ≡ true
  name_more [] e i = and_true _ _ i refl
  name_more (x ∷ r) e i = and_true _ _ (first_true (is_name x) _ e) (name_more r (both_true (is_name x) _ e) i)

  -- so the child may be next
  pub can_copy_child : IsLawfulTree u → node_in p t ≡ Dir → CanCopy (p ++ n ∷ []) (q ++ n ∷ []) u
  unfolding IsLawfulTree
  can_copy_child lawful dir = record {
    apart = apart_both p q (n ∷ []) (n ∷ []) h.can.apart;
    free = apart_longer null_path q (n ∷ []) h.can.free;
    named = λ there. name_more q (h.can.named (λ e. not_missing (sym dir ∙ e)))
        (last_name p (valid_names _ (exists_at (p ++ n ∷ []) _ _ (child_is_no_root p n) there (lawful (p ++ n ∷ [])))));
    bare = λ m rest.
        ap (λ k. node_in k u) (deeper q n (m ∷ rest)) ∙ h.nodes (q ++ n ∷ m ∷ rest)
        ∙ ap (λ o. node_copied p t (n ∷ left) o (node_in (q ++ n ∷ m ∷ rest) t)) (below_append q (n ∷ m ∷ rest))
        ∙ ap (λ b. if b then Missing else node_in (p ++ n ∷ m ∷ rest) t)
        (or_first (text_eq n n) _ (nat_list_eq_equiv.refl n));
    above =
        ap (λ k. node_in k u) (parent_of_append q n) ∙ h.nodes q
        ∙ ap (λ o. node_copied p t (n ∷ left) o (node_in q t)) (ap (below q) (sym (append-nil q)) ∙ below_append q [])
        ∙ dir_first p t Dir dir;
  }
    where
      not_missing : Dir ≡ Missing → ⊥
      not_missing e = cc
