-- Laws of snapshots: each path is in a row or at or below a skipped one, and the rows are lawful.
use Rattle.std.proofs.Common.{◌≡◌, ℕ, true, false, not, refl, sym, ap, subst, ◌∙◌, ◌⊎◌, inl, inr}
use Rattle.std.proofs.Common.{List, [], ◌∷◌, ◌++◌, append-nil, arith, length, Option, Some, None}
use Rattle.std.specs.Prelude.{is_some, if◌then◌else◌, nat_le, nat_lt}
use Rattle.std.specs.List.{list_all, list_any}
use Rattle.std.proofs.lemmas.Bool.{false≢true}
use Rattle.retro_path.specs.Name.{is_name}
use Rattle.retro_path.specs.Order.{path_eq, text_eq}
use Rattle.retro_path.specs.Path.{PathValue, below, is_null, last_of, is_root, may_exist, nothing_left, null_path}
use Rattle.retro_path.specs.Path.{parent_of}
use Rattle.retro_path.proofs.Slashes.{all_child, parent_and_last, with_last}
use Rattle.retro_tree.proofs.Below.{parent_of_append}
use Rattle.retro_tree.specs.Lawful.{law_at}
use Rattle.retro_tree.specs.Node.{file_limit, node_of, is_dir as is_dir_node}
use Rattle.retro_tree.specs.declared.node.Node.{Node}
use Rattle.retro_tree.specs.declared.node.Node.TheVariants as nodes
use Rattle.casebook_folder.proofs.Small.{both_and, decided, first_and, last_and, none_some, not_true, some_same}
use Rattle.casebook_snapshot.specs.Items.{Contents, is_missing, is_dir, row_for}
use Rattle.casebook_snapshot.specs.Reasons.{first_reason, is_plain_name, item_reason, name_reason}
use Rattle.casebook_snapshot.specs.Reasons.{path_reason, reason_by, reason_of}
use Rattle.casebook_snapshot.specs.Kept.{is_entered, are_entered, is_open, kept}
use Rattle.casebook_snapshot.specs.Snapshots.{HasRow, IsBelowSkipped, IsLawfulSnapshot, IsSkipped}
use Rattle.casebook_snapshot.specs.Snapshots.{IsSnapshot, IsTreeLike, entry_of, may_hold, node_at, row_at}
use Rattle.casebook_snapshot.specs.declared.item.Row.{Row}
use Rattle.casebook_snapshot.specs.declared.item.Item.{Item}
use Rattle.casebook_snapshot.specs.declared.item.Item.TheVariants.{Missing, Dir, File, Barred}
use Rattle.casebook_snapshot.specs.declared.reason.Reason.{Reason}
use Rattle.casebook_snapshot.specs.declared.reason.Reason.TheVariants.{NameTooLong, OddName, Asked}
use Rattle.casebook_snapshot.specs.declared.reason.Reason.TheVariants.{NullDevice, TooLarge}
use Rattle.casebook_snapshot.specs.declared.snapshot.Snapshot.{Snapshot}
use Rattle.casebook_snapshot.proofs.Small.{along, last_of_child, not_both, parent_below, seen}
use Rattle.casebook_snapshot.proofs.Opening.{IsKept, entered_by, entered_dir, entered_none, first_entered}
use Rattle.casebook_snapshot.proofs.Opening.{front, kept_parts, open_child}

-- ---- reasons that don't apply

first_none : (a b : Option Reason) → first_reason a b ≡ None → a ≡ None
first_none None b e = refl
first_none (Some r) b e = absurd (none_some r (sym e))

last_none : (a b : Option Reason) → first_reason a b ≡ None → b ≡ None
last_none None b e = e
last_none (Some r) b e = absurd (none_some r (sym e))

plain_of : (n : List ℕ) → name_reason n ≡ None → is_plain_name n ≡ true
plain_of n e = elim (decided (nat_lt 255 (length n))) [
  | inl long ↦ absurd (none_some NameTooLong (sym e ∙ ap (λ b. if b then Some NameTooLong else (if is_plain_name n then None else Some OddName)) long))
  | inr short ↦ elim (decided (is_plain_name n)) [
    | inl plain ↦ plain
    | inr odd ↦ absurd (none_some OddName (sym e
        ∙ ap (λ b. if b then Some NameTooLong else (if is_plain_name n then None else Some OddName)) short
        ∙ ap (λ b. if b then None else Some OddName) odd))
  ]
]

name_of : (n : List ℕ) → name_reason n ≡ None → is_name n ≡ true
unfolding is_plain_name
name_of n e = last_and _ _ (last_and _ _ (plain_of n e))

not_null : (skip : List PathValue) (q : PathValue) → path_reason skip q ≡ None → is_null q ≡ false
not_null skip q e = elim (decided (is_null q)) [
  | inr other ↦ other
  | inl null ↦ elim (decided (list_any (path_eq q) skip)) [
    | inl asked ↦ absurd (none_some Asked (sym e ∙ ap (λ b. if b then Some Asked else (if is_null q then Some NullDevice else None)) asked))
    | inr free ↦ absurd (none_some NullDevice (sym e
        ∙ ap (λ b. if b then Some Asked else (if is_null q then Some NullDevice else None)) free
        ∙ ap (λ b. if b then Some NullDevice else None) null))
  ]
]

small_file : (x : List ℕ) → (if nat_lt file_limit (length x) then Some TooLarge else None) ≡ None
    → nat_lt file_limit (length x) ≡ false
small_file x e = elim (decided (nat_lt file_limit (length x))) [
  | inl large ↦ absurd (none_some TooLarge (sym e ∙ ap (λ b. if b then Some TooLarge else None) large))
  | inr small ↦ small
]

fits : (n m : ℕ) → nat_lt m n ≡ false → nat_le n m ≡ true
fits n m e = grind arith

not_empty : (n : List ℕ) (r : PathValue) → n ∷ r ≡ [] → ⊥
not_empty n r e = false≢true (ap is_root e)

may_exists : (x : Item) → may_hold x ≡ true → is_missing x ≡ false
may_exists Missing e = absurd (false≢true e)
may_exists (Dir a) e = refl
may_exists (File b a) e = refl
may_exists (Barred r) e = refl

module _ (f : Contents) (skip : List PathValue) where
  by_parts : (p : PathValue) (n : List ℕ) → reason_of f skip (p ++ n ∷ []) ≡ None
      → first_reason (name_reason n) (first_reason (path_reason skip (p ++ n ∷ [])) (item_reason (f (p ++ n ∷ [])))) ≡ None
  by_parts p n e = sym (ap (reason_by f skip (p ++ n ∷ [])) (last_of_child p n)) ∙ e

  item_clear : (p : PathValue) (n : List ℕ) → reason_of f skip (p ++ n ∷ []) ≡ None
      → item_reason (f (p ++ n ∷ [])) ≡ None
  item_clear p n e =
      last_none (path_reason skip (p ++ n ∷ [])) (item_reason (f (p ++ n ∷ [])))
      (last_none (name_reason n) (first_reason (path_reason skip (p ++ n ∷ [])) (item_reason (f (p ++ n ∷ [])))) (by_parts p n e))

  name_clear : (p : PathValue) (n : List ℕ) → reason_of f skip (p ++ n ∷ []) ≡ None → is_name n ≡ true
  name_clear p n e = name_of n (first_none (name_reason n) (first_reason (path_reason skip (p ++ n ∷ [])) (item_reason (f (p ++ n ∷ [])))) (by_parts p n e))

  null_clear : (p : PathValue) (n : List ℕ) → reason_of f skip (p ++ n ∷ []) ≡ None → is_null (p ++ n ∷ []) ≡ false
  null_clear p n e =
      not_null skip (p ++ n ∷ [])
      (first_none (path_reason skip (p ++ n ∷ [])) (item_reason (f (p ++ n ∷ [])))
      (last_none (name_reason n) (first_reason (path_reason skip (p ++ n ∷ [])) (item_reason (f (p ++ n ∷ [])))) (by_parts p n e)))

  -- a path but the root, by its parent and its last name
  at_child : (P : PathValue → Type 0) → P [] → ((p : PathValue) (n : List ℕ) → P (p ++ n ∷ [])) → (q : PathValue) → P q
  at_child P root child q = elim (seen (last_of q)) [
    | inl last ↦ subst P (sym (parent_and_last q ∙ ap (with_last (parent_of q)) last)) (subst P (empty last) root)
    | inr some ↦ subst P (sym (parent_and_last q ∙ ap (with_last (parent_of q)) some.1)) (child (parent_of q) some.0)
  ]
    where
      has_last : (k : List ℕ) (r : PathValue) → last_of (k ∷ r) ≡ None → ⊥
      has_last k [] e = none_some k (sym e)
      has_last k (j ∷ r) e = has_last j r e

      none_empty : (r : PathValue) → last_of r ≡ None → [] ≡ parent_of r
      none_empty [] e = refl
      none_empty (m ∷ []) e = absurd (none_some m (sym e))
      none_empty (m ∷ k ∷ r) e = absurd (has_last k r e)

      empty : last_of q ≡ None → [] ≡ parent_of q
      empty e = none_empty q e

  -- no reason applies to a directory that is kept
  open_clear : (q : PathValue) → is_open f skip q ≡ true → reason_of f skip q ≡ None
  open_clear q =
      at_child (λ x. is_open f skip x ≡ true → reason_of f skip x ≡ None) (λ o. refl)
      (λ p n o. entered_none f skip (p ++ n ∷ []) (first_entered f skip p n [] o)) q

  -- a directory that is kept is a directory, and its row is one
  open_dir : is_dir (f []) ≡ true → (q : PathValue) → is_open f skip q ≡ true → is_dir (f q) ≡ true
  open_dir root q =
      at_child (λ x. is_open f skip x ≡ true → is_dir (f x) ≡ true) (λ o. root)
      (λ p n o. entered_dir f skip (p ++ n ∷ []) (first_entered f skip p n [] o)) q

  open_above : (q : PathValue) → is_open f skip q ≡ true → is_open f skip (parent_of q) ≡ true
  open_above q =
      at_child (λ x. is_open f skip x ≡ true → is_open f skip (parent_of x) ≡ true) (λ o. refl)
      (λ p n o. subst (λ x. is_open f skip x ≡ true) (sym (parent_of_append p n)) (front f skip p (n ∷ []) [] o)) q

  -- ---- rows that are lawful

  kept_node : PathValue → Node
  kept_node q = node_of (entry_of (kept f skip q))

  dir_node : (x : Item) → is_dir x ≡ true → node_of (entry_of (row_for x)) ≡ nodes.Dir
  dir_node Missing e = absurd (false≢true e)
  dir_node (Dir a) e = refl
  dir_node (File b a) e = absurd (false≢true e)
  dir_node (Barred r) e = absurd (false≢true e)

  held_here : (q : PathValue) → is_open f skip (parent_of q) ≡ true → reason_of f skip q ≡ None
      → kept f skip q ≡ row_for (f q)
  held_here q o n =
      ap (λ b. if b then row_for (f q) else None)
      (both_and (is_open f skip (parent_of q)) (not (is_some (reason_of f skip q))) o (ap (λ x. not (is_some x)) n))

  open_node : is_dir (f []) ≡ true → (q : PathValue) → is_open f skip q ≡ true
      → node_of (entry_of (kept f skip q)) ≡ nodes.Dir
  open_node root q o =
      ap (λ x. node_of (entry_of x)) (held_here q (open_above q o) (open_clear q o))
      ∙ dir_node (f q) (open_dir root q o)

  not_below : (x p : PathValue) (n : List ℕ) → is_some (below x p) ≡ false
      → nothing_left (below x (p ++ n ∷ [])) ≡ false → is_some (below x (p ++ n ∷ [])) ≡ false
  not_below [] p n h k = absurd (false≢true (sym h))
  not_below (y ∷ []) [] n h k = elim (decided (text_eq y n)) [
    | inl e ↦ absurd (false≢true (sym k ∙ ap (λ b. nothing_left (if b then Some [] else None)) e))
    | inr e ↦ ap (λ b. is_some {T = PathValue} (if b then Some [] else None)) e
  ]
  not_below (y ∷ z ∷ x) [] n h k = elim (decided (text_eq y n)) [
    | inl e ↦ ap (λ b. is_some (if b then below (z ∷ x) [] else None)) e
    | inr e ↦ ap (λ b. is_some (if b then below (z ∷ x) [] else None)) e
  ]
  not_below (y ∷ x) (m ∷ p) n h k = elim (decided (text_eq y m)) [
    | inl e ↦ ap (λ b. is_some (if b then below x (p ++ n ∷ []) else None)) e
        ∙ not_below x p n (sym (ap (λ b. is_some (if b then below x p else None)) e) ∙ h)
        (sym (ap (λ b. nothing_left (if b then below x (p ++ n ∷ []) else None)) e) ∙ k)
    | inr e ↦ ap (λ b. is_some (if b then below x (p ++ n ∷ []) else None)) e
  ]

  child_exists : (p : PathValue) (n : List ℕ) → reason_of f skip (p ++ n ∷ []) ≡ None
      → may_exist p ≡ true → may_exist (p ++ n ∷ []) ≡ true
  unfolding may_exist is_null
  child_exists p n e h =
      both_and (not (is_some (below null_path (p ++ n ∷ [])))) (list_all is_name (p ++ n ∷ []))
      (ap not (not_below null_path p n (not_true (is_some (below null_path p)) (first_and (not (is_some (below null_path p))) (list_all is_name p) h)) (null_clear p n e)))
      (all_child p n (last_and (not (is_some (below null_path p))) (list_all is_name p) h) (name_clear p n e))

  entered_exist : (ns p : PathValue) → may_exist p ≡ true → are_entered f skip p ns ≡ true
      → may_exist (p ++ ns) ≡ true
  entered_exist [] p h e = subst (λ x. may_exist x ≡ true) (sym (append-nil p)) h
  entered_exist (n ∷ ns) p h e =
      subst (λ x. may_exist x ≡ true) (along p n ns)
      (entered_exist ns (p ++ n ∷ [])
      (child_exists p n (entered_none f skip (p ++ n ∷ []) (first_and (is_entered f skip (p ++ n ∷ [])) (are_entered f skip (p ++ n ∷ []) ns) e)) h)
      (last_and (is_entered f skip (p ++ n ∷ [])) (are_entered f skip (p ++ n ∷ []) ns) e))

  root_exists : may_exist [] ≡ true
  unfolding may_exist
  root_exists = refl

  -- a path to which no reason applies may exist, if the directories above it are kept
  clear_exists : (q : PathValue) → is_open f skip (parent_of q) ≡ true → reason_of f skip q ≡ None
      → may_exist q ≡ true
  clear_exists q =
      at_child (λ x. is_open f skip (parent_of x) ≡ true → reason_of f skip x ≡ None → may_exist x ≡ true)
      (λ o e. root_exists)
      (λ p n o e. child_exists p n e
      (entered_exist p [] root_exists (subst (λ x. is_open f skip x ≡ true) (parent_of_append p n) o))) q

  item_at : (q : PathValue) → (q ≡ [] → ⊥) → reason_of f skip q ≡ None → item_reason (f q) ≡ None
  item_at q =
      at_child (λ x. (x ≡ [] → ⊥) → reason_of f skip x ≡ None → item_reason (f x) ≡ None)
      (λ apart e. absurd (apart refl)) (λ p n apart e. item_clear p n e) q

  law_held : (n : List ℕ) (r : PathValue) (x : Item) (h : Row) → row_for x ≡ Some h
      → may_exist (n ∷ r) ≡ true → item_reason x ≡ None
      → law_at (n ∷ r) (node_of (Some h.entry)) nodes.Dir ≡ true
  law_held n r Missing h e may small = absurd (none_some h e)
  law_held n r (Dir a) h e may small =
      subst (λ k. law_at (n ∷ r) (node_of (Some k.entry)) nodes.Dir ≡ true) (some_same _ h e) may
  law_held n r (File b a) h e may small =
      subst (λ k. law_at (n ∷ r) (node_of (Some k.entry)) nodes.Dir ≡ true) (some_same _ h e)
      (both_and (may_exist (n ∷ r)) (nat_le (length b) file_limit) may (fits (length b) file_limit (small_file b small)))
  law_held n r (Barred y) h e may small = absurd (none_some h e)

  lawful_at : is_dir (f []) ≡ true → (q : PathValue)
      → law_at q (node_of (entry_of (kept f skip q))) (node_of (entry_of (kept f skip (parent_of q)))) ≡ true
  lawful_at root [] = ap is_dir_node (open_node root [] refl)
  lawful_at root (n ∷ r) = elim (seen (kept f skip (n ∷ r))) [
    | inl none ↦ ap (λ x. law_at (n ∷ r) (node_of (entry_of x)) (node_of (entry_of (kept f skip (parent_of (n ∷ r)))))) none
    | inr some ↦
        let parts = kept_parts f skip (n ∷ r) some.0 some.1 in
        ap (λ x. law_at (n ∷ r) (node_of (entry_of x)) (node_of (entry_of (kept f skip (parent_of (n ∷ r)))))) some.1
        ∙ ap (λ y. law_at (n ∷ r) (node_of (Some some.0.entry)) y) (open_node root (parent_of (n ∷ r)) parts.above)
        ∙ law_held n r (f (n ∷ r)) some.0 parts.held (clear_exists (n ∷ r) parts.above parts.clear)
        (item_at (n ∷ r) (λ e. not_empty n r e) parts.clear)
  ]

  module _ (s : Snapshot) (i : IsSnapshot f skip s) where
    pub lawful : IsLawfulSnapshot s
    lawful q =
        ap (λ x. law_at q (node_of (entry_of x)) (node_at s (parent_of q))) (i.rows q)
        ∙ ap (λ x. law_at q (node_of (entry_of (kept f skip q))) (node_of (entry_of x))) (i.rows (parent_of q))
        ∙ lawful_at i.root q

    pub exact : (q : PathValue) (h : Row) → row_at s q ≡ Some h → row_for (f q) ≡ Some h
    exact q h row = (kept_parts f skip q h (sym (i.rows q) ∙ row)).held

    -- ---- rows and skipped paths are apart

    pub apart : (q : PathValue) → HasRow s q → IsBelowSkipped s q → ⊥
    apart q row b = go b.rest b.same
      where
        parts : IsKept f skip q row.0
        parts = kept_parts f skip q row.0 (sym (i.rows q) ∙ row.1)

        skipped : IsSkipped f skip b.path b.reason
        skipped = (i.skipped b.path b.reason).0 b.listed

        go : (rest : PathValue) → q ≡ b.path ++ rest → ⊥
        go [] e =
            not_both (reason_of f skip q) b.reason parts.clear (ap (reason_of f skip) (e ∙ append-nil b.path) ∙ skipped.reason)
        go (m ∷ r) e =
            not_both (reason_of f skip b.path) b.reason
            (open_clear b.path (front f skip b.path (parent_of (m ∷ r)) []
            (subst (λ x. is_open f skip x ≡ true) (ap parent_of e ∙ parent_below b.path m r) parts.above)))
            skipped.reason

    -- ---- each path is in a row or at or below a skipped one

    module _ (t : IsTreeLike f) where
      has_below : (r p : PathValue) (n : List ℕ) → is_missing (f (p ++ n ∷ r)) ≡ false
          → may_hold (f p) ≡ true
      has_below [] p n h = t p n h
      has_below (m ∷ r) p n h =
          t p n (may_exists (f (p ++ n ∷ []))
          (has_below r (p ++ n ∷ []) m (subst (λ q. is_missing (f q) ≡ false) (sym (along p n (m ∷ r))) h)))

      child_there : (r p : PathValue) (n : List ℕ) → is_missing (f (p ++ n ∷ r)) ≡ false
          → is_missing (f (p ++ n ∷ [])) ≡ false
      child_there [] p n h = h
      child_there (m ∷ r) p n h =
          may_exists (f (p ++ n ∷ []))
          (has_below r (p ++ n ∷ []) m (subst (λ q. is_missing (f q) ≡ false) (sym (along p n (m ∷ r))) h))

      row_of : (q : PathValue) (x : Item) (h : Row) → is_open f skip (parent_of q) ≡ true
          → reason_of f skip q ≡ None → f q ≡ x → row_for x ≡ Some h → HasRow s q
      row_of q x h o n e held = (h, i.rows q ∙ held_here q o n ∙ ap row_for e ∙ held)

      -- a path that ends at something else than a directory
      leaf : (ns p : PathValue) (n : List ℕ) (x : Item) → f (p ++ n ∷ []) ≡ x → is_dir x ≡ false
          → is_open f skip p ≡ true → reason_of f skip (p ++ n ∷ []) ≡ None
          → is_missing (f (p ++ n ∷ ns)) ≡ false → HasRow s (p ++ n ∷ ns)
      leaf ns p n Missing e d o none there =
          absurd (false≢true (sym (child_there ns p n there) ∙ ap is_missing e))
      leaf ns p n (Dir a) e d o none there = absurd (false≢true (sym d))
      leaf [] p n (File b a) e d o none there =
          row_of (p ++ n ∷ []) (File b a) _ (subst (λ x. is_open f skip x ≡ true) (sym (parent_of_append p n)) o) none e refl
      leaf (m ∷ r) p n (File b a) e d o none there =
          absurd (false≢true (sym (ap may_hold e)
          ∙ has_below r (p ++ n ∷ []) m (subst (λ q. is_missing (f q) ≡ false) (sym (along p n (m ∷ r))) there)))
      leaf ns p n (Barred y) e d o none there =
          absurd (none_some y (sym (item_clear p n none) ∙ ap item_reason e))

      descend : (ns p : PathValue) → is_open f skip p ≡ true → HasRow s p
          → is_missing (f (p ++ ns)) ≡ false → HasRow s (p ++ ns) ⊎ IsBelowSkipped s (p ++ ns)
      descend [] p o row there = inl (subst (HasRow s) (sym (append-nil p)) row)
      descend (n ∷ ns) p o row there = elim (seen (reason_of f skip (p ++ n ∷ []))) [
        | inr some ↦ inr (record {
          path = p ++ n ∷ [];
          rest = ns;
          reason = some.0;
          listed = (i.skipped (p ++ n ∷ []) some.0).1 (record {
            above = subst (λ x. is_open f skip x ≡ true) (sym (parent_of_append p n)) o;
            exists = child_there ns p n there;
            reason = some.1;
          });
          same = sym (along p n ns);
        })
        | inl none ↦ elim (decided (is_dir (f (p ++ n ∷ [])))) [
          | inr other ↦ inl (leaf ns p n (f (p ++ n ∷ [])) refl other o none there)
          | inl dir ↦
              let entered = entered_by f skip (p ++ n ∷ []) dir none in
              let open_here = open_child f skip p n o entered in
              let above = subst (λ x. is_open f skip x ≡ true) (sym (parent_of_append p n)) o in
              subst (λ x. HasRow s x ⊎ IsBelowSkipped s x) (along p n ns)
              (descend ns (p ++ n ∷ []) open_here (dir_row (p ++ n ∷ []) (f (p ++ n ∷ [])) above none refl dir)
              (subst (λ x. is_missing (f x) ≡ false) (sym (along p n ns)) there))
        ]
      ]
        where
          dir_row : (q : PathValue) (x : Item) → is_open f skip (parent_of q) ≡ true
              → reason_of f skip q ≡ None → f q ≡ x → is_dir x ≡ true → HasRow s q
          dir_row q Missing o none e d = absurd (false≢true d)
          dir_row q (Dir a) o none e d = row_of q (Dir a) _ o none e refl
          dir_row q (File b a) o none e d = absurd (false≢true d)
          dir_row q (Barred y) o none e d = absurd (false≢true d)

      root_row : (x : Item) → f [] ≡ x → is_dir x ≡ true → HasRow s []
      root_row Missing e d = absurd (false≢true d)
      root_row (Dir a) e d = row_of [] (Dir a) _ refl refl e refl
      root_row (File b a) e d = absurd (false≢true d)
      root_row (Barred y) e d = absurd (false≢true d)

      pub covered : (q : PathValue) → is_missing (f q) ≡ false → HasRow s q ⊎ IsBelowSkipped s q
      covered q there = descend q [] refl (root_row (f []) refl i.root) there
