-- Walks: how a visit of a child brings a walk on, and what it is at its end.
use Rattle.std.proofs.Common.{◌≡◌, ℕ, true, false, refl, sym, ap, subst, ◌∙◌, ◌⊎◌, inl, inr, List, []}
use Rattle.std.proofs.Common.{◌∷◌, ◌++◌, append-nil, cond, Some, None}
use Rattle.std.specs.BTreeMap as tree
use Rattle.std.specs.BTreeMap.{is_at}
use Rattle.std.specs.Map.{lookup}
use Rattle.std.specs.Ordering.{is_eq}
use Rattle.std.proofs.lemmas.Bool.{false≢true}
use Rattle.retro_path.specs.Order.{path_cmp}
use Rattle.retro_path.specs.Path.{PathValue, parent_of}
use Rattle.retro_tree.proofs.Below.{parent_of_append}
use Rattle.casebook_folder.proofs.Small.{decided, none_some, some_same}
use Rattle.casebook_snapshot.specs.Items.{Contents, is_missing, is_dir, row_for}
use Rattle.casebook_snapshot.specs.Reasons.{reason_of}
use Rattle.casebook_snapshot.specs.Children.{path_of, ArePresent, IsNamed, IsListing}
use Rattle.casebook_snapshot.specs.Kept.{is_open, kept}
use Rattle.casebook_snapshot.specs.Snapshots.{IsIn, IsSkipped, IsSnapshot, row_at}
use Rattle.casebook_snapshot.specs.inner.Visits.{IsVisit, AreChildren}
use Rattle.casebook_snapshot.specs.inner.Walks.{IsUnder, AreOpen, IsWalked, IsRowPut, IsTaken}
use Rattle.casebook_snapshot.specs.declared.child.Child.{Child}
use Rattle.casebook_snapshot.specs.declared.item.Row.{Row}
use Rattle.casebook_snapshot.specs.declared.item.Item.{Item}
use Rattle.casebook_snapshot.specs.declared.item.Item.TheVariants.{Missing, Dir, File, Barred}
use Rattle.casebook_snapshot.specs.declared.reason.Reason.{Reason}
use Rattle.casebook_snapshot.specs.declared.snapshot.SkippedPath.{SkippedPath}
use Rattle.casebook_snapshot.specs.declared.snapshot.Snapshot.{Snapshot}
use Rattle.casebook_snapshot.specs.declared.visit.Visit.{Visit}
use Rattle.casebook_snapshot.specs.declared.visit.Visit.TheVariants.{Gone, Skip, Keep}
use Rattle.casebook_snapshot.specs.declared.walking.Progress.{Progress}
use Rattle.casebook_snapshot.proofs.Small.{along, not_both, seen, tied_paths, tied_itself}
use Rattle.casebook_snapshot.proofs.Opening.{above_entered, next_exists, entered_dir, entered_none}
use Rattle.casebook_snapshot.proofs.Opening.{entered_by, open_child, kept_parts, kept_by, held_exists}
use Rattle.casebook_snapshot.proofs.Opening.{IsKept}

-- ---- lists

under_front : (xs ys : List Child) (q : PathValue) → IsUnder xs q → IsUnder (xs ++ ys) q
under_front [] ys q h = absurd h
under_front (x ∷ xs) ys q (inl e) = inl e
under_front (x ∷ xs) ys q (inr h) = inr (under_front xs ys q h)

under_back : (xs ys : List Child) (q : PathValue) → IsUnder ys q → IsUnder (xs ++ ys) q
under_back [] ys q h = h
under_back (x ∷ xs) ys q h = inr (under_back xs ys q h)

under_parts : (xs ys : List Child) (q : PathValue) → IsUnder (xs ++ ys) q
    → IsUnder xs q ⊎ IsUnder ys q
under_parts [] ys q h = inr h
under_parts (x ∷ xs) ys q (inl e) = inl (inl e)
under_parts (x ∷ xs) ys q (inr h) =
    elim (under_parts xs ys q h) [ inl k ↦ inl (inr k) | inr k ↦ inr k ]

in_front : (xs ys : List SkippedPath) (q : PathValue) (r : Reason) → IsIn xs q r → IsIn (xs ++ ys) q r
in_front [] ys q r h = absurd h
in_front (x ∷ xs) ys q r (inl e) = inl e
in_front (x ∷ xs) ys q r (inr h) = inr (in_front xs ys q r h)

in_back : (xs ys : List SkippedPath) (q : PathValue) (r : Reason) → IsIn ys q r → IsIn (xs ++ ys) q r
in_back [] ys q r h = h
in_back (x ∷ xs) ys q r h = inr (in_back xs ys q r h)

in_parts : (xs ys : List SkippedPath) (q : PathValue) (r : Reason) → IsIn (xs ++ ys) q r
    → IsIn xs q r ⊎ IsIn ys q r
in_parts [] ys q r h = inr h
in_parts (x ∷ xs) ys q r (inl e) = inl (inl e)
in_parts (x ∷ xs) ys q r (inr h) =
    elim (in_parts xs ys q r h) [ inl k ↦ inl (inr k) | inr k ↦ inr k ]

open_first : (f : Contents) (skip : List PathValue) (xs ys : List Child) → AreOpen f skip (xs ++ ys)
    → AreOpen f skip xs
open_first f skip [] ys h = tt
open_first f skip (x ∷ xs) ys h = (h.0, (h.1.0, open_first f skip xs ys h.1.1))

open_last : (f : Contents) (skip : List PathValue) (xs ys : List Child) → AreOpen f skip (xs ++ ys)
    → AreOpen f skip ys
open_last f skip [] ys h = h
open_last f skip (x ∷ xs) ys h = open_last f skip xs ys h.1.1

open_both : (f : Contents) (skip : List PathValue) (xs ys : List Child) → AreOpen f skip xs
    → AreOpen f skip ys → AreOpen f skip (xs ++ ys)
open_both f skip [] ys h k = k
open_both f skip (x ∷ xs) ys h k = (h.0, (h.1.0, open_both f skip xs ys h.1.1 k))

-- ---- the children of a directory

named_under : (f : Contents) (p : PathValue) (n : List ℕ) (r : PathValue) (cs : List Child)
    → ArePresent f p cs → IsNamed cs n → IsUnder cs (p ++ n ∷ r)
named_under f p n r [] h k = absurd k
named_under f p n r (c ∷ cs) h (inl e) =
    inl (r, sym (along p n r) ∙ ap (λ x. (x ++ n ∷ []) ++ r) (sym h.0) ∙ ap (λ x. (c.parent ++ x ∷ []) ++ r) (sym e))
named_under f p n r (c ∷ cs) h (inr k) = inr (named_under f p n r cs h.1.1 k)

present_open : (f : Contents) (skip : List PathValue) (p : PathValue) (cs : List Child)
    → is_open f skip p ≡ true → ArePresent f p cs → AreOpen f skip cs
present_open f skip p [] o h = tt
present_open f skip p (c ∷ cs) o h =
    (subst (λ x. is_open f skip x ≡ true) (sym h.0) o, (h.1.0, present_open f skip p cs o h.1.1))

listing_of : (f : Contents) (p : PathValue) (x : Item) (cs : List Child) → is_dir x ≡ true
    → AreChildren f p x cs → IsListing f p cs
listing_of f p Missing cs d h = absurd (false≢true d)
listing_of f p (Dir a) cs d h = h
listing_of f p (File b a) cs d h = absurd (false≢true d)
listing_of f p (Barred r) cs d h = absurd (false≢true d)

no_children : (f : Contents) (p : PathValue) (x : Item) (cs : List Child) → is_dir x ≡ false
    → AreChildren f p x cs → cs ≡ []
no_children f p Missing cs d h = h
no_children f p (Dir a) cs d h = absurd (false≢true (sym d))
no_children f p (File b a) cs d h = h
no_children f p (Barred r) cs d h = h

module _ (f : Contents) (skip : List PathValue) where
  -- what is below a directory that is kept is below one of its children
  below_listed : (p : PathValue) (m : List ℕ) (r : PathValue) (cs : List Child) → IsListing f p cs
      → is_open f skip (parent_of (p ++ m ∷ r)) ≡ true → is_missing (f (p ++ m ∷ r)) ≡ false
      → IsUnder cs (p ++ m ∷ r)
  below_listed p m r cs l o e =
      named_under f p m r cs l.sound (l.complete m (next_exists f skip p m r o e))

  -- ---- the beginning

  pub begins : (s : Snapshot) (cs : List Child) (h : Row) → is_dir (f []) ≡ true
      → row_for (f []) ≡ Some h → IsListing f [] cs
      → ((q : PathValue) → row_at s q ≡ cond (is_eq (path_cmp [] q)) (Some h) None)
      → s.skipped.items ≡ [] → IsWalked f skip s cs
  begins s cs h d e l rows none = record {
    root = d;
    sound = λ q k is. elim (decided (is_eq (path_cmp [] q))) [
      | inl here ↦ subst (λ x. kept f skip x ≡ Some k) (tied_paths [] q here)
          (e ∙ sym (ap (λ b. cond b (Some h) None) here) ∙ sym (rows q) ∙ is)
      | inr there ↦ absurd (none_some k (sym (ap (λ b. cond b (Some h) None) there) ∙ sym (rows q) ∙ is))
    ];
    complete = found;
    right = λ q r k. absurd (subst (λ x. IsIn x q r) none k);
    named = named;
    reachable = present_open f skip [] cs refl l.sound;
  }
    where
      found : (q : PathValue) (k : Row) → kept f skip q ≡ Some k → (row_at s q ≡ Some k) ⊎ IsUnder cs q
      found [] k is = inl (rows [] ∙ ap (λ b. cond b (Some h) None) (tied_itself []) ∙ sym e ∙ is)
      found (n ∷ r) k is =
          let parts = kept_parts f skip (n ∷ r) k is in
          inr (below_listed [] n r cs l parts.above (held_exists (f (n ∷ r)) k parts.held))

      named : (q : PathValue) (r : Reason) → IsSkipped f skip q r → IsIn s.skipped.items q r ⊎ IsUnder cs q
      named [] r k = absurd (none_some r k.reason)
      named (n ∷ rest) r k = inr (below_listed [] n rest cs l k.above k.exists)

  -- ---- the end

  pub ends : (s : Snapshot) → IsWalked f skip s [] → IsSnapshot f skip s
  ends s w = record {
    root = w.root;
    rows = λ q. elim (seen (kept f skip q)) [
      | inr k ↦ elim (w.complete q k.0 k.1) [ inl e ↦ e ∙ sym k.1 | inr u ↦ absurd u ]
      | inl n ↦ elim (seen (row_at s q)) [
        | inl e ↦ e ∙ sym n
        | inr e ↦ absurd (not_both (kept f skip q) e.0 n (w.sound q e.0 e.1))
      ]
    ];
    skipped = λ q r. (
      λ h. w.right q r h,
      λ h. elim (w.named q r h) [ inl k ↦ k | inr u ↦ absurd u ],
    );
  }

  -- ---- a step

  module _ (c : Child) (s t : Snapshot) (l rest m : List Child) (popped : l ≡ rest ++ c ∷ [])
      (w : IsWalked f skip s l) where
    all_open : AreOpen f skip (rest ++ c ∷ [])
    all_open = subst (AreOpen f skip) popped w.reachable

    rest_open : AreOpen f skip rest
    rest_open = open_first f skip rest (c ∷ []) all_open

    parent_open : is_open f skip c.parent ≡ true
    parent_open = (open_last f skip rest (c ∷ []) all_open).0

    child_exists : is_missing (f (path_of c)) ≡ false
    child_exists = (open_last f skip rest (c ∷ []) all_open).1.0

    above_open : is_open f skip (parent_of (path_of c)) ≡ true
    above_open = subst (λ x. is_open f skip x ≡ true) (sym (parent_of_append c.parent c.name.items)) parent_open

    -- where what was at or below the children that were left is now
    moved : {A : Type 0} (q : PathValue) → IsUnder l q → ((x : PathValue) → q ≡ path_of c ++ x → A)
        → (IsUnder rest q → A) → A
    moved q u here there = elim (under_parts rest (c ∷ []) q (subst (λ x. IsUnder x q) popped u)) [
      | inl k ↦ there k
      | inr k ↦ elim k [ inl e ↦ here e.0 e.1 | inr nothing ↦ absurd nothing ]
    ]

    pub gone : is_missing (f (path_of c)) ≡ true → IsWalked f skip t m
    gone e = absurd (false≢true (sym child_exists ∙ e))

    pub skips : (r : Reason) → reason_of f skip (path_of c) ≡ Some r
        → ((q : PathValue) → row_at t q ≡ row_at s q) → m ≡ rest
        → t.skipped.items ≡ s.skipped.items ++ (record { child = c; reason = r }) ∷ []
        → IsWalked f skip t m
    skips r why rows left more = record {
      root = w.root;
      sound = λ q h is. w.sound q h (sym (rows q) ∙ is);
      complete = complete;
      right = right;
      named = named;
      reachable = subst (AreOpen f skip) (sym left) rest_open;
    }
      where
        one : SkippedPath
        one = record { child = c; reason = r }

        not_below : (k : List ℕ) (x : PathValue) → is_open f skip (parent_of (path_of c ++ k ∷ x)) ≡ true → ⊥
        not_below k x o =
            not_both (reason_of f skip (path_of c)) r
            (entered_none f skip (path_of c) (above_entered f skip c.parent c.name.items k x o)) why

        no_row : (x q : PathValue) (h : Row) → q ≡ path_of c ++ x → IsKept f skip q h → ⊥
        no_row [] q h e k =
            not_both (reason_of f skip q) r k.clear (ap (reason_of f skip) (e ∙ append-nil (path_of c)) ∙ why)
        no_row (n ∷ x) q h e k = not_below n x (subst (λ y. is_open f skip (parent_of y) ≡ true) e k.above)

        complete : (q : PathValue) (h : Row) → kept f skip q ≡ Some h → (row_at t q ≡ Some h) ⊎ IsUnder m q
        complete q h k = elim (w.complete q h k) [
          | inl is ↦ inl (rows q ∙ is)
          | inr u ↦ moved q u (λ x e. absurd (no_row x q h e (kept_parts f skip q h k)))
              (λ v. inr (subst (λ x. IsUnder x q) (sym left) v))
        ]

        right : (q : PathValue) (y : Reason) → IsIn t.skipped.items q y → IsSkipped f skip q y
        right q y h = elim (in_parts s.skipped.items (one ∷ []) q y (subst (λ x. IsIn x q y) more h)) [
          | inl k ↦ w.right q y k
          | inr k ↦ elim k [
            | inl e ↦ subst (λ x. IsSkipped f skip x y) e.0 (record {
              above = above_open;
              exists = child_exists;
              reason = why ∙ ap (λ x. Some x) e.1;
            })
            | inr nothing ↦ absurd nothing
          ]
        ]

        is_one : (x q : PathValue) (y : Reason) → q ≡ path_of c ++ x → IsSkipped f skip q y → IsIn (one ∷ []) q y
        is_one [] q y e k =
            let here = e ∙ append-nil (path_of c) in
            inl (sym here, some_same r y (sym why ∙ sym (ap (reason_of f skip) here) ∙ k.reason))
        is_one (n ∷ x) q y e k = absurd (not_below n x (subst (λ z. is_open f skip (parent_of z) ≡ true) e k.above))

        named : (q : PathValue) (y : Reason) → IsSkipped f skip q y → IsIn t.skipped.items q y ⊎ IsUnder m q
        named q y k = elim (w.named q y k) [
          | inl i ↦ inl (subst (λ x. IsIn x q y) (sym more) (in_front s.skipped.items (one ∷ []) q y i))
          | inr u ↦ moved q u
              (λ x e. inl (subst (λ z. IsIn z q y) (sym more) (in_back s.skipped.items (one ∷ []) q y (is_one x q y e k))))
              (λ v. inr (subst (λ x. IsUnder x q) (sym left) v))
        ]

    pub keeps : (p : PathValue) (h : Row) (cs : List Child) → p ≡ path_of c
        → reason_of f skip p ≡ None → row_for (f p) ≡ Some h → AreChildren f p (f p) cs
        → IsRowPut s t p h → m ≡ rest ++ cs → t.skipped.items ≡ s.skipped.items
        → IsWalked f skip t m
    keeps p h cs at clear held children rows left same = record {
      root = w.root;
      sound = sound;
      complete = complete;
      right = λ q y k. w.right q y (subst (λ x. IsIn x q y) same k);
      named = named;
      reachable = subst (AreOpen f skip) (sym left) (open_both f skip rest cs rest_open children_open);
    }
      where
        here_kept : kept f skip p ≡ Some h
        here_kept = kept_by f skip p h (subst (λ x. is_open f skip (parent_of x) ≡ true) (sym at) above_open) clear held

        row_here : (q : PathValue) → p ≡ q → row_at t q ≡ Some h
        row_here q e =
            rows q ∙ ap (λ b. cond b (Some h) (row_at s q)) (subst (λ x. is_eq (path_cmp p x) ≡ true) e (tied_itself p))

        sound : (q : PathValue) (k : Row) → row_at t q ≡ Some k → kept f skip q ≡ Some k
        sound q k is = elim (decided (is_eq (path_cmp p q))) [
          | inl here ↦ subst (λ x. kept f skip x ≡ Some k) (tied_paths p q here)
              (here_kept ∙ sym (ap (λ b. cond b (Some h) (row_at s q)) here) ∙ sym (rows q) ∙ is)
          | inr there ↦ w.sound q k (sym (ap (λ b. cond b (Some h) (row_at s q)) there) ∙ sym (rows q) ∙ is)
        ]

        open_here : is_dir (f p) ≡ true → is_open f skip p ≡ true
        open_here d =
            subst (λ x. is_open f skip x ≡ true) (sym at)
            (open_child f skip c.parent c.name.items parent_open
            (entered_by f skip (path_of c) (subst (λ x. is_dir (f x) ≡ true) at d)
            (subst (λ x. reason_of f skip x ≡ None) at clear)))

        children_open : AreOpen f skip cs
        children_open = elim (decided (is_dir (f p))) [
          | inl d ↦ present_open f skip p cs (open_here d) (listing_of f p (f p) cs d children).sound
          | inr d ↦ subst (AreOpen f skip) (sym (no_children f p (f p) cs d children)) tt
        ]

        -- what is below the child is below one of its children
        below : (n : List ℕ) (x q : PathValue) → q ≡ path_of c ++ n ∷ x → is_open f skip (parent_of q) ≡ true
            → is_missing (f q) ≡ false → IsUnder cs q
        below n x q e o there =
            let q_is = e ∙ ap (λ y. y ++ n ∷ x) (sym at) in
            let dir = subst (λ y. is_dir (f y) ≡ true) (sym at) (entered_dir f skip (path_of c)
            (above_entered f skip c.parent c.name.items n x (subst (λ y. is_open f skip (parent_of y) ≡ true) e o))) in
            subst (IsUnder cs) (sym q_is)
            (below_listed p n x cs (listing_of f p (f p) cs dir children)
            (subst (λ y. is_open f skip (parent_of y) ≡ true) q_is o) (subst (λ y. is_missing (f y) ≡ false) q_is there))

        new_under : (q : PathValue) → IsUnder cs q → IsUnder m q
        new_under q u = subst (λ x. IsUnder x q) (sym left) (under_back rest cs q u)

        old_under : (q : PathValue) → IsUnder rest q → IsUnder m q
        old_under q u = subst (λ x. IsUnder x q) (sym left) (under_front rest cs q u)

        row_or_under : (x q : PathValue) (k : Row) → q ≡ path_of c ++ x → kept f skip q ≡ Some k
            → (row_at t q ≡ Some k) ⊎ IsUnder m q
        row_or_under [] q k e is =
            let p_is = at ∙ sym (e ∙ append-nil (path_of c)) in
            inl (row_here q p_is ∙ sym here_kept ∙ ap (kept f skip) p_is ∙ is)
        row_or_under (n ∷ x) q k e is =
            let parts = kept_parts f skip q k is in
            inr (new_under q (below n x q e parts.above (held_exists (f q) k parts.held)))

        row_stays : (q : PathValue) (k : Row) → kept f skip q ≡ Some k → row_at s q ≡ Some k → row_at t q ≡ Some k
        row_stays q k is old = elim (decided (is_eq (path_cmp p q))) [
          | inl here ↦ let p_is = tied_paths p q here in row_here q p_is ∙ sym here_kept ∙ ap (kept f skip) p_is ∙ is
          | inr there ↦ rows q ∙ ap (λ b. cond b (Some h) (row_at s q)) there ∙ old
        ]

        complete : (q : PathValue) (k : Row) → kept f skip q ≡ Some k → (row_at t q ≡ Some k) ⊎ IsUnder m q
        complete q k is = elim (w.complete q k is) [
          | inl old ↦ inl (row_stays q k is old)
          | inr u ↦ moved q u (λ x e. row_or_under x q k e is) (λ v. inr (old_under q v))
        ]

        under_here : (x q : PathValue) (y : Reason) → q ≡ path_of c ++ x → IsSkipped f skip q y → IsUnder cs q
        under_here [] q y e k =
            absurd (not_both (reason_of f skip q) y (ap (reason_of f skip) (e ∙ append-nil (path_of c) ∙ sym at) ∙ clear) k.reason)
        under_here (n ∷ x) q y e k = below n x q e k.above k.exists

        named : (q : PathValue) (y : Reason) → IsSkipped f skip q y → IsIn t.skipped.items q y ⊎ IsUnder m q
        named q y k = elim (w.named q y k) [
          | inl i ↦ inl (subst (λ x. IsIn x q y) (sym same) i)
          | inr u ↦ moved q u (λ x e. inr (new_under q (under_here x q y e k))) (λ v. inr (old_under q v))
        ]

-- what a walk does with a child brings it on
pub walks_on : (f : Contents) (skip : List PathValue) (c : Child) (v : Visit) (a b w : Progress)
    → a.left.items ≡ b.left.items ++ c ∷ [] → b.snapshot ≡ a.snapshot
    → IsWalked f skip a.snapshot a.left.items → IsVisit f skip c v → IsTaken c v b w
    → IsWalked f skip w.snapshot w.left.items
walks_on f skip c Gone a b w popped same walked visit taken =
    gone f skip c a.snapshot w.snapshot a.left.items b.left.items w.left.items popped walked visit
walks_on f skip c (Skip r) a b w popped same walked visit taken =
    skips f skip c a.snapshot w.snapshot a.left.items b.left.items w.left.items popped walked r visit
    (λ q. ap (λ m. tree.get path_cmp m q) (taken.0 ∙ ap (λ s. s.rows) same)) taken.1.0
    (taken.1.1 ∙ ap (λ s. s.skipped.items ++ (record { child = c; reason = r }) ∷ []) same)
walks_on f skip c (Keep p h cs) a b w popped same walked visit taken =
    keeps f skip c a.snapshot w.snapshot a.left.items b.left.items w.left.items popped walked p h cs.items
    visit.0 visit.1.0 visit.1.1.0 visit.1.1.1
    (subst (λ s. IsRowPut s w.snapshot p h) same taken.0) taken.1.0 (taken.1.1 ∙ ap (λ s. s.skipped.items) same)

-- the row of the root, put into no rows
pub first_row : (s : Snapshot) (p : PathValue) (h : Row) (es : List (PathValue × Row))
    → ((q : PathValue) → row_at s q ≡ cond (is_eq (path_cmp p q)) (Some h) (lookup (is_at (path_cmp q)) es))
    → es ≡ [] → p ≡ [] → (q : PathValue) → row_at s q ≡ cond (is_eq (path_cmp [] q)) (Some h) None
first_row s p h es rows empty root q =
    rows q ∙ ap (λ x. cond (is_eq (path_cmp p q)) (Some h) (lookup (is_at (path_cmp q)) x)) empty
    ∙ ap (λ x. cond (is_eq (path_cmp x q)) (Some h) None) root
