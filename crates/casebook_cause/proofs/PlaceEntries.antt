-- Entries of lines at places: their order, adding one, and finding the last one.
use Rattle.std.proofs.Common.{◌≡◌, ◌∙◌, ◌⊎◌, inl, inr, ◌≤◌, ◌<◌, ℕ, Bool, true, false, ◌||◌, cond}
use Rattle.std.proofs.Common.{List, [], ◌∷◌, ◌++◌, Some, None, Less, Equal, Greater, refl, sym, ap, subst, arith}
use Rattle.std.specs.List.{list_any}
use Rattle.std.specs.Ordering.{is_eq, is_gt, is_lt, nat_cmp, ordering_reverse, ordering_then}
use Rattle.std.specs.BTreeMap.{is_at}
use Rattle.std.specs.BTreeMap.Range.{IsInRange}
use Rattle.std.specs.BTreeSet.{BTreeSet, IsKeyRangeOf}
use Rattle.std.specs.Cmp.{IsTotalOrder, nat_cmp_total, on_total, then_total, tied_itself}
use Rattle.std.specs.declared.cmp.Ordering.{Ordering}
use Rattle.std.specs.declared.cmp.Ordering.TheVariants as orders
use Rattle.std.specs.declared.ops.Bound.TheVariants.{Excluded, Included}
use Rattle.std.proofs.lemmas.Bool.{true≢false}
use Rattle.std.proofs.lemmas.Grind.{common_steps}
use Rattle.retro_tree.specs.Change.{cell_of}
use Rattle.retro_tree.specs.Path.{parent_of}
use Rattle.retro_tree.specs.declared.change.Change.{Change}
use Rattle.retro_tree.specs.declared.change.Change.TheVariants.{Grow, Put}
use Rattle.retro_tree.specs.declared.node.Node.{Node}
use Rattle.retro_tree.proofs.LawLemmas.{parent_of_child}
use Rattle.retro_tree.proofs.NoteLaws.{same_cells}
use Rattle.casebook_cause.specs.declared.place.SearchPlace.{SearchPlace}
use Rattle.casebook_cause.specs.declared.place.SearchPlace.TheVariants as places
use Rattle.casebook_cause.specs.inner.PlaceOrder.{Entry, entry_cmp, place_cmp, place_exact, place_total}
use Rattle.casebook_cause.specs.inner.Places.{IsLastOf, has_line, is_at_place}

entry_total : IsTotalOrder entry_cmp
entry_total = then_total (on_total (λ (e : Entry). e.0) place_total) (on_total (λ (e : Entry). e.1) nat_cmp_total)

entry_itself : (e : Entry) → is_at (entry_cmp e) e ≡ true
entry_itself e = ap is_eq (tied_itself entry_total e)

-- one entry was added to a set, or was there
module _ (old new : List Entry) (key : Entry) (updates : (e : Entry) → list_any (is_at (entry_cmp e)) new
    ≡ cond (is_at (entry_cmp key) e) true (list_any (is_at (entry_cmp e)) old)) where
  pub one_kept : (n : ℕ) (p : SearchPlace) → has_line n p old ≡ true → has_line n p new ≡ true
  one_kept n p has =
      updates (p, n) ∙ ap (λ b. cond (is_at (entry_cmp key) (p, n)) true b) has ∙ either (is_at (entry_cmp key) (p, n))
    where
      either : (b : Bool) → cond b true true ≡ true
      either true = refl
      either false = refl

  pub one_added : has_line key.1 key.0 new ≡ true
  one_added =
      updates key ∙ ap (λ b. cond b true (list_any (is_at (entry_cmp key)) old)) (entry_itself key)

-- ---- the places of a change

-- a line at the cell that a change writes and at the children of its parent is at all its places
pub at_all_places : (n : ℕ) (x : Change) (some all : List Entry)
    → ((p : List (List ℕ)) → is_at_place (places.ChildrenOf p) (cell_of x) ≡ true
    → has_line n (places.ChildrenOf p) some ≡ true)
    → ((m : ℕ) (p : SearchPlace) → has_line m p some ≡ true → has_line m p all ≡ true)
    → has_line n (places.Cell (cell_of x)) all ≡ true → (p : SearchPlace) → is_at_place p (cell_of x) ≡ true
    → has_line n p all ≡ true
at_all_places n x some all children kept cell (places.Cell c) at =
    subst (λ d. has_line n (places.Cell d) all ≡ true) (sym (same_cells c (cell_of x) at)) cell
at_all_places n x some all children kept cell (places.ChildrenOf p) at = kept n (places.ChildrenOf p) (children p at)

-- a line at the children of a path's parent is at those of each path that the path is a child of
pub at_children : (n : ℕ) (parent path : List (List ℕ)) (x : Change) (entries : List Entry) → parent ≡ parent_of path
    → ((node : Node) × (x ≡ Put path node)) ⊎ ((bytes : List ℕ) × (x ≡ Grow path bytes))
    → has_line n (places.ChildrenOf parent) entries ≡ true → (p : List (List ℕ))
    → is_at_place (places.ChildrenOf p) (cell_of x) ≡ true → has_line n (places.ChildrenOf p) entries ≡ true
at_children n parent path x entries is (inl put) has p child =
    subst (λ o. has_line n (places.ChildrenOf o) entries ≡ true)
    (is ∙ parent_of_child p path (subst (λ y. is_at_place (places.ChildrenOf p) (cell_of y) ≡ true) put.1 child)) has
at_children n parent path x entries is (inr grow) has p child =
    subst (λ o. has_line n (places.ChildrenOf o) entries ≡ true)
    (is ∙ parent_of_child p path (subst (λ y. is_at_place (places.ChildrenOf p) (cell_of y) ≡ true) grow.1 child)) has

-- one more change of a line
pub one_more_change : (n : ℕ) (p : SearchPlace) (here later : Bool) (old new : List Entry)
    → ((m : ℕ) (o : SearchPlace) → has_line m o old ≡ true → has_line m o new ≡ true)
    → (here ≡ true → has_line n p new ≡ true) → (has_line n p old ≡ true) ⊎ ((here || later) ≡ true)
    → (has_line n p new ≡ true) ⊎ (later ≡ true)
one_more_change n p here later old new kept added (inl has) = inl (kept n p has)
one_more_change n p true later old new kept added (inr changes) = inl (added refl)
one_more_change n p false later old new kept added (inr changes) = inr changes

-- ---- the last entry of a place below a number

lt_of_less : (m n : ℕ) → nat_cmp m n ≡ Less → m < n
lt_of_less m n h = grind (arith, common_steps, h)

less_of_lt : (m n : ℕ) → m < n → nat_cmp m n ≡ Less
less_of_lt m n h = grind (arith, common_steps, h)

le_of_not_less : (m n : ℕ) → is_lt (nat_cmp m n) ≡ false → n ≤ m
le_of_not_less m n h = grind (arith, common_steps, h)

zero_is_least : (n : ℕ) → is_gt (nat_cmp 0 n) ≡ false
zero_is_least n = grind (arith, common_steps)

-- entries of one place are compared by their numbers
same_place : (p : SearchPlace) (m n : ℕ) → entry_cmp (p, m) (p, n) ≡ nat_cmp m n
same_place p m n = ap (λ o. ordering_then o (nat_cmp m n)) (tied_itself place_total p)

pub forward : (place p q : SearchPlace) (n : ℕ) → p ≡ place → q ≡ place → is_gt (entry_cmp (p, 0) (q, n)) ≡ false
forward place p q n is_p is_q =
    subst (λ x. is_gt (entry_cmp (x, 0) (q, n)) ≡ false) (sym is_p)
    (subst (λ x. is_gt (entry_cmp (place, 0) (x, n)) ≡ false) (sym is_q)
    (ap is_gt (same_place place 0 n) ∙ zero_is_least n))

in_range : (place : SearchPlace) (k n : ℕ) → k < n → IsInRange entry_cmp (Included (place, 0)) (Excluded (place, n)) (place, k)
in_range place k n less =
    (ap is_gt (same_place place 0 k) ∙ zero_is_least k, same_place place k n ∙ less_of_lt k n less)

within : (place : SearchPlace) (e : Entry) (n : ℕ) → is_gt (entry_cmp (place, 0) e) ≡ false → entry_cmp e (place, n) ≡ Less
    → (e.0 ≡ place) × (e.1 < n)
within place e n from below = by_order (place_cmp place e.0) refl from
  where
    greater : orders.Greater ≡ Less → ⊥
    greater h = cc

    by_order : (o : Ordering) → place_cmp place e.0 ≡ o → is_gt (ordering_then o (nat_cmp 0 e.1)) ≡ false
        → (e.0 ≡ place) × (e.1 < n)
    by_order orders.Less o f =
        absurd (greater (sym (ap (λ x. ordering_then x (nat_cmp e.1 n))
        (place_total.antisymm e.0 place ∙ ap ordering_reverse o)) ∙ below))
    by_order orders.Equal o f =
        let same = place_exact place e.0 o in (
          sym same,
          lt_of_less e.1 n (sym (same_place place e.1 n)
              ∙ subst (λ x. entry_cmp (x, e.1) (place, n) ≡ Less) (sym same) below),
        )
    by_order orders.Greater o f = absurd (true≢false f)

module _ (s : BTreeSet Entry) (place p q : SearchPlace) (n : ℕ) (is_p : p ≡ place) (is_q : q ≡ place) (r : List Entry)
    (of : IsKeyRangeOf entry_cmp (Included (p, 0)) (Excluded (q, n)) s r) where
  range_of : IsKeyRangeOf entry_cmp (Included (place, 0)) (Excluded (place, n)) s r
  range_of =
      subst (λ x. IsKeyRangeOf entry_cmp (Included (place, 0)) (Excluded (x, n)) s r) is_q
      (subst (λ x. IsKeyRangeOf entry_cmp (Included (x, 0)) (Excluded (q, n)) s r) is_p of)

  pub last_some : (e : Entry) (t : List Entry) → r ≡ t ++ e ∷ [] → IsLastOf place n s.keys (Some e.1)
  last_some e t is =
      let there = range_of.3 e t is in
      let at = within place e n there.0.0 there.0.1 in (
        at.1,
        subst (λ x. has_line e.1 x s.keys ≡ true) at.0 there.1,
        λ k less has. le_of_not_less e.1 k
            (sym (ap is_lt (same_place place e.1 k))
            ∙ subst (λ x. is_lt (entry_cmp (x, e.1) (place, k)) ≡ false) at.0
            (range_of.4 e t is (place, k) (in_range place k n less) has)),
      )

  pub last_none : r ≡ [] → IsLastOf place n s.keys None
  last_none is k less = range_of.5 is (place, k) (in_range place k n less)
