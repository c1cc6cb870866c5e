-- A listing that seeks past what is below a child.
use Rattle.std.proofs.Common.{◌≡◌, ℕ, ◌≤◌, Bool, true, false, cond, ◌&&◌, List, [], ◌∷◌, ◌++◌, map, length, Option, Some, None}
use Rattle.std.proofs.Common.{refl, sym, ap, ◌∙◌, subst, T, arith, rules, append_assoc}
use Rattle.std.specs.Option.{is_some}
use Rattle.std.specs.List.{filter, filter_map, cons_option}
use Rattle.std.specs.Bool.{if◌then◌else◌}
use Rattle.std.specs.Cmp.{IsTotalOrder, tied_itself, nat_cmp_total}
use Rattle.std.specs.Ordering.{nat_cmp, is_le, is_lt, ordering_then, ordering_reverse}
use Rattle.std.specs.FinMap as finmap
use Rattle.std.specs.FinMap.Entries.{is_sorted, below_all}
use Rattle.std.specs.declared.cmp.Ordering.{Ordering}
use Rattle.std.specs.declared.cmp.Ordering.TheVariants.{Less, Equal, Greater}
use Rattle.std.proofs.lemmas.Bool.{true≢false, false≢true}
use Rattle.retro_tree.specs.Name.{is_name}
use Rattle.retro_tree.specs.Order.{path_cmp, text_cmp, path_total, text_total, text_exact}
use Rattle.retro_tree.specs.CellOrder.{cell_cmp, cell_total}
use Rattle.retro_tree.specs.Path.{PathValue, below, only_name, child_name, is_child}
use Rattle.retro_tree.specs.Path.{next_text, after_names, after_child}
use Rattle.retro_tree.specs.Tree.{Tree, entries_from}
use Rattle.retro_tree.specs.Overlay.{OverlayMap}
use Rattle.retro_tree.specs.inner.Marks.{overlay_from, cell_below, mark_entry, mark_entries, mark_of, put_mark}
use Rattle.retro_tree.specs.declared.cell.Cell.{Cell}
use Rattle.retro_tree.specs.declared.cell.Cell.TheVariants as cells
use Rattle.retro_tree.specs.declared.entry.Entry.{Entry}
use Rattle.retro_tree.specs.declared.overlay_entry.OverlayEntry.{OverlayEntry}
use Rattle.retro_tree.proofs.Small.{less, both_fst, both_snd, some_same, none_some}
use Rattle.retro_tree.proofs.Together.{together}
use Rattle.retro_tree.proofs.Below.{below_append, below_split}

-- ---- the rest of a list in order
-- a list is the end of another
abbrev pub IsRest : {X : Type 0} → List X → List X → Type 0
IsRest {X} all rest = (start : List X) × (all ≡ start ++ rest)

pub rest_of_all : {X : Type 0} (all : List X) → IsRest all all
rest_of_all all = ([], refl)

pub next_rest : {X : Type 0} (all : List X) (x : X) (rest : List X) → IsRest all (x ∷ rest) → IsRest all rest
next_rest all x rest h = (h.0 ++ x ∷ [], h.1 ∙ sym (append_assoc h.0 (x ∷ []) rest))

-- the entries of a key and of the keys after it
abbrev pub entries_after : {K X : Type 0} → (K → K → Ordering) → K → List (K × X) → List (K × X)
entries_after R b es = filter (λ e. is_le (R b e.0)) es

module _ {K : Type 0} (R : K → K → Ordering) (total : IsTotalOrder R) where
  before : (x b : K) → R x b ≡ Less → is_le (R b x) ≡ false
  before x b h = ap is_le (total.antisymm b x ∙ ap ordering_reverse h)

  le_less : (x y z : K) → is_le (R x y) ≡ true → R y z ≡ Less → is_le (R x z) ≡ true
  le_less x y z k l = go (R x y) refl
    where
      go : (r : Ordering) → R x y ≡ r → is_le (R x z) ≡ true
      go Less e = ap is_le (total.trans x y z e l)
      go Equal e = ap is_le (total.congr x y z e ∙ l)
      go Greater e = absurd (false≢true (sym (ap is_le e) ∙ k))

module _ {K X : Type 0} (R : K → K → Ordering) (total : IsTotalOrder R) where
  pub after_all : (b : K) (e : K × X) (es : List (K × X)) → is_le (R b e.0) ≡ true → T (below_all R e.0 es)
      → entries_after R b es ≡ es
  after_all b e [] h s = refl
  after_all b e (f ∷ es) h s =
      ap (λ t. cond t (f ∷ entries_after R b es) (entries_after R b es)) (le_less R total b e.0 f.0 h (less _ (both_fst _ _ s)))
      ∙ ap (λ fs. f ∷ fs) (after_all b e es h (both_snd _ _ s))

  -- no entry before a key counts
  pub sought : (b : K) (start : List (K × X)) (x : K × X) (rest : List (K × X)) → T (is_sorted R (start ++ x ∷ rest))
      → R x.0 b ≡ Less → entries_after R b (start ++ x ∷ rest) ≡ entries_after R b rest
  sought b [] x rest s h = ap (λ t. cond t (x ∷ entries_after R b rest) (entries_after R b rest)) (before R total x.0 b h)
  sought b (y ∷ start) x rest s h =
      ap (λ t. cond t (y ∷ entries_after R b (start ++ x ∷ rest)) (entries_after R b (start ++ x ∷ rest)))
      (before R total y.0 b (total.trans y.0 x.0 b (least start (both_fst _ _ s)) h))
      ∙ sought b start x rest (both_snd _ _ s) h
    where
      least : (es : List (K × X)) → T (below_all R y.0 (es ++ x ∷ rest)) → R y.0 x.0 ≡ Less
      least [] k = less _ (both_fst _ _ k)
      least (e ∷ es) k = least es (both_snd _ _ k)

  pub rest_sorted : (start rest : List (K × X)) → T (is_sorted R (start ++ rest)) → T (is_sorted R rest)
  rest_sorted [] rest s = s
  rest_sorted (e ∷ start) rest s = rest_sorted start rest (both_snd _ _ s)

  -- the entries from a key on are the end of the list
  pub after_is_rest : (b : K) (es : List (K × X)) → T (is_sorted R es) → IsRest es (entries_after R b es)
  after_is_rest b [] s = ([], refl)
  after_is_rest b (e ∷ es) s =
      elim (is_le (R b e.0)) as (λ t. is_le (R b e.0) ≡ t
      → IsRest (e ∷ es) (cond t (e ∷ entries_after R b es) (entries_after R b es))) [
        | true ↦ λ h. ([], ap (λ fs. e ∷ fs) (sym (after_all b e es h (both_fst _ _ s))))
        | false ↦ λ h. let more = after_is_rest b es (both_snd _ _ s) in (e ∷ more.0, ap (λ fs. e ∷ fs) more.1)
      ] refl

  pub after_is_shorter : (b : K) (es : List (K × X)) → length (entries_after R b es) ≤ length es
  after_is_shorter b [] = omega arith
  after_is_shorter b (e ∷ es) =
      elim (is_le (R b e.0)) as (λ t. length (cond t (e ∷ entries_after R b es) (entries_after R b es)) ≤ length (e ∷ es)) [
        | true ↦ omega (arith, after_is_shorter b es)
        | false ↦ omega (arith, after_is_shorter b es)
      ]

  pub sought_rest : (all : List (K × X)) (b : K) (x : K × X) (rest : List (K × X)) → T (is_sorted R all)
      → IsRest all (x ∷ rest) → R x.0 b ≡ Less
      → (entries_after R b all ≡ entries_after R b rest) × IsRest all (entries_after R b all)
  sought_rest all b x rest s h l = (
    ap (entries_after R b) h.1 ∙ sought b h.0 x rest (subst (λ es. T (is_sorted R es)) h.1 s) l,
    after_is_rest b all s,
  )

  pub after_next : (all : List (K × X)) (x : K × X) (rest : List (K × X)) → T (is_sorted R all) → IsRest all (x ∷ rest)
      → T (below_all R x.0 rest) × T (is_sorted R rest)
  after_next all x rest s h =
      let sorted = rest_sorted h.0 (x ∷ rest) (subst (λ es. T (is_sorted R es)) h.1 s) in
      (both_fst _ _ sorted, both_snd _ _ sorted)

-- ---- the paths below a child
-- a text that is after another and before a third begins as both do
squeezed : (r a b : Ordering) → ordering_then r a ≡ Less → ordering_then (ordering_reverse r) b ≡ Less
    → (r ≡ Equal) × (a ≡ Less) × (b ≡ Less)
squeezed Less a b h k = cc
squeezed Equal a b h k = (refl, h, k)
squeezed Greater a b h k = cc

nat_not_less : (b : ℕ) → nat_cmp b 0 ≡ Less → ⊥
nat_not_less b h = search (rules, h)

text_not_less : (y : List ℕ) → text_cmp y [] ≡ Less → ⊥
text_not_less [] h = cc
text_not_less (b ∷ y) h = cc

path_not_less : (q : PathValue) → path_cmp q [] ≡ Less → ⊥
path_not_less [] h = cc
path_not_less (y ∷ q) h = cc

-- no text is between a text and the text with NUL appended
nothing_between : (n y : List ℕ) → text_cmp n y ≡ Less → text_cmp y (next_text n) ≡ Less → ⊥
nothing_between [] [] h k = cc
nothing_between [] (b ∷ y) h k = go (nat_cmp b 0) refl k
  where
    go : (r : Ordering) → nat_cmp b 0 ≡ r → ordering_then r (text_cmp y []) ≡ Less → ⊥
    go Less e l = nat_not_less b e
    go Equal e l = text_not_less y l
    go Greater e l = cc
nothing_between (a ∷ n) [] h k = cc
nothing_between (a ∷ n) (b ∷ y) h k =
    let both = squeezed (nat_cmp a b) (text_cmp n y) (text_cmp y (next_text n)) h
    (ap (λ r. ordering_then r (text_cmp y (next_text n))) (sym (nat_cmp_total.antisymm b a)) ∙ k) in
    nothing_between n y both.1 both.2

next_is_later : (n : List ℕ) → text_cmp n (next_text n) ≡ Less
next_is_later [] = refl
next_is_later (a ∷ n) = ap (λ r. ordering_then r (text_cmp n (next_text n))) (tied_itself nat_cmp_total a)
    ∙ next_is_later n

later : (p : PathValue) (n : List ℕ) (rest : PathValue) → path_cmp (p ++ n ∷ rest) (p ++ next_text n ∷ []) ≡ Less
later [] n rest = ap (λ r. ordering_then r (path_cmp rest [])) (next_is_later n)
later (x ∷ p) n rest = ap (λ r. ordering_then r (path_cmp (p ++ n ∷ rest) (p ++ next_text n ∷ [])))
    (tied_itself text_total x) ∙ later p n rest

-- what is after a path below a child and before the next name is below the child too
between : (p : PathValue) (n m : List ℕ) (rest q : PathValue) → path_cmp (p ++ n ∷ m ∷ rest) q ≡ Less
    → path_cmp q (p ++ next_text n ∷ []) ≡ Less → (k : List ℕ) × (ks : PathValue) × (q ≡ p ++ n ∷ k ∷ ks)
between [] n m rest [] h k = cc
between [] n m rest (y ∷ q) h k =
    second (text_cmp n y) refl h (first (text_cmp y (next_text n)) refl k)
  where
    first : (r : Ordering) → text_cmp y (next_text n) ≡ r → ordering_then r (path_cmp q []) ≡ Less
        → text_cmp y (next_text n) ≡ Less
    first Less e l = e
    first Equal e l = absurd (path_not_less q l)
    first Greater e l = cc

    deeper : (q : PathValue) → path_cmp (m ∷ rest) q ≡ Less → n ≡ y
        → (k : List ℕ) × (ks : PathValue) × (y ∷ q ≡ n ∷ k ∷ ks)
    deeper [] l e = cc
    deeper (k ∷ ks) l e = (k, ks, ap (λ z. z ∷ k ∷ ks) (sym e))

    second : (r : Ordering) → text_cmp n y ≡ r → ordering_then r (path_cmp (m ∷ rest) q) ≡ Less
        → text_cmp y (next_text n) ≡ Less → (k : List ℕ) × (ks : PathValue) × (y ∷ q ≡ n ∷ k ∷ ks)
    second Less e l f = absurd (nothing_between n y e f)
    second Equal e l f = deeper q l (text_exact n y e)
    second Greater e l f = cc
between (x ∷ p) n m rest [] h k = cc
between (x ∷ p) n m rest (y ∷ q) h k =
    let both = squeezed (text_cmp x y) (path_cmp (p ++ n ∷ m ∷ rest) q) (path_cmp q (p ++ next_text n ∷ [])) h
    (ap (λ r. ordering_then r (path_cmp q (p ++ next_text n ∷ []))) (sym (text_total.antisymm y x)) ∙ k) in
    let more = between p n m rest q both.1 both.2 in
    (more.0, more.1, (λ i. sym (text_exact x y both.0) i ∷ more.2 i))

-- the path that a listing seeks
after_is : (p x b : PathValue) → after_child p x ≡ Some b
    → (n : List ℕ) × (m : List ℕ) × (rest : PathValue) × (x ≡ p ++ n ∷ m ∷ rest) × (b ≡ p ++ next_text n ∷ [])
after_is p x b h = go (below p x) refl h
  where
    named : (t : Bool) (c : PathValue) → (if t then Some c else None) ≡ Some b → c ≡ b
    named true c e = some_same c b e
    named false c e = absurd (none_some b e)

    go : (o : Option PathValue) → below p x ≡ o → after_names p o ≡ Some b
        → (n : List ℕ) × (m : List ℕ) × (rest : PathValue) × (x ≡ p ++ n ∷ m ∷ rest) × (b ≡ p ++ next_text n ∷ [])
    go None e k = absurd (none_some b k)
    go (Some []) e k = absurd (none_some b k)
    go (Some (n ∷ [])) e k = absurd (none_some b k)
    go (Some (n ∷ m ∷ rest)) e k =
        (n, m, rest, below_split p x (n ∷ m ∷ rest) e, sym (named (is_name (next_text n)) (p ++ next_text n ∷ []) k))

pub after_is_later : (p x b : PathValue) → after_child p x ≡ Some b → path_cmp x b ≡ Less
after_is_later p x b h =
    let is = after_is p x b h in
    (λ i. path_cmp (is.3 i) (is.4 i)) ∙ later p is.0 (is.1 ∷ is.2)

-- what is skipped is below the path, but no child of it
pub skipped : (p x b q : PathValue) → after_child p x ≡ Some b → path_cmp x q ≡ Less → path_cmp q b ≡ Less
    → (is_some (below p q) ≡ true) × (child_name p q ≡ None)
skipped p x b q h k l =
    let is = after_is p x b h in
    let more = between p is.0 is.1 is.2 q (ap (λ y. path_cmp y q) (sym is.3) ∙ k) (ap (path_cmp q) (sym is.4) ∙ l) in
    let rest : below p q ≡ Some (is.0 ∷ more.0 ∷ more.1) = ap (below p) more.2
    ∙ below_append p (is.0 ∷ more.0 ∷ more.1) in
    (ap is_some rest, ap only_name rest)

pub less_than : (r : Ordering) → is_le r ≡ false → ordering_reverse r ≡ Less
less_than Less h = absurd (true≢false h)
less_than Equal h = absurd (true≢false h)
less_than Greater h = refl

-- ---- the names of the children
pub names_skip : {X : Type 0} (p x b : PathValue) (es : List (PathValue × X)) → after_child p x ≡ Some b
    → T (below_all path_cmp x es) → T (is_sorted path_cmp es)
    → filter_map (child_name p) (together p (map (λ e. e.0) es))
    ≡ filter_map (child_name p) (together p (map (λ e. e.0) (entries_after path_cmp b es)))
names_skip p x b [] h k s = refl
names_skip {X} p x b (e ∷ es) h k s =
    elim (is_le (path_cmp b e.0)) as (λ t. is_le (path_cmp b e.0) ≡ t
    → filter_map (child_name p) (together p (e.0 ∷ map (λ f. f.0) es))
    ≡ filter_map (child_name p)
    (together p (map (λ f. f.0) (cond t (e ∷ entries_after path_cmp b es)
    (entries_after path_cmp b es))))) [
      | true ↦ λ t. ap (λ fs. filter_map (child_name p) (together p (e.0 ∷ map (λ f. f.0) fs)))
          (sym (after_all path_cmp path_total b e es t (both_fst _ _ s)))
      | false ↦ λ t.
          let skip = skipped p x b e.0 h (less _ (both_fst _ _ k))
          (path_total.antisymm e.0 b ∙ less_than _ t) in
          ap (λ c. filter_map (child_name p) (if c then e.0 ∷ together p (map (λ f. f.0) es) else [])) skip.0
          ∙ ap (λ o. cons_option o (filter_map (child_name p) (together p (map (λ f. f.0) es)))) skip.1
          ∙ names_skip p x b es h (both_snd _ _ k) (both_snd _ _ s)
    ] refl

-- a child at the front is the next name
pub names_here : (p q : PathValue) (n : List ℕ) (names : List (List ℕ)) (ks : List PathValue)
    → is_some (below p q) ≡ true → child_name p q ≡ Some n
    → names ++ filter_map (child_name p) (together p (q ∷ ks))
    ≡ (names ++ n ∷ []) ++ filter_map (child_name p) (together p ks)
names_here p q n names ks h k =
    ap (λ c. names ++ filter_map (child_name p) (if c then q ∷ together p ks else [])) h
    ∙ ap (λ o. names ++ cons_option o (filter_map (child_name p) (together p ks))) k
    ∙ sym (append_assoc names (n ∷ []) (filter_map (child_name p) (together p ks)))

-- a path below that is no child is no name
pub names_past : (p q : PathValue) (ks : List PathValue) → is_some (below p q) ≡ true → child_name p q ≡ None
    → filter_map (child_name p) (together p (q ∷ ks)) ≡ filter_map (child_name p) (together p ks)
names_past p q ks h k =
    ap (λ c. filter_map (child_name p) (if c then q ∷ together p ks else [])) h
    ∙ ap (λ o. cons_option o (filter_map (child_name p) (together p ks))) k

-- only what is deep enough has a next name
pub no_child : (p x b : PathValue) → after_child p x ≡ Some b → child_name p x ≡ None
no_child p x b h =
    let is = after_is p x b h in
    ap (child_name p) is.3 ∙ ap only_name (below_append p (is.0 ∷ is.1 ∷ is.2))

pub none_unless_some : {A : Type 0} (o : Option A) → ((x : A) → o ≡ Some x → ⊥) → o ≡ None
none_unless_some None h = refl
none_unless_some (Some x) h = absurd (h x refl)

-- ---- the marks of the children
mark_skipped : (p x b : PathValue) (c : Cell) (l : OverlayEntry) (t : Tree) → after_child p x ≡ Some b
    → cell_cmp (cells.At x) c ≡ Less → cell_cmp c (cells.At b) ≡ Less
    → (cell_below p c ≡ true) × (mark_entry p c l t ≡ t)
mark_skipped p x b (cells.At q) l t h k m =
    let skip = skipped p x b q h k m in
    (skip.0, ap (λ o. if is_some o then put_mark q (mark_of l) t else t) skip.1)
mark_skipped p x b (cells.Cwd sid) l t h k m = cc
mark_skipped p x b (cells.Var sid name) l t h k m = cc
mark_skipped p x b (cells.Status sid) l t h k m = cc

pub marks_skip : (p x b : PathValue) (es : List (Cell × OverlayEntry)) (tree : Tree) → after_child p x ≡ Some b
    → T (below_all cell_cmp (cells.At x) es) → T (is_sorted cell_cmp es)
    → mark_entries p es tree ≡ mark_entries p (entries_after cell_cmp (cells.At b) es) tree
marks_skip p x b [] tree h k s = refl
marks_skip p x b (e ∷ es) tree h k s =
    elim (is_le (cell_cmp (cells.At b) e.0)) as (λ t. is_le (cell_cmp (cells.At b) e.0) ≡ t
    → mark_entries p (e ∷ es) tree
    ≡ mark_entries p (cond t (e ∷ entries_after cell_cmp (cells.At b) es)
    (entries_after cell_cmp (cells.At b) es)) tree) [
      | true ↦ λ t. ap (λ fs. mark_entries p (e ∷ fs) tree)
          (sym (after_all cell_cmp cell_total (cells.At b) e es t (both_fst _ _ s)))
      | false ↦ λ t.
          let skip = mark_skipped p x b e.0 e.1 tree h (less _ (both_fst _ _ k))
          (cell_total.antisymm e.0 (cells.At b) ∙ less_than _ t) in
          ap (λ c. if c then mark_entries p es (mark_entry p e.0 e.1 tree) else tree) skip.0
          ∙ ap (mark_entries p es) skip.1
          ∙ marks_skip p x b es tree h (both_snd _ _ k) (both_snd _ _ s)
    ] refl

-- a path below, at the front
mark_first : (p q : PathValue) (l : OverlayEntry) (es : List (Cell × OverlayEntry)) (tree : Tree)
    → is_some (below p q) ≡ true
    → mark_entries p ((cells.At q, l) ∷ es) tree ≡ mark_entries p es (mark_entry p (cells.At q) l tree)
mark_first p q l es tree h = ap (λ c. if c then mark_entries p es (mark_entry p (cells.At q) l tree) else tree) h

pub child_marked : (p q : PathValue) (l : OverlayEntry) (es : List (Cell × OverlayEntry)) (tree : Tree)
    → is_some (below p q) ≡ true → is_child p q ≡ true
    → mark_entries p ((cells.At q, l) ∷ es) tree ≡ mark_entries p es (put_mark q (mark_of l) tree)
child_marked p q l es tree h k = mark_first p q l es tree h
    ∙ ap (λ c. mark_entries p es (if c then put_mark q (mark_of l) tree else tree)) k

pub none_marked : (p q : PathValue) (l : OverlayEntry) (es : List (Cell × OverlayEntry)) (tree : Tree)
    → is_some (below p q) ≡ true → is_child p q ≡ false
    → mark_entries p ((cells.At q, l) ∷ es) tree ≡ mark_entries p es tree
none_marked p q l es tree h k = mark_first p q l es tree h
    ∙ ap (λ c. mark_entries p es (if c then put_mark q (mark_of l) tree else tree)) k
