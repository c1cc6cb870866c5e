-- Rows in order of their paths.
use Rattle.std.proofs.Common.{◌≡◌, ◌∙◌, List, [], ◌∷◌, ◌++◌, Option, Some, None, Result, Ok, Err, T, Less, Bool, true, false, ◌&&◌}
use Rattle.std.proofs.Common.{Greater, refl, sym, ap, subst, ◌==◌, length}
use Rattle.std.specs.Prelude.{ok_or, option_map}
use Rattle.std.specs.BTreeMap.{BTreeMap, get, insert_entry}
use Rattle.std.specs.FinMap.{entries}
use Rattle.std.specs.FinMap.Entries.{below_all, is_sorted}
use Rattle.std.specs.Ordering.{is_lt, ordering_reverse}
use Rattle.retro_path.specs.Order.{path_cmp, path_total}
use Rattle.retro_path.specs.Path.{PathValue}
use Rattle.retro_tree.specs.Tree.{Tree}
use Rattle.retro_tree.specs.declared.entry.Entry.{Entry}
use Rattle.retro_tree.proofs.Small.{less, both_fst, both_snd}
use Rattle.casebook_folder.specs.declared.attributes.Attributes.{Attributes}
use Rattle.casebook_snapshot.specs.declared.item.Row.{Row}
use Rattle.casebook_snapshot_read.specs.Joined.{AreInOrder, attributes_at, attributes_by, count_in, each}
use Rattle.casebook_snapshot_read.specs.Joined.{is_folder, row_with, rows_of, with_attributes}
use Rattle.casebook_snapshot_read.specs.Reads.{◌>>=◌, Reads}
use Rattle.casebook_snapshot_read.specs.declared.fault.SnapshotFault.{SnapshotFault}
use Rattle.casebook_snapshot_read.specs.declared.fault.SnapshotFault.TheVariants.{OtherPaths}

-- ---- an entry behind all others

before_later : (e : PathValue × Row) (done : List (PathValue × Row)) (k : PathValue) (v : Row)
    (rest : List (PathValue × Row))
    → T (below_all path_cmp e.0 (done ++ (k, v) ∷ rest)) → path_cmp e.0 k ≡ Less
before_later e [] k v rest h = less (path_cmp e.0 k) (both_fst _ _ h)
before_later e (d ∷ done) k v rest h = before_later e done k v rest (both_snd _ _ h)

pub insert_last : (done : List (PathValue × Row)) (k : PathValue) (v : Row) (rest : List (PathValue × Row))
    → AreInOrder (done ++ (k, v) ∷ rest) → insert_entry path_cmp done k v ≡ done ++ (k, v) ∷ []
insert_last [] k v rest h = refl
insert_last (e ∷ done) k v rest h =
    let above : path_cmp k e.0 ≡ Greater =
    path_total.antisymm k e.0 ∙ ap ordering_reverse (before_later e done k v rest (both_fst _ _ h)) in
    rw above (ap (λ (es : List (PathValue × Row)). e ∷ es) (insert_last done k v rest (both_snd _ _ h)))

-- ---- rows that are read of entries in order

module _ {A B : Type 0} (f : A → Result B SnapshotFault) where
  pub record IsStep (x : A) (xs : List A) (ys : List B) : Type 0 where
    pub first : B
    pub rest : List B
    pub reads : f x ≡ Ok first
    pub others : each f xs ≡ Ok rest
    pub is : ys ≡ first ∷ rest

  pub step_of : (x : A) (xs : List A) (ys : List B) → each f (x ∷ xs) ≡ Ok ys → IsStep x xs ys
  unfolding each
  step_of x xs ys h = at (f x) (each f xs) refl refl h
    where
      at : (a : Result B SnapshotFault) (b : Result (List B) SnapshotFault) → f x ≡ a → each f xs ≡ b
          → (a >>= λ y. b >>= λ zs. Ok (y ∷ zs)) ≡ Ok ys → IsStep x xs ys
      at (Ok y) (Ok zs) p q h =
          let same : y ∷ zs ≡ ys = cc in
          record { first = y; rest = zs; reads = p; others = q; is = sym same }
      at (Ok y) (Err e) p q h = absurd (cc)
      at (Err e) b p q h = absurd (cc)

row_key : (at : PathValue) (known : PathValue → Option Attributes) (e : PathValue × Entry) (y : PathValue × Row)
    → row_with at known e ≡ Ok y → y.0 ≡ e.0
row_key at known e y h = by (attributes_at at known e.0) h
  where
    by : (o : Option Attributes) → ok_or (option_map (with_attributes e) o) OtherPaths ≡ Ok y → y.0 ≡ e.0
    by None h = absurd (cc)
    by (Some a) h = let same : with_attributes e a ≡ y = cc in ap (λ (p : PathValue × Row). p.0) (sym same)

none_each : {A B : Type 0} (f : A → Result B SnapshotFault) (ys : List B) → each f [] ≡ Ok ys → ys ≡ []
unfolding each
none_each f ys h = let same : [] ≡ ys = cc in sym same

from_both : (a b : Bool) → T a → T b → T (a && b)
from_both true b p q = q
from_both false b p q = absurd p

below_joined : (at : PathValue) (known : PathValue → Option Attributes) (x : PathValue) (es : List (PathValue × Entry))
    (rows : List (PathValue × Row))
    → each (row_with at known) es ≡ Ok rows → T (below_all path_cmp x es) → T (below_all path_cmp x rows)
below_joined at known x [] rows h b = rw (none_each (row_with at known) rows h) tt
below_joined at known x (e ∷ es) rows h b =
    let step = step_of (row_with at known) e es rows h in
    let key = row_key at known e step.first step.reads in
    rw step.is
    (from_both (is_lt (path_cmp x step.first.0)) (below_all path_cmp x step.rest)
    (subst (λ k. T (is_lt (path_cmp x k))) (sym key) (both_fst _ _ b))
    (below_joined at known x es step.rest step.others (both_snd _ _ b)))

pub joined_in_order : (at : PathValue) (known : PathValue → Option Attributes) (es : List (PathValue × Entry))
    (rows : List (PathValue × Row))
    → each (row_with at known) es ≡ Ok rows → T (is_sorted path_cmp es) → AreInOrder rows
joined_in_order at known [] rows h s = rw (none_each (row_with at known) rows h) tt
joined_in_order at known (e ∷ es) rows h s =
    let step = step_of (row_with at known) e es rows h in
    let key = row_key at known e step.first step.reads in
    rw step.is
    (from_both (below_all path_cmp step.first.0 step.rest) (is_sorted path_cmp step.rest)
    (subst (λ k. T (below_all path_cmp k step.rest)) (sym key)
    (below_joined at known e.0 es step.rest step.others (both_fst _ _ s)))
    (joined_in_order at known es step.rest step.others (both_snd _ _ s)))

-- ---- the rows of a tree with attributes that are exactly those of its paths

pub joined : (at : PathValue) (rows : List (PathValue × Attributes)) (tree : Tree) (known : BTreeMap PathValue Attributes)
    (result : Result (BTreeMap PathValue Row) SnapshotFault)
    → (is_folder at tree && (length rows == count_in at tree)) ≡ true
    → ((q : PathValue) → get path_cmp known q ≡ attributes_by rows q)
    → Reads (λ m. m.entries) result (each (row_with at (get path_cmp known)) (entries tree))
    → Reads (λ m. m.entries) result (rows_of at rows tree)
joined at rows tree known result exact says reads =
    rw exact (subst (λ k. Reads (λ m. m.entries) result (each (row_with at k) (entries tree))) (λ i q. says q i) reads)
