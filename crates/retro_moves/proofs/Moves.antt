-- What a move computes, over traces.
use Rattle.std.proofs.Common.{◌≡◌, ℕ, suc, true, false, List, [], ◌∷◌, ◌++◌, length, ◌<◌, ◌^◌, ◌-◌, Option, Some, None}
use Rattle.std.proofs.Common.{refl, sym, ap, ◌∙◌, subst, arith}
use Rattle.std.specs.Option.{is_some}
use Rattle.std.specs.List.{list_any}
use Rattle.std.proofs.lemmas.Bool.{true≢false}
use Rattle.std.proofs.lemmas.List.{append-nil}
use Rattle.retro_tree.specs.Order.{text_eq}
use Rattle.retro_tree.specs.Name.{AllNames}
use Rattle.retro_tree.specs.Path.{PathValue, below}
use Rattle.retro_tree.specs.Node.{is_dir}
use Rattle.retro_tree.specs.Tree.{Tree, node_in, put}
use Rattle.retro_tree.specs.Ask.{listing, names_in}
use Rattle.retro_tree.specs.State.{put_node}
use Rattle.retro_tree.specs.Lawful.{IsLawful, may_put}
use Rattle.retro_tree.specs.declared.node.Node.{Node}
use Rattle.retro_tree.specs.declared.node.Node.TheVariants.{Missing, Dir, File}
use Rattle.retro_tree.specs.declared.state.State.{State}
use Rattle.retro_tree.proofs.Below.{below_split, unlisted}
use Rattle.retro_local.specs.Trace.{Trace, reached}
use Rattle.retro_local.specs.Runs.{Always, Computes, Transforms, Relates}
use Rattle.retro_moves.specs.Trees.{with_tree, moved, CanMove}
use Rattle.retro_moves.specs.inner.Removal.{OfTrees}
use Rattle.retro_moves.specs.inner.Move.{CanCopy, IsCopy, IsMoving}
use Rattle.retro_moves.proofs.Without.{below_itself}
use Rattle.retro_moves.proofs.Copies.{may_copy, copy_start, copy_leaf, copy_step, can_copy_child, apart_root}
use Rattle.retro_moves.proofs.Clearing.{clear_start, clear_may, clear_step, all_moved}
use Rattle.retro_moves.proofs.Removals.{KeepsLawful}

abbrev node_at : PathValue → State → State × Node
node_at p s = (s, node_in p s.tree)

abbrev names_at : PathValue → State → State × Option (List (List ℕ))
names_at p s = (s, listing (node_in p s.tree) (names_in p s.tree))

listed : (ns ms : List (List ℕ)) → listing Dir ns ≡ Some ms → ns ≡ ms
listed ns ms e = cc

-- a query changes no state
pub always_asked : {X : Type 0} (P : State → Type 0) (f : State → X) (old mid : Trace) (x : X)
    → Computes old mid (λ s. (s, f s)) x → Always P old → Always P mid
always_asked P f old mid x asked all s l h law =
    let same = ap (λ y. y.0) (asked.means s l h) in
    subst P same (all s l (asked.held s l h) (subst IsLawful (sym same) law))

-- ---- copies
pub may_put_copy : (old : Trace) (p q : PathValue) (node : Node) → Always (λ s. CanCopy p q s.tree) old
    → Always (λ s. node_in p s.tree ≡ node) old → Always (λ s. may_put q node s.tree ≡ true) old
may_put_copy old p q node can here s l h law =
    let tree = (reached old.notes s).tree in
    subst (λ n. may_put q n tree ≡ true) (here s l h law) (may_copy p q tree law.tree (can s l h law))

pub leaf_copied : (old new : Trace) (p q : PathValue) (node : Node) → is_dir node ≡ false
    → Transforms old new (put_node q node) → Always (λ s. CanCopy p q s.tree) old
    → Always (λ s. node_in p s.tree ≡ node) old → KeepsLawful old
    → Relates (OfTrees (IsCopy p q [] (p ∷ []))) old new
leaf_copied old new p q node leaf made can here law = record {
  held = made.held;
  means = λ s l h.
      let k = made.held s l h in
      let before = reached old.notes s in
      let lawful = law s l k in
      let is = here s l k lawful in
      subst (OfTrees (IsCopy p q [] (p ∷ [])) before) (sym (made.means s l h)) (record {
        trees = subst (λ n. IsCopy p q [] (p ∷ []) before.tree (put q n before.tree)) is
            (copy_leaf p q before.tree lawful.tree (can s l k lawful) (ap is_dir is ∙ leaf));
        others = refl;
      });
}

pub dir_copied : (old mid new : Trace) (p q : PathValue) (ns : List (List ℕ))
    → Computes old mid (names_at p) (Some ns) → Transforms mid new (put_node q Dir)
    → Always (λ s. CanCopy p q s.tree) old → Always (λ s. node_in p s.tree ≡ Dir) old → KeepsLawful old
    → Relates (OfTrees (IsCopy p q ns (p ∷ []))) old new
dir_copied old mid new p q ns names made can here law = record {
  held = λ s l h. names.held s l (made.held s l h);
  means = λ s l h.
      let m = made.held s l h in
      let k = names.held s l m in
      let before = reached old.notes s in
      let lawful = law s l k in
      let is = here s l k lawful in
      let was = names.means s l m in
      let all : names_in p before.tree ≡ ns = listed _ ns ((λ i. listing (sym is i) (names_in p before.tree))
      ∙ ap (λ x. x.1) was) in
      subst (OfTrees (IsCopy p q ns (p ∷ [])) before)
      (ap (λ x. put_node q Dir x.0) was ∙ sym (made.means s l h)) (record {
        trees = subst (λ ms. IsCopy p q ms (p ∷ []) before.tree (put q Dir before.tree)) all
            (copy_start p q before.tree lawful.tree (can s l k lawful) is);
        others = refl;
      });
}

pub child_here : (mid asked : Trace) (p : PathValue) (node : Node) → Computes mid asked (node_at p) node
    → Always (λ s. node_in p s.tree ≡ node) asked
child_here mid asked p node is s l h law =
    let was = is.means s l h in
    ap (λ x. node_in p x.0.tree) (sym was) ∙ ap (λ x. x.1) was

pub child_may : (old mid asked : Trace) (p q : PathValue) (n : List ℕ) (left : List (List ℕ)) (ps : List PathValue)
    (node : Node) → Relates (OfTrees (IsCopy p q (n ∷ left) ps)) old mid
    → Always (λ s. node_in p s.tree ≡ Dir) old → KeepsLawful old → Computes mid asked (node_at (p ++ n ∷ [])) node
    → Always (λ s. CanCopy (p ++ n ∷ []) (q ++ n ∷ []) s.tree) asked
child_may old mid asked p q n left ps node r here law is s l h lawful =
    let m = is.held s l h in
    let k = r.held s l m in
    let same = ap (λ x. x.0) (is.means s l h) in
    let was = r.means s l m in
    subst (λ (x : State). CanCopy (p ++ n ∷ []) (q ++ n ∷ []) x.tree) same
    (can_copy_child p q n left ps (reached old.notes s).tree (reached mid.notes s).tree was.trees
    (subst IsLawful (sym same) lawful).tree (here s l k (law s l k)))

pub child_copied : (old mid asked new : Trace) (p q : PathValue) (n : List ℕ) (left : List (List ℕ))
    (ps more : List PathValue) (node : Node) → Relates (OfTrees (IsCopy p q (n ∷ left) ps)) old mid
    → Computes mid asked (node_at (p ++ n ∷ [])) node
    → Relates (OfTrees (IsCopy (p ++ n ∷ []) (q ++ n ∷ []) [] more)) asked new
    → Relates (OfTrees (IsCopy p q left (ps ++ more))) old new
child_copied old mid asked new p q n left ps more node r is g = record {
  held = λ s l h. r.held s l (is.held s l (g.held s l h));
  means = λ s l h.
      let a = g.held s l h in
      let m = is.held s l a in
      let was = r.means s l m in
      let same = ap (λ x. x.0) (is.means s l a) in
      let last : OfTrees (IsCopy (p ++ n ∷ []) (q ++ n ∷ []) [] more) (reached mid.notes s) (reached new.notes s) =
      subst (λ x. OfTrees (IsCopy (p ++ n ∷ []) (q ++ n ∷ []) [] more) x (reached new.notes s)) (sym same)
      (g.means s l h) in
      record {
        trees = copy_step p q n left ps (reached old.notes s).tree (reached mid.notes s).tree was.trees more
            (reached new.notes s).tree last.trees;
        others = last.others ∙ (λ i. record (was.others i) { tree = (reached new.notes s).tree });
      };
}

-- ---- old paths
pub move_start : (old mid : Trace) (p q : PathValue) (ps : List PathValue)
    → Relates (OfTrees (IsCopy p q [] ps)) old mid → Relates (OfTrees (IsMoving p q ps ps)) old mid
move_start old mid p q ps r = record {
  held = r.held;
  means = λ s l h.
      let was = r.means s l h in
      record {
        trees = record {
          between = (reached mid.notes s).tree;
          copy = was.trees;
          cleared = clear_start p q ps (reached old.notes s).tree (reached mid.notes s).tree was.trees;
        };
        others = was.others;
      };
}

pub move_may : (old mid : Trace) (p q : PathValue) (ps ks all : List PathValue) (k : PathValue)
    → all ≡ ks ++ k ∷ [] → Relates (OfTrees (IsMoving p q ps all)) old mid
    → Always (λ s. may_put k Missing s.tree ≡ true) mid
move_may old mid p q ps ks all k is r s l h law =
    let now = ((rw is at r.means) s l h).trees in
    clear_may p ks k now.between (reached mid.notes s).tree now.cleared (apart_root p q now.copy.can.apart)

pub move_step : (old mid new : Trace) (p q : PathValue) (ps ks all : List PathValue) (k : PathValue)
    → all ≡ ks ++ k ∷ [] → Relates (OfTrees (IsMoving p q ps all)) old mid
    → Transforms mid new (put_node k Missing) → Relates (OfTrees (IsMoving p q ps ks)) old new
move_step old mid new p q ps ks all k is r made = record {
  held = λ s l h. r.held s l (made.held s l h);
  means = λ s l h.
      let now = (rw is at r.means) s l (made.held s l h) in
      let mid' = reached mid.notes s in
      subst (OfTrees (IsMoving p q ps ks) (reached old.notes s)) (sym (made.means s l h)) (record {
        trees = record {
          between = now.trees.between;
          copy = now.trees.copy;
          cleared = clear_step p ks k now.trees.between mid'.tree now.trees.cleared;
        };
        others = λ i. record (now.others i) { tree = put k Missing mid'.tree };
      });
}

pub move_end : (old mid : Trace) (p q : PathValue) (ps left : List PathValue) → left ≡ []
    → Relates (OfTrees (IsMoving p q ps left)) old mid → Transforms old mid (with_tree (moved p q))
move_end old mid p q ps left none r = record {
  held = r.held;
  means = λ s l h.
      let now = (rw none at r.means) s l h in
      let before = reached old.notes s in
      now.others ∙ (λ i. record before {
        tree = all_moved p q ps before.tree now.trees.between
            (reached mid.notes s).tree now.trees.copy now.trees.cleared i;
      });
}

-- ---- whether a directory can be moved
not_prefix : (p q : PathValue) (t : Tree) → is_some (below p q) ≡ false → node_in p t ≡ Dir
    → ((n : List ℕ) (rest : PathValue) → node_in (q ++ n ∷ rest) t ≡ Missing) → is_some (below q p) ≡ false
not_prefix p q t h dir bare = go (below q p) refl
  where
    go : (o : Option PathValue) → below q p ≡ o → is_some o ≡ false
    go None e = refl
    go (Some []) e = absurd (true≢false (sym (ap is_some (below_itself p))
        ∙ ap (λ k. is_some (below p k)) (below_split q p [] e ∙ append-nil q) ∙ h))
    go (Some (n ∷ rest)) e =
        absurd (dir_missing (sym dir ∙ ap (λ k. node_in k t) (below_split q p (n ∷ rest) e) ∙ bare n rest))
      where
        dir_missing : Dir ≡ Missing → ⊥
        dir_missing e = cc

pub can_copy : (old : Trace) (p q : PathValue) → AllNames q → Always (λ s. CanMove p q s.tree) old
    → Always (λ s. CanCopy p q s.tree) old
can_copy old p q named can s l h law =
    let tree = (reached old.notes s).tree in
    let c = can s l h law in
    let bare : (n : List ℕ) (rest : PathValue) → node_in (q ++ n ∷ rest) tree ≡ Missing =
    λ n rest. unlisted tree law.tree q n rest (ap (list_any (text_eq n)) c.empty) in
    record {
      apart = record { left = c.outside; right = not_prefix p q tree c.outside c.dir bare };
      free = c.free;
      named = λ there. named;
      bare = bare;
      above = c.parent;
    }

pub source_here : (old : Trace) (p q : PathValue) → Always (λ s. CanMove p q s.tree) old
    → Always (λ s. node_in p s.tree ≡ Dir) old
source_here old p q can s l h law = (can s l h law).dir

-- ---- measures and lists
pub leaf_of : (node : Node) → (node ≡ Dir → ⊥) → is_dir node ≡ false
leaf_of Missing h = refl
leaf_of Dir h = absurd (h refl)
leaf_of (File b) h = refl

pub empty_length : {A : Type 0} (ns : List A) → length ns ≡ 0 → ns ≡ []
empty_length [] e = refl
empty_length (x ∷ ns) e = cc

length_more : (p : PathValue) (n : List ℕ) → length (p ++ n ∷ []) ≡ suc (length p)
length_more [] n = refl
length_more (x ∷ p) n = ap suc (length_more p n)

pub deeper_falls : (p c : PathValue) (n : List ℕ) → c ≡ p ++ n ∷ [] → length c < 2 ^ 64
    → 2 ^ 64 - length c < 2 ^ 64 - length p
deeper_falls p c n is small = let e = ap length is ∙ length_more p n in omega (arith, e, small)
