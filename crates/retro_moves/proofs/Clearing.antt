-- Removing the old paths of a move, from the last to the first.
use Rattle.std.proofs.Common.{◌≡◌, ◌≢◌, ℕ, true, false, not, List, [], ◌∷◌, ◌++◌, Option, Some, None}
use Rattle.std.proofs.Common.{refl, sym, ap, ◌∙◌, suc, length, append_assoc, ⊎_elim, arith}
use Rattle.std.specs.Option.{is_some}
use Rattle.std.specs.List.{list_any, list_all}
use Rattle.std.specs.Bool.{if◌then◌else◌}
use Rattle.std.proofs.lemmas.Bool.{true≢false, false≢true}
use Rattle.std.proofs.lemmas.List.Folds.{list_any-append}
use Rattle.retro_tree.specs.Order.{path_eq, path_equiv, path_total, path_exact}
use Rattle.retro_tree.specs.Path.{PathValue, below, is_root}
use Rattle.retro_tree.specs.Tree.{Tree, node_in, put, has_child}
use Rattle.retro_tree.specs.Lawful.{may_put}
use Rattle.retro_tree.specs.declared.node.Node.{Node}
use Rattle.retro_tree.specs.declared.node.Node.TheVariants.{Missing, Dir, File}
use Rattle.retro_tree.proofs.Small.{first_true, both_true, and_true, or_first, or_last, not_true}
use Rattle.retro_tree.proofs.Lookups.{node_put, node_put_apart, one_or_two}
use Rattle.retro_tree.proofs.Below.{below_append, below_split, no_child_there}
use Rattle.retro_moves.specs.Trees.{moved}
use Rattle.retro_moves.specs.inner.Move.{node_copied, are_ordered, IsCopy, IsCleared}
use Rattle.retro_moves.proofs.Without.{same_tree}
use Rattle.retro_moves.proofs.MovedNodes.{apart_longer, beside, moved_node, node_moved}
use Rattle.retro_moves.proofs.Copies.{same_path, or_elim, starts_none}

may_remove : (p : PathValue) (t : Tree) → is_root p ≡ false → has_child p t ≡ false → may_put p Missing t ≡ true
may_remove [] t h none = absurd (true≢false h)
may_remove (x ∷ p) t h none = ap not none

is_missing_or : (node : Node) → (node ≢ Missing → ⊥) → node ≡ Missing
is_missing_or Missing h = refl
is_missing_or Dir h = absurd (h (λ e. cc))
is_missing_or (File b) h = absurd (h (λ e. cc))

found : {A : Type 0} (o : Option A) → is_some o ≡ true → (x : A) × (o ≡ Some x)
found None e = absurd (false≢true e)
found (Some x) e = (x, refl)

ordered_before : (ks : List PathValue) (k : PathValue) → are_ordered (ks ++ k ∷ []) ≡ true → are_ordered ks ≡ true
ordered_before [] k h = refl
ordered_before (x ∷ ks) k h = and_true _ _ (all_before ks (first_true _ _ h))
    (ordered_before ks k (both_true (list_all (λ r. not (is_some (below r x))) (ks ++ k ∷ [])) _ h))
  where
    all_before : (ys : List PathValue) → list_all (λ r. not (is_some (below r x))) (ys ++ k ∷ []) ≡ true
        → list_all (λ r. not (is_some (below r x))) ys ≡ true
    all_before [] e = refl
    all_before (y ∷ ys) e = and_true _ _ (first_true (not (is_some (below y x))) _ e)
        (all_before ys (both_true (not (is_some (below y x))) _ e))

-- what precedes k isn't below it
before_apart : (ks : List PathValue) (k r : PathValue) → are_ordered (ks ++ k ∷ []) ≡ true
    → list_any (path_eq r) ks ≡ true → is_some (below k r) ≡ false
before_apart [] k r h i = absurd (false≢true i)
before_apart (x ∷ ks) k r h i =
    or_elim (path_eq r x) _
    (λ e. ap (λ z. is_some (below k z)) (same_path r x e) ∙ last_one ks (first_true _ _ h))
    (λ e. before_apart ks k r (both_true (list_all (λ r. not (is_some (below r x))) (ks ++ k ∷ [])) _ h) e)
    i
  where
    last_one : (ys : List PathValue) → list_all (λ r. not (is_some (below r x))) (ys ++ k ∷ []) ≡ true
        → is_some (below k x) ≡ false
    last_one [] e = not_true _ (first_true (not (is_some (below k x))) _ e)
    last_one (y ∷ ys) e = last_one ys (both_true (not (is_some (below y x))) _ e)

pub clear_start : (p q : PathValue) (ps : List PathValue) (t u : Tree) → IsCopy p q [] ps t u → IsCleared p ps u u
clear_start p q ps t u g = record {
  keeps = λ r e. refl;
  left = λ r there e. let x = found (below p r) e in let is = below_split p r x.0 x.1 in
      ap (λ k. list_any (path_eq k) ps) is
      ∙ g.covers x.0
      (λ none. there (g.nodes r ∙ ap (λ k. node_copied p t [] (below q k) (node_in k t)) is
      ∙ ap (λ o. node_copied p t [] o (node_in (p ++ x.0) t)) (beside p q x.0 g.can.apart) ∙ none))
      (starts_none x.0);
  under = λ r there. let d = g.under r there in ap (λ k. is_some (below p k)) d.is ∙ ap is_some (below_append p d.rest);
  ordered = g.ordered;
}

module _ (p : PathValue) (ks : List PathValue) (k : PathValue) (u v : Tree) (h : IsCleared p (ks ++ k ∷ []) u v) where
  last_under : is_some (below p k) ≡ true
  last_under = h.under k
      (list_any-append (path_eq k) ks (k ∷ []) ∙ or_last _ _ (or_first (path_eq k k) false (path_equiv.refl k)))

  -- what is left is the last path or precedes it
  left_or : {A : Type 0} (r : PathValue) → node_in r v ≢ Missing → is_some (below p r) ≡ true
      → (list_any (path_eq r) ks ≡ true → A) → (r ≡ k → A) → A
  left_or r there b f g =
      or_elim _ _ f (λ e. or_elim (path_eq r k) false (λ s. g (same_path r k s)) (λ no'. absurd (false≢true no')) e)
      (sym (list_any-append (path_eq r) ks (k ∷ [])) ∙ h.left r there b)

  -- so the last path can be removed
  pub clear_may : is_root p ≡ false → may_put k Missing v ≡ true
  clear_may root = may_remove k v (k_root p k root last_under) (no_child_there v k (λ n. is_missing_or _ (λ there.
      let x = found (below p k) last_under in
      let whole : k ++ n ∷ [] ≡ p ++ (x.0 ++ n ∷ []) = ap (λ z. z ++ n ∷ []) (below_split p k x.0 x.1)
      ∙ append_assoc p x.0 (n ∷ []) in
      let under : is_some (below p (k ++ n ∷ [])) ≡ true = ap (λ z. is_some (below p z)) whole
      ∙ ap is_some (below_append p (x.0 ++ n ∷ [])) in
      left_or (k ++ n ∷ []) there under
      (λ before. true≢false (sym (ap is_some (below_append k (n ∷ [])))
      ∙ before_apart ks k (k ++ n ∷ []) h.ordered before))
      (λ same. longer k n same))))
    where
      k_root : (p k : PathValue) → is_root p ≡ false → is_some (below p k) ≡ true → is_root k ≡ false
      k_root [] k r b = absurd (true≢false r)
      k_root (x ∷ p) [] r b = absurd (false≢true b)
      k_root (x ∷ p) (y ∷ k) r b = refl

      length_more : (k : PathValue) (n : List ℕ) → length (k ++ n ∷ []) ≡ suc (length k)
      length_more [] n = refl
      length_more (x ∷ k) n = ap suc (length_more k n)

      longer : (k : PathValue) (n : List ℕ) → k ++ n ∷ [] ≡ k → ⊥
      longer k n e = omega (arith, length_more k n, ap length e)

  pub clear_step : IsCleared p ks u (put k Missing v)
  clear_step = record {
    keeps = λ r e. node_put_apart k r Missing v
        (λ same. true≢false (sym last_under ∙ ap (λ z. is_some (below p z)) (sym same) ∙ e)) ∙ h.keeps r e;
    left = λ r there b. ⊎_elim
        (λ same. absurd (there (ap (λ z. node_in z (put k Missing v)) same ∙ node_put k Missing v)))
        (λ ne. left_or r (λ none. there (node_put_apart k r Missing v ne ∙ none)) b (λ e. e) (λ same. absurd (ne same)))
        (one_or_two path_total path_exact r k);
    under = λ r e. h.under r (list_any-append (path_eq r) ks (k ∷ []) ∙ or_first _ _ e);
    ordered = ordered_before ks k h.ordered;
  }

-- at the end all is moved
pub all_moved : (p q : PathValue) (ps : List PathValue) (t u v : Tree) → IsCopy p q [] ps t u → IsCleared p [] u v
    → v ≡ moved p q t
all_moved p q ps t u v g h =
    same_tree v (moved p q t) (λ r. go r (below q r) (below p r) refl refl ∙ sym (node_moved p q t g.can.apart r))
  where
    kept : (r : PathValue) → is_some (below p r) ≡ false
        → node_in r v ≡ node_copied p t [] (below q r) (node_in r t)
    kept r e = h.keeps r e ∙ g.nodes r

    go : (r : PathValue) (a b : Option PathValue) → below q r ≡ a → below p r ≡ b
        → node_in r v ≡ moved_node p t r (below q r) (below p r)
    go r (Some y) b ea eb =
        kept r (ap (λ k. is_some (below p k)) (below_split q r y ea) ∙ (apart_longer p q y g.can.apart).left)
        ∙ ap (λ o. node_copied p t [] o (node_in r t)) ea
        ∙ ap (λ x. if x then Missing else node_in (p ++ y) t) (starts_none y)
        ∙ ap (λ o. moved_node p t r o (below p r)) (sym ea)
    go r None (Some x) ea eb =
        is_missing_or _ (λ there. false≢true (h.left r there (ap is_some eb)))
        ∙ (λ i. moved_node p t r (sym ea i) (sym eb i))
    go r None None ea eb =
        kept r (ap is_some eb) ∙ ap (λ o. node_copied p t [] o (node_in r t)) ea
        ∙ (λ i. moved_node p t r (sym ea i) (sym eb i))
