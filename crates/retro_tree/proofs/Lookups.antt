-- Look-ups in finite maps after a change.
use Rattle.std.proofs.Common.{◌≡◌, ◌≢◌, ◌⊎◌, inl, inr, ℕ, true, false, cond, List, Some, None, refl, sym, ap, ◌∙◌}
use Rattle.std.proofs.Common.{nat_cmp}
use Rattle.std.proofs.lemmas.Bool.{true≢false}
use Rattle.std.specs.Option.{unwrap_or}
use Rattle.std.specs.Ordering.{eq_by_cmp, is_eq}
use Rattle.std.specs.Cmp.{IsTotalOrder, nat_cmp_total, tied_itself}
use Rattle.std.specs.FinMap as map
use Rattle.std.specs.FinMap.{FinMap, IsAntisymmetric, nat_cmp-IsAntisymmetric, get-insert, get-remove}
use Rattle.std.specs.declared.cmp.Ordering.{Ordering}
use Rattle.std.specs.declared.cmp.Ordering.TheVariants.{Less, Equal, Greater}
use Rattle.retro_tree.specs.Order.{path_total, path_exact, text_cmp}
use Rattle.retro_tree.specs.Maps.{update}
use Rattle.retro_tree.specs.Session.{default_session, session_in}
use Rattle.retro_tree.specs.Path.{PathValue}
use Rattle.retro_tree.specs.Node.{node_of, grown, entry_grown}
use Rattle.retro_tree.specs.Tree.{Tree, node_in, put}
use Rattle.retro_tree.specs.declared.session.Session.{Session}
use Rattle.retro_tree.specs.declared.entry.Entry.{Entry}
use Rattle.retro_tree.specs.declared.entry.Entry.TheVariants.{Dir as DirEntry, File as FileEntry}
use Rattle.retro_tree.specs.declared.node.Node.{Node}
use Rattle.retro_tree.specs.declared.node.Node.TheVariants.{Missing, Dir, File}
use Rattle.retro_tree.proofs.Small.{tied}

-- ---- any finite map
apart : {K : Type 0} {R : K → K → Ordering} → IsAntisymmetric R → (q k : K) → q ≢ k → eq_by_cmp R q k ≡ false
apart {R = R} exact q k h = go (R q k) refl
  where
    go : (r : Ordering) → R q k ≡ r → is_eq r ≡ false
    go Less e = refl
    go Equal e = absurd (h (exact q k e))
    go Greater e = refl

-- two keys are one or not
pub one_or_two : {K : Type 0} {R : K → K → Ordering} → IsTotalOrder R → IsAntisymmetric R → (q k : K)
    → (q ≡ k) ⊎ (q ≢ k)
one_or_two {R = R} total exact q k =
    elim (eq_by_cmp R q k) as (λ b. eq_by_cmp R q k ≡ b → (q ≡ k) ⊎ (q ≢ k)) [
      | true ↦ λ t. inl (exact q k (tied _ t))
      | false ↦ λ t. inr (λ e. true≢false (sym (ap (λ x. eq_by_cmp R x k) e ∙ ap is_eq (tied_itself total k)) ∙ t))
    ] refl

module _ {K X : Type 0} {R : K → K → Ordering} (total : IsTotalOrder R) where
  pub get_inserted : (m : FinMap R X) (k : K) (v : X) → map.get (map.insert m k v) k ≡ Some v
  get_inserted m k v = get-insert total m k v k ∙ ap (λ r. cond (is_eq r) (Some v) (map.get m k)) (tied_itself total k)

  pub get_removed : (m : FinMap R X) (k : K) → map.get (map.remove m k) k ≡ None
  get_removed m k = get-remove total m k k ∙ ap (λ r. cond (is_eq r) None (map.get m k)) (tied_itself total k)

  module _ (exact : IsAntisymmetric R) where
    pub get_inserted_apart : (m : FinMap R X) (k : K) (v : X) (q : K) → q ≢ k → map.get (map.insert m k v) q
        ≡ map.get m q
    get_inserted_apart m k v q h = get-insert total m k v q ∙ ap (λ b. cond b (Some v) (map.get m q))
        (apart exact q k h)

    pub get_removed_apart : (m : FinMap R X) (k q : K) → q ≢ k → map.get (map.remove m k) q ≡ map.get m q
    get_removed_apart m k q h = get-remove total m k q ∙ ap (λ b. cond b None (map.get m q)) (apart exact q k h)

-- ---- the tree
pub node_put : (p : PathValue) (node : Node) (tree : Tree) → node_in p (put p node tree) ≡ node
unfolding node_in
node_put p Missing tree = ap node_of (get_removed path_total tree p)
node_put p Dir tree = ap node_of (get_inserted path_total tree p _)
node_put p (File bytes) tree = ap node_of (get_inserted path_total tree p _)

pub node_put_apart : (p q : PathValue) (node : Node) (tree : Tree) → q ≢ p → node_in q (put p node tree)
    ≡ node_in q tree
unfolding node_in
node_put_apart p q Missing tree h = ap node_of (get_removed_apart path_total path_exact tree p q h)
node_put_apart p q Dir tree h = ap node_of (get_inserted_apart path_total path_exact tree p _ q h)
node_put_apart p q (File bytes) tree h = ap node_of (get_inserted_apart path_total path_exact tree p _ q h)

-- ---- sessions
pub session_updated : (m : FinMap nat_cmp Session) (sid : ℕ) (f : Session → Session)
    → session_in sid (update m sid default_session f) ≡ f (session_in sid m)
session_updated m sid f = ap (λ o. unwrap_or o default_session) (get_inserted nat_cmp_total m sid _)

pub session_updated_apart : (m : FinMap nat_cmp Session) (sid other : ℕ) (f : Session → Session) → other ≢ sid
    → session_in other (update m sid default_session f) ≡ session_in other m
session_updated_apart m sid other f h =
    ap (λ o. unwrap_or o default_session) (get_inserted_apart nat_cmp_total nat_cmp-IsAntisymmetric m sid _ other h)

-- a session that doesn't exist has no variables
pub var_of_none : (m : FinMap nat_cmp Session) (sid : ℕ) (name : List ℕ) → map.get m sid ≡ None
    → map.get (session_in sid m).vars name ≡ None
unfolding default_session
var_of_none m sid name e = ap (λ o. map.get (unwrap_or o default_session).vars name) e ∙ map.get-empty text_cmp name

-- ---- growth
pub put_grown : (p : PathValue) (bytes : List ℕ) (e : Entry) (tree : Tree) → map.get tree p ≡ Some e
    → put p (grown bytes (node_in p tree)) tree ≡ map.insert tree p (entry_grown bytes e)
unfolding node_in
put_grown p bytes DirEntry tree is = ap (λ o. put p (grown bytes (node_of o)) tree) is
put_grown p bytes (FileEntry old) tree is = ap (λ o. put p (grown bytes (node_of o)) tree) is

pub put_new : (p : PathValue) (bytes : List ℕ) (tree : Tree) → map.get tree p ≡ None
    → put p (grown bytes (node_in p tree)) tree ≡ map.insert tree p (FileEntry bytes)
unfolding node_in
put_new p bytes tree is = ap (λ o. put p (grown bytes (node_of o)) tree) is
