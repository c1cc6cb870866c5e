-- Moves of files, which have nothing below them.
use Rattle.std.proofs.Common.{◌≡◌, ◌≢◌, ℕ, false, List, [], ◌∷◌, Option, Some, None, refl, sym, ap, ◌∙◌}
use Rattle.std.specs.Option.{is_some}
use Rattle.std.proofs.lemmas.Bool.{true≢false}
use Rattle.std.proofs.lemmas.List.{append-nil}
use Rattle.retro_tree.specs.Path.{PathValue, below}
use Rattle.retro_tree.specs.Node.{is_dir}
use Rattle.retro_tree.specs.Tree.{Tree, node_in, put}
use Rattle.retro_tree.specs.Lawful.{IsLawfulTree}
use Rattle.retro_tree.specs.declared.node.Node.TheVariants.{Missing, File}
use Rattle.retro_tree.proofs.Lookups.{node_put, node_put_apart}
use Rattle.retro_tree.proofs.Below.{below_split}
use Rattle.retro_moves.specs.Trees.{without, moved, Apart}
use Rattle.retro_moves.proofs.Without.{same_tree, not_at, not_below, is_at, nothing_below, without_one, without_none}
use Rattle.retro_moves.proofs.MovedNodes.{moved_node, node_moved}

-- a file that is moved is put at its new path, and its old path is removed
pub moved_file : (p q : PathValue) (bytes : List ℕ) (t : Tree) → IsLawfulTree t → Apart p q → node_in p t ≡ File bytes
    → is_dir (node_in q t) ≡ false → moved p q t ≡ put p Missing (put q (File bytes) t)
moved_file p q bytes t lawful apart file free =
    same_tree _ _ (λ r. node_moved p q t apart r ∙ sym (go r (below q r) (below p r) refl refl))
  where
    leaf : is_dir (node_in p t) ≡ false
    leaf = ap is_dir file

    off : (r rest : PathValue) → below q r ≡ Some rest → r ≢ p
    off r rest b e = true≢false (sym (ap is_some (ap (below q) (sym e) ∙ b)) ∙ apart.right)

    off_source : (r rest : PathValue) → below p r ≡ Some rest → r ≢ q
    off_source r rest b e = true≢false (sym (ap is_some (ap (below p) (sym e) ∙ b)) ∙ apart.left)

    go : (r : PathValue) (a b : Option PathValue) → below q r ≡ a → below p r ≡ b
        → node_in r (put p Missing (put q (File bytes) t)) ≡ moved_node p t r a b
    go r (Some []) b ea eb =
        node_put_apart p r Missing (put q (File bytes) t) (off r [] ea)
        ∙ ap (λ k. node_in k (put q (File bytes) t)) (is_at q r ea) ∙ node_put q (File bytes) t
        ∙ sym (ap (λ k. node_in k t) (append-nil p) ∙ file)
    go r (Some (n ∷ y)) b ea eb =
        node_put_apart p r Missing (put q (File bytes) t) (off r (n ∷ y) ea)
        ∙ node_put_apart q r (File bytes) t (not_at q r n y ea)
        ∙ ap (λ k. node_in k t) (below_split q r (n ∷ y) ea) ∙ nothing_below t lawful q n y free
        ∙ sym (nothing_below t lawful p n y leaf)
    go r None (Some []) ea eb = ap (λ k. node_in k (put p Missing (put q (File bytes) t))) (is_at p r eb)
        ∙ node_put p Missing (put q (File bytes) t)
    go r None (Some (n ∷ x)) ea eb =
        node_put_apart p r Missing (put q (File bytes) t) (not_at p r n x eb)
        ∙ node_put_apart q r (File bytes) t (off_source r (n ∷ x) eb)
        ∙ ap (λ k. node_in k t) (below_split p r (n ∷ x) eb) ∙ nothing_below t lawful p n x leaf
    go r None None ea eb =
        node_put_apart p r Missing (put q (File bytes) t) (not_below p r eb)
        ∙ node_put_apart q r (File bytes) t (not_below q r ea)

pub file_without : (p : PathValue) (t : Tree) → IsLawfulTree t → is_dir (node_in p t) ≡ false
    → without p t ≡ put p Missing t
file_without p t lawful file = sym (without_one p t lawful file)

pub ruleset single = (moved_file, file_without, without_none)
