-- The whole tests of trees, sessions and states.
use Rattle.std.proofs.Common.{◌≡◌, ◌≤◌, ℕ, Bool, true, nat_le, length, List, [], ◌∷◌, Option, Some, None, refl, sym, ap}
use Rattle.std.proofs.Common.{◌∙◌, arith}
use Rattle.std.specs.Prelude.{IsTrue, ◌↔◌}
use Rattle.std.proofs.lemmas.Bool.{leb-true, le-leb}
use Rattle.std.specs.Ordering.{nat_cmp}
use Rattle.std.specs.Cmp.{nat_cmp_total}
use Rattle.std.specs.FinMap as map
use Rattle.std.specs.FinMap.{nat_cmp-IsAntisymmetric}
use Rattle.retro_tree.specs.Order.{path_total, path_exact, text_cmp, text_total, text_exact}
use Rattle.retro_tree.specs.Path.{PathValue, parent_of, may_exist}
use Rattle.retro_tree.specs.Node.{node_of, is_dir, size_of, file_limit}
use Rattle.retro_tree.specs.Tree.{Tree, node_in}
use Rattle.retro_tree.specs.Session.{value_limit}
use Rattle.retro_tree.specs.Limits.{AreLawfulSessions, IsWithinLimits, values_fit, session_fits, are_lawful_sessions}
use Rattle.retro_tree.specs.Limits.{entry_fits, files_fit, within_limits}
use Rattle.retro_tree.specs.Lawful.{law_at, IsLawfulTree, entry_passes, is_lawful_tree, IsLawful, is_lawful}
use Rattle.retro_tree.specs.declared.entry.Entry.{Entry}
use Rattle.retro_tree.specs.declared.node.Node.{Node}
use Rattle.retro_tree.specs.declared.node.Node.TheVariants.{Missing, Dir, File}
use Rattle.retro_tree.specs.declared.session.Session.{Session}
use Rattle.retro_tree.specs.declared.state.State.{State}
use Rattle.retro_tree.proofs.Small.{first_true, both_true, and_true}
use Rattle.retro_tree.proofs.Entries.{tested, all_tested}

-- ---- trees
law_of_node : (p : PathValue) (tree : Tree) (o : Option Entry) → map.get tree p ≡ o → is_lawful_tree tree ≡ true
    → law_at p (node_of o) (node_in (parent_of p) tree) ≡ true
unfolding is_lawful_tree entry_passes node_in
law_of_node [] tree o is h = ap (λ n. is_dir (node_of n)) (sym is) ∙ first_true (is_dir (node_of (map.get tree []))) _ h
law_of_node (name ∷ rest) tree None is h = refl
law_of_node (name ∷ rest) tree (Some e) is h =
    tested path_total path_exact (entry_passes tree) tree (both_true (is_dir (node_of (map.get tree []))) _ h)
    (name ∷ rest) e is

pub tree_from_test : (tree : Tree) → is_lawful_tree tree ≡ true → IsLawfulTree tree
unfolding IsLawfulTree node_in
tree_from_test tree h p = law_of_node p tree (map.get tree p) refl h

pub test_from_tree : (tree : Tree) → IsLawfulTree tree → is_lawful_tree tree ≡ true
unfolding IsLawfulTree is_lawful_tree entry_passes node_in
test_from_tree tree h =
    and_true _ _ (h []) (all_tested path_total path_exact (entry_passes tree) tree
    (λ q e is. ap (λ o. law_at q (node_of o) (node_in (parent_of q) tree)) (sym is) ∙ h q))

-- ---- sessions
pub values_from_test : (vars : map.FinMap text_cmp (List ℕ)) → values_fit vars ≡ true → (name value : List ℕ)
    → map.get vars name ≡ Some value → length value ≤ value_limit
unfolding values_fit
values_from_test vars h name value is =
    leb-true _ _ (tested text_total text_exact (λ e. nat_le (length e.1) value_limit) vars h name value is)

test_from_values : (vars : map.FinMap text_cmp (List ℕ))
    → ((name value : List ℕ) → map.get vars name ≡ Some value → length value ≤ value_limit) → values_fit vars ≡ true
unfolding values_fit
test_from_values vars h = all_tested text_total text_exact (λ e. nat_le (length e.1) value_limit) vars
    (λ name value is. le-leb _ _ (h name value is))

pub sessions_from_test : (sessions : map.FinMap nat_cmp Session) → are_lawful_sessions sessions ≡ true
    → AreLawfulSessions sessions
unfolding are_lawful_sessions AreLawfulSessions
sessions_from_test sessions h sid session is =
    let passes = tested nat_cmp_total nat_cmp-IsAntisymmetric session_fits sessions h sid session is in
    record {
      status = leb-true _ _ (first_true (nat_le session.status 255) _ passes);
      values = values_from_test session.vars (both_true (nat_le session.status 255) _ passes);
    }

pub test_from_sessions : (sessions : map.FinMap nat_cmp Session) → AreLawfulSessions sessions
    → are_lawful_sessions sessions ≡ true
unfolding are_lawful_sessions AreLawfulSessions
test_from_sessions sessions h =
    all_tested nat_cmp_total nat_cmp-IsAntisymmetric session_fits sessions (λ sid session is.
    and_true _ _ (le-leb _ _ (h sid session is).status) (test_from_values session.vars (h sid session is).values))

-- ---- limits
size_of_node : (tree : Tree) (p : PathValue) (o : Option Entry) → map.get tree p ≡ o → files_fit tree ≡ true
    → size_of (node_of o) ≤ file_limit
unfolding files_fit
size_of_node tree p None is h = omega arith
size_of_node tree p (Some e) is h = leb-true _ _ (tested path_total path_exact entry_fits tree h p e is)

pub limits_from_test : (s : State) → within_limits s ≡ true → IsWithinLimits s
unfolding within_limits node_in
limits_from_test s h = record {
  files = λ p. size_of_node s.tree p (map.get s.tree p) refl (first_true (files_fit s.tree) _ h);
  sessions = sessions_from_test s.sessions (both_true (files_fit s.tree) _ h);
}

files_test : (tree : Tree) → ((p : PathValue) → size_of (node_in p tree) ≤ file_limit) → files_fit tree ≡ true
unfolding files_fit node_in
files_test tree h =
    all_tested path_total path_exact entry_fits tree
    (λ p e is. ap (λ o. nat_le (size_of (node_of o)) file_limit) (sym is) ∙ le-leb _ _ (h p))

pub test_from_limits : (s : State) → IsWithinLimits s → within_limits s ≡ true
unfolding within_limits
test_from_limits s l = and_true _ _ (files_test s.tree l.files) (test_from_sessions s.sessions l.sessions)

-- ---- states
pub state_from_test : (s : State) → is_lawful s ≡ true → IsLawful s
unfolding is_lawful
state_from_test s h = record {
  tree = tree_from_test s.tree (first_true (is_lawful_tree s.tree) _ h);
  sessions = sessions_from_test s.sessions (both_true (is_lawful_tree s.tree) _ h);
}

pub test_from_state : (s : State) → IsLawful s → is_lawful s ≡ true
unfolding is_lawful
test_from_state s l = and_true _ _ (test_from_tree s.tree l.tree) (test_from_sessions s.sessions l.sessions)

pub size_under_law : (p : PathValue) (node above : Node) → law_at p node above ≡ true → size_of node ≤ file_limit
size_under_law p Missing above h = omega arith
size_under_law p Dir above h = omega arith
size_under_law [] (File bytes) above h = cc
size_under_law (name ∷ rest) (File bytes) above h =
    leb-true _ _ (both_true (may_exist (name ∷ rest)) _ (both_true (is_dir above) _ h))

-- a lawful state is within the limits
pub limits_of_lawful : (s : State) → IsLawful s → IsWithinLimits s
unfolding IsLawfulTree
limits_of_lawful s l = record {
  files = λ p. size_under_law p (node_in p s.tree) (node_in (parent_of p) s.tree) (l.tree p);
  sessions = l.sessions;
}

pub ruleset whole_tree = (tree_from_test, test_from_tree)

pub ruleset whole_state = (state_from_test, test_from_state)

pub ruleset whole_limits = (limits_from_test, test_from_limits, limits_of_lawful)

-- ---- each test is exact, as the contracts say it
pub tree_exact : (b : Bool) (tree : Tree) → b ≡ is_lawful_tree tree → IsTrue b ↔ IsLawfulTree tree
tree_exact b tree e = (λ t. tree_from_test tree (sym e ∙ t), λ l. e ∙ test_from_tree tree l)

pub limits_exact : (b : Bool) (s : State) → b ≡ within_limits s → IsTrue b ↔ IsWithinLimits s
limits_exact b s e = (λ t. limits_from_test s (sym e ∙ t), λ l. e ∙ test_from_limits s l)

pub state_exact : (b : Bool) (s : State) → b ≡ is_lawful s → IsTrue b ↔ IsLawful s
state_exact b s e = (λ t. state_from_test s (sym e ∙ t), λ l. e ∙ test_from_state s l)

pub sessions_exact : (b : Bool) (sessions : map.FinMap nat_cmp Session) → b ≡ are_lawful_sessions sessions
    → IsTrue b ↔ AreLawfulSessions sessions
sessions_exact b sessions e = (λ t. sessions_from_test sessions (sym e ∙ t), λ l. e ∙ test_from_sessions sessions l)
