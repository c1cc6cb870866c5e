-- The law of a state, by the tests of its tree and its sessions.
use Rattle.std.proofs.Common.{◌≡◌, Bool, true, false, refl, sym, ap, ◌∙◌}
use Rattle.std.specs.Prelude.{IsTrue, ◌↔◌}
use Rattle.std.specs.FinMap as map
use Rattle.std.specs.Ordering.{nat_cmp}
use Rattle.retro_tree.specs.Lawful.{IsLawful, is_lawful, is_lawful_tree}
use Rattle.retro_tree.specs.Limits.{AreLawfulSessions, are_lawful_sessions}
use Rattle.retro_tree.specs.declared.state.State.{State}
use Rattle.retro_tree.proofs.WholeLaw.{state_from_test, test_from_sessions}
use Rattle.retro_tree.proofs.WholeLaw.{test_from_tree}

bare_sessions : are_lawful_sessions map.empty ≡ true
unfolding AreLawfulSessions
bare_sessions = test_from_sessions map.empty (λ sid session h. cc (map.get-empty nat_cmp sid))

-- a lawful tree and lawful sessions are a lawful state
pub state_is_lawful : (s : State) → is_lawful_tree s.tree ≡ true → are_lawful_sessions s.sessions ≡ true → IsLawful s
unfolding is_lawful
state_is_lawful s tree sessions =
    let passes : is_lawful s ≡ true = rw (tree, sessions) refl in
    state_from_test s passes

-- the test of a tree without sessions, by what the test of its state tells
pub tree_by_law : (b : Bool) (s : State) → s.sessions ≡ map.empty → IsTrue b ↔ IsLawful s → is_lawful_tree s.tree ≡ b
tree_by_law true s bare same = test_from_tree s.tree (same.0 refl).tree
tree_by_law false s bare same =
    at_test (is_lawful_tree s.tree) (λ h. same.1 (state_is_lawful s h (ap are_lawful_sessions bare ∙ bare_sessions)))
  where
    at_test : (lawful : Bool) → (lawful ≡ true → false ≡ true) → lawful ≡ false
    at_test true h = sym (h refl)
    at_test false h = refl
