-- Parts that make a script.
use Rattle.std.proofs.Common.{◌≡◌, Bool, true, false, List, refl, sym}
use Rattle.std.specs.Prelude.{◌↔◌, IsTrue, Err}
use Rattle.retro_tree.specs.Limits.{within_limits}
use Rattle.retro_tree.specs.Lawful.{IsLawful, is_lawful}
use Rattle.retro_tree.specs.declared.state.State.{State}
use Rattle.retro_tree.proofs.WholeLaw.{test_from_state, state_from_test}
use Rattle.retro_keep.specs.declared.script.ScriptFault.TheVariants.{LawlessTree}
use Rattle.retro_keep.specs.declared.script.ScriptLine.{ScriptLine}
use Rattle.retro_keep.specs.Script.{script_of, script_of_lines, with_script_fault}

-- the test of the law, by what it tells
pub law_by_fact : (b : Bool) (s : State) → IsTrue b ↔ IsLawful s → is_lawful s ≡ b
law_by_fact true s same = test_from_state s (same.0 refl)
law_by_fact false s same = at_test (is_lawful s) (λ h. same.1 (state_from_test s h))
  where
    at_test : (lawful : Bool) → (lawful ≡ true → false ≡ true) → lawful ≡ false
    at_test true h = sym (h refl)
    at_test false h = refl

pub lawless : (b : Bool) (s : State) (lines : List ScriptLine) → within_limits s ≡ true → IsTrue b ↔ IsLawful s
    → b ≡ false → script_of s lines ≡ Err LawlessTree
unfolding script_of
lawless b s lines limits same off = rw (limits, law_by_fact b s same, off) refl

pub by_lines : (b : Bool) (s : State) (lines : List ScriptLine) → within_limits s ≡ true → IsTrue b ↔ IsLawful s
    → b ≡ true → script_of s lines ≡ with_script_fault (script_of_lines s lines)
unfolding script_of
by_lines b s lines limits same on = rw (limits, law_by_fact b s same, on) refl

pub ruleset parts = (lawless, by_lines)
