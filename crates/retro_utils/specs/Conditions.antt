-- `test` and `[` (XCU test).
use Rattle.std.specs.Prelude.{ℕ, Bool, List, codes, if◌then◌else◌}
use Rattle.retro_text.specs.Condition.{ConditionValue, known, path, condition_in, before_bracket}
use Rattle.retro_tree.specs.declared.state.State.{State}
use Rattle.retro_utils.specs.Outcomes.{nothing_done, or_usage}
use Rattle.retro_utils.specs.PathTests.{operand_passes}
use Rattle.retro_utils.specs.declared.done.Done.{Done}

-- whether a condition holds
abbrev pub condition_holds : ℕ → ConditionValue → State → Bool
condition_holds sid (known holds) s = holds
condition_holds sid (path test operand) s = operand_passes sid test operand s

-- status 0 if a condition holds, and 1 if not
abbrev pub condition_done : ℕ → ConditionValue → State → State × Done
condition_done sid condition s = (s, nothing_done (if condition_holds sid condition s then 0 else 1))

-- the condition that operands are, tested for the utility with this name
unfoldable pub condition_call : List ℕ → ℕ → List (List ℕ) → State → State × Done
condition_call name sid operands s = or_usage name (condition_in operands) (condition_done sid) s

-- the fields of `[` end with `]`
unfoldable pub bracket_call : ℕ → List (List ℕ) → State → State × Done
bracket_call sid fields s = or_usage (codes "[") (before_bracket fields) (condition_call (codes "[") sid) s
