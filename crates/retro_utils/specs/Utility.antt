-- The utilities by their names (XCU chapter 4).
use Rattle.std.specs.Prelude.{ℕ, List, Option, Some, None, codes}
use Rattle.retro_text.specs.Utility.{utility_named}
use Rattle.retro_text.specs.declared.utility.Utility.{Utility}
use Rattle.retro_text.specs.declared.utility.Utility.TheVariants as utilities
use Rattle.retro_tree.specs.declared.state.State.{State}
use Rattle.retro_utils.specs.Calls.{cat_call, cd_call, cp_call, cut_call, echo, grep_call, id_call}
use Rattle.retro_utils.specs.Calls.{mkdir_call, mv_call, pwd_call, rm_call, tee_call}
use Rattle.retro_utils.specs.Conditions.{bracket_call, condition_call}
use Rattle.retro_utils.specs.Outcomes.{nothing_done}
use Rattle.retro_utils.specs.declared.done.Done.{Done}
use Rattle.retro_utils.specs.declared.input.Input.{Input}
use Rattle.retro_utils.specs.declared.place.Place.{Place}

-- what a utility does with the fields after its name: the state after it, and what it leaves
abbrev pub meaning : Utility → List (List ℕ) → Input → Place → State → State × Done
meaning utilities.Echo fields input place s = (s, echo fields)
meaning utilities.True fields input place s = (s, nothing_done 0)
meaning utilities.False fields input place s = (s, nothing_done 1)
meaning utilities.Colon fields input place s = (s, nothing_done 0)
meaning utilities.Pwd fields input place s = pwd_call place.sid fields s
meaning utilities.Cd fields input place s = cd_call place fields s
meaning utilities.Id fields input place s = id_call fields s
meaning utilities.Test fields input place s = condition_call (codes "test") place.sid fields s
meaning utilities.Bracket fields input place s = bracket_call place.sid fields s
meaning utilities.Cat fields input place s = cat_call place.sid fields input s
meaning utilities.Tee fields input place s = tee_call place.sid fields input s
meaning utilities.Cut fields input place s = cut_call place.sid fields input s
meaning utilities.Grep fields input place s = grep_call place.sid fields input s
meaning utilities.Mkdir fields input place s = mkdir_call place.sid fields s
meaning utilities.Rm fields input place s = rm_call place.sid fields s
meaning utilities.Cp fields input place s = cp_call place.sid fields s
meaning utilities.Mv fields input place s = mv_call place.sid fields s

abbrev pub some_done : State × Done → State × Option Done
some_done (s, done) = (s, Some done)

abbrev pub by_utility : Option Utility → List (List ℕ) → Input → Place → State → State × Option Done
by_utility None fields input place s = (s, None)
by_utility (Some u) fields input place s = some_done (meaning u fields input place s)

-- the utility with a name; None, and the state unchanged, if no utility has the name
unfoldable pub utility : List ℕ → List (List ℕ) → Input → Place → State → State × Option Done
utility name fields input place s = by_utility (utility_named name) fields input place s
