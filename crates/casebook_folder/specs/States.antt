-- How a folder is to a change: ready for it, done with it, or neither.
use Rattle.std.specs.Prelude.{Bool, true, false}
use Rattle.casebook_folder.specs.declared.state.State.{State}
use Rattle.casebook_folder.specs.declared.state.State.TheVariants.{Ready, Done, Differs, Blocked}

abbrev pub is_ready : State → Bool
is_ready Ready = true
is_ready Done = false
is_ready Differs = false
is_ready (Blocked o) = false

abbrev pub is_done : State → Bool
is_done Ready = false
is_done Done = true
is_done Differs = false
is_done (Blocked o) = false
