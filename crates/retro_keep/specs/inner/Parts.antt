-- What is tested of the parts of a recording before its changes.
use Rattle.std.specs.Prelude.{ℕ, Bool, ◌&&◌, List, map, nat_le}
use Rattle.std.specs.List.{list_all}
use Rattle.retro_tree.specs.declared.state.State.{State}
use Rattle.retro_keep.specs.Script.{have_sessions, rises_from}
use Rattle.retro_keep.specs.Recording.{is_line_of_kind, is_own_line, none_below, number_in, sid_in}
use Rattle.retro_keep.specs.declared.noted.Noted.{Noted}

abbrev pub are_parts : State → ℕ → List (ℕ × Noted) → Bool
are_parts first from lines =
    nat_le 1 from && (rises_from 0 (map number_in lines) && (none_below from lines
    && (have_sessions first (map sid_in lines)
    && (list_all is_own_line lines && list_all is_line_of_kind lines))))
