-- Lines that aren't understood or have to be run for real, as JSON.
use Rattle.std.specs.Prelude.{ℕ, List, [], ◌∷◌, codes}
use Rattle.serde_json.specs.Data.{Data, string}
use Rattle.retro_json.specs.Values.{array_of, number_data}
use Rattle.casebook_usage.specs.declared.obstacle.Obstacle.{Obstacle}
use Rattle.casebook_usage.specs.declared.obstacle.Obstacle.TheVariants.{Command, Form, Expansion, Terminal}
use Rattle.casebook_usage.specs.declared.obstacle.Obstacle.TheVariants.{Observed, Need}
use Rattle.casebook_profile.specs.declared.unknown_line.UnknownLine.{UnknownLine}

abbrev pub obstacle_name : Obstacle → List ℕ
obstacle_name Command = codes "command"
obstacle_name Form = codes "form"
obstacle_name Expansion = codes "expansion"
obstacle_name Terminal = codes "terminal"
obstacle_name Observed = codes "observed"
obstacle_name Need = codes "need"

-- `[n,"command"]`
abbrev pub unknown_data : UnknownLine → Data
unknown_data line = array_of (number_data line.number ∷ string (obstacle_name line.obstacle) ∷ [])
