-- Why it isn't known what lines do, in words: of one line, and of several.
use Rattle.std.specs.Prelude.{ℕ, List, codes}
use Rattle.casebook_usage.specs.declared.obstacle.Obstacle.{Obstacle}
use Rattle.casebook_usage.specs.declared.obstacle.Obstacle.TheVariants.{Command, Form, Expansion, Terminal, Observed, Need}

unfoldable pub obstacle_text : Obstacle → List ℕ
obstacle_text Command = codes "a command that Retro doesn't know"
obstacle_text Form = codes "an option or form that it doesn't have"
obstacle_text Expansion = codes "a pattern or value that a shell expands"
obstacle_text Terminal = codes "a command that reads the terminal"
obstacle_text Observed = codes "not in Retro's shell, or it did something else"
obstacle_text Need = codes "what it depends on would be another"

unfoldable pub obstacles_text : Obstacle → List ℕ
obstacles_text Command = codes "commands that Retro doesn't know"
obstacles_text Form = codes "options or forms that it doesn't have"
obstacles_text Expansion = codes "patterns or values that a shell expands"
obstacles_text Terminal = codes "commands that read the terminal"
obstacles_text Observed = codes "not in Retro's shell, or it did something else"
obstacles_text Need = codes "what they depend on would be another"
