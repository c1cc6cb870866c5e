use Rattle.std.proofs.Common.{◌+◌, ◌*◌, ℕ}
use Rattle.retro_tests.proofs.trees.+shown.Given as goal

abbrev pub decreases-show_command : goal.decreases-show_command
decreases-show_command l = 8 * l.room

abbrev pub decreases-show_arms : goal.decreases-show_arms
decreases-show_arms l = 8 * l.room + 4

abbrev pub decreases-show_loop : goal.decreases-show_loop
decreases-show_loop l = 8 * l.room + 4

abbrev pub decreases-show_pipeline : goal.decreases-show_pipeline
decreases-show_pipeline l = 8 * l.room + 1

abbrev pub decreases-show_and_or : goal.decreases-show_and_or
decreases-show_and_or l = 8 * l.room + 2

abbrev pub decreases-show_list : goal.decreases-show_list
decreases-show_list l = 8 * l.room + 3
