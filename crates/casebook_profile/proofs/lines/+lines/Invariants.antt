-- What is still to be read after a part of each loop, and the sizes that the calls make smaller.
use Rattle.std.proofs.Common.{◌≡◌, ◌+◌, ◌*◌, map, drop, option_map}
use Rattle.retro_syntax.specs.Parsing.{join, listed}
use Rattle.retro_syntax.specs.Tree.{chain}
use Rattle.retro_syntax.specs.View.{view, pipeline_of, and_or_of, commands_of}
use Rattle.retro_shell.specs.inner.Trees.{arms_with}
use Rattle.retro_shell.proofs.Sizes.{size, and_or_size, command_size, arms_size}
use Rattle.casebook_profile.specs.Lines as L
use Rattle.casebook_profile.specs.inner.Scopes.{scope_view}
use Rattle.casebook_profile.proofs.lines.+lines.Given as goal

abbrev pub invariant-list_obstacle-loop-and_or : goal.invariant-list_obstacle-loop-and_or
invariant-list_obstacle-loop-and_or l =
    L.list_obstacle (scope_view l.inner) (listed (map (and_or_of view) (drop l.and_or-index l.commands.before.items))
    (and_or_of view l.commands.last) l.commands.final_semicolon)
    ≡ L.list_obstacle (scope_view l.scope) (commands_of view l.commands)

abbrev pub invariant-rest_obstacle-loop-joint : goal.invariant-rest_obstacle-loop-joint
invariant-rest_obstacle-loop-joint l =
    L.rest_obstacle (scope_view l.scope) (join (map (λ j. (pipeline_of view j.0, j.1)) (drop l.joint-index l.before))
    (pipeline_of view l.last))
    ≡ L.rest_obstacle (scope_view l.scope) (join (map (λ j. (pipeline_of view j.0, j.1)) l.before) (pipeline_of view l.last))

abbrev pub invariant-if_obstacle-loop-arm : goal.invariant-if_obstacle-loop-arm
invariant-if_obstacle-loop-arm l =
    L.arms_obstacle (scope_view l.scope) (arms_with (drop l.arm-index l.parts.before.items) l.parts
    (option_map (λ e. commands_of view e.now) l.other))
    ≡ L.arms_obstacle (scope_view l.scope) (arms_with l.parts.before.items l.parts
    (option_map (λ e. commands_of view e.now) l.other))

abbrev pub decreases-list_obstacle : goal.decreases-list_obstacle
decreases-list_obstacle l = 8 * size (commands_of view l.commands.now)

abbrev pub decreases-and_or_obstacle : goal.decreases-and_or_obstacle
decreases-and_or_obstacle l = 8 * and_or_size (and_or_of view l.and_or.now) + 2

abbrev pub decreases-chain_obstacle : goal.decreases-chain_obstacle
decreases-chain_obstacle l =
    8 * and_or_size (chain (pipeline_of view l.first.now.0) l.first.now.1
    (join (map (λ j. (pipeline_of view j.0, j.1)) l.more.now) (pipeline_of view l.last.now))) + 1

abbrev pub decreases-rest_obstacle : goal.decreases-rest_obstacle
decreases-rest_obstacle l =
    8 * and_or_size (join (map (λ j. (pipeline_of view j.0, j.1)) l.before.now) (pipeline_of view l.last.now)) + 1

abbrev pub decreases-command_obstacle : goal.decreases-command_obstacle
decreases-command_obstacle l = 8 * command_size (view l.command.now)

abbrev pub decreases-if_obstacle : goal.decreases-if_obstacle
decreases-if_obstacle l =
    8 * arms_size (arms_with l.parts.now.before.items l.parts.now
    (option_map (λ e. commands_of view e.now) l.other)) + 2

abbrev pub decreases-arm_obstacle : goal.decreases-arm_obstacle
decreases-arm_obstacle l =
    8 * (size (commands_of view l.condition.now) + size (commands_of view l.consequence.now)) + 9

abbrev pub decreases-for_obstacle : goal.decreases-for_obstacle
decreases-for_obstacle l = 8 * size (commands_of view l.parts.now.body) + 4
