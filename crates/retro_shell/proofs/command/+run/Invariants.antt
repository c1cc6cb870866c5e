-- What is still to run after a part of each loop, and the sizes that the calls make smaller.
use Rattle.std.proofs.Common.{◌+◌, ◌*◌, map, true, drop, option_map}
use Rattle.std.specs.Prelude.{string_bytes}
use Rattle.retro_local.specs.Runs.{Continues, Extends}
use Rattle.retro_syntax.specs.Parsing.{join, listed}
use Rattle.retro_syntax.specs.View.{view, pipeline_of, and_or_of, commands_of}
use Rattle.retro_shell.specs.Commands.{run_commands, run_and_or, run_arms, turns}
use Rattle.retro_shell.specs.inner.Trees.{arms_with}
use Rattle.retro_shell.proofs.Sizes.{size, and_or_size, pipeline_size, command_size, arms_size}
use Rattle.retro_shell.proofs.command.+run.Given as goal

abbrev pub invariant-run_commands-loop-and_or : goal.invariant-run_commands-loop-and_or
invariant-run_commands-loop-and_or g l = record {
  extends : Extends l.sid l.initial.execution.local l.execution.local;
  continues : Continues l.initial.execution.local l.execution.local
      (run_commands l.sid (commands_of view l.commands) l.initial.execution.progress)
      (run_commands l.sid (listed (map (and_or_of view) (drop l.and_or-index l.commands.before.items))
      (and_or_of view l.commands.last) l.commands.final_semicolon) l.execution.progress);
}

abbrev pub invariant-run_and_or-loop-joint : goal.invariant-run_and_or-loop-joint
invariant-run_and_or-loop-joint g l = record {
  extends : Extends l.sid l.initial.execution.local l.execution.local;
  continues : Continues l.initial.execution.local l.execution.local
      (run_and_or l.sid true (and_or_of view l.and_or) l.initial.execution.progress)
      (run_and_or l.sid l.runs (join (map (λ j. (pipeline_of view j.0, j.1))
      (drop l.joint-index l.and_or.before.items)) (pipeline_of view l.and_or.last)) l.execution.progress);
}

abbrev pub invariant-run_if-loop-arm : goal.invariant-run_if-loop-arm
invariant-run_if-loop-arm g l = record {
  extends : Extends l.sid l.initial.execution.local l.execution.local;
  continues : Continues l.initial.execution.local l.execution.local
      (run_arms l.sid (arms_with l.parts.before.items l.parts (option_map (λ e. commands_of view e.now) l.other))
      l.initial.execution.progress)
      (run_arms l.sid (arms_with (drop l.arm-index l.parts.before.items) l.parts
      (option_map (λ e. commands_of view e.now) l.other)) l.execution.progress);
}

abbrev pub invariant-run_turns-loop-field : goal.invariant-run_turns-loop-field
invariant-run_turns-loop-field g l = record {
  extends : Extends l.sid l.initial.execution.local l.execution.local;
  continues : Continues l.initial.execution.local l.execution.local
      (turns l.sid l.parts.name (run_commands l.sid (commands_of view l.parts.body))
      (map string_bytes l.fields) l.initial.execution.progress)
      (turns l.sid l.parts.name (run_commands l.sid (commands_of view l.parts.body))
      (map string_bytes (drop l.field-index l.fields)) l.execution.progress);
}

abbrev pub decreases-run_commands : goal.decreases-run_commands
decreases-run_commands g l = 8 * size (commands_of view l.commands.now)

abbrev pub decreases-run_and_or : goal.decreases-run_and_or
decreases-run_and_or g l = 8 * and_or_size (and_or_of view l.and_or.now)

abbrev pub decreases-run_pipeline : goal.decreases-run_pipeline
decreases-run_pipeline g l = 8 * pipeline_size (pipeline_of view l.pipeline.now)

abbrev pub decreases-run_command : goal.decreases-run_command
decreases-run_command g l = 8 * command_size (view l.command.now)

abbrev pub decreases-run_if : goal.decreases-run_if
decreases-run_if g l =
    8 * arms_size (arms_with l.parts.now.before.items l.parts.now
    (option_map (λ e. commands_of view e.now) l.other)) + 1

abbrev pub decreases-run_for : goal.decreases-run_for
decreases-run_for g l = 8 * size (commands_of view l.parts.now.body) + 4

abbrev pub decreases-run_turns : goal.decreases-run_turns
decreases-run_turns g l = 8 * size (commands_of view l.parts.now.body) + 3

abbrev pub decreases-run_turn : goal.decreases-run_turn
decreases-run_turn g l = 8 * size (commands_of view l.parts.now.body) + 2
