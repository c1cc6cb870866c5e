-- The commands so far are run, and the others are still to run.
use Rattle.std.proofs.Common.{map, drop}
use Rattle.retro_local.specs.Runs.{Continues, Extends}
use Rattle.retro_syntax.specs.View.{simple_view}
use Rattle.retro_utils.specs.Outcomes.{nothing_done}
use Rattle.retro_shell.specs.Commands.{stages}
use Rattle.retro_shell.proofs.pipe.run_stages.Given as goal

abbrev pub invariant-loop-command : goal.invariant-loop-command
invariant-loop-command g l = record {
  extends : Extends l.context.place.sid l.initial.execution.local l.execution.local;
  continues : Continues l.initial.execution.local l.execution.local
      (stages l.context (map simple_view l.commands) (nothing_done 0) l.initial.execution.progress)
      (stages l.context (map simple_view (drop l.command-index l.commands)) l.done l.execution.progress);
}
