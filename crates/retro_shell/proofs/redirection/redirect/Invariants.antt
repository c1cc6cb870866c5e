-- The redirections so far gave the streams, and the others are still to make.
use Rattle.std.proofs.Common.{map, drop}
use Rattle.retro_local.specs.Runs.{Continues, Extends}
use Rattle.retro_syntax.specs.View.{item_view}
use Rattle.retro_shell.specs.Redirections.{redirections}
use Rattle.retro_shell.proofs.redirection.redirect.Given as goal

abbrev pub invariant-loop-item : goal.invariant-loop-item
invariant-loop-item g l = record {
  extends : Extends l.context.place.sid l.initial.local l.local;
  continues : Continues l.initial.local l.local
      (redirections l.context (map item_view l.items) l.initial.io)
      (redirections l.context (map item_view (drop l.item-index l.items)) l.io);
}
