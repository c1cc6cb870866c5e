-- The words so far are expanded, and the others are still to expand.
use Rattle.std.proofs.Common.{map, drop}
use Rattle.retro_tree.specs.declared.state.State.{State}
use Rattle.retro_local.specs.Runs.{Continues, Extends}
use Rattle.retro_syntax.specs.View.{item_view}
use Rattle.retro_shell.specs.Expansion.{add_words, arguments}
use Rattle.retro_shell.specs.Fields.{Fields, no_fields}
use Rattle.retro_shell.proofs.expansion.expand_items.Given as goal

abbrev pub invariant-loop-item : goal.invariant-loop-item
invariant-loop-item g l = record {
  extends : Extends l.context.place.sid l.initial.local l.local;
  continues : Continues {X = State × Fields} l.initial.local l.local
      (λ s. (s, add_words l.context s (arguments (map item_view l.items)) no_fields))
      (λ s. (s, add_words l.context s (arguments (map item_view (drop l.item-index l.items))) l.fields));
}
