-- The words so far are expanded, and the others are still to expand.
use Rattle.std.proofs.Common.{map, drop}
use Rattle.retro_tree.specs.declared.state.State.{State}
use Rattle.retro_local.specs.Runs.{Continues, Extends}
use Rattle.retro_syntax.specs.View.{word_view}
use Rattle.retro_shell.specs.Expansion.{add_words}
use Rattle.retro_shell.specs.Fields.{Fields, no_fields}
use Rattle.retro_shell.proofs.expansion.expand_words.Given as goal

abbrev pub invariant-loop-word : goal.invariant-loop-word
invariant-loop-word g l = record {
  extends : Extends l.context.place.sid l.initial.local l.local;
  continues : Continues {X = State × Fields} l.initial.local l.local
      (λ s. (s, add_words l.context s (map word_view l.words) no_fields))
      (λ s. (s, add_words l.context s (map word_view (drop l.word-index l.words)) l.fields));
}
