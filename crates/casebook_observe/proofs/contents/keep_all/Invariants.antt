use Rattle.std.proofs.Common.{◌≡◌, ◌++◌, drop, map}
use Rattle.std.specs.Prelude.{IfSome, option_map}
use Rattle.casebook_observe.specs.Files.{OnlyKeeps}
use Rattle.casebook_observe.specs.Notes.{holds_notes, with_contents}
use Rattle.casebook_observe.proofs.contents.keep_all.Given as goal

abbrev pub invariant-loop-change : goal.invariant-loop-change
invariant-loop-change g l = record {
  same : g.W.Watched.finds l.watched ≡ g.W.Watched.finds l.initial.watched;
  noted : IfSome (g.W.Watched.finds l.initial.watched) (λ world.
      l.notes.items ++ holds_notes world (map (λ change. change.now) (drop l.change-index l.changes))
      ≡ holds_notes world (map (λ change. change.now) l.changes));
  kept : IfSome (g.W.Watched.finds l.initial.watched) (λ world.
      option_map (with_contents world (map (λ change. change.now) (drop l.change-index l.changes)))
      (g.S.Spool.holds l.spool)
      ≡ option_map (with_contents world (map (λ change. change.now) l.changes)) (g.S.Spool.holds l.initial.spool));
  any : OnlyKeeps (g.S.Spool.holds l.initial.spool) (g.S.Spool.holds l.spool);
}
