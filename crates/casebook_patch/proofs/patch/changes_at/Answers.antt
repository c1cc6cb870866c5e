use Rattle.std.proofs.Common.{subst, sym, ◌∙◌}
use Rattle.std.specs.List.{All}
use Rattle.std.proofs.lemmas.List.Elements.{All-push}
use Rattle.casebook_patch.specs.Trees.{IsChangeBetween}
use Rattle.casebook_patch.proofs.TreeLemmas.{change_between, one_more_path}
use Rattle.casebook_patch.proofs.patch.changes_at.Goals as goal

pub loop-path-preserved : goal.loop-path-preserved
loop-path-preserved c =
    let change = c.in_ok-of.field-0 in
    let path = c.path-item.result in
    let is = c.in_ok-of.ensures in
    record {
      paths =
          one_more_path c.args.paths.now c.loop-path.path-index path c.loop-path.changes.items c.push.new.self.items change
          c.loop-path-test.true c.path-item.is c.in_ok-push.ensures.items (is.at ∙ c.in_ok-copy.ensures) c.loop-path.invariant.paths;
      each =
          subst (All (IsChangeBetween c.args.before.now c.args.after.now)) (sym c.in_ok-push.ensures.items)
          (All-push (IsChangeBetween c.args.before.now c.args.after.now) c.loop-path.changes.items change c.loop-path.invariant.each
          (change_between c.args.before.now c.args.after.now path.now _ _ _ change is c.in_ok-copy.ensures
          c.file_at-old.ensures c.file_at-new.ensures));
    }
