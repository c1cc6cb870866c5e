use Rattle.std.proofs.Common.{◌∙◌, ap, subst}
use Rattle.std.specs.List.{filter, filter_map}
use Rattle.casebook_changes.specs.ChangedPaths.{AreChangedPaths}
use Rattle.casebook_compare.specs.Coverage.{is_listed}
use Rattle.casebook_compare.specs.Unread.{unread_of}
use Rattle.casebook_compare.specs.inner.PathSets.{is_covered_by}
use Rattle.casebook_compare.proofs.Kept.{are_different}
use Rattle.casebook_compare.proofs.comparing.compare.Goals as goal

pub returns : goal.returns
returns c =
    let keys = c.in_ok-coverage.coverage.skipped.keys in
    record {
      folder = c.in_ok-folder.ensures;
      same = c.count_same-same.ensures;
      different = are_different c.args.recorded.now c.args.snapshot c.args.at.now c.in_ok-folder.folder.tree keys
          c.in_ok-changed.changed.items c.in_ok-different.different.items c.in_ok-folder.ensures
          (λ p. c.in_ok-coverage.ensures.skipped p ∙ ap (λ ss. is_listed ss p) c.as_slice.ensures.value)
          (subst (λ tree. AreChangedPaths c.args.recorded.now tree c.in_ok-changed.changed.items) c.tree.ensures
          c.in_ok-changed.ensures)
          (c.in_ok-different.ensures
          ∙ ap (λ at. filter (λ one. is_covered_by at keys one.path) c.in_ok-changed.changed.items)
          c.in_ok-coverage.ensures.at);
      unread = c.in_ok-unread.ensures ∙ ap (filter_map (unread_of c.args.recorded.now)) c.as_slice-2.ensures.value;
    }
