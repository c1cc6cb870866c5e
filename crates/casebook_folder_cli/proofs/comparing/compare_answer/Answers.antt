use Rattle.std.proofs.Common.{ap, subst, ◌∙◌}
use Rattle.casebook_compare.specs.Comparison.{IsComparison}
use Rattle.casebook_folder_cli.proofs.Known.{one}
use Rattle.casebook_folder_cli.proofs.comparing.compare_answer.Goals as goal

pub returns-clause-ok : goal.returns-clause-ok
returns-clause-ok g c =
    let read = c.in_ok-snapshot.field-0 in
    let comparison = c.in_ok-comparison.comparison in
    one (g.F.Folders.holds c.args.folders.now) _ _ c.in_ok-snapshot.ensures.ok
    (λ at is. record {
      snapshot = read.snapshot;
      at = read.at;
      is_snapshot = is;
      comparison = comparison;
      is_comparison = subst (λ tree. IsComparison tree read.snapshot read.at comparison)
          (c.tree.ensures ∙ ap (λ s. s.tree) c.last.ensures.value) c.in_ok-comparison.ensures;
      lines = c.in_ok-comparison_lines.ensures;
      is_no = c.has_differences.ensures;
      remark = c.in_ok-remark.ensures;
    })
