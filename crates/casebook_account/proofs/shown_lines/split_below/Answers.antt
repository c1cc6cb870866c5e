use Rattle.std.proofs.Common.{◌≤◌, length, subst, sym}
use Rattle.std.proofs.lemmas.List.Sums.{prefix_len-le-length}
use Rattle.casebook_account.specs.Shown.{is_line_below}
use Rattle.casebook_account.proofs.shown_lines.split_below.Goals as goal

pub split_at-requires : goal.split_at-requires
split_at-requires c =
    subst (λ n. n ≤ length c.args.lines.now) (sym c.count_below.ensures)
    (prefix_len-le-length (is_line_below c.args.end) c.args.lines.now)
