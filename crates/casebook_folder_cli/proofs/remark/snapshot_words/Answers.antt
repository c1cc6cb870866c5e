use Rattle.std.proofs.Common.{ap, codes, decimal, length, subst, ◌≡◌, ◌∙◌, ◌++◌}
use Rattle.std.specs.List.{flat_map}
use Rattle.casebook_folder_cli.specs.Remarks.{all_reasons, reason_words}
use Rattle.casebook_folder_cli.proofs.Pushing.{five_pieces}
use Rattle.casebook_folder_cli.proofs.remark.snapshot_words.Goals as goal

pub returns : goal.returns
returns c =
    subst (λ skipped. c.push_reasons.new.line
    ≡ codes "paths " ++ decimal (length c.args.snapshot.now.rows.entries) ++ codes ", skipped "
    ++ decimal (length skipped) ++ flat_map (reason_words skipped) all_reasons)
    c.as_slice-skipped.ensures.value
    (five_pieces _ _ _ _ _ _ _ _ _ _ _ c.new-line.ensures c.in_ok-push_ascii.ensures.ok
    (c.in_ok-push_number.ensures.ok ∙ ap (λ n. c.push_ascii.new.self ++ decimal n) c.len.ensures.len)
    c.in_ok-push_ascii-2.ensures.ok c.in_ok-push_number-2.ensures.ok c.in_ok-push_reasons.ensures)
