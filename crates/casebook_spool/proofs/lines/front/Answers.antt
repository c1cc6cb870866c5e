use Rattle.std.proofs.Common.{◌-◌, length, map, take, sym, ap, ◌∙◌}
use Rattle.std.proofs.lemmas.List.{length-map, take-map}
use Rattle.casebook_spool.proofs.lines.front.Goals as goal

pub returns-in-len1-up : goal.returns-in-len1-up
returns-in-len1-up c =
    sym (take-map (λ row. row.now) (length c.args.rows.now - 1) c.args.rows.now)
    ∙ ap (λ n. take (n - 1) (map (λ row. row.now) c.args.rows.now)) (sym (length-map c.args.rows.now (λ row. row.now)))
