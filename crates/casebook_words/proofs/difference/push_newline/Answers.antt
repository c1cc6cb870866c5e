use Rattle.std.proofs.Common.{ap, append_assoc, codes, ◌++◌, ◌∙◌}
use Rattle.casebook_words.specs.Difference.{newline_words, side_words}
use Rattle.casebook_words.proofs.difference.push_newline.Goals as goal

pub returns : goal.returns
unfolding newline_words
returns c =
    c.in_ok-push_sides.ensures ∙ ap (λ t. t ++ side_words c.args.is_old) c.in_ok-push_ascii.ensures.ok
    ∙ append_assoc c.args.line.now (codes " last newline") (side_words c.args.is_old)
