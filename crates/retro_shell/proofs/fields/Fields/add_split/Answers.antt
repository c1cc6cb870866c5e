-- What is left is shorter after each part.
use Rattle.std.proofs.Common.{ap, sym, ◌∙◌, option_map}
use Rattle.retro_shell.proofs.FieldLemmas.{rest_shorter}
use Rattle.retro_shell.proofs.fields.Fields.add_split.Goals as goal

pub loop-more-smaller : goal.loop-more-smaller
loop-more-smaller c =
    rest_shorter c.loop-more.rest.now c.split_at_blank.result.0.now c.in-Some.more.now
    (ap (λ rest. (c.split_at_blank.result.0.now, option_map (λ text. text.now) rest)) (sym c.in-Some.is)
    ∙ c.split_at_blank.ensures)
