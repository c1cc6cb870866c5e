use Rattle.std.proofs.Common.{◌++◌, ◌∙◌, ap, arith}
use Rattle.std.specs.Prelude.{string_bytes, map, take, drop, length, ◌-◌}
use Rattle.retro_text.specs.Output.{spaced}
use Rattle.retro_text.proofs.Joining.{list_joins}
use Rattle.retro_text.proofs.echo.push_joined.Goals as goal

pub returns-in_ok-push_spaced : goal.returns-in_ok-push_spaced
returns-in_ok-push_spaced c =
    let operands = c.args.operands.now in
    let rest = spaced (map string_bytes (take (length operands - 1) (drop 1 operands))) in
    c.in_ok-push_spaced.ensures
    ∙ ap (λ text. text ++ rest)
    (c.in_ok-extend.ensures.ok ∙ ap (λ bytes. c.args.text.now ++ bytes) c.as_bytes.ensures.value)
    ∙ list_joins string_bytes c.args.text.now operands c.first-item.result (omega arith) c.first-item.is
