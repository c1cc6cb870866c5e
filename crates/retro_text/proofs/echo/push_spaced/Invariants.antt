use Rattle.std.proofs.Common.{◌≡◌, ◌++◌, map, drop}
use Rattle.std.specs.Prelude.{string_bytes}
use Rattle.retro_text.specs.Output.{spaced}
use Rattle.retro_text.proofs.echo.push_spaced.Given as goal

abbrev pub invariant-loop-operand : goal.invariant-loop-operand
invariant-loop-operand l =
    l.text ++ spaced (map string_bytes (drop l.operand-index l.operands))
    ≡ l.fn.text ++ spaced (map string_bytes l.operands)
