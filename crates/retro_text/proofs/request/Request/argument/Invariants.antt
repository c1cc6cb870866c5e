use Rattle.std.proofs.Common.{◌≡◌, drop}
use Rattle.std.specs.Option.{option_copied}
use Rattle.retro_text.specs.Request.{last_argument, argument_of}
use Rattle.retro_text.proofs.request.Request.argument.Given as goal

abbrev pub invariant-loop-option : goal.invariant-loop-option
invariant-loop-option l = last_argument (option_copied l.argument) l.letter (drop l.option-index l.option-items)
    ≡ argument_of l.letter l.option-items
