use Rattle.std.proofs.Common.{◌≡◌, take}
use Rattle.std.specs.List.{flat_map}
use Rattle.casebook_account.specs.Shown.{output_in}
use Rattle.casebook_account.proofs.shown.outputs.Given as goal

abbrev pub invariant-loop-text : goal.invariant-loop-text
invariant-loop-text l = l.output ≡ flat_map output_in (take l.text-index l.texts)
