use Rattle.std.specs.List.{AllWithin}
use Rattle.casebook_real.specs.Based.{HasItsBasis}
use Rattle.casebook_real.proofs.based.first_without_basis.Given as goal

abbrev pub invariant-loop-index : goal.invariant-loop-index
invariant-loop-index l = AllWithin (HasItsBasis l.repair.recording) l.texts 0 l.index
