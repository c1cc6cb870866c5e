use Rattle.std.proofs.Common.{false}
use Rattle.casebook_folder.proofs.Parts.{others_stay}
use Rattle.casebook_folder.proofs.memory.MemoryFolder.clear.Goals as goal

pub returns-clause-other_parts : goal.returns-clause-other_parts
returns-clause-other_parts c =
    others_stay c.args.path.now c.args.self.now.parts.keys c.remove.new.self.keys false c.remove.ensures.updates.0
