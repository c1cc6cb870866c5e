use Rattle.std.proofs.Common.{◌≡◌, false, subst, true}
use Rattle.retro_path.specs.Order.{path_eq}
use Rattle.retro_path.specs.Path.{PathValue}
use Rattle.casebook_folder.specs.inner.Memory.{has_path}
use Rattle.casebook_folder.proofs.Parts.{others_stay}
use Rattle.casebook_folder.proofs.memory.MemoryFolder.put.Goals as goal

pub returns-in_ok-insert-clause-other_parts : goal.returns-in_ok-insert-clause-other_parts
returns-in_ok-insert-clause-other_parts c =
    let old = c.args.self.now.parts.keys in
    let new = c.insert.new.self.keys in
    subst (λ p. (q : PathValue) → path_eq p q ≡ false → has_path q new ≡ has_path q old) c.in_ok-copy.ensures
    (others_stay c.in_ok-copy.field-0 old new true c.in_ok-insert.ensures.updates.0)

pub returns-clause-other_parts : goal.returns-clause-other_parts
returns-clause-other_parts c =
    others_stay c.args.path.now c.args.self.now.parts.keys c.remove.new.self.keys false c.remove.ensures.updates.0
