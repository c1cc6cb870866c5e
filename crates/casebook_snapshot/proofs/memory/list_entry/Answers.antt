use Rattle.std.proofs.Common.{rules}
use Rattle.casebook_snapshot.proofs.Memories.{passes_missing, pushes}
use Rattle.casebook_snapshot.proofs.memory.list_entry.Goals as goal

pub returns-then-is_missing : goal.returns-then-is_missing
returns-then-is_missing c =
    λ root es h. passes_missing root c.args.entries.now c.args.path.now c.args.entry.now es c.args.children.now.items
    (search rules) (search rules) h

pub returns : goal.returns
returns c =
    λ root es h. pushes root c.args.entries.now c.args.path.now c.args.entry.now es c.args.children.now.items
    c.push.new.self.items c.in_ok-copy.field-0 (search rules) (search rules) c.in_ok-copy.ensures.parent
    c.in_ok-copy.ensures.name (search rules) h
