use Rattle.std.proofs.Common.{rules}
use Rattle.casebook_snapshot.proofs.Names.{plain_path}
use Rattle.casebook_snapshot.proofs.child.Child.path.Goals as goal

pub returns-in_ok-child-in-Some : goal.returns-in_ok-child-in-Some
returns-in_ok-child-in-Some c =
    plain_path c.args.self.now c.in_ok-child-in-Some.field-0 c.in-Some.name (search rules) (search rules)
    (search rules) (search rules) (search rules) (search rules)
