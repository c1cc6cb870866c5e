use Rattle.std.proofs.Common.{◌∙◌, rules}
use Rattle.casebook_needs.proofs.BelowPrefixes.{below_other, below_root}
use Rattle.casebook_needs.proofs.below.is_below.Goals as goal

pub returns-then-contains : goal.returns-then-contains
returns-then-contains c = λ paths has.
    below_root c.args.directories.now paths c.args.path.now (search rules) has

pub returns : goal.returns
returns c = λ paths has. let any : _ = below_other c.args.directories.now paths c.args.path.now
    (search rules) has in
    search rules ∙ any
