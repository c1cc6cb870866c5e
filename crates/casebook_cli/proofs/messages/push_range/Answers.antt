use Rattle.std.proofs.Common.{◌≡◌, List, ℕ, ◌++◌, Result, Ok, Err, OnOk, append_assoc, codes, refl}
use Rattle.casebook_cli.specs.Messages.{counted}
use Rattle.casebook_cli.proofs.messages.push_range.Goals as goal

-- what two calls append
both : {T E : Type 0} (r : Result T E) (old mid new a b : List ℕ) → mid ≡ old ++ a → OnOk r (new ≡ mid ++ b)
    → OnOk r (new ≡ old ++ (a ++ b))
both (Ok x) old mid new a b e h = rw (h, e, append_assoc) refl
both (Err x) old mid new a b e h = tt

pub returns : goal.returns
returns c =
    both c.push_counted-2.result c.args.line.now c.push_counted.new.line c.push_counted-2.new.line
    (counted (codes "no line has a number from ") c.args.first) (counted (codes " to ") c.args.last)
    c.in_ok-push_counted.ensures c.push_counted-2.ensures
