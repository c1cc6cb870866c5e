use Rattle.std.proofs.Common.{◌∙◌, ap, cond, Some}
use Rattle.casebook_typed.specs.inner.Places.{place_of}
use Rattle.casebook_typed.proofs.Keys.{same_line}
use Rattle.casebook_typed.proofs.marks.LinePlaces.insert.Goals as goal

pub returns : goal.returns
returns c = λ s n.
    c.in_ok-insert.ensures.updates.0 (s, n)
    ∙ ap (λ b. cond b (Some c.args.at) (place_of c.args.self.now s n)) (same_line c.args.session c.args.number s n)
