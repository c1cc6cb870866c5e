use Rattle.std.proofs.Common.{rules, ◌∙◌, ◌++◌, ◌∷◌, [], ap}
use Rattle.casebook_snapshot.specs.declared.child.Child.{Child}
use Rattle.casebook_snapshot.proofs.Placing.{is_towards}
use Rattle.casebook_snapshot.proofs.placed.child_towards.Goals as goal

pub returns : goal.returns
returns c =
    let child : Child = record { parent = c.in_ok-parent.parent; name = c.extend_from_slice.new.self } in
    is_towards c.args.path.now c.args.at.now c.strip_prefix.result c.in-Some.names c.next.new.self
    c.in-Some-next.first.now child c.push.new.self.items c.strip_prefix.ensures c.in-Some.is
    c.in-Some-next.ensures.steps
    (c.in_ok-push.ensures.items ∙ ap (λ l. l ++ child ∷ []) c.new-children.ensures.items)
    c.in_ok-parent.ensures (search rules)
