use Rattle.std.proofs.Common.{◌++◌, ◌∷◌, [], ap, ◌∙◌}
use Rattle.retro_path.proofs.Slashes.{child_text, pushed}
use Rattle.retro_path.proofs.path.Path.join.Goals as goal

pub invariant_of-result : goal.invariant_of-result
invariant_of-result c = (child_text _ _ _ c.self.invariant c.requires
    (pushed _ _ _ _ c.in_ok-push.ensures.bytes c.in_ok-push_str.ensures.bytes)).1

pub returns : goal.returns
returns c =
    (child_text _ _ _ c.self.invariant c.requires
    (pushed _ _ _ _ c.in_ok-push.ensures.bytes c.in_ok-push_str.ensures.bytes)).0
    ∙ ap (λ p. p ++ c.args.name.now ∷ []) c.self.view_is
