use Rattle.std.proofs.Common.{◌++◌, ◌∷◌, [], ap, ◌∙◌, arith}
use Rattle.retro_path.proofs.Slashes.{child_text, copied_and_pushed, few_names_in}
use Rattle.retro_path.proofs.path.Path.child.Goals as goal

pub invariant_of-result : goal.invariant_of-result
invariant_of-result c = (child_text _ _ _ c.self.invariant c.as_str-name.ensures.name
    (copied_and_pushed _ _ _ _ _ _ _ _ c.in_ok-text.ensures.bytes c.in_ok-push_str.ensures.bytes c.as_str.ensures.value
    c.in_ok-push.ensures.bytes c.in_ok-push_str-2.ensures.bytes c.as_str-name.ensures.value)).1

pub returns-clause-value : goal.returns-clause-value
returns-clause-value c = (child_text _ _ _ c.self.invariant c.as_str-name.ensures.name
    (copied_and_pushed _ _ _ _ _ _ _ _ c.in_ok-text.ensures.bytes c.in_ok-push_str.ensures.bytes c.as_str.ensures.value
    c.in_ok-push.ensures.bytes c.in_ok-push_str-2.ensures.bytes c.as_str-name.ensures.value)).0
    ∙ ap (λ p. p ++ c.args.name.now ∷ []) c.self.view_is

pub returns-clause-length : goal.returns-clause-length
returns-clause-length c =
    let few = few_names_in _ (child_text _ _ _ c.self.invariant c.as_str-name.ensures.name
    (copied_and_pushed _ _ _ _ _ _ _ _ c.in_ok-text.ensures.bytes c.in_ok-push_str.ensures.bytes
    c.as_str.ensures.value c.in_ok-push.ensures.bytes c.in_ok-push_str-2.ensures.bytes
    c.as_str-name.ensures.value)).1 in
    let bytes = c.push_str-2.new.self.bytes in
    omega (arith, few, bytes.ok, bytes.small)
