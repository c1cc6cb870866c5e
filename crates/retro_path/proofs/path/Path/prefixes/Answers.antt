use Rattle.std.proofs.Common.{◌≡◌, ◌++◌, ◌∷◌, [], sym, ap, ◌∙◌, append_assoc}
use Rattle.std.specs.List.{list_all}
use Rattle.retro_path.specs.Name.{is_name}
use Rattle.retro_path.proofs.Slashes.{and_last}
use Rattle.retro_path.proofs.Prefixes.{one_more}
use Rattle.retro_path.proofs.path.Path.prefixes.Goals as goal

pub loop-name-preserved : goal.loop-name-preserved
loop-name-preserved c =
    let so_far = c.loop-name.invariant in
    let name = c.in-Some.name.now in
    let next : c.loop-name.name-iterator ≡ name ∷ c.next.new.self = c.in-Some.ensures.steps in
    record {
      all = ap (λ p. p ++ c.next.new.self) c.in_ok-prefix.ensures
          ∙ append_assoc c.loop-name.prefix (name ∷ []) c.next.new.self
          ∙ ap (λ r. c.loop-name.prefix ++ r) (sym next) ∙ so_far.all;
      names = and_last _ _ (ap (list_all is_name) (sym next) ∙ so_far.names);
      prefixes = one_more _ _ _ _ _ _ c.in_ok-prefix.ensures c.in_ok-copy.ensures so_far.prefixes
          c.in_ok-push.ensures.items;
    }
