use Rattle.std.proofs.Common.{rules, ◌≡◌, ◌∙◌, ◌∷◌, [], refl, sym, ap, subst}
use Rattle.retro_tree.specs.Path.{parent_of}
use Rattle.retro_tree.specs.Tree.{node_in}
use Rattle.retro_tree.specs.declared.node.Node.TheVariants.{Dir}
use Rattle.retro_local.specs.Trace.{reached}
use Rattle.retro_utils.specs.inner.MkdirSteps.{make_each, and_then}
use Rattle.retro_utils.proofs.Parents.{root_is_dir, all_left, next_left, none_left, parent_of_next}
use Rattle.retro_utils.proofs.Parents.{made_is_dir, one_further, one_failed}
use Rattle.retro_utils.proofs.utilities.mkdir_parents.make_each.Goals as goal

pub loop-prefix-init : goal.loop-prefix-init
loop-prefix-init g c = record {
  at = [];
  names = c.args.path.now;
  left = c.into_iter-prefix-iterator.ensures.into_iter_gives.0 ∙ c.in_ok-prefix-items.ensures
      ∙ all_left c.args.path.now;
  extends = record { start = search rules; later = λ base e. e; tree = search rules };
  directory = λ s l h k. root_is_dir _ k;
  continues = record { held = λ s l h. h; means = λ s l h. search rules };
}

pub make_step-requires : goal.make_step-requires
make_step-requires g c =
    let before = c.loop-prefix.invariant in
    let next = next_left before.at before.names c.in-Some.prefix c.next.new.self.rest.items
    (sym c.in-Some.ensures.steps.0 ∙ before.left) in
    λ s l h k. subst (λ q. node_in q (reached c.loop-prefix.local.notes s).tree ≡ Dir)
    (sym (ap parent_of next.here ∙ parent_of_next before.at next.name)) (before.directory s l h k)

pub returns-in-Err-clause-means : goal.returns-in-Err-clause-means
returns-in-Err-clause-means g c =
    let before = c.loop-prefix.invariant in
    let next = next_left before.at before.names c.in-Some.prefix c.next.new.self.rest.items
    (sym c.in-Some.ensures.steps.0 ∙ before.left) in
    let step = rw c.in-Err.is at c.in_ok-make_step.ensures.means in record {
      held = λ s l h. before.continues.held s l (step.held s l h);
      means = λ s l h. before.continues.means s l (step.held s l h)
          ∙ one_failed c.args.path.now before.at c.in-Some.prefix before.names next.later next.name c.in-Err.reason
          (reached c.loop-prefix.local.notes s) (reached c.make_step.new.local.notes s)
          next.names_are next.here (step.means s l h);
    }

pub loop-prefix-preserved : goal.loop-prefix-preserved
loop-prefix-preserved g c =
    let before = c.loop-prefix.invariant in
    let next = next_left before.at before.names c.in-Some.prefix c.next.new.self.rest.items
    (sym c.in-Some.ensures.steps.0 ∙ before.left) in
    let step = rw c.in-Ok.is at c.in_ok-make_step.ensures.means in record {
      at = c.in-Some.prefix;
      names = next.later;
      left = next.left;
      extends = record { start = search rules; later = λ base e. search rules; tree = search rules };
      directory = λ s l h k. made_is_dir _ _ (reached c.loop-prefix.local.notes s) _ (step.means s l h);
      continues = record {
        held = λ s l h. before.continues.held s l (step.held s l h);
        means = λ s l h. before.continues.means s l (step.held s l h)
            ∙ one_further c.args.path.now before.at c.in-Some.prefix before.names next.later next.name
            (reached c.loop-prefix.local.notes s) (reached c.make_step.new.local.notes s)
            next.names_are next.here (step.means s l h);
      };
    }

pub returns-clause-means : goal.returns-clause-means
returns-clause-means g c =
    let before = c.loop-prefix.invariant in
    let done = none_left before.at before.names c.loop-prefix.prefix-iterator.rest.items before.left
    (sym c.loop-prefix.prefix-iterator.rest.ok.0 ∙ c.in-None.ensures.steps.0) in record {
      held = before.continues.held;
      means = λ s l h. before.continues.means s l h
          ∙ ap (λ ns. make_each c.args.path.now before.at ns (reached c.loop-prefix.local.notes s)) done;
    }
