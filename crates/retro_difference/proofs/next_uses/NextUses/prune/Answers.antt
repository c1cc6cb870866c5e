use Rattle.std.proofs.Common.{◌≡◌, ◌∙◌, List, ap, subst, sym, true}
use Rattle.retro_difference.specs.NextUses.{Use, has_use, is_first_over}
use Rattle.retro_difference.proofs.Entries.{popped_kept, popped_only}
use Rattle.retro_difference.proofs.next_uses.NextUses.prune.Goals as goal

pub loop-self-preserved-in-loop-self : goal.loop-self-preserved-in-loop-self
loop-self-preserved-in-loop-self c = record {
  only = λ n d has.
      c.loop-self.invariant.only n d (subst (λ (us : List Use). has_use n d us ≡ true) c.self.view_is
      (popped_only c.self.inside.uses.keys c.pop_first.new.self.keys c.pop_first.result c.pop_first.ensures.removal
      c.pop_first.ensures.unchanged n d has));
  kept = λ n d more key has.
      popped_kept c.args.after c.args.overlay.now c.self.inside.uses.keys c.pop_first.new.self.keys c.pop_first.result
      (ap (is_first_over c.args.after c.args.overlay.now) c.self.view_is ∙ sym c.is_first_over.ensures
      ∙ c.loop-self-test.true) c.pop_first.ensures.removal c.pop_first.ensures.unchanged n d more key
      (subst (λ (us : List Use). has_use n d us ≡ true) (sym c.self.view_is)
      (c.loop-self.invariant.kept n d more key has));
  sorted = λ sorted. c.pop_first.ensures.ordered;
}

pub loop-self-preserved-in-loop-self-2 : goal.loop-self-preserved-in-loop-self-2
loop-self-preserved-in-loop-self-2 c = record {
  only = λ n d has.
      c.loop-self.invariant.only n d (subst (λ (us : List Use). has_use n d us ≡ true) c.self.view_is
      (popped_only c.self.inside.uses.keys c.pop_first.new.self.keys c.pop_first.result c.pop_first.ensures.removal
      c.pop_first.ensures.unchanged n d has));
  kept = λ n d more key has.
      popped_kept c.args.after c.args.overlay.now c.self.inside.uses.keys c.pop_first.new.self.keys c.pop_first.result
      (ap (is_first_over c.args.after c.args.overlay.now) c.self.view_is ∙ sym c.is_first_over.ensures
      ∙ c.loop-self-test.true) c.pop_first.ensures.removal c.pop_first.ensures.unchanged n d more key
      (subst (λ (us : List Use). has_use n d us ≡ true) (sym c.self.view_is)
      (c.loop-self.invariant.kept n d more key has));
  sorted = λ sorted. c.pop_first.ensures.ordered;
}
