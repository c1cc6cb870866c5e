use Rattle.std.proofs.Common.{◌∙◌, ap, sym}
use Rattle.casebook_typed.specs.inner.Places.{with_name}
use Rattle.casebook_typed.proofs.NamesSoFar.{next_names}
use Rattle.casebook_typed.proofs.names.Names.of.Goals as goal

pub loop-observation-preserved : goal.loop-observation-preserved
loop-observation-preserved c = record {
  names = c.in_ok-add.ensures.names
      ∙ ap (λ ns. with_name ns c.observation-item.result.record.now.session) c.loop-observation.invariant.names
      ∙ sym (next_names c.args.observations.now c.loop-observation.observation-index c.observation-item.result c.loop-observation-test.true c.observation-item.is);
  places = c.in_ok-add.ensures.places;
}
