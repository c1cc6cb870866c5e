use Rattle.std.proofs.Common.{◌∙◌, ap, subst}
use Rattle.std.proofs.lemmas.Result.{IfOk-weaker}
use Rattle.casebook_repairs.specs.Attributes.{AreKnown}
use Rattle.casebook_cli.proofs.Known.{one}
use Rattle.casebook_cli.proofs.restores.restore_of.Goals as goal

pub returns : goal.returns
returns g c =
    IfOk-weaker c.restore_answer.result _ _
    (λ restored is. one (g.D.Folders.holds c.args.folders.now) _ _ is
    (λ at told. record {
      tree = record {
        recorded = c.tree-recorded.result.now;
        repaired = c.tree-repaired.result.now;
        known = c.in_ok-known.known;
      };
      recorded = c.tree-recorded.ensures ∙ ap (λ s. s.tree) c.last.ensures.value;
      repaired = c.tree-repaired.ensures ∙ ap (λ s. s.tree) c.state.ensures;
      known = subst (λ seen. AreKnown c.args.asked.now.repair.recording.lines seen c.in_ok-known.known)
          c.as_slice.ensures.value c.in_ok-known.ensures;
      is_restored = told;
    }))
    c.restore_answer.ensures
