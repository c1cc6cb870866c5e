use Rattle.std.proofs.Common.{◌∙◌, sym}
use Rattle.casebook_cli.proofs.Known.{of_ok}
use Rattle.casebook_cli.proofs.summaries.summary_of.Goals as goal

pub returns : goal.returns
returns c =
    of_ok c.of.result _ _ _ c.of.ensures.recording (c.of.ensures.summary c.requires.lines)
    (λ summary says is. record {
      is_summary = is;
      checked = λ yes. c.requires.checked (sym says ∙ yes);
    })
