use Rattle.std.proofs.Common.{append_assoc, arith, lit<}
use Rattle.std.proofs.lemmas.List.Elements.{All-from_get_or}
use Rattle.percent_encoding.proofs.PercentLemmas.{IsByte}
use Rattle.casebook_rows.proofs.Escapes.{encoded}
use Rattle.casebook_rows.proofs.writing.push_text.Goals as goal

pub returns : goal.returns
returns c =
    let small =
    All-from_get_or IsByte c.args.text.now 0 (λ i within. omega (arith, c.type_inv.text i)) in
    let text = encoded c.args.text.now small in
    rw (
      c.percent_encode.ensures.text,
      text,
      c.in_ok-push.ensures.bytes,
      c.in_ok-push.ensures.ascii (lit< tt),
      append_assoc,
    ) at c.append_to.ensures.ok
