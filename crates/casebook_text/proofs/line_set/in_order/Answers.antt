use Rattle.std.specs.BTreeSet.{IsFromIterResult}
use Rattle.std.proofs.lemmas.Iterator.{YieldsList-from_slice}
use Rattle.std.proofs.lemmas.Iterator.Adapters.{fact_from_collect}
use Rattle.std.proofs.lemmas.Iterator.Consumers.{YieldsList-from_copied}
use Rattle.casebook_text.specs.inner.LineSets.{pair_cmp}
use Rattle.casebook_text.proofs.line_set.in_order.Goals as goal

pub returns : goal.returns
returns c =
    fact_from_collect (IsFromIterResult pair_cmp) c.collect.result c.collect.ensures.ran
    (YieldsList-from_copied (YieldsList-from_slice c.args.lines.now cc))
