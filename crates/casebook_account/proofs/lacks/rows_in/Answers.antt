use Rattle.std.proofs.Common.{rules, tests, ◌==◌}
use Rattle.std.proofs.lemmas.Iterator.Consumers.{YieldsList-from_filter, map_from_collect}
use Rattle.std.proofs.lemmas.Iterator.Splits.{YieldsList-from_slice_split}
use Rattle.retro_path.specs.Ascii.{newline}
use Rattle.casebook_account.specs.Lacks.{has_bytes}
use Rattle.casebook_account.proofs.lacks.rows_in.Goals as goal

pub returns : goal.returns
returns c = map_from_collect _ c.collect.ensures.ran
    (YieldsList-from_filter _ has_bytes
    (YieldsList-from_slice_split _ (λ b. b == newline) c.args.text.now (cc) (cc) (cc)
    (λ x r q k. search (rules, tests)))
    c.filter.ensures.closure (λ x r q k. search (rules, tests)))
