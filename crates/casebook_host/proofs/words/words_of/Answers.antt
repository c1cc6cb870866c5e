use Rattle.std.proofs.Common.{rules, tests}
use Rattle.std.proofs.lemmas.Iterator.Consumers.{YieldsList-from_filter, map_from_collect}
use Rattle.std.proofs.lemmas.Iterator.Splits.{YieldsList-from_slice_split}
use Rattle.casebook_host.specs.Words.{has_bytes, is_blank, words_of}
use Rattle.casebook_host.proofs.words.words_of.Goals as goal

pub returns : goal.returns
unfolding words_of
returns c = map_from_collect _ c.collect.ensures.ran
    (YieldsList-from_filter _ has_bytes
    (YieldsList-from_slice_split _ is_blank c.args.row.now (cc) (cc) (cc)
    (λ x r q k. search (rules, tests)))
    c.filter.ensures.closure (λ x r q k. search (rules, tests)))
