use Rattle.std.proofs.Common.{arith}
use Rattle.casebook_text.proofs.Writing.{only_one}
use Rattle.casebook_text.proofs.HtmlLemmas.{ampersand_written, less_than_written}
use Rattle.casebook_text.proofs.HtmlLemmas.{greater_than_written}
use Rattle.casebook_text.proofs.HtmlLemmas.{double_quote_written, single_quote_written, plain_kept}
use Rattle.casebook_text.proofs.html.push_escaped.Goals as goal

pub returns-in-38 : goal.returns-in-38
returns-in-38 c = only_one _ _ _ _ _ c.push_str.ensures.bytes (ampersand_written c.args.c c.in-38.is)

pub returns-in-60 : goal.returns-in-60
returns-in-60 c = only_one _ _ _ _ _ c.push_str-in-60.ensures.bytes (less_than_written c.args.c c.in-60.is)

pub returns-in-62 : goal.returns-in-62
returns-in-62 c = only_one _ _ _ _ _ c.push_str-in-62.ensures.bytes (greater_than_written c.args.c c.in-62.is)

pub returns-in-34 : goal.returns-in-34
returns-in-34 c = only_one _ _ _ _ _ c.push_str-in-34.ensures.bytes (double_quote_written c.args.c c.in-34.is)

pub returns-in-39 : goal.returns-in-39
returns-in-39 c = only_one _ _ _ _ _ c.push_str-in-39.ensures.bytes (single_quote_written c.args.c c.in-39.is)

pub returns-in_default : goal.returns-in_default
returns-in_default c =
    only_one _ _ _ _ _ c.push.ensures.bytes
    (plain_kept c.args.c (record {
      ampersand = λ e. absurd (omega arith);
      less_than = λ e. absurd (omega arith);
      greater_than = λ e. absurd (omega arith);
      double_quote = λ e. absurd (omega arith);
      single_quote = λ e. absurd (omega arith);
    }))
