use Rattle.std.proofs.Common.{◌++◌, ◌∙◌, ap, ap₂, append_assoc, codes, decimal, map}
use Rattle.std.specs.List.{join_with_byte}
use Rattle.retro_tree.proofs.Results.{on_ok}
use Rattle.casebook_text.specs.Lists.{comma}
use Rattle.casebook_compare.specs.Words.{last_of, last_words}
use Rattle.casebook_compare.proofs.words.push_last.Goals as goal

pub returns : goal.returns
unfolding last_words
returns c =
    let list = c.in_ok-list.ensures ∙ ap (λ ns. join_with_byte comma (map decimal ns)) c.last_of.ensures in
    on_ok c.push_line.result _ _
    (λ is. is ∙ ap₂ ◌++◌ c.in_ok-push_ascii.ensures.ok list
    ∙ append_assoc c.args.line.now (codes "; last written by ")
    (join_with_byte comma (map decimal (last_of c.args.numbers.now))))
    c.push_line.ensures.ok
