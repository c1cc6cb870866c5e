use Rattle.std.proofs.Common.{◌≡◌, [], ◌++◌, OnOk, ap, subst, unwrap_or}
use Rattle.casebook_words.specs.Cut.{cut_words, first_text}
use Rattle.casebook_words.proofs.cut.push_first_line.Goals as goal

pub returns-in-None : goal.returns-in-None
returns-in-None c =
    let none : [] ≡ first_text c.args.text.now = ap (λ o. unwrap_or o []) c.in-None.ensures.value in
    subst (λ t. OnOk c.push_cut-in-None.result (c.push_cut-in-None.new.line ≡ c.args.line.now ++ cut_words c.args.limit t)) none
    c.push_cut-in-None.ensures
