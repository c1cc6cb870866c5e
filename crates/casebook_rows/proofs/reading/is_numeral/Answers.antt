use Rattle.std.proofs.Common.{◌≡◌, ◌∙◌, ◌==◌, false, length, sym, refl, rules, tests}
use Rattle.std.specs.List.{list_all}
use Rattle.std.specs.Char.{is_digit}
use Rattle.std.proofs.lemmas.Iterator.{YieldsList-from_slice}
use Rattle.std.proofs.lemmas.Iterator.Search.{all_from_yields_List}
use Rattle.casebook_rows.proofs.reading.is_numeral.Goals as goal

pub returns-then-not-is_empty : goal.returns-then-not-is_empty
returns-then-not-is_empty c =
    let all : c.all.result ≡ list_all (λ d. is_digit d c.args.base) c.args.field.now =
    all_from_yields_List (λ d. is_digit d c.args.base) _ _ c.all.result c.all.ensures.ran
    (YieldsList-from_slice c.args.field.now cc) (λ x b q k. search (rules, tests)) in
    let some : (length c.args.field.now == 0) ≡ false =
    sym c.is_empty.ensures ∙ c.if-not-is_empty.true in
    rw (all, some) refl
