use Rattle.std.proofs.Common.{◌≡◌, [], ◌∷◌, Some, None, take, drop, lit<, arith, refl, ap, sym, ◌∙◌}
use Rattle.std.proofs.lemmas.Grind.{common_steps}
use Rattle.std.proofs.lemmas.Str.Pattern.{find_char, strip_prefix_char}
use Rattle.retro_path.proofs.Slashes.{empty_text, free_from_places}
use Rattle.retro_path.proofs.FirstName.{no_first, only_first, name_before}
use Rattle.retro_path.proofs.names.split_first.Goals as goal

pub returns-in-Some-find : goal.returns-in-Some-find
returns-in-Some-find c =
    let after = strip_prefix_char 47 _ (Some c.in-Some.text) c.in-Some.ensures.cases (lit< tt) in
    let found = find_char 47 _ (Some c.in-Some-find.end) c.in-Some-find.ensures.cases (lit< tt) in
    let name : c.range.result.now ≡ take c.in-Some-find.end c.in-Some.text.now = grind (arith, common_steps) in
    let rest : c.range_from.result.now ≡ drop c.in-Some-find.end c.in-Some.text.now = grind (arith, common_steps) in
    name_before _ _ _ _ _ c.requires after found.0 found.1 found.2 name rest

pub returns-in-None-find : goal.returns-in-None-find
returns-in-None-find c =
    let after = strip_prefix_char 47 _ (Some c.in-Some.text) c.in-Some.ensures.cases (lit< tt) in
    let none = find_char 47 c.in-Some.text.now None c.in-None-find.ensures.cases (lit< tt) in
    let empty = empty_text [] refl in (
      only_first _ _ c.requires (free_from_places _ none) after
          ∙ ap (λ ns. c.in-Some.text.now ∷ ns) (sym empty.0),
      empty.1,
    )

pub returns-in-None : goal.returns-in-None
returns-in-None c = no_first _ c.requires (strip_prefix_char 47 _ None c.in-None.ensures.cases (lit< tt))
