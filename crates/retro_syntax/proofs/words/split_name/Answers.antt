use Rattle.std.proofs.Common.{◌≡◌, ℕ, List, Bor, Option, true, false, option_map, sym, ap, ◌∙◌}
use Rattle.retro_path.specs.VarName.{is_shell_name}
use Rattle.retro_syntax.proofs.WordLemmas.{split_once_is, split_name_is, split_name_none}
use Rattle.retro_syntax.proofs.words.split_name.Goals as goal

abbrev parts : Option (Bor (List ℕ) × Bor (List ℕ)) → Option (List ℕ × List ℕ)
parts r = option_map (λ x. (x.0.now, x.1.now)) r

pub returns-then-is_shell_name : goal.returns-then-is_shell_name
returns-then-is_shell_name c =
    let e = split_once_is c.args.text.now c.split_once.result c.split_once.ensures.cases ∙ ap parts c.in_ok-name.was in
    let n : is_shell_name c.in_ok-name.name.now ≡ true = sym c.is_shell_name.ensures ∙ c.if-is_shell_name.true in
    sym (split_name_is c.args.text.now c.in_ok-name.name.now c.in_ok-name.value.now true e n)

pub returns-else-is_shell_name : goal.returns-else-is_shell_name
returns-else-is_shell_name c =
    let e = split_once_is c.args.text.now c.split_once.result c.split_once.ensures.cases ∙ ap parts c.in_ok-name.was in
    let n : is_shell_name c.in_ok-name.name.now ≡ false = sym c.is_shell_name.ensures ∙ c.if-is_shell_name.false in
    sym (split_name_is c.args.text.now c.in_ok-name.name.now c.in_ok-name.value.now false e n)

pub returns-in_err-name : goal.returns-in_err-name
returns-in_err-name c =
    ap parts c.from_residual.ensures
    ∙ sym
    (split_name_none c.args.text.now (split_once_is c.args.text.now c.split_once.result c.split_once.ensures.cases
    ∙ ap parts c.in_err-name.was))
