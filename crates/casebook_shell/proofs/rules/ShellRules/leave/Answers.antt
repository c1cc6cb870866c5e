use Rattle.std.proofs.Common.{◌≡◌, ◌∙◌, Bor, List, ℕ, ap, map, rules, tests, true}
use Rattle.casebook_shell.proofs.Sets.{words_mean}
use Rattle.casebook_shell.proofs.rules.ShellRules.leave.Goals as goal

pub returns : goal.returns
returns c =
    let usual : c.self.inside.is_usual ≡ true = search (rules, tests) in
    words_mean c.self.inside.names c.self.inside.is_usual c.args.self.now c.args.text.now _
    c.in_ok-has_any.field-0 c.self.view_is usual
    (ap (map (λ (word : Bor (List ℕ)). word.now)) c.as_slice.ensures.value ∙ c.in_ok-words.ensures)
    c.in_ok-has_any.ensures
