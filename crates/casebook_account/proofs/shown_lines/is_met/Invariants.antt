-- Whether one of the texts that are left is met, as one of all is.
use Rattle.std.proofs.Common.{◌≡◌, drop}
use Rattle.std.specs.List.{list_any}
use Rattle.casebook_account.proofs.shown_lines.is_met.Given as goal

abbrev pub invariant-loop-text : goal.invariant-loop-text
invariant-loop-text l =
    list_any (λ t. t.is_met) (drop l.text-index l.texts) ≡ list_any (λ t. t.is_met) l.texts
