use Rattle.retro_value.specs.Borrowed.{value_data}
use Rattle.retro_json.specs.ReadsAs.{seen}
use Rattle.retro_json.specs.SessionsPart.{var_of}
use Rattle.retro_json.proofs.Worst.{IsValidatedTo}
use Rattle.retro_json.proofs.reading.sessions.read_vars.Given as goal

abbrev pub invariant-loop-item : goal.invariant-loop-item
invariant-loop-item l = IsValidatedTo var_of value_data (seen (λ v. v.items) l.vars) l.items l.item-index
