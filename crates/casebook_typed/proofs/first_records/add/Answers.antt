use Rattle.std.proofs.Common.{◌∙◌, ap, sym}
use Rattle.std.specs.Option.{option_or}
use Rattle.casebook_typed.specs.inner.FirstRecords.{named, value_if}
use Rattle.casebook_typed.proofs.FirstRecords.{named_first}
use Rattle.casebook_typed.proofs.first_records.add.Goals as goal

pub returns-in_ok-insert : goal.returns-in_ok-insert
returns-in_ok-insert g c = λ q.
    named_first c.args.known.now c.insert.new.self c.in_ok-key.key c.args.value
    (sym c.contains_key.ensures ∙ c.if-not-contains_key.true) c.in_ok-insert.ensures.updates.0 q
    ∙ ap (λ key. option_or (named q c.args.known.now) (value_if q key c.args.value.now)) c.in_ok-key.ensures
