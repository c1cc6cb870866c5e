use Rattle.std.proofs.Common.{◌∙◌, ap}
use Rattle.casebook_typed.specs.Sessions.{first_record, first_start, place_in}
use Rattle.casebook_typed.specs.inner.Places.{names_in, number_at}
use Rattle.casebook_typed.proofs.FirstRecords.{session_is}
use Rattle.casebook_typed.proofs.typed.session_of.Goals as goal

pub returns : goal.returns
returns c = λ records firsts counted.
    session_is (names_in c.args.names.now) records c.args.name.now _ _ c.in_ok-parent.parent c.at.result
    (c.record.ensures records firsts ∙ ap (λ key. first_record key records) c.in_ok-key.ensures)
    (c.start-start.ensures records firsts ∙ ap (λ key. first_start key records) c.in_ok-key.ensures)
    c.in_ok-parent.ensures
    (c.at.ensures
    ∙ ap (number_at c.args.missing.now) (c.at-place.ensures ∙ c.requires c.in_ok-key.key
    ∙ ap (place_in (names_in c.args.names.now)) c.in_ok-key.ensures)
    ∙ counted (place_in (names_in c.args.names.now) c.args.name.now))
