use Rattle.std.proofs.lemmas.Result.{err_from_is_err_and}
use Rattle.retro_log.proofs.Changes.{fault_read, recorded}
use Rattle.retro_log.proofs.reading.log.recording_of.Goals as goal

pub returns-in_err-of_lawful : goal.returns-in_err-of_lawful
returns-in_err-of_lawful c =
    let p = err_from_is_err_and c.from_residual.result c.from_residual.ensures.1 in
    rw (p.1, p.2)
    (fault_read c.args.first c.args.from c.args.lines.items c.in_err-of_lawful.field-0.0 c.requires.lawful
    c.requires.begins c.requires.own c.requires.of_kind c.in_err-of_lawful.ensures.fault)

pub returns : goal.returns
returns c =
    recorded c.args.first c.args.from c.args.lines.items c.in_ok-of_lawful.field-0
    c.in_ok-of_lawful.ensures.well_formed c.in_ok-of_lawful.ensures.value
