use Rattle.std.proofs.Common.{FitsSigned, w64}
use Rattle.std.proofs.lemmas.Int.{to_z-of_z}
use Rattle.casebook_about.specs.Time.{instant_format}
use Rattle.casebook_about.proofs.TimeLemmas.{shown_so}
use Rattle.casebook_about.proofs.time.instant_text.Goals as goal

pub returns : goal.returns
returns c =
    let fits : FitsSigned w64 c.args.second = c.ranges.second in
    let instant = simp to_z-of_z at c.in_ok-from_second.ensures.value in
    shown_so instant_format c.args.second c.in_ok-from_second.field-0.nanosecond c.strftime.result instant c.strftime.ensures
