use Rattle.std.proofs.Common.{◌≡◌, Some}
use Rattle.std.proofs.lemmas.Result.{IfOk-weaker}
use Rattle.std.proofs.lemmas.Str.{is_utf8-from_IsUtf8}
use Rattle.retro_value.specs.Borrowed.{value_data}
use Rattle.retro_log.specs.Document.{json_of}
use Rattle.casebook_check.specs.Place.{inside, whole}
use Rattle.casebook_check.proofs.finding.place_in_text.Goals as goal

pub returns-in-Ok : goal.returns-in-Ok
returns-in-Ok c =
    let read : json_of c.args.text.now ≡ Some (value_data c.in-Ok.value) =
    rw (is_utf8-from_IsUtf8 c.args.text.now c.requires) c.in-Ok.ensures.value in
    IfOk-weaker c.place_in_value.result _ _ (λ place at. inside (value_data c.in-Ok.value) read at)
    c.place_in_value.ensures

pub returns : goal.returns
returns c = whole
