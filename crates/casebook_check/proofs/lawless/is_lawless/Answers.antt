use Rattle.std.proofs.Common.{◌≡◌, ◌∙◌, Ok, ap, map, sym}
use Rattle.std.proofs.lemmas.Result.{IfOk-weaker}
use Rattle.retro_value.specs.Borrowed.{value_data}
use Rattle.retro_json.specs.ReadsAs.{seen}
use Rattle.retro_json.specs.TreePart.{row_of}
use Rattle.retro_json.specs.Worst.{every}
use Rattle.retro_json.specs.declared.fault.Part.TheVariants.{Tree}
use Rattle.retro_json.specs.declared.fault.Refusal.TheVariants.{LawlessTree}
use Rattle.casebook_check.proofs.Lists.{is_list, rows_refused}
use Rattle.casebook_check.proofs.lawless.is_lawless.Goals as goal

pub returns-in-Ok : goal.returns-in-Ok
returns-in-Ok c =
    let d = value_data c.args.value.now in
    let items = map value_data c.in-Some.items.now in
    let read : every row_of items ≡ Ok c.in-Ok.rows.items =
    sym c.in_ok-rows.ensures ∙ ap (seen (λ v. v.items)) c.in-Ok.is in
    IfOk-weaker c.are_lawless.result _ _
    (λ yes lawless on. rows_refused d items c.in-Ok.rows.items LawlessTree (is_list Tree d items c.in-Some.ensures) read (lawless on))
    c.are_lawless.ensures
