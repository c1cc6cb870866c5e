use Rattle.std.proofs.Common.{◌≡◌, ◌∙◌, ap, sym}
use Rattle.std.specs.Prelude.{is_some}
use Rattle.json.specs.Json as json
use Rattle.json.specs.Value.{members_view}
use Rattle.json.proofs.Trees.{view-Object}
use Rattle.serde_json.specs.Find.{get}
use Rattle.retro_value.specs.Borrowed.{data_of, value_data}
use Rattle.retro_log.specs.Document.{is_key}
use Rattle.casebook_check.specs.Keys.{known_keys}
use Rattle.casebook_check.proofs.Lookups.{has_key}
use Rattle.casebook_check.proofs.members.other_key.Goals as goal

pub returns-then-not-may_have : goal.returns-then-not-may_have
returns-then-not-may_have c =
    let key = c.member-item.result.0.now in
    let same : value_data c.args.value.now ≡ data_of (json.object (members_view c.deref-member-items.result.now)) =
    ap (λ v. value_data v) c.in-Object.is ∙ ap data_of (view-Object c.in-Object.members)
    ∙ ap (λ ms. data_of (json.object (members_view ms))) (sym c.deref-member-items.ensures.value) in (
      ap (λ d. is_some (get key d)) same
          ∙ has_key c.deref-member-items.result.now c.loop-member.member-index _ c.member-item.result
          c.loop-member-test.true c.member-item.is,
      ap (λ first. is_key (known_keys c.args.kind first) key) (sym c.is_log_of-is_first_version.ensures)
          ∙ sym c.may_have.ensures ∙ c.if-not-may_have.true,
    )
