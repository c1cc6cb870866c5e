use Rattle.std.proofs.Common.{◌≡◌, ◌∙◌, ap, sym}
use Rattle.json.specs.Json as json
use Rattle.json.specs.Value.{members_view}
use Rattle.json.proofs.Trees.{view-Object}
use Rattle.retro_value.specs.Borrowed.{data_of, value_data}
use Rattle.casebook_snapshot_read.specs.Members.{has_only_keys}
use Rattle.casebook_snapshot_read.proofs.Lookups.{keys_of_members}
use Rattle.casebook_snapshot_read.proofs.members.has_only_keys.Goals as goal

pub loop-member-init : goal.loop-member-init
loop-member-init c =
    let items = c.deref-member-items.result.now in
    let same : value_data c.args.value.now ≡ data_of (json.object (members_view items)) =
    ap (λ v. value_data v) c.in-Object.is ∙ ap data_of (view-Object c.in-Object.members)
    ∙ ap (λ ms. data_of (json.object (members_view ms))) (sym c.deref-member-items.ensures.value) in
    sym (ap has_only_keys same ∙ keys_of_members (members_view items))
