use Rattle.std.proofs.Common.{◌≡◌, ◌∙◌, ap, arith}
use Rattle.json.specs.Json.{parse_map}
use Rattle.serde_json.specs.Data.{Data, item}
use Rattle.retro_value.specs.Left.{items_left}
use Rattle.retro_value.proofs.Left.{none_before, one_before}
use Rattle.retro_value.proofs.skip.pass_items.Goals as goal

pub items-init : goal.items-init
items-init c = (λ ds. ds, none_before (items_left c.args.depth c.args.reader.now))

pub items-preserved : goal.items-preserved
items-preserved c =
    let before = c.items.invariant.0 in
    let left = items_left c.args.depth c.pass_item.new.reader in
    let read : (d : Data) × (items_left c.args.depth c.items.reader ≡ parse_map (item d) left) = grind arith in (
      λ ds. before (item read.0 ds),
      c.items.invariant.1 ∙ ap (parse_map before) read.1 ∙ one_before before (item read.0) left,
    )
