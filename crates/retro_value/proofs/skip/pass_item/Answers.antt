use Rattle.std.proofs.Common.{◌≡◌, ℕ, List, Bool, Option, Some, None, Global, is_some}
use Rattle.std.specs.Prelude.{MatchOption}
use Rattle.std.specs.Bool.{MatchBool}
use Rattle.json.specs.Json.{parse_map}
use Rattle.json.specs.Token.{Token}
use Rattle.json.specs.declared.value.Value.{Value}
use Rattle.serde_json.specs.Data.{Data, item, no_items}
use Rattle.retro_value.specs.Borrowed.{value_data}
use Rattle.retro_value.specs.Left.{items_left}
use Rattle.retro_value.proofs.skip.pass_item.Goals as goal

passed : (depth : ℕ) (old new : List Token) (o : Option (Value Global)) (more : Bool) → more ≡ is_some o
    → MatchOption o (items_left depth old ≡ Some (no_items, new))
    (λ v. items_left depth old ≡ parse_map (item (value_data v)) (items_left depth new))
    → MatchBool more ((d : Data) × (items_left depth old ≡ parse_map (item d) (items_left depth new)))
    (items_left depth old ≡ Some (no_items, new))
passed depth old new None more e h = rw e h
passed depth old new (Some v) more e h = rw e (value_data v, h)

pub returns-clause-value : goal.returns-clause-value
returns-clause-value c =
    passed c.args.depth c.args.reader.now c.next_item.new.reader c.in_ok-next_item.field-0 c.is_some.result
    c.is_some.ensures c.in_ok-next_item.ensures.value
