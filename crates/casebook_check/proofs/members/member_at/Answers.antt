use Rattle.std.proofs.Common.{option_map, sym, ap, ◌∙◌}
use Rattle.json.specs.Find as find
use Rattle.json.specs.Value.{value_view}
use Rattle.retro_value.specs.Borrowed.{data_of}
use Rattle.casebook_check.specs.Keys.{key_name}
use Rattle.casebook_check.proofs.Lookups.{get_of_value, map_twice}
use Rattle.casebook_check.proofs.members.member_at.Goals as goal

pub returns : goal.returns
returns c =
    sym (map_twice (λ v. value_view v.now) data_of c.get.result)
    ∙ ap (option_map data_of) (c.get.ensures ∙ ap (λ k. find.get k (value_view c.args.value.now)) c.name.ensures.value)
    ∙ sym (get_of_value (key_name c.args.key) (value_view c.args.value.now))
