use Rattle.std.proofs.Common.{◌≡◌, map, take}
use Rattle.std.specs.Fmt.{decimal}
use Rattle.std.specs.List.{join_with_byte}
use Rattle.casebook_text.specs.Lists.{comma}
use Rattle.casebook_text.proofs.number_list.list_of_numbers.Given as goal

abbrev pub invariant-loop-index : goal.invariant-loop-index
invariant-loop-index l = l.list ≡ join_with_byte comma (map decimal (take l.index l.numbers))
