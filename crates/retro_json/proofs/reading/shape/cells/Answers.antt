use Rattle.std.proofs.Common.{rules}
use Rattle.retro_json.proofs.Json.{item_list-items_of}
use Rattle.retro_json.proofs.reading.shape.cells.Goals as goal

pub returns-in-Some : goal.returns-in-Some
returns-in-Some c = search (rules, item_list-items_of)
