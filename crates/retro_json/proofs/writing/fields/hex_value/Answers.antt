use Rattle.std.proofs.Common.{arith}
use Rattle.retro_json.proofs.TreeTrip.{are_bytes-from}
use Rattle.retro_json.proofs.writing.fields.hex_value.Goals as goal

pub returns-clause-typed : goal.returns-clause-typed
returns-clause-typed c = are_bytes-from c.args.bytes.now (λ i. let byte = c.type_inv.bytes i in omega arith)
