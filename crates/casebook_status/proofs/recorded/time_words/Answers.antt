use Rattle.std.proofs.Common.{◌<◌, ◌^◌, ◌/◌, IfOk, arith, string_bytes, subst, w64}
use Rattle.std.proofs.lemmas.Int.{to_z_pos}
use Rattle.casebook_status.specs.Recorded.{IsSecondWords}
use Rattle.casebook_status.proofs.recorded.time_words.Goals as goal

pub returns : goal.returns
returns c =
    let small : c.get.result / 1000000 < 2 ^ 63 = omega (arith, c.get.type_inv) in
    rw c.get.ensures at
    (subst (λ second. IfOk c.second_words.result (λ text. IsSecondWords second (string_bytes text)))
    (to_z_pos w64 (c.get.result / 1000000) small) c.second_words.ensures)
