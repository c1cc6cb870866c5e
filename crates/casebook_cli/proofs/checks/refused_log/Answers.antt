use Rattle.std.proofs.Common.{codes, subst}
use Rattle.casebook_check.specs.Place.{IsPlaceInLog}
use Rattle.casebook_cli.proofs.CheckLemmas.{says_where}
use Rattle.casebook_cli.proofs.checks.refused_log.Goals as goal

pub returns-clause-place : goal.returns-clause-place
returns-clause-place c =
    let document = c.args.document.now in
    let place = c.in_ok-place.place in
    says_where (IsPlaceInLog document.bytes.items c.args.refusal) document.name.now (codes "not a log: ") c.args.refusal
    place c.refused.result
    (subst (λ bytes. IsPlaceInLog bytes c.args.refusal place) c.as_slice.ensures.value c.in_ok-place.ensures)
    c.refused.ensures.text c.refused.ensures.no
