use Rattle.std.proofs.Common.{ap, ◌∙◌}
use Rattle.rayon.proofs.ToStd.{slice-AllZip}
use Rattle.retro_keep.proofs.Parsing.{IsTextOf, gathered_texts}
use Rattle.retro_keep.proofs.recorder.parse_lines.Goals as goal

pub returns : goal.returns
returns g c =
    let slice = ap (λ it. it.slice.now) c.with_min_len.ensures.base ∙ c.par_iter.ensures in
    let h = c.in_ok-collect.ensures in
    let chain = rw (c.map.ensures.base, c.map.ensures.f) at h.1 in
    gathered_texts _ _ (λ v. v.items) c.args.lines.now h.0 c.in_ok-collect.field-0
    (slice-AllZip chain.0 c.args.lines.now (chain.1 ∙ slice) (IsTextOf _) h.0 chain.2) h.2
