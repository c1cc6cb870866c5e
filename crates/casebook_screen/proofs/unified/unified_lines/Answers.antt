use Rattle.std.proofs.Common.{◌≡◌, ◌<◌, ap, arith, length, map, subst, sym, ◌∙◌}
use Rattle.std.specs.Prelude.{◌^◌}
use Rattle.casebook_text.specs.Hunks.{HaveCounts}
use Rattle.casebook_screen.specs.Unified.{signed_line}
use Rattle.casebook_screen.proofs.PartLemmas.{all_within}
use Rattle.casebook_screen.proofs.unified.unified_lines.Goals as goal

pub lines_of_parts-requires : goal.lines_of_parts-requires
lines_of_parts-requires c =
    let lines = c.as_slice.result.now in
    let same : c.as_slice-3.result.now ≡ map signed_line lines =
    c.as_slice-3.ensures.value ∙ c.in_ok-signed.ensures ∙ ap (map signed_line) (c.as_slice-2.ensures.value ∙ sym c.as_slice.ensures.value) in
    let small : length c.as_slice-3.result.now < 2 ^ 63 =
    omega (arith, c.as_slice-3.ensures.len, c.in_ok-signed.signed.ok, c.in_ok-signed.signed.small) in
    all_within lines c.as_slice-3.result.now c.as_slice-4.result.now same small
    (subst (HaveCounts lines) (sym c.as_slice-4.ensures.value) c.in_ok-parts.ensures.counts)
