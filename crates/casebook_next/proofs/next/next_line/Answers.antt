use Rattle.std.proofs.Common.{◌≡◌, ◌∙◌, ap, ap₂, subst}
use Rattle.retro_keep.specs.Edit.{edit_of, is_among}
use Rattle.casebook_real.specs.Based.{HasItsBasis, IsFirstWithout}
use Rattle.casebook_real.specs.Next.{next_to_run}
use Rattle.casebook_next.specs.Next.{lesser, line_with, modelled_texts, number_at, observed_texts}
use Rattle.casebook_next.proofs.SameEdits.{same_texts}
use Rattle.casebook_next.proofs.next.next_line.Goals as goal

pub returns : goal.returns
returns c =
    let lines = c.args.machine.now.lines.items in
    let r = c.args.recording.now in
    let repair = c.args.repair.now in
    let edit = edit_of c.args.edits.now in
    let index = c.in_ok-index.index in
    let same : c.as_slice-lines.result.now ≡ lines = c.as_slice-lines.ensures.value in
    let seen : c.as_slice.result.now ≡ observed_texts lines =
    c.as_slice.ensures.value ∙ c.in_ok-observed.ensures ∙ ap observed_texts same in
    let texts : c.in_ok-modelled.modelled.items ≡ modelled_texts edit r lines =
    c.in_ok-modelled.ensures ∙ same_texts _ edit c.in_ok-by_number.ensures r c.as_slice-lines.result.now
    ∙ ap (modelled_texts edit r) same in
    record {
      index = index;
      is_first = subst (λ ts. IsFirstWithout (HasItsBasis repair.recording) ts index)
          (c.as_slice-2.ensures.value ∙ texts) c.in_ok-index.ensures;
      is = c.line_with.ensures
          ∙ ap₂ line_with same
          (c.lesser.ensures
          ∙ ap₂ lesser
          (c.in_ok-again.ensures.verdicts ∙ ap (λ ns. next_to_run edit (is_among ns) repair) seen)
          (c.number_at-other.ensures ∙ ap (λ ts. number_at ts index) (c.as_slice-3.ensures.value ∙ texts)));
    }
