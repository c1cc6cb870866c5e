use Rattle.std.proofs.Common.{◌≡◌, ◌∙◌, ◌∷◌, ◌++◌, IsTrue, ap, drop, get_or, inl, inr, map, subst, sym, ⊎_elim}
use Rattle.std.specs.Iterator.Adapters.{zip_first, zip_second}
use Rattle.std.specs.Slice.Iter.{iter_rest}
use Rattle.retro_keep.specs.Recording.{IsWellFormed, number_in}
use Rattle.retro_keep.specs.Script.{rises_from}
use Rattle.casebook_view.specs.CaseLines.{line_number}
use Rattle.casebook_view.specs.Lines.{AreLinesAfter, IsLine, observed_in}
use Rattle.casebook_view.specs.inner.NewTexts.{AreNewTexts}
use Rattle.casebook_view.specs.inner.Numbers.{AreNumbers}
use Rattle.casebook_view.proofs.LineLemmas.{line_more, lines_end, number_more, these_rise}
use Rattle.casebook_view.proofs.case_lines.CaseLines.of.Goals as goal

pub loop-line-preserved : goal.loop-line-preserved
loop-line-preserved c =
    let case = c.args.case.now in
    let lines = c.loop-line.lines.items in
    let next = c.in_ok-next.next in
    let first = iter_rest (zip_first c.next.new.self) in
    let second = iter_rest (zip_second c.next.new.self) in
    let more = c.in-Some.ensures.steps in
    let wf = subst IsWellFormed c.recording.ensures c.lines.ensures.well_formed in
    let rise = these_rise case.recording lines (iter_rest (zip_first c.loop-line.line-iterator)) c.loop-line.invariant.numbers wf.rising in
    let texts = subst (λ es. AreNewTexts es c.in_ok-of.field-0) c.edits.ensures c.in_ok-of.ensures in
    let observed = subst (λ ns. AreNumbers ns c.in_ok-of-3.field-0) (c.observed_in.ensures ∙ ap observed_in c.source.ensures) c.in_ok-of-3.ensures in
    record {
      numbers = rw c.in_ok-push.ensures.items
          (number_more lines next c.in-Some.line.now first (map number_in case.recording.lines)
          (sym (ap (λ l. map line_number lines ++ map number_in l) more.0) ∙ c.loop-line.invariant.numbers)
          c.in_ok-next.ensures.number);
      lines = λ match.
          let before = c.loop-line.invariant.lines match in
          let both : map (λ v. v.number) (c.in-Some.settled.now ∷ second) ≡ map number_in (c.in-Some.line.now ∷ first) =
          sym (ap (map (λ v. v.number)) more.1) ∙ before.0 ∙ ap (map number_in) more.0 in
          let is_line : IsLine case.source case.edits case.recording case.repair c.args.unknown.now lines c.in-Some.settled.now next =
          subst (λ earlier. IsLine case.source case.edits case.recording case.repair c.args.unknown.now earlier c.in-Some.settled.now next)
          c.as_slice.ensures.value
          (c.in_ok-next.ensures.line case.source case.edits c.args.unknown.now texts c.in_ok-of-2.ensures observed
          (subst (λ ls. IsTrue (rises_from 0 (map line_number ls))) (sym c.as_slice.ensures.value) rise)
          (sym (ap (λ ns. get_or ns 0 0) both))) in (
            ap (drop 1) both,
            λ rest after. rw c.in_ok-push.ensures.items
                (line_more case.source case.edits case.recording case.repair c.args.unknown.now lines case.repair.lines.items
                c.in-Some.settled.now second next
                (λ rs are. before.1 rs
                (subst (λ t. AreLinesAfter case.source case.edits case.recording case.repair c.args.unknown.now lines t rs)
                (sym more.1) are))
                is_line rest
                (subst (λ t. AreLinesAfter case.source case.edits case.recording case.repair c.args.unknown.now t second rest)
                c.in_ok-push.ensures.items after)),
          );
    }

pub invariant_of-result : goal.invariant_of-result
invariant_of-result c =
    let case = c.args.case.now in
    let wf = subst IsWellFormed c.recording.ensures c.lines.ensures.well_formed in
    these_rise case.recording c.loop-line.lines.items (iter_rest (zip_first c.loop-line.line-iterator))
    c.loop-line.invariant.numbers wf.rising

pub returns : goal.returns
returns c match =
    let case = c.args.case.now in
    let before = c.loop-line.invariant.lines match in
    lines_end case.source case.edits case.recording case.repair c.args.unknown.now c.loop-line.lines.items
    case.repair.lines.items (iter_rest (zip_second c.loop-line.line-iterator))
    (iter_rest (zip_first c.loop-line.line-iterator)) before.1 before.0
    (⊎_elim (λ p. inl p.1.0) (λ q. inr q.1.0) c.in-None.ensures.steps)
