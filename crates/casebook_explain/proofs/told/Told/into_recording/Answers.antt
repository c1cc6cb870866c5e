use Rattle.std.proofs.Common.{◌∙◌, sym, ap, subst}
use Rattle.std.specs.Prelude.{flat_map}
use Rattle.retro_keep.specs.Recording.{AllRecorded, IsWellFormed, RecordingValue, last_state}
use Rattle.casebook_explain.specs.Noting.{texts_of}
use Rattle.casebook_explain.specs.inner.Sound.{HaveRuns}
use Rattle.casebook_explain.proofs.Noted.{recording}
use Rattle.casebook_explain.proofs.told.Told.into_recording.Goals as goal

-- src/noting.rt:104:12
pub of_well_formed-requires-clause-well_formed : goal.of_well_formed-requires-clause-well_formed
of_well_formed-requires-clause-well_formed c =
    subst
    (λ first. IsWellFormed (record { first = first; from = 1; lines = c.in_ok-lines.lines.items }))
    (sym c.into_parts-first.ensures.first)
    (recording c.args.noting c.args.self.first c.into_parts-first.result.2 c.args.self.lines
    c.in_ok-all_texts.field-0.items c.in_ok-lines.lines.items c.into_parts-first.ensures.lawful
    c.into_parts-first.ensures.known
    (subst HaveRuns c.into_parts-first.ensures.lines c.in_ok-all_texts.ensures.runs)
    c.into_parts-first.ensures.sound c.into_parts-first.ensures.last
    (c.in_ok-all_texts.ensures.value ∙ ap (flat_map (texts_of c.args.noting)) c.into_parts-first.ensures.lines)
    c.in_ok-lines.ensures.value).well_formed

-- src/noting.rt:104:12
pub of_well_formed-requires-clause-last : goal.of_well_formed-requires-clause-last
of_well_formed-requires-clause-last c =
    (recording c.args.noting c.args.self.first c.into_parts-first.result.2 c.args.self.lines
    c.in_ok-all_texts.field-0.items c.in_ok-lines.lines.items c.into_parts-first.ensures.lawful
    c.into_parts-first.ensures.known
    (subst HaveRuns c.into_parts-first.ensures.lines c.in_ok-all_texts.ensures.runs)
    c.into_parts-first.ensures.sound c.into_parts-first.ensures.last
    (c.in_ok-all_texts.ensures.value ∙ ap (flat_map (texts_of c.args.noting)) c.into_parts-first.ensures.lines)
    c.in_ok-lines.ensures.value).last
    ∙ ap (last_state c.in_ok-lines.lines.items) (sym c.into_parts-first.ensures.first)

-- src/noting.rt:96:5
pub returns-clause-recording : goal.returns-clause-recording
returns-clause-recording c =
    c.of_well_formed.ensures
    ∙ ap (λ first. record { first = first; from = 1; lines = c.in_ok-lines.lines.items })
    c.into_parts-first.ensures.first
    ∙ ap (λ rows. record { first = c.args.self.first; from = 1; lines = rows })
    (recording c.args.noting c.args.self.first c.into_parts-first.result.2 c.args.self.lines
    c.in_ok-all_texts.field-0.items c.in_ok-lines.lines.items c.into_parts-first.ensures.lawful
    c.into_parts-first.ensures.known
    (subst HaveRuns c.into_parts-first.ensures.lines c.in_ok-all_texts.ensures.runs)
    c.into_parts-first.ensures.sound c.into_parts-first.ensures.last
    (c.in_ok-all_texts.ensures.value ∙ ap (flat_map (texts_of c.args.noting)) c.into_parts-first.ensures.lines)
    c.in_ok-lines.ensures.value).value

-- src/noting.rt:96:5
pub returns-clause-recorded : goal.returns-clause-recorded
returns-clause-recorded c =
    subst (λ (r : RecordingValue). AllRecorded r.lines r.first)
    (sym (c.of_well_formed.ensures
    ∙ ap (λ first. record { first = first; from = 1; lines = c.in_ok-lines.lines.items })
    c.into_parts-first.ensures.first))
    (recording c.args.noting c.args.self.first c.into_parts-first.result.2 c.args.self.lines
    c.in_ok-all_texts.field-0.items c.in_ok-lines.lines.items c.into_parts-first.ensures.lawful
    c.into_parts-first.ensures.known
    (subst HaveRuns c.into_parts-first.ensures.lines c.in_ok-all_texts.ensures.runs)
    c.into_parts-first.ensures.sound c.into_parts-first.ensures.last
    (c.in_ok-all_texts.ensures.value ∙ ap (flat_map (texts_of c.args.noting)) c.into_parts-first.ensures.lines)
    c.in_ok-lines.ensures.value).recorded
