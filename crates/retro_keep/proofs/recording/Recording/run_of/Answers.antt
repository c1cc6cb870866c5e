use Rattle.std.proofs.Common.{ℕ, Some, rules, ap, sym, ◌∙◌}
use Rattle.std.proofs.lemmas.List.Sorted.{answers_always}
use Rattle.retro_keep.specs.Recording.{RecordingValue, noted_at}
use Rattle.retro_keep.specs.declared.noted.Noted.{Noted}
use Rattle.retro_keep.proofs.Searching.{noted_at_found, noted_at_none}
use Rattle.retro_keep.proofs.recording.Recording.run_of.Goals as goal

-- the closure gives a line's number, and the slice is the recording's lines
pub returns-in-Ok-clause-value : goal.returns-in-Ok-clause-value
returns-in-Ok-clause-value c =
    let equal = c.in-Ok.ensures.position (λ l. l.0) (answers_always _ _ _ (λ f a r g called. search rules)) in
    ap (λ (l : ℕ × Noted). Some l.1) c.index.ensures
    ∙ sym (noted_at_found c.self.inside.lines.items c.args.number c.self.invariant.well_formed.rising c.in-Ok.index
    c.index.result.now (rw c.as_slice.ensures.value at c.in-Ok.ensures.bound) (rw c.as_slice.ensures.value at equal))
    ∙ ap (λ (r : RecordingValue). noted_at c.args.number r.lines) c.self.view_is

pub returns-in-Err-clause-value : goal.returns-in-Err-clause-value
returns-in-Err-clause-value c =
    let apart = c.in-Err.ensures.position (λ l. l.0) (answers_always _ _ _ (λ f a r g called. search rules)) in
    sym (noted_at_none c.self.inside.lines.items c.args.number c.self.invariant.well_formed.rising c.in-Err.field-0
    (rw c.as_slice.ensures.value at apart))
    ∙ ap (λ (r : RecordingValue). noted_at c.args.number r.lines) c.self.view_is
