use Rattle.std.proofs.Common.{IsTrue, ap, refl, subst, sym, ◌∙◌}
use Rattle.std.specs.FinMap as map_of
use Rattle.retro_keep.specs.declared.noted.Noted.{Noted}
use Rattle.retro_keep.proofs.Recorded.{has_recorded_more, recorded_by_run}
use Rattle.retro_keep.proofs.recorder.Recorder.record.Goals as goal

pub returns : goal.returns
returns c =
    let is = c.of-noted.ensures.value in
    let sid = ap (λ (n : Noted). n.sid) is in
    let text = ap (λ (n : Noted). n.text) is in
    let has = subst (λ k. IsTrue (map_of.contains_key c.args.self.now.state.sessions k))
    (sym (sid ∙ c.in_ok-run.ensures.sid)) c.requires.session in
    λ first done h.
    has_recorded_more done c.args.line.now first c.args.self.now.state c.apply_notes.new.state
    c.args.self.now.lines.items c.push.new.self.items c.of-noted.result c.in_ok-push.ensures.items
    c.in_ok-apply_notes.ensures.ok (sid ∙ c.in_ok-run.ensures.sid)
    (text ∙ c.in_ok-run.ensures.text ∙ c.requires.text)
    (recorded_by_run c.in_ok-run.run' c.of-noted.result c.args.self.now.state sid text
    (ap (λ (n : Noted). n.notes) is) (ap (λ (n : Noted). n.output) is)
    c.of-noted.ensures.run c.requires.lawful has c.in_ok-run.ensures.holds) has h
