use Rattle.std.proofs.Common.{◌≡◌, ◌∙◌, ◌↔◌, IsTrue, Some, ap, subst, sym}
use Rattle.std.specs.FinMap as map
use Rattle.retro_tree.specs.Notes.{Holds}
use Rattle.retro_keep.specs.Recording.{RecordingValue, noted_at}
use Rattle.retro_pool.proofs.Wanted.{wanted_by_notes, wanted_replaced}
use Rattle.retro_pool.proofs.jobs.is_wanted.Goals as goal

pub returns-in-Some-Replace : goal.returns-in-Some-Replace
returns-in-Some-Replace c =
    let n = c.args.number in
    let noted = c.in-Some.noted.now in
    let here : noted_at n c.args.ground.now.recording.lines ≡ Some noted =
    ap (λ (r : RecordingValue). noted_at n r.lines) (sym c.recording.ensures) ∙ sym c.in-Some.ensures.value in
    wanted_replaced c.args.ground.now n noted here _ _
    (ap (λ edits. map.get edits n) (sym c.edits.ensures) ∙ sym c.in-Some-Replace.ensures
    ∙ ap Some c.in-Some-Replace.field-0-is)

pub returns-in_ok-holds-in-None : goal.returns-in_ok-holds-in-None
returns-in_ok-holds-in-None c =
    let n = c.args.number in
    let noted = c.in-Some.noted.now in
    let here : noted_at n c.args.ground.now.recording.lines ≡ Some noted =
    ap (λ (r : RecordingValue). noted_at n r.lines) (sym c.recording.ensures) ∙ sym c.in-Some.ensures.value in
    let hold = c.in_ok-holds-in-None.field-0 in
    wanted_by_notes c.args.ground.now n noted here hold
    (ap (λ edits. map.get edits n) (sym c.edits.ensures) ∙ sym c.in-None.ensures)
    (subst (λ s. IsTrue hold ↔ Holds noted.notes s) c.view.ensures.state c.in_ok-holds-in-None.ensures)
