use Rattle.std.proofs.Common.{◌≡◌, ◌≢◌, ◌<◌, ◌∙◌, ℕ, IfOk, IfSome, List, None, subst}
use Rattle.std.specs.Option.{IsSome}
use Rattle.retro_tree.specs.Ask.{answer}
use Rattle.retro_tree.specs.Notes.{after}
use Rattle.retro_tree.specs.declared.note.Note.{Note}
use Rattle.retro_keep.specs.Recorded.{recorded_before}
use Rattle.casebook_cause.specs.Cause.{IsAlike, IsCause, TwoRecordings}
use Rattle.casebook_cause.proofs.Places.{if_differs, if_none, if_some}
use Rattle.casebook_cause.proofs.differences.Differences.cause_of.Goals as goal

pub returns-clause-none : goal.returns-clause-none
returns-clause-none c =
    let here = c.self.inside in
    subst (λ (t : TwoRecordings). IfOk c.last_of.result (λ found. found ≡ None → (m : ℕ) → m < c.args.number
    → IsAlike c.args.ask.now t.recorded t.repaired m)) c.self.view_is
    (if_none c.args.ask.now c.args.number here.recorded.now here.repaired.now here.lines.lines.keys c.self.invariant
    c.as_slice.result.now (c.as_slice.ensures.value ∙ c.in_ok-places.ensures) c.last_of.result c.last_of.ensures)

pub returns-clause-some : goal.returns-clause-some
returns-clause-some c =
    let here = c.self.inside in
    subst (λ (t : TwoRecordings). IfOk c.last_of.result (λ found. IfSome found
    (IsCause c.args.ask.now c.args.number t.recorded t.repaired))) c.self.view_is
    (if_some c.args.ask.now c.args.number here.recorded.now here.repaired.now here.lines.lines.keys c.self.invariant
    c.as_slice.result.now (c.as_slice.ensures.value ∙ c.in_ok-places.ensures) c.last_of.result c.last_of.ensures)

pub returns-clause-exists : goal.returns-clause-exists
returns-clause-exists c =
    let here = c.self.inside in
    subst (λ (t : TwoRecordings). t.recorded.first ≡ t.repaired.first → (notes : List Note)
    → answer c.args.ask.now (after notes (recorded_before c.args.number t.recorded))
    ≢ answer c.args.ask.now (after notes (recorded_before c.args.number t.repaired))
    → IfOk c.last_of.result (λ found. IsSome found)) c.self.view_is
    (if_differs c.args.ask.now c.args.number here.recorded.now here.repaired.now here.lines.lines.keys
    c.self.invariant c.as_slice.result.now (c.as_slice.ensures.value ∙ c.in_ok-places.ensures) c.last_of.result
    c.last_of.ensures)
