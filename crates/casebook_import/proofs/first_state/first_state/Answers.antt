use Rattle.std.proofs.Common.{◌∙◌, ap, map}
use Rattle.casebook_spool.specs.After.{after_notes}
use Rattle.casebook_typed.specs.Values.{line_value, session_value}
use Rattle.casebook_import.specs.First.{with_notes}
use Rattle.casebook_import.proofs.Making.{all_made, nobody_added}
use Rattle.casebook_import.proofs.first_state.first_state.Goals as goal

pub returns : goal.returns
returns c =
    let sights = c.in_ok-sights.sights in
    let nobody =
    nobody_added c.root.result c.new-2.result.entries c.make_line_places.new.state
    c.add_session.new.self c.root.ensures c.new-2.ensures.empty c.in_ok-add_session.ensures.ok in
    all_made c.args.contents.now c.args.notes.now (map session_value c.args.sessions.now)
    (map line_value c.args.lines.now) sights c.place_notes.new.state c.make_ours.new.state
    c.make_first_places.new.state c.make_line_places.new.state c.add_session.new.self
    c.add_sessions.new.state
    (c.in_ok-sights.ensures ∙ ap (λ m. after_notes m c.args.notes.now) c.new.ensures)
    (c.in_ok-place_notes.ensures
    ∙ ap (with_notes c.args.contents.now sights c.args.notes.now) c.in_ok-state.ensures)
    c.in_ok-make_ours.ensures c.in_ok-make_first_places.ensures c.in_ok-make_line_places.ensures
    nobody c.in_ok-add_sessions.ensures
