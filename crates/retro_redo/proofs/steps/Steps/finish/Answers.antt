use Rattle.std.proofs.Common.{◌≡◌, IfSome, Option, refl, subst}
use Rattle.retro_keep.specs.Recording.{RecordingValue}
use Rattle.retro_redo.specs.Settled.{recording_chosen}
use Rattle.retro_redo.proofs.Finishing.{all_chosen, found_none, if_ok_all, if_ok_map, last_committed, none_is}
use Rattle.retro_redo.proofs.Finishing.{repair_found, settled_again, settled_found}
use Rattle.retro_redo.proofs.steps.Steps.finish.Goals as goal

pub chosen_recording-requires-clause-settles : goal.chosen_recording-requires-clause-settles
chosen_recording-requires-clause-settles c = (_, c.self.invariant.settles)

pub chosen_recording-requires-clause-all : goal.chosen_recording-requires-clause-all
chosen_recording-requires-clause-all c =
    all_chosen c.args.self _ c.self.inside.overlay c.self.inside.lines.items c.self.view_is c.self.invariant
    c.requires

pub chosen_recording-requires-clause-last : goal.chosen_recording-requires-clause-last
chosen_recording-requires-clause-last c =
    last_committed c.args.self _ c.self.inside.overlay c.self.inside.lines.items c.self.view_is c.self.invariant
    c.lines.ensures.well_formed c.requires

pub returns-in_default-clause-repair : goal.returns-in_default-clause-repair
returns-in_default-clause-repair c =
    if_ok_all c.run_edited.result (λ repair is. absurd
    (found_none c.args.self _ c.self.inside.overlay c.self.inside.lines.items c.self.view_is c.self.invariant
    c.lines.ensures.well_formed c.requires c.in_ok-repaired.field-0 c.in_ok-repaired.ensures.exact
    (none_is c.in_ok-repaired.field-0 c.in_default.not-Some) is))

pub returns-in_default-clause-settled : goal.returns-in_default-clause-settled
returns-in_default-clause-settled c =
    if_ok_map c.run_edited.result c.run_edited.ensures.again (λ repair again.
    settled_again c.args.self _ c.self.inside.overlay c.self.inside.lines.items c.self.view_is c.self.invariant
    c.lines.ensures.well_formed c.requires c.in_ok-repaired.field-0 c.in_ok-repaired.ensures.exact
    (none_is c.in_ok-repaired.field-0 c.in_default.not-Some) repair again)

pub returns-clause-repair : goal.returns-clause-repair
returns-clause-repair c =
    λ is.
    repair_found c.args.self _ c.self.inside.overlay c.self.inside.lines.items c.self.view_is c.self.invariant
    c.lines.ensures.well_formed c.requires c.in_ok-repaired.field-0 c.in_ok-repaired.ensures.exact (record {
      lines = c.self.inside.lines;
      tally = c.args.tally;
      recording = c.in-Some.repaired;
    }) is
    (subst (λ (found : Option RecordingValue).
    IfSome found (λ r. r ≡ recording_chosen c.self.inside.recording.now c.self.inside.choices.items)) c.in-Some.is
    c.in_ok-repaired.ensures.value) refl

pub returns-clause-settled : goal.returns-clause-settled
returns-clause-settled c =
    settled_found c.args.self _ c.self.inside.overlay c.self.inside.lines.items c.self.view_is c.self.invariant
    c.lines.ensures.well_formed c.requires c.in_ok-repaired.field-0 c.in_ok-repaired.ensures.exact (record {
      lines = c.self.inside.lines;
      tally = c.args.tally;
      recording = c.in-Some.repaired;
    }) c.in-Some.repaired c.in-Some.is
    (subst (λ (found : Option RecordingValue).
    IfSome found (λ r. r ≡ recording_chosen c.self.inside.recording.now c.self.inside.choices.items)) c.in-Some.is
    c.in_ok-repaired.ensures.value) refl
