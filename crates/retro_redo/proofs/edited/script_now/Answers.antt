use Rattle.std.proofs.Common.{◌∙◌, map, sym}
use Rattle.std.specs.FinMap as finmap
use Rattle.retro_keep.specs.Recording.{script_line}
use Rattle.retro_keep.specs.Edit.{edited}
use Rattle.retro_redo.specs.Repair.{script_now}
use Rattle.retro_redo.proofs.Finishing.{no_fault, script_is, script_made}
use Rattle.retro_redo.proofs.edited.script_now.Goals as goal

pub unreachable-requires : goal.unreachable-requires
unreachable-requires c =
    no_fault (script_now (finmap.get c.args.edits.now) c.args.recording.now) c.in-Err.field-0
    (sym (c.of_lawful.ensures ∙ script_made (finmap.get c.args.edits.now) c.args.recording.now _ _
    c.lines.ensures.well_formed (c.in_ok-copy.ensures ∙ c.first.ensures.value)
    (c.in_ok-lines.ensures
    ∙ (λ i. edited (finmap.get c.args.edits.now) (map script_line (c.lines.ensures.value i)))))
    ∙ c.in-Err.is)

pub returns : goal.returns
returns c =
    script_is c.in-Ok.script _
    (sym c.in-Ok.is ∙ c.of_lawful.ensures ∙ script_made (finmap.get c.args.edits.now) c.args.recording.now _ _
    c.lines.ensures.well_formed (c.in_ok-copy.ensures ∙ c.first.ensures.value)
    (c.in_ok-lines.ensures
    ∙ (λ i. edited (finmap.get c.args.edits.now) (map script_line (c.lines.ensures.value i)))))
