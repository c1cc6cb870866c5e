use Rattle.std.proofs.Common.{ap, ◌∙◌}
use Rattle.casebook_patch.specs.inner.Reading.{texts_of}
use Rattle.casebook_patch.proofs.ConcatLemmas.{between}
use Rattle.casebook_patch.proofs.file_change.text_parts.Goals as goal

pub returns : goal.returns
returns c =
    let old = rw c.in-Some.is at c.in_ok-old_lines.ensures in
    let new = rw c.in-Some-2.is at c.in_ok-new_lines.ensures in
    between c.args.old.now c.args.new.now c.in_ok-parts_of.field-0.items (texts_of c.as_slice.result.now)
    (texts_of c.as_slice-2.result.now) old.0 new.0 (ap texts_of c.as_slice.ensures.value ∙ old.1)
    (ap texts_of c.as_slice-2.ensures.value ∙ new.1) c.in_ok-parts_of.ensures.forward c.in_ok-parts_of.ensures.backward
