use Rattle.std.proofs.Common.{◌==◌, ◌++◌, sym, ap, ◌∙◌, subst}
use Rattle.std.specs.List.{slice_split}
use Rattle.std.proofs.lemmas.List.{append-nil}
use Rattle.retro_text.specs.inner.Rising.{SelectAlike, spans_of}
use Rattle.retro_text.proofs.Selecting.{alike_selects}
use Rattle.retro_text.proofs.CutLemmas.{bytes_kept, fields_kept, line_kept, line_dropped}
use Rattle.retro_text.proofs.cut.Cut.push_line.Goals as goal

pub returns-in-Bytes : goal.returns-in-Bytes
returns-in-Bytes c =
    let spans = c.in-Bytes.field-0 in
    let alike = subst (λ how. SelectAlike (spans_of how) c.args.spans.now) c.in-Bytes.is c.requires.alike in
    rw (
      bytes_kept c.args.self.now spans c.args.line.now c.in-Bytes.is,
      alike_selects spans c.args.spans.now alike 0 c.args.line.now,
    ) c.push_bytes.ensures

pub returns-then-contains : goal.returns-then-contains
returns-then-contains c =
    let how = c.in-Fields in
    let alike = subst (λ it. SelectAlike (spans_of it) c.args.spans.now) how.is c.requires.alike in
    rw (
      fields_kept c.args.self.now how.spans how.delimiter how.only_delimited c.args.line.now how.is
          (sym c.contains.ensures.value ∙ c.if-contains.true),
      alike_selects how.spans c.args.spans.now alike 0 (slice_split (λ b. b == how.delimiter) c.args.line.now),
    )
    c.push_fields.ensures

pub returns-then-only_delimited : goal.returns-then-only_delimited
returns-then-only_delimited c =
    let how = c.in-Fields in
    sym (append-nil c.args.out.now.items)
    ∙ ap (λ text. c.args.out.now.items ++ text)
    (sym (line_dropped c.args.self.now how.spans how.delimiter how.only_delimited c.args.line.now how.is
    (sym c.contains.ensures.value ∙ c.if-contains.false) c.if-only_delimited.true))

pub returns-else-only_delimited : goal.returns-else-only_delimited
returns-else-only_delimited c =
    let how = c.in-Fields in
    rw (line_kept c.args.self.now how.spans how.delimiter how.only_delimited c.args.line.now how.is
    (sym c.contains.ensures.value ∙ c.if-contains.false) c.if-only_delimited.false) c.push_whole.ensures
