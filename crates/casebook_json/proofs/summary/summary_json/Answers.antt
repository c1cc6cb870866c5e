use Rattle.std.proofs.Common.{◌≡◌, ◌∙◌, ◌++◌, ◌≤◌, Some, ap, codes, false, subst, sym}
use lib.Utf8.{encode}
use Rattle.serde_json.specs.Data.{depth}
use Rattle.serde_json.specs.Read.{max_depth, read}
use Rattle.serde_json.specs.View.{view}
use Rattle.serde_json.specs.Written.{compact_text, has_float}
use Rattle.retro_log.proofs.Newline.{newline_reads}
use Rattle.casebook_view.specs.Sources.{source_view}
use Rattle.casebook_json.specs.Summary.{summary_text}
use Rattle.casebook_json.proofs.Depths.{summary_low}
use Rattle.casebook_json.proofs.Floats.{summary_float}
use Rattle.casebook_json.proofs.summary.summary_json.Goals as goal

pub returns-clause-text : goal.returns-clause-text
unfolding summary_text encode
returns-clause-text c =
    let summary = c.args.summary.now in
    let written = c.in_ok-value.ensures in
    let none : has_float (view c.in_ok-value.value) ≡ false =
    ap has_float written
    ∙ summary_float summary (source_view c.args.source) c.args.labels.now in
    c.in_ok-push.ensures.bytes
    ∙ ap (λ text. text ++ codes "\n") (c.in_ok-text.ensures.text none ∙ ap compact_text written)

pub returns-clause-read : goal.returns-clause-read
unfolding encode
returns-clause-read c =
    let summary = c.args.summary.now in
    let written = c.in_ok-value.ensures in
    let low : depth (view c.in_ok-value.value) ≤ max_depth =
    subst (λ d. depth d ≤ max_depth) (sym written)
    (summary_low summary (source_view c.args.source) c.args.labels.now) in
    let texts = c.in_ok-text.ensures in
    ap read c.in_ok-push.ensures.bytes
    ∙ newline_reads _ texts.order.0 texts.compact texts.order.1
    ∙ texts.reads_back low ∙ ap Some written
