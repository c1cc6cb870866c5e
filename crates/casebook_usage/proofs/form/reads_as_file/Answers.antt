use Rattle.std.proofs.Common.{◌∙◌, string_bytes, arith}
use Rattle.casebook_usage.proofs.Reading.{reads_by_name}
use Rattle.casebook_usage.proofs.form.reads_as_file.Goals as goal

pub returns-in-len1-up : goal.returns-in-len1-up
returns-in-len1-up c =
    c.has_dash.ensures ∙ reads_by_name string_bytes c.args.files.now (omega arith)
