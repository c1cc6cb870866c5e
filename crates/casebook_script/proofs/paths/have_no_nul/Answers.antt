use Rattle.std.proofs.Common.{◌==◌, not, ap, ◌∙◌}
use Rattle.std.specs.List.{list_any}
use Rattle.casebook_script.specs.declared.paths.TheConstants.{NUL}
use Rattle.retro_json.proofs.Names.{nul_in}
use Rattle.casebook_script.proofs.paths.have_no_nul.Goals as goal

pub returns-clause-value : goal.returns-clause-value
returns-clause-value c =
    ap not (c.contains.ensures.value
    ∙ ap (list_any (λ b. b == NUL)) (c.as_bytes.ensures.value ∙ c.as_str.ensures.value))
    ∙ nul_in c.args.path.now
