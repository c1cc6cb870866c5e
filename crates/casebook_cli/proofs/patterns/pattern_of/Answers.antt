use Rattle.std.proofs.Common.{ap, refl, true, false, ◌∙◌}
use Rattle.regex.specs.Views.{builder_config, builder_source}
use Rattle.regex.specs.declared.builder.RegexBuilder.{RegexBuilder}
use Rattle.regex_syntax.specs.declared.Config.{Config}
use Rattle.casebook_cli.proofs.patterns.pattern_of.Goals as goal

pub returns-in-Ok-clause-ok : goal.returns-in-Ok-clause-ok
returns-in-Ok-clause-ok c = record {
  regex = c.in-Ok.pattern;
  source = c.in-Ok.ensures.source ∙ ap builder_source c.multi_line.ensures ∙ c.new.ensures.source;
  config = c.in-Ok.ensures.config
      ∙ ap (λ (b : RegexBuilder). record (builder_config b) { utf8 = false }) c.multi_line.ensures
      ∙ ap (λ (config : Config). record config { flags = record (config.flags) { multi_line = true }; utf8 = false })
      c.new.ensures.config;
  read = c.in-Ok.ensures.read;
  is = refl;
}
