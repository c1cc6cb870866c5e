use Rattle.std.proofs.Common.{ap, map, rules, ◌∙◌}
use Rattle.serde_json.specs.Data.{Data}
use Rattle.casebook_summary.specs.Groups.{group_value}
use Rattle.casebook_summary.specs.declared.group.Group.{Group}
use Rattle.casebook_about.specs.declared.labels.Labels.{Labels}
use Rattle.casebook_json.specs.Tell.{group_data}
use Rattle.casebook_json.proofs.parts.Parts.of.Goals as goal

abbrev data_of : Labels → Group → Data
data_of labels group = group_data labels (group_value group)

pub returns : goal.returns
returns c = record {
  causes = search rules;
  counts = search rules;
  doubtful = search rules;
  incomplete = search rules;
  leaked = search rules;
  lines = search rules;
  looked = c.in_ok-group_values.ensures ∙ ap (map (data_of c.args.labels.now)) c.as_slice-4.ensures.value;
  observed = search rules;
  outside = search rules;
  overlapping = search rules;
  restore = search rules;
  named = search rules;
  tell = c.in_ok-group_values-2.ensures ∙ ap (map (data_of c.args.labels.now)) c.as_slice-6.ensures.value;
  unknown = search rules;
  unseen = search rules;
}
