-- Differences that the code has found, as values.
use Rattle.std.specs.Prelude.{option_map}
use Rattle.casebook_words.specs.Difference.{Difference, NameDifference}
use Rattle.casebook_words.specs.declared.difference.LineDifference.{LineDifference}
use Rattle.casebook_words.specs.declared.first_name.OtherName.{OtherName}

abbrev pub line_value : LineDifference → Difference
line_value d = record {
  number = d.number;
  old = option_map (λ line. line.now) d.old;
  new = option_map (λ line. line.now) d.new;
}

abbrev pub name_value : OtherName → NameDifference
name_value d = record { name = d.name.now; is_old = d.is_old }
