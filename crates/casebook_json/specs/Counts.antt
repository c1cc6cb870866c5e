-- How many lines have which fate, as JSON.
use Rattle.std.specs.Prelude.{List, codes}
use Rattle.serde_json.specs.Data.{Data, object, no_members, member}
use Rattle.retro_json.specs.Values.{number_data}
use Rattle.casebook_view.specs.declared.case_line.CaseLine.{CaseLine}
use Rattle.casebook_view.specs.declared.fate.Fate.TheVariants.{Cancelled, Changed, Alike, Kept}
use Rattle.casebook_view.specs.declared.fate.Fate.TheVariants.{Untouched}
use Rattle.casebook_summary.specs.Counts.{count_of}

-- `{"alike":n,"cancelled":n,"changed":n,"kept":n,"untouched":n}`
unfoldable pub counts_data : List CaseLine → Data
counts_data lines = object
    (member (codes "alike") (number_data (count_of lines Alike))
    (member (codes "cancelled") (number_data (count_of lines Cancelled))
    (member (codes "changed") (number_data (count_of lines Changed))
    (member (codes "kept") (number_data (count_of lines Kept))
    (member (codes "untouched") (number_data (count_of lines Untouched)) no_members)))))
