-- What cancelled lines showed, as JSON.
use Rattle.std.specs.Prelude.{codes}
use Rattle.serde_json.specs.Data.{Data, object, no_members, member}
use Rattle.retro_json.specs.Values.{number_data}
use Rattle.casebook_summary.specs.declared.leak.Leak.{Leak}
use Rattle.casebook_about.specs.declared.labels.Labels.{Labels}
use Rattle.casebook_json.specs.Values.{user_data}

-- `{"bytes":n,"line":n,"session":n,"user":name}`
unfoldable pub leak_data : Labels → Leak → Data
leak_data labels leak = object
    (member (codes "bytes") (number_data leak.bytes)
    (member (codes "line") (number_data leak.number)
    (member (codes "session") (number_data leak.session)
    (member (codes "user") (user_data labels leak.session) no_members))))
