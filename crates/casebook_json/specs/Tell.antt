-- Whom to tell about what, as JSON.
use Rattle.std.specs.Prelude.{ℕ, List, codes, map}
use Rattle.serde_json.specs.Data.{Data, null, string, object, no_members, member}
use Rattle.retro_json.specs.Values.{array_of, number_data}
use Rattle.casebook_summary.specs.Groups.{GroupValue}
use Rattle.casebook_summary.specs.declared.subject.Subject.{Subject}
use Rattle.casebook_summary.specs.declared.subject.Subject.TheVariants.{At, Directory, Variable}
use Rattle.casebook_summary.specs.declared.subject.Subject.TheVariants.{Status, Text, Again}
use Rattle.casebook_about.specs.declared.labels.Labels.{Labels}
use Rattle.casebook_json.specs.Values.{path_data, user_data}

abbrev pub subject_name : Subject → List ℕ
subject_name (At path) = codes "path"
subject_name Directory = codes "directory"
subject_name (Variable name) = codes "variable"
subject_name Status = codes "status"
subject_name Text = codes "text"
subject_name Again = codes "again"

-- the path or the variable that a subject is, or null if it is none
abbrev pub subject_path : Subject → Data
subject_path (At path) = path_data path
subject_path _ = null

abbrev pub subject_variable : Subject → Data
subject_variable (Variable name) = string name
subject_variable _ = null

-- `{"about":name,"lines":[n,..],"path":path,"session":n,"user":name,"variable":name}`
unfoldable pub group_data : Labels → GroupValue → Data
group_data labels group = object
    (member (codes "about") (string (subject_name group.subject))
    (member (codes "lines") (array_of (map number_data group.lines))
    (member (codes "path") (subject_path group.subject)
    (member (codes "session") (number_data group.session)
    (member (codes "user") (user_data labels group.session)
    (member (codes "variable") (subject_variable group.subject) no_members))))))
