-- What queries are about.
use Rattle.retro_tree.specs.Path.{passwd}
use Rattle.retro_tree.specs.declared.ask.Ask.{Ask}
use Rattle.retro_tree.specs.declared.ask.Ask.TheVariants.{Kind, Bytes, Names, CanWrite, User, VarOf, CwdOf, StatusOf}
use Rattle.casebook_summary.specs.declared.subject.Subject.{Subject}
use Rattle.casebook_summary.specs.declared.subject.Subject.TheVariants.{At, Directory, Variable, Status}

-- what a query is about
abbrev pub subject_of : Ask → Subject
subject_of (Kind p) = At p
subject_of (Bytes p) = At p
subject_of (Names p) = At p
subject_of (CanWrite p n) = At p
subject_of (User name) = At passwd
subject_of (VarOf sid name) = Variable name
subject_of (CwdOf sid) = Directory
subject_of (StatusOf sid) = Status
