-- What a line read: the paths whose contents its notes show to have been read.
use Rattle.std.specs.Prelude.{List, [], Option, Some, None, fold}
use Rattle.std.specs.BTreeSet.{insert_key}
use Rattle.retro_tree.specs.Order.{path_cmp}
use Rattle.retro_tree.specs.Path.{PathValue}
use Rattle.retro_tree.specs.declared.answer.Answer.TheVariants as answers
use Rattle.retro_tree.specs.declared.ask.Ask.TheVariants.{Bytes, Names}
use Rattle.retro_tree.specs.declared.node.Node.TheVariants.{File}
use Rattle.retro_tree.specs.declared.note.Note.{Note}
use Rattle.retro_tree.specs.declared.note.Note.TheVariants.{Asked}

-- the path of a file whose bytes were read, or of a directory whose names were
abbrev pub path_read : Note → Option PathValue
path_read (Asked (Bytes p) (answers.Bytes (File bytes))) = Some p
path_read (Asked (Names p) (answers.Names (Some names))) = Some p
path_read _ = None

abbrev pub with_path : List PathValue → Option PathValue → List PathValue
with_path paths None = paths
with_path paths (Some p) = insert_key path_cmp paths p

-- each once, in order
abbrev pub paths_read : List Note → List PathValue
paths_read notes = fold (λ paths note. with_path paths (path_read note)) [] notes
