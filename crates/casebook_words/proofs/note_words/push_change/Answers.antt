use Rattle.std.proofs.Common.{◌++◌, length}
use Rattle.std.specs.Prelude.{codes}
use Rattle.std.specs.Fmt.{decimal}
use Rattle.casebook_words.specs.Words.{change_words, count_words, path_words}
use Rattle.casebook_words.proofs.Saying.{both_said, said_two}
use Rattle.casebook_words.proofs.note_words.push_change.Goals as goal

pub returns-in_ok-push_ascii-in-Grow : goal.returns-in_ok-push_ascii-in-Grow
unfolding change_words
returns-in_ok-push_ascii-in-Grow c =
    let line = c.args.line.now in
    let done = codes "appended to " ++ path_words c.in-Grow.path in
    let two =
    both_said line c.push_done.new.line c.push_ascii.new.self done (codes ": ") c.in_ok-push_done-in-Grow.ensures
    c.in_ok-push_ascii-in-Grow.ensures.ok in
    rw c.in-Grow.is
    (said_two c.push_count.result line c.push_ascii.new.self c.push_count.new.line (done ++ codes ": ")
    (count_words (codes "byte") (length c.in-Grow.bytes)) two (rw (← c.len.ensures) c.push_count.ensures))

pub returns-in_ok-push_ascii-in-SetCwd : goal.returns-in_ok-push_ascii-in-SetCwd
unfolding change_words
returns-in_ok-push_ascii-in-SetCwd c =
    rw c.in-SetCwd.is
    (said_two c.push_path.result c.args.line.now c.push_ascii-in-SetCwd.new.self c.push_path.new.line (codes "set directory: ")
    (path_words c.in-SetCwd.path) c.in_ok-push_ascii-in-SetCwd.ensures.ok c.push_path.ensures)

pub returns-in_ok-push_ascii-in-SetStatus : goal.returns-in_ok-push_ascii-in-SetStatus
unfolding change_words
returns-in_ok-push_ascii-in-SetStatus c =
    rw c.in-SetStatus.is
    (said_two c.push_number.result c.args.line.now c.push_ascii-in-SetStatus.new.self c.push_number.new.self (codes "set status: ")
    (decimal c.in-SetStatus.status) c.in_ok-push_ascii-in-SetStatus.ensures.ok (rw (← c.from.ensures) c.push_number.ensures.ok))
