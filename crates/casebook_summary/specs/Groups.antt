-- Lines to tell about, by session and subject.
use Rattle.std.specs.Prelude.{ℕ, zero, suc, ◌==◌, Bool, true, false, ◌&&◌, List, [], ◌∷◌, ◌++◌, drop, map, nat_lt}
use Rattle.std.specs.Prelude.{if◌then◌else◌, take}
use Rattle.std.specs.List.{filter, fold, list_any}
use Rattle.retro_tree.specs.Order.{path_eq, text_eq}
use Rattle.casebook_summary.specs.Summaries.{line_told}
use Rattle.casebook_summary.specs.declared.notice.Notice.{Notice}
use Rattle.casebook_summary.specs.declared.subject.Subject.{Subject}
use Rattle.casebook_summary.specs.declared.subject.Subject.TheVariants.{At, Directory, Variable, Status, Text, Again}
use Rattle.casebook_summary.specs.declared.group.Group.{Group}

-- what a group says
pub record GroupValue : Type 0 where
  pub session : ℕ
  pub subject : Subject
  pub lines : List ℕ

abbrev pub group_value : Group → GroupValue
group_value group = record { session = group.session; subject = group.subject; lines = group.lines.items }

abbrev pub subject_eq : Subject → Subject → Bool
subject_eq (At p) (At q) = path_eq p q
subject_eq Directory Directory = true
subject_eq (Variable x) (Variable y) = text_eq x y
subject_eq Status Status = true
subject_eq Text Text = true
subject_eq Again Again = true
subject_eq _ _ = false

-- whether two lines are told to the same session about the same subject
abbrev pub same_group : Notice → Notice → Bool
same_group x y = x.session == y.session && subject_eq x.subject y.subject

-- how many lines come before the first one of a later session
abbrev pub place_of : ℕ → List Notice → ℕ
place_of session [] = zero
place_of session (x ∷ xs) = if nat_lt session x.session then zero else suc (place_of session xs)

-- one more line, before those of later sessions
abbrev pub placed : Notice → List Notice → List Notice
placed n xs = take (place_of n.session xs) xs ++ n ∷ drop (place_of n.session xs) xs

-- one more line, if it is the first of its group
abbrev pub with_first : List Notice → Notice → List Notice
with_first xs n = if list_any (λ x. same_group x n) xs then xs else placed n xs

-- the first line of each group, in order of sessions; groups of a session are in order of these
-- lines
abbrev pub firsts : List Notice → List Notice
firsts notices = fold with_first [] notices

-- all lines of the group of a line
abbrev pub group_of : List Notice → Notice → GroupValue
group_of notices n = record {
  session = n.session;
  subject = n.subject;
  lines = map line_told (filter (λ x. same_group x n) notices);
}

abbrev pub grouped : List Notice → List GroupValue
grouped notices = map (group_of notices) (firsts notices)
