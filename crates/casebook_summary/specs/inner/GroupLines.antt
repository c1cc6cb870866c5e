-- The lines of groups, as they are gathered.
use Rattle.std.specs.Prelude.{◌≡◌, ◌<◌, ℕ, ⊤, List, [], ◌∷◌, ◌++◌, Option, map}
use Rattle.std.specs.BTreeMap.{get}
use Rattle.std.specs.Cmp.{IsTotalOrder}
use Rattle.std.specs.List.{filter, list_any}
use Rattle.std.specs.Option.{is_some, option_map, unwrap_or}
use Rattle.std.specs.Ordering.{nat_cmp, ordering_then}
use Rattle.std.specs.declared.cmp.Ordering.{Ordering}
use Rattle.casebook_summary.specs.Groups.{same_group, with_first}
use Rattle.casebook_summary.specs.Summaries.{line_told}
use Rattle.casebook_summary.specs.declared.group_lines.GroupLines.{GroupLines}
use Rattle.casebook_summary.specs.declared.notice.Notice.{Notice}
use Rattle.casebook_summary.specs.declared.subject.Subject.{Subject}
use Rattle.casebook_summary.specs.contracts.subject.SubjectOrd.TheImpl as subject_ord
use Rattle.casebook_summary.specs.contracts.subject.SubjectOrd.TheImpl.Laws as subject_laws

-- the order of subjects, which is derived
abbrev pub subject_cmp : Subject → Subject → Ordering
subject_cmp = (subject_ord.ghosts).cmp

pub subject_total : IsTotalOrder subject_cmp
subject_total = subject_laws.total-law

-- a session and a subject, ordered by session first
abbrev pub Key : Type 0
Key = ℕ × Subject

abbrev pub key_cmp : Key → Key → Ordering
key_cmp x y = ordering_then (nat_cmp x.0 y.0) (subject_cmp x.1 y.1)

abbrev pub key_of : Notice → Key
key_of n = (n.session, n.subject)

-- the lines in the group of a line, or None if there is no such group
abbrev pub lines_of : GroupLines → Notice → Option (List ℕ)
lines_of groups n = option_map (λ v. v.items) (get key_cmp groups.lines (key_of n))

-- lines by session and place: each at its session, and at a place below a number
abbrev pub ArePlaced : ℕ → List ((ℕ × ℕ) × Notice) → Type 0
ArePlaced n [] = ⊤
ArePlaced n (e ∷ es) = (e.0.0 ≡ e.1.session) × (e.0.1 < n) × ArePlaced n es

-- Some lines were gathered: each group has its lines, and there is a first line of each.
pub record AreGathered (done : List Notice) (groups : GroupLines) (firsts : List Notice) : Type 0 where
  pub lines : (n : Notice) → unwrap_or (lines_of groups n) [] ≡ map line_told (filter (λ x. same_group x n) done)
  pub first : (n : Notice) → is_some (lines_of groups n) ≡ list_any (λ x. same_group x n) firsts

-- one more line was gathered
abbrev pub AddsOne : List Notice → Notice → List Notice → GroupLines → List Notice → Type 0
AddsOne done n old groups new = AreGathered (done ++ n ∷ []) groups new × (new ≡ with_first old n)
