-- Look-ups in the maps of the program.
use Rattle.std.specs.Prelude.{◌≡◌, ℕ, ◌==◌, ◌||◌, Bool, false, List, [], ◌∷◌, ◌++◌, Option, is_some}
use Rattle.std.specs.Prelude.{map, unwrap_or, if◌then◌else◌}
use Rattle.std.specs.BTreeMap.{get_by}
use Rattle.std.specs.Ordering.{nat_cmp, ordering_then}
use Rattle.retro_path.specs.Order.{text_cmp}
use Rattle.casebook_typed.specs.Spans.{begin_of, end_of}
use Rattle.casebook_typed.specs.declared.step.Step.{Step}
use Rattle.casebook_typed.specs.declared.step.What.{What}
use Rattle.casebook_typed.specs.declared.step.What.TheVariants as whats
use Rattle.casebook_typed.specs.declared.marks.LinePlaces.{LinePlaces}
use Rattle.casebook_typed.specs.declared.marks.Marks.{Marks}
use Rattle.casebook_typed.specs.declared.missing.LineCounts.{LineCounts}
use Rattle.casebook_typed.specs.Sessions.{place_in}
use Rattle.casebook_typed.specs.declared.names.Names.{Names}
use Rattle.casebook_typed.specs.declared.names.Places.{Places}

-- the place of the session with a name, or 0
abbrev pub place_named : Places → List ℕ → ℕ
place_named places name = unwrap_or (get_by (text_cmp name) places.places) 0

-- the number of a session's lines
abbrev pub number_at : LineCounts → ℕ → ℕ
number_at counts session = unwrap_or (get_by (nat_cmp session) counts.by_place) 0

-- the observation that is kept of a line
abbrev pub place_of : LinePlaces → ℕ → ℕ → Option ℕ
place_of places session number =
    get_by (λ k. ordering_then (nat_cmp session k.0) (nat_cmp number k.1)) places.places

abbrev pub names_in : Names → List (List ℕ)
names_in names = map (λ name. name.now) names.all.items

-- each name has the place that it has among the names
abbrev pub AreNames : Names → Type 0
AreNames names = (q : List ℕ) → place_named names.places q ≡ place_in (names_in names) q

-- names with one more, unless it is there
abbrev pub with_name : List (List ℕ) → List ℕ → List (List ℕ)
with_name names name = if place_in names name == 0 then names ++ name ∷ [] else names

-- the marks are those of all lines
pub record AreMarks (marks : Marks) (steps : List Step) : Type 0 where
  pub begins : (s n : ℕ) → place_of marks.begins s n ≡ begin_of steps s n
  pub ends : (s n : ℕ) → place_of marks.ends s n ≡ end_of steps s n

abbrev pub marked_by : Marks → ℕ → What → Bool
marked_by marks session (whats.Begin n) =
    is_some (place_of marks.begins session n) || is_some (place_of marks.ends session n)
marked_by marks session (whats.End n) = is_some (place_of marks.ends session n)
marked_by marks session _ = false
