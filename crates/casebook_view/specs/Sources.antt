-- Where the lines of a recording come from.
use Rattle.std.specs.Prelude.{ℕ, List}
use Rattle.casebook_view.specs.declared.source.Source.{Source}
use Rattle.casebook_view.specs.declared.source.Source.TheVariants as sources
use Rattle.casebook_view.specs.declared.source.Seen.{Seen as SeenLines}

-- What a recorder says of the lines that it saw: which stand as they were observed, while which
-- others were open, and which are changes that no line made. Each line that isn't observed did what
-- Retro's shell does. What it doesn't know: the sessions of which some lines have no record, and the
-- folders in which it wasn't always seen what lines only read.
pub record SeenValue : Type 0 where
  pub observed : List ℕ
  pub overlapping : List ℕ
  pub outside : List ℕ
  pub incomplete : List ℕ
  pub unseen : List (List ℕ)

-- they were played in Retro's shell, or a recorder saw them on a machine
pub data SourceValue : Type 0 where
  Played : SourceValue
  Seen : SeenValue → SourceValue

abbrev pub seen_view : SeenLines → SeenValue
seen_view seen = record {
  observed = seen.observed.now;
  overlapping = seen.overlapping.now;
  outside = seen.outside.now;
  incomplete = seen.incomplete.now;
  unseen = seen.unseen.now;
}

abbrev pub source_view : Source → SourceValue
source_view sources.Played = Played
source_view (sources.Seen seen) = Seen (seen_view seen)
