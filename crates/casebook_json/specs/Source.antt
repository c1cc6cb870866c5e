-- Where a recording comes from, as JSON.
use Rattle.std.specs.Prelude.{ℕ, List, [], codes, map}
use Rattle.serde_json.specs.Data.{Data, string}
use Rattle.retro_json.specs.Values.{array_of, number_data}
use Rattle.casebook_view.specs.Sources.{SourceValue, Played, Seen}

abbrev pub source_name : SourceValue → List ℕ
source_name Played = codes "played"
source_name (Seen seen) = codes "machine"

-- the numbers of the observed lines: of lines that were played, none was observed
abbrev pub observed_in : SourceValue → List ℕ
observed_in Played = []
observed_in (Seen seen) = seen.observed

-- those of the lines while which others were open
abbrev pub overlapping_in : SourceValue → List ℕ
overlapping_in Played = []
overlapping_in (Seen seen) = seen.overlapping

-- those of the changes that no line made
abbrev pub outside_in : SourceValue → List ℕ
outside_in Played = []
outside_in (Seen seen) = seen.outside

-- those of the sessions of which some lines have no record
abbrev pub incomplete_in : SourceValue → List ℕ
incomplete_in Played = []
incomplete_in (Seen seen) = seen.incomplete

-- the folders in which it wasn't always seen what lines only read
abbrev pub unseen_in : SourceValue → List (List ℕ)
unseen_in Played = []
unseen_in (Seen seen) = seen.unseen

-- `[n,..]`
abbrev pub numbers_data : List ℕ → Data
numbers_data numbers = array_of (map number_data numbers)

-- `["..",..]`
abbrev pub texts_data : List (List ℕ) → Data
texts_data texts = array_of (map string texts)
