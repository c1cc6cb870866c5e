-- The documents that a request names.
use Rattle.std.specs.Prelude.{ℕ, ◌==◌, if◌then◌else◌, List, [], ◌∷◌, Option, Some, None}
use Rattle.casebook_request.specs.Request.{Query, RepairRequest, case_log, cat, check, lines, page, patch, show}

-- the names of the log, of the document with the list of lines to cancel, and of that with names
-- and times
pub record SourcesValue : Type 0 where
  pub log : List ℕ
  pub list : Option (List ℕ)
  pub about : Option (List ℕ)

abbrev pub at_sign : ℕ
at_sign = 64

-- the name of the document that has the list, if that is what is given
unfoldable pub document_named : List ℕ → Option (List ℕ)
document_named [] = None
document_named (b ∷ name) = if b == at_sign then Some name else None

abbrev pub repair_sources : RepairRequest → SourcesValue
repair_sources request = record {
  log = request.log;
  list = document_named request.cancel;
  about = request.about;
}

-- the documents that a question is about
abbrev pub sources_of : Query → SourcesValue
sources_of (lines request) = record { log = request.log; list = None; about = request.about }
sources_of (show request) = repair_sources request.repair
sources_of (page request) = repair_sources request.repair
sources_of (cat request) = repair_sources request.repair
sources_of (patch request) = repair_sources request
sources_of (check log) = record { log = log; list = None; about = None }
sources_of (case_log case) = record { log = case; list = None; about = None }
