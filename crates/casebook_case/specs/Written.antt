-- The case of a spool.
use Rattle.std.specs.Prelude.{◌≡◌, ℕ, All, IsOk, List, Some}
use Rattle.casebook_observe.specs.Files.{SpoolFiles}
use Rattle.casebook_case.specs.Cases.{case_of}
use Rattle.casebook_case.specs.Documents.{case_text}
use Rattle.casebook_case.specs.Reading.{case_in}

-- whether a spool keeps bytes
abbrev pub IsKept : SpoolFiles → List ℕ → Type 0
IsKept files bytes = (digest : List ℕ) × (files.kept digest ≡ Some bytes)

-- A text is the document of a spool's case: it has the spool's first look and its observations as
-- they are, bytes that the spool keeps, and the rows of the folders in which it wasn't always seen
-- what lines only read. It is read as what these say. They say a case, so all bytes are there that
-- its notes name.
pub record IsCaseOf (files : SpoolFiles) (unseen text : List ℕ) : Type 0 where
  pub contents : List (List ℕ)
  pub kept : All (IsKept files) contents
  pub written : text ≡ case_text contents files.first files.lines unseen
  pub whole : IsOk (case_of contents files.first files.lines unseen)
  pub again : case_in text ≡ case_of contents files.first files.lines unseen
