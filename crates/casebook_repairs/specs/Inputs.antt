-- The documents that a question is about.
use Rattle.std.specs.Prelude.{◌≡◌, ℕ, List, Option, Some, None}
use Rattle.casebook_request.specs.Sources.{SourcesValue}
use Rattle.casebook_repairs.specs.Documents.{AllDocuments}

-- a document: its name and its bytes
pub record DocumentValue : Type 0 where
  pub name : List ℕ
  pub bytes : List ℕ

-- the documents that a request names, as they were read
pub record InputsValue : Type 0 where
  pub log : DocumentValue
  pub list : Option DocumentValue
  pub about : Option DocumentValue

-- The document with a name is this one.
pub record IsDocument (at : AllDocuments) (name : List ℕ) (document : DocumentValue) : Type 0 where
  pub named : document.name ≡ name
  pub found : at name ≡ Some document.bytes

-- the same of a document that may not be named
abbrev pub IsDocumentIf : AllDocuments → Option (List ℕ) → Option DocumentValue → Type 0
IsDocumentIf at None None = Unit {0}
IsDocumentIf at None (Some document) = ⊥
IsDocumentIf at (Some name) None = ⊥
IsDocumentIf at (Some name) (Some document) = IsDocument at name document

-- The documents that are named are these.
pub record AreInputs (at : AllDocuments) (sources : SourcesValue) (inputs : InputsValue) : Type 0 where
  pub log : IsDocument at sources.log inputs.log
  pub list : IsDocumentIf at sources.list inputs.list
  pub about : IsDocumentIf at sources.about inputs.about
