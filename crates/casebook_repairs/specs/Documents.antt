-- What reading a document gives.
use Rattle.std.specs.Prelude.{◌≡◌, ℕ, List, Option, Some, None, Result, Ok, Err}
use Rattle.casebook_repairs.specs.declared.documents.ReadFault.{ReadFault}
use Rattle.casebook_repairs.specs.declared.documents.ReadFault.TheVariants.{NoMem, Unreadable}

-- what the documents are: the bytes of each by its name, or None if it can't be read
abbrev pub AllDocuments : Type 0
AllDocuments = List ℕ → Option (List ℕ)

-- what is at a name was read, unless memory ran out
abbrev pub IsReadAs : {X : Type 0} → (X → List ℕ) → Option (List ℕ) → Result X ReadFault → Type 0
IsReadAs view found (Ok x) = found ≡ Some (view x)
IsReadAs view found (Err NoMem) = Unit {0}
IsReadAs view found (Err (Unreadable hindrance)) = found ≡ None
