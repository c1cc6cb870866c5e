-- Which errors a folder itself returns, and which only those that work with it return.
use Rattle.std.specs.Prelude.{Bool, true, false}
use Rattle.casebook_folder.specs.declared.folder_error.FolderError.{FolderError}
use Rattle.casebook_folder.specs.declared.folder_error.FolderError.TheVariants.{NoMem, Failed}
use Rattle.casebook_folder.specs.declared.folder_error.FolderError.TheVariants.{Changed, Differs}
use Rattle.casebook_folder.specs.declared.folder_error.FolderError.TheVariants.{NotReady, Unsorted}

-- whether looking at a folder may return the error
abbrev pub is_of_look : FolderError → Bool
is_of_look NoMem = true
is_of_look Failed = true
is_of_look Changed = false
is_of_look Differs = false
is_of_look NotReady = false
is_of_look Unsorted = false

-- whether a step may return the error
abbrev pub is_of_step : FolderError → Bool
is_of_step NoMem = true
is_of_step Failed = true
is_of_step Changed = true
is_of_step Differs = false
is_of_step NotReady = false
is_of_step Unsorted = false
