-- The tests of a request for rows of lines.
use Rattle.std.specs.Prelude.{ℕ, List, [], ◌∷◌, ◌++◌, Option, Some, None, option_and_then, option_map}
use Rattle.casebook_view.specs.declared.line_test.LineTest.{LineTest}
use Rattle.casebook_view.specs.declared.line_test.LineTest.TheVariants.{Sessions, From, To, Reads, Writes, Touches}
use Rattle.casebook_view.specs.declared.path_test.PathTest.{PathTest}
use Rattle.casebook_request.specs.Bounds.{line_of}
use Rattle.casebook_request.specs.Request.{LinesRequest}
use Rattle.casebook_request.specs.declared.bounds.Bounds.{Bounds}
use Rattle.casebook_request.specs.declared.path_filters.NamedPath.{NamedPath}
use Rattle.casebook_request.specs.declared.path_filters.PathFilters.{PathFilters}

-- a test that lines pass: one of these sessions ran the line, its number is at least or at most so
-- much, or it read or wrote such a path or did either
pub data Test : Type 0 where
  of_sessions : List ℕ → Test
  at_least : ℕ → Test
  at_most : ℕ → Test
  read_path : PathTest → Test
  wrote_path : PathTest → Test
  touched_path : PathTest → Test

abbrev pub listed : {A : Type 0} → Option A → List A
listed None = []
listed (Some x) = x ∷ []

abbrev pub of_session : ℕ → Test
of_session session = of_sessions (session ∷ [])

abbrev pub of_numbers : Option ℕ → Bounds → List Test
of_numbers session bounds =
    listed (option_map of_session session)
    ++ listed (option_map at_least (option_and_then line_of bounds.from))
    ++ listed (option_map at_most (option_and_then line_of bounds.to))

abbrev pub test_of : NamedPath → PathTest
test_of named = record { path = named.path; below = named.below }

abbrev pub of_paths : PathFilters → List Test
of_paths paths =
    listed (option_map (λ named. read_path (test_of named)) paths.reads)
    ++ listed (option_map (λ named. wrote_path (test_of named)) paths.writes)
    ++ listed (option_map (λ named. touched_path (test_of named)) paths.touches)

-- the tests of what a request names, but for the user
abbrev pub tests_of : LinesRequest → List Test
tests_of request = of_numbers request.session request.bounds ++ of_paths request.paths

-- ---- values of the code

abbrev pub test_view : LineTest → Test
test_view (Sessions sessions) = of_sessions sessions.items
test_view (From n) = at_least n
test_view (To n) = at_most n
test_view (Reads test) = read_path test
test_view (Writes test) = wrote_path test
test_view (Touches test) = touched_path test
