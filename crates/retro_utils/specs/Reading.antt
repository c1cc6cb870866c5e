-- What file operands and standard input give to read.
use Rattle.std.specs.Prelude.{ℕ, List, [], ◌∷◌, Result, Ok, Err, codes, if◌then◌else◌}
use Rattle.retro_tree.specs.Path.{PathValue, is_null}
use Rattle.retro_tree.specs.Tree.{node_in}
use Rattle.retro_tree.specs.declared.node.Node.{Node}
use Rattle.retro_tree.specs.declared.node.Node.TheVariants as nodes
use Rattle.retro_tree.specs.declared.state.State.{State}
use Rattle.retro_utils.specs.Operands.{located, is_dash}
use Rattle.retro_utils.specs.declared.input.Input.{Input}
use Rattle.retro_utils.specs.declared.input.Input.TheVariants.{Empty, Bytes, File}
use Rattle.retro_utils.specs.declared.reason.Reason.{Reason}
use Rattle.retro_utils.specs.declared.reason.Reason.TheVariants.{NoSuchFile, IsDirectory}

-- the bytes of a file, or the reason why there are none
abbrev pub content : Node → Result (List ℕ) Reason
content nodes.Missing = Err NoSuchFile
content nodes.Dir = Err IsDirectory
content (nodes.File bytes) = Ok bytes

-- what a path gives; /dev/null is empty
unfoldable pub path_reading : PathValue → State → Result (List ℕ) Reason
path_reading p s = if is_null p then Ok [] else content (node_in p s.tree)

abbrev pub reading_at : Result PathValue Reason → State → Result (List ℕ) Reason
reading_at (Ok p) s = path_reading p s
reading_at (Err reason) s = Err reason

-- what a file operand gives
unfoldable pub reading : ℕ → List ℕ → State → Result (List ℕ) Reason
reading sid operand s = reading_at (located sid operand s) s

abbrev pub bytes_or_none : Node → List ℕ
bytes_or_none nodes.Missing = []
bytes_or_none nodes.Dir = []
bytes_or_none (nodes.File bytes) = bytes

-- what standard input gives; a path gives nothing if no file is there when it is read
unfoldable pub input_in : Input → State → List ℕ
input_in Empty s = []
input_in (Bytes bytes) s = bytes
input_in (File p) s = if is_null p then [] else bytes_or_none (node_in p s.tree)

-- what an operand gives; `-` is standard input
unfoldable pub source : ℕ → List ℕ → Input → State → Result (List ℕ) Reason
source sid operand input s = if is_dash operand then Ok (input_in input s) else reading sid operand s

-- standard input after an operand: the first `-` reads all of it
unfoldable pub input_after : List ℕ → Input → Input
input_after operand input = if is_dash operand then Empty else input

-- each operand with what it gives
abbrev pub sources : ℕ → List (List ℕ) → Input → State → List (List ℕ × Result (List ℕ) Reason)
sources sid [] input s = []
sources sid (x ∷ xs) input s = (x, source sid x input s) ∷ sources sid xs (input_after x input) s

-- standard input, if no operand is given
abbrev pub or_dash : List (List ℕ) → List (List ℕ)
or_dash [] = codes "-" ∷ []
or_dash (x ∷ xs) = x ∷ xs
