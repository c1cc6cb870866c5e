-- Paths as lists of names: their parents, prefixes and children, /dev/null and /etc/passwd.
use Rattle.std.specs.Prelude.{ℕ, Bool, true, false, not, ◌&&◌, if◌then◌else◌, List, [], ◌∷◌, Option, Some, None}
use Rattle.std.specs.Prelude.{is_some, codes, map}
use Rattle.std.specs.List.{list_all}
use Rattle.retro_path.specs.Order.{text_eq}
use Rattle.retro_path.specs.Name.{is_name}

-- a path is the list of its names from the root, and a name a list of bytes
abbrev pub PathValue : Type 0
PathValue = List (List ℕ)

-- every length is less than 2^64
abbrev pub usize_bound : ℕ
usize_bound = 18446744073709551616

-- the root has no names
abbrev pub is_root : PathValue → Bool
is_root [] = true
is_root (name ∷ rest) = false

-- the parent; the parent of the root is the root
abbrev pub parent_of : PathValue → PathValue
parent_of [] = []
parent_of (name ∷ []) = []
parent_of (name ∷ other ∷ rest) = name ∷ parent_of (other ∷ rest)

-- the last name, or None for the root
abbrev pub last_of : PathValue → Option (List ℕ)
last_of [] = None
last_of (name ∷ []) = Some name
last_of (name ∷ other ∷ rest) = last_of (other ∷ rest)

-- the prefixes of a path but the root, from the shortest to the path itself
abbrev pub prefixes_of : PathValue → List PathValue
prefixes_of [] = []
prefixes_of (name ∷ rest) = (name ∷ []) ∷ map (λ prefix. name ∷ prefix) (prefixes_of rest)

-- the names of a path that follow a prefix, or None if it isn't a prefix
abbrev pub below : PathValue → PathValue → Option PathValue
below [] path = Some path
below (x ∷ prefix) [] = None
below (x ∷ prefix) (y ∷ path) = if text_eq x y then below prefix path else None

-- the only name of a list of one
abbrev pub only_name : Option PathValue → Option (List ℕ)
only_name None = None
only_name (Some []) = None
only_name (Some (name ∷ [])) = Some name
only_name (Some (name ∷ other ∷ rest)) = None

-- the last name of a child of a directory, or None for a path that isn't a child of it
abbrev pub child_name : PathValue → PathValue → Option (List ℕ)
child_name parent path = only_name (below parent path)

-- whether q is a child of p
abbrev pub is_child : PathValue → PathValue → Bool
is_child p q = is_some (child_name p q)

-- /dev/null (POSIX.1-2017 XBD 10.1)
abbrev pub null_path : PathValue
null_path = codes "dev" ∷ codes "null" ∷ []

-- whether a file or directory can exist at a path: not at /dev/null or below it
unfoldable pub may_exist : PathValue → Bool
may_exist p = not (is_some (below null_path p)) && list_all is_name p

-- whether a path equals a prefix of it, by the names that follow
abbrev pub nothing_left : Option PathValue → Bool
nothing_left None = false
nothing_left (Some []) = true
nothing_left (Some (name ∷ rest)) = false

-- whether a path is /dev/null
unfoldable pub is_null : PathValue → Bool
is_null p = nothing_left (below null_path p)

-- /etc/passwd
unfoldable pub passwd : PathValue
passwd = codes "etc" ∷ codes "passwd" ∷ []
