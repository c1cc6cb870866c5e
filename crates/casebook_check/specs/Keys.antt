-- The keys of scripts and logs.
use Rattle.std.specs.Prelude.{ℕ, ◌==◌, Bool, false, not, List, [], ◌∷◌, Option, Some, None, codes}
use Rattle.std.specs.Prelude.{if◌then◌else◌, option_and_then}
use Rattle.std.specs.List.{find}
use Rattle.serde_json.specs.Data.{Data}
use Rattle.serde_json.specs.Find.{get}
use Rattle.retro_json.specs.Shape.{Text, unsigned_in}
use Rattle.retro_log.specs.Document.{from_key, has_member, is_key, log_keys, script_keys}
use Rattle.casebook_check.specs.declared.key.Key.{Key}
use Rattle.casebook_check.specs.declared.key.Key.TheVariants as keys
use Rattle.casebook_check.specs.declared.kind.Kind.{Kind}
use Rattle.casebook_check.specs.declared.kind.Kind.TheVariants as kinds

-- the text of a key
abbrev pub key_name : Key → Text
key_name keys.Script = codes "script"
key_name keys.Log = codes "log"
key_name keys.From = codes "from"
key_name keys.Tree = codes "tree"
key_name keys.Sessions = codes "sessions"
key_name keys.Lines = codes "lines"

-- the key of the version of a kind of document
abbrev pub version_key : Kind → Key
version_key kinds.Script = keys.Script
version_key kinds.Log = keys.Log

-- whether a number is there, and is this one
abbrev pub is_number : Option ℕ → ℕ → Bool
is_number None wanted = false
is_number (Some n) wanted = n == wanted

-- whether a document is a log that says it has a version
abbrev pub is_log_of : ℕ → Kind → Data → Bool
is_log_of version kinds.Script d = false
is_log_of version kinds.Log d = is_number (option_and_then unsigned_in (get (codes "log") d)) version

-- the keys that a document of a kind may have: a log of version 1 has no `from`
abbrev pub known_keys : Kind → Bool → List Text
known_keys kinds.Script is_first_version = script_keys
known_keys kinds.Log is_first_version = if is_first_version then log_keys else from_key ∷ log_keys

-- whether a document of a kind may have a key
abbrev pub may_have : Kind → Data → Text → Bool
may_have kind d k = is_key (known_keys kind (is_log_of 1 kind d)) k

-- the keys that a document of a kind has to have: a log of version 2 also has `from`
abbrev pub needed_keys : Kind → Data → List Key
needed_keys kind d =
    version_key kind ∷ keys.Tree ∷ keys.Sessions ∷ keys.Lines
    ∷ (if is_log_of 2 kind d then keys.From ∷ [] else [])

-- the first needed key that a document lacks
abbrev pub first_missing : Kind → Data → Option Key
first_missing kind d = find (λ key. not (has_member d (key_name key))) (needed_keys kind d)
