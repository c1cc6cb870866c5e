-- What commands leave that the shell itself ends, with its diagnostics.
use Rattle.std.specs.Prelude.{ℕ, List, [], ◌++◌, codes}
use Rattle.retro_utils.specs.Reasons.{fault_text}
use Rattle.retro_utils.specs.declared.done.Done.{Done}
use Rattle.retro_utils.specs.declared.reason.Reason.{Reason}

-- a diagnostic of the shell: `sh: TEXT` and a newline
unfoldable pub complaint : List ℕ → List ℕ
complaint text = codes "sh: " ++ text ++ codes "\n"

-- a diagnostic alone, with a status
abbrev pub refusal : List ℕ → ℕ → Done
refusal text status = record { out = []; err = complaint text; status = status }

-- the diagnostic of a redirection that failed, with status 1
abbrev pub failure : List ℕ → Reason → Done
failure word reason = record { out = []; err = fault_text (codes "sh") word reason; status = 1 }
