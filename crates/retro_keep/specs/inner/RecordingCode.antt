-- The code of a recording, and what its type keeps.
use Rattle.std.specs.Prelude.{◌≡◌, ℕ, List, refl}
use Rattle.std.specs.Coded.{Coded, code_by, coded×, coded_list, coded_ℕ}
use Rattle.retro_tree.specs.declared.state.State.{State}
use Rattle.retro_keep.specs.inner.ScriptCode.{coded_state}
use Rattle.retro_keep.specs.Recording.{IsWellFormed, RecordingValue, last_state}
use Rattle.retro_keep.specs.declared.noted.Noted.{Noted}
use Rattle.retro_keep.specs.contracts.noted.Noted as noted_type

abbrev pub coded_noted : Coded Noted
coded_noted = (noted_type.the_row).coded

-- a recording is stored as pairs of its parts
abbrev pub coded_recording : Coded RecordingValue
coded_recording =
    code_by (State × (ℕ × List (ℕ × Noted)))
    (coded× coded_state (coded× coded_ℕ (coded_list (coded× coded_ℕ coded_noted))))
    (λ r. (r.first, (r.from, r.lines))) (λ p. record { first = p.0; from = p.1.0; lines = p.1.1 }) (λ _. refl)

-- a recording is well formed, and its last state is that after the notes of all lines
pub record IsKept (r : RecordingValue) (last : State) : Type 0 where
  pub well_formed : IsWellFormed r
  pub last_state : last ≡ last_state r.lines r.first
