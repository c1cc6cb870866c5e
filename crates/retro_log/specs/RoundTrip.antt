-- Recordings that were read from documents.
use Rattle.std.specs.Prelude.{◌≡◌, ℕ, List, Ok}
use Rattle.retro_keep.specs.Recording.{RecordingValue}
use Rattle.retro_log.specs.Document.{log_in}

-- some bytes are a log of the recording
pub record WasRead (r : RecordingValue) : Type 0 where
  pub bytes : List ℕ
  pub read : log_in bytes ≡ Ok r
