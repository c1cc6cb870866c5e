-- Answers of trimmed logs.
use Rattle.std.proofs.Common.{◌≡◌, ◌<◌, ◌≤◌, ℕ, Ok, Err, arith, nat_lt, true, false, refl, subst, sym}
use Rattle.retro_tree.specs.OutOfMemory.{IsMeant}
use Rattle.retro_keep.specs.Recording.{RecordingValue}
use Rattle.retro_json.specs.NoNul.{recording_without_nul}
use Rattle.retro_json.specs.NoteLimits.{notes_fit}
use Rattle.retro_keep.specs.Trim.{IsTrimmed, trimmed}
use Rattle.retro_keep.specs.declared.trim_fault.TrimFault.{TrimFault}
use Rattle.retro_keep.specs.declared.trim_fault.TrimFault.TheVariants.{BeforeCheckpoint, NoMem}
use Rattle.retro_log.specs.Document.{log_in}
use Rattle.retro_log.specs.LogText.{log_text}
use Rattle.retro_cli.specs.Program.{IsReadAgain, Text, trim_answer, trim_recording}
use Rattle.retro_cli.specs.declared.stop.Stop.{Stop}
use Rattle.retro_cli.specs.inner.Stop.{refused, stop_of_trim, with_stops}
use Rattle.retro_cli.proofs.FitLemmas.{trimmed_fits}

is_early : (number from : ℕ) → number < from → nat_lt number from ≡ true
is_early number from h = search (arith, h)

not_early : (number from : ℕ) → from ≤ number → nat_lt number from ≡ false
not_early number from h = search (arith, h)

-- a number from the beginning on gives the log of the trimmed recording
pub trim_gives : (number : ℕ) (r t : RecordingValue) → IsTrimmed number r (Ok t)
    → trim_recording number r ≡ Ok (log_text t)
trim_gives number r t h = rw (not_early number r.from h.0, h.1) refl

-- so the log of the trimmed recording is the answer
pub trim_answers : (number : ℕ) (r t : RecordingValue) (input text : Text) → log_in input ≡ Ok r
    → IsTrimmed number r (Ok t) → text ≡ log_text t → trim_answer number input ≡ Ok text
unfolding trim_answer
trim_answers number r t input text is h written = rw (is, written) (trim_gives number r t h)

-- and it is read again
pub trimmed_again : (number : ℕ) (r t : RecordingValue) (text : Text) → notes_fit r ≡ true
    → IsTrimmed number r (Ok t)
    → (notes_fit t ≡ true → recording_without_nul t ≡ true → log_in text ≡ Ok t)
    → IsReadAgain (trimmed number r) text
trimmed_again number r t text fit h again =
    subst (λ o. IsReadAgain o text) h.1
    (again (subst (λ o. notes_fit o ≡ true) (sym h.1) (trimmed_fits number r fit)))

-- and one before it is refused
pub trim_refuses : (number : ℕ) (r : RecordingValue) (input : Text) (fault : TrimFault) (stop : Stop)
    → log_in input ≡ Ok r → IsTrimmed number r (Err fault) → stop ≡ stop_of_trim fault
    → IsMeant (refused stop) (with_stops (trim_answer number input))
unfolding trim_answer
trim_refuses number r input BeforeCheckpoint stop is h given = rw (given, is, is_early number r.from h) refl
trim_refuses number r input NoMem stop is h given = rw given tt
