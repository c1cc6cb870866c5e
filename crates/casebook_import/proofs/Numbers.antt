-- Sessions that 32 bits can't number.
use Rattle.std.proofs.Common.{◌≡◌, ◌≤◌, ◌^◌, ◌⊎◌, inl, inr, ℕ}
use Rattle.casebook_import.specs.declared.import_error.ImportError.{ImportError}
use Rattle.casebook_import.specs.declared.import_error.ImportError.TheVariants as errors

-- which of two errors it is
pub too_many : (error : ImportError) (n : ℕ) → error ≡ errors.TooManySessions
    → (error ≡ errors.NoMem ⊎ error ≡ errors.TooManySessions × 2 ^ 32 ≤ n) → 2 ^ 32 ≤ n
too_many error n is (inl other) = absurd cc
too_many error n is (inr both) = both.1
