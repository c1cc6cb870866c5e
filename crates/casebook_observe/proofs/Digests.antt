-- The bytes of digests.
use Rattle.std.proofs.Common.{ℕ, suc, zero, ◌<◌, ◌/◌, ◌%◌, ◌^◌, List, [], ◌∷◌, arith}
use Rattle.std.specs.Prelude.{slice_index}
use Rattle.std.specs.Int.{to_be_bytes, w32}
use Rattle.std.proofs.lemmas.List.Elements.{All-append, All-cons, All-nil}
use Rattle.sha2.specs.Sha256.{digest_bytes, final_hash, initial_hash_256, sha256}
use Rattle.casebook_spool.specs.Valid.{AreBytes}

abbrev IsByte : ℕ → Type 0
IsByte b = b < 256

is_byte : (n : ℕ) → IsByte (n % 256)
is_byte n = omega arith

word_bytes : (n : ℕ) → AreBytes (to_be_bytes w32 n)
word_bytes n =
    All-cons IsByte (n / 2 ^ 24 % 256) (n / 2 ^ 16 % 256 ∷ n / 2 ^ 8 % 256 ∷ n % 256 ∷ [])
    (is_byte (n / 2 ^ 24))
    (All-cons IsByte (n / 2 ^ 16 % 256) (n / 2 ^ 8 % 256 ∷ n % 256 ∷ []) (is_byte (n / 2 ^ 16))
    (All-cons IsByte (n / 2 ^ 8 % 256) (n % 256 ∷ []) (is_byte (n / 2 ^ 8))
    (All-cons IsByte (n % 256) [] (is_byte n) (All-nil IsByte))))

words_bytes : (h : List ℕ) (n : ℕ) → AreBytes (digest_bytes h n)
unfolding digest_bytes
words_bytes h zero = All-nil (λ b. b < 256)
words_bytes h (suc n) =
    All-append (λ b. b < 256) (digest_bytes h n) (to_be_bytes w32 (slice_index h n))
    (words_bytes h n) (word_bytes (slice_index h n))

pub sha256_bytes : (m : List ℕ) → AreBytes (sha256 m)
unfolding sha256
sha256_bytes m = words_bytes (final_hash initial_hash_256 m) 8
