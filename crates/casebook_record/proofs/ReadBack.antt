-- Fields that are read back as they were written.
use Rattle.std.proofs.Common.{◌≡◌, ◌-◌, ◌==◌, ◌∙◌, ℕ, suc, arith, ap, sym, refl, true, length, get_or, List, [], ◌∷◌, ◌++◌, Ok, append_assoc, length-append}
use Rattle.std.specs.Prelude.{All, nat_lt}
use Rattle.std.specs.List.{slice_split}
use Rattle.std.proofs.Math.Seq.{get_or-append_seam, take-append_seam}
use Rattle.std.proofs.lemmas.Bool.{lt-ltb}
use Rattle.std.proofs.lemmas.List.Splits.{slice_split_at, slice_split_none}
use Rattle.retro_path.specs.Ascii.{nul}
use Rattle.casebook_record.specs.Fields.{fields_of, is_ended}
use Rattle.casebook_record.specs.Written.{HasNoNul, written}

-- fields, with a NUL between two
joined : List ℕ → List (List ℕ) → List ℕ
joined field [] = field
joined field (next ∷ fields) = field ++ nul ∷ joined next fields

written_joined : (field : List ℕ) (fields : List (List ℕ)) → written (field ∷ fields) ≡ joined field fields ++ nul ∷ []
unfolding joined
written_joined field [] = refl
written_joined field (next ∷ fields) =
    ap (λ rest. field ++ nul ∷ rest) (written_joined next fields)
    ∙ sym (append_assoc field (nul ∷ joined next fields) (nul ∷ []))

first : (field : List ℕ) (fields : List (List ℕ)) → All HasNoNul (field ∷ fields) → HasNoNul field
first field fields h = h 0 field (omega arith)

others : (field : List ℕ) (fields : List (List ℕ)) → All HasNoNul (field ∷ fields) → All HasNoNul fields
others field fields h = λ k d lt. h (suc k) d (omega (arith, lt))

split_joined : (field : List ℕ) (fields : List (List ℕ)) → All HasNoNul (field ∷ fields)
    → slice_split (λ b. b == nul) (joined field fields) ≡ field ∷ fields
unfolding joined
split_joined field [] h = slice_split_none (λ b. b == nul) field (first field [] h)
split_joined field (next ∷ fields) h =
    slice_split_at (λ b. b == nul) field nul (joined next fields) (first field (next ∷ fields) h) refl
    ∙ ap (λ parts. field ∷ parts) (split_joined next fields (others field (next ∷ fields) h))

one_less : (xs : List ℕ) → length (xs ++ nul ∷ []) - 1 ≡ length xs
one_less xs = omega (arith, length-append xs (nul ∷ []))

ended : (xs : List ℕ) → is_ended (xs ++ nul ∷ []) ≡ true
ended xs =
    let some : nat_lt 0 (length (xs ++ nul ∷ [])) ≡ true = lt-ltb 0 (length (xs ++ nul ∷ [])) (omega (arith, length-append xs (nul ∷ []))) in
    let last : get_or (xs ++ nul ∷ []) (length (xs ++ nul ∷ []) - 1) 0 ≡ nul = rw (one_less xs) (get_or-append_seam xs nul [] 0) in
    rw (some, last) refl

fields_of_ended : (xs : List ℕ) → fields_of (xs ++ nul ∷ []) ≡ Ok (slice_split (λ b. b == nul) xs)
unfolding fields_of
fields_of_ended xs = rw (ended xs, one_less xs, take-append_seam xs (nul ∷ [])) refl

pub read_back : (field : List ℕ) (fields : List (List ℕ)) → All HasNoNul (field ∷ fields)
    → fields_of (written (field ∷ fields)) ≡ Ok (field ∷ fields)
read_back field fields h =
    ap fields_of (written_joined field fields)
    ∙ fields_of_ended (joined field fields)
    ∙ ap Ok (split_joined field fields h)
