-- The case of a spool, by its files.
use Rattle.std.proofs.Common.{◌≡◌, ◌∙◌, ℕ, All, List, [], ◌∷◌, ◌++◌, Option, Some, None, Ok, refl, sym, ap, subst}
use Rattle.std.proofs.lemmas.List.Elements.{All-push}
use Rattle.std.specs.Prelude.{IfSome, IsOk, ok_or}
use Rattle.casebook_observe.specs.Files.{SpoolFiles}
use Rattle.casebook_spool.specs.Lines.{lines_of}
use Rattle.casebook_spool.specs.Listings.{listing_of}
use Rattle.casebook_spool.specs.Said.{LinesValue, ListingValue}
use Rattle.casebook_case.specs.Cases.{all_held, case_of, held_by, lines_or}
use Rattle.casebook_case.specs.Documents.{case_text}
use Rattle.casebook_case.specs.Reading.{case_in}
use Rattle.casebook_case.specs.Written.{IsCaseOf, IsKept}
use Rattle.casebook_case.specs.declared.case_fault.CaseFault.TheVariants as faults

-- what is made of the parts of a spool, which are read
pub record IsMade (contents : List (List ℕ)) (first lines unseen text : List ℕ) : Type 0 where
  pub look : ListingValue
  pub observed : LinesValue
  pub looks : ok_or (listing_of first) faults.BadFirst ≡ Ok look
  pub observes : lines_or (lines_of lines) ≡ Ok observed
  pub held : all_held (held_by contents) look observed ≡ Ok tt
  pub written : text ≡ case_text contents first lines unseen
  pub again : case_in text ≡ case_of contents first lines unseen

whole : (contents : List (List ℕ)) (first lines unseen text : List ℕ)
    → IsMade contents first lines unseen text → IsOk (case_of contents first lines unseen)
unfolding case_of
whole contents first lines unseen text made = rw (made.looks, made.observes, made.held) refl

pub case_of_spool : (files : Option SpoolFiles) (contents : List (List ℕ))
    (first lines unseen text : List ℕ)
    → IfSome files (λ f. first ≡ f.first) → IfSome files (λ f. lines ≡ f.lines)
    → IfSome files (λ f. All (IsKept f) contents) → IsMade contents first lines unseen text
    → IfSome files (λ f. IsCaseOf f unseen text)
case_of_spool None contents first lines unseen text a b kept made = tt
case_of_spool (Some f) contents first lines unseen text a b kept made = record {
  contents = contents;
  kept = kept;
  written =
      made.written ∙ ap (λ x. case_text contents x lines unseen) a
      ∙ ap (λ x. case_text contents f.first x unseen) b;
  whole = subst (λ x. IsOk (case_of contents f.first x unseen)) b
      (subst (λ x. IsOk (case_of contents x lines unseen)) a
      (whole contents first lines unseen text made));
  again =
      made.again ∙ ap (λ x. case_of contents x lines unseen) a
      ∙ ap (λ x. case_of contents f.first x unseen) b;
}

-- ---- bytes that are kept

pub one_more : (files : Option SpoolFiles) (all new : List (List ℕ)) (bytes digest : List ℕ)
    → new ≡ all ++ bytes ∷ [] → IfSome files (λ f. Some bytes ≡ f.kept digest)
    → IfSome files (λ f. All (IsKept f) all) → IfSome files (λ f. All (IsKept f) new)
one_more None all new bytes digest push is kept = tt
one_more (Some f) all new bytes digest push is kept =
    subst (All (IsKept f)) (sym push) (All-push (IsKept f) all bytes kept (digest, sym is))
