-- What an observation shows is of one of its lines.
use Rattle.std.proofs.Common.{◌≡◌, ◌∙◌, ℕ, ◌+◌, ◌==◌, ◌&&◌, Bool, true, false, cond, List, [], ◌∷◌, ◌++◌, flat_map, length, refl, sym, ap, arith}
use Rattle.std.proofs.Common.{Option, Some, None}
use Rattle.std.specs.List.{find}
use Rattle.std.proofs.lemmas.Bool.{false≢true}
use Rattle.std.proofs.lemmas.Grind.{flat_map-append}
use Rattle.std.proofs.lemmas.List.{append-nil}
use Rattle.std.proofs.lemmas.Option.{none-some}
use borrow.Author.Tests.{eqb-true}
use Rattle.casebook_record.specs.declared.record.Record.{Record}
use Rattle.casebook_watch.specs.Sights.{Sights}
use Rattle.casebook_typed.specs.Lines.{LineValue, active_in, closes, is_nothing, lines_after, lines_by, lines_from, lines_in, nothing_seen}
use Rattle.casebook_typed.specs.Lines.{begun_line, counted, counted_after, counted_from_place, is_unchanged}
use Rattle.casebook_typed.specs.Lines.{nobodys_line, only_changes, overlapping_in, parts_in, records_of, seen_after}
use Rattle.casebook_typed.specs.Lines.{seen_from_place, sights_before}
use Rattle.casebook_typed.specs.Looks.{SeenValue, seen_by}
use Rattle.casebook_typed.specs.Observations.{Observed}
use Rattle.casebook_typed.specs.declared.span.Span.{Span}

empty_list : {A : Type 0} (xs : List A) → length xs ≡ 0 → xs ≡ []
empty_list [] e = refl
empty_list (x ∷ xs) e = absurd (omega arith)

one : (a b : Bool) → (a && b) ≡ true → a ≡ true
one true b e = refl
one false b e = e

other : (a b : Bool) → (a && b) ≡ true → b ≡ true
other true b e = e
other false b e = absurd (false≢true e)

no_changes : (s : SeenValue) → is_nothing s ≡ true → s.changes ≡ []
no_changes s e =
    empty_list s.changes (eqb-true (length s.changes) 0 (one (length s.changes == 0) (length s.read == 0) (one (length s.changes == 0 && length s.read == 0) (length s.listed == 0) e)))

no_read : (s : SeenValue) → is_nothing s ≡ true → s.read ≡ []
no_read s e =
    empty_list s.read (eqb-true (length s.read) 0 (other (length s.changes == 0) (length s.read == 0) (one (length s.changes == 0 && length s.read == 0) (length s.listed == 0) e)))

no_listed : (s : SeenValue) → is_nothing s ≡ true → s.listed ≡ []
no_listed s e =
    empty_list s.listed (eqb-true (length s.listed) 0 (other (length s.changes == 0 && length s.read == 0) (length s.listed == 0) e))

-- where nothing was changed, changes alone are nothing
unchanged : (s : SeenValue) → is_unchanged s ≡ true → is_nothing (only_changes s) ≡ true
unchanged s e = ap (λ b. b && true && true) e

module _ {A : Type 0} (of : SeenValue → List A) (none : of nothing_seen ≡ []) (empty : (s : SeenValue) → is_nothing s ≡ true → of s ≡ []) where
  of_lines : List LineValue → List A
  of_lines ls = flat_map (λ l. of l.seen) ls

  nobodys : (r : Record) (seen : SeenValue) (b : Bool) → is_unchanged seen ≡ b
      → of_lines (cond b [] (nobodys_line r seen ∷ [])) ≡ of (only_changes seen)
  unfolding of_lines
  nobodys r seen true e = sym (empty (only_changes seen) (unchanged seen e))
  nobodys r seen false e = append-nil (of (only_changes seen))

  begun : (x : LineValue) (seen : SeenValue) (b : Bool) → x.seen ≡ seen → is_nothing seen ≡ b
      → of_lines (cond b [] (x ∷ [])) ≡ of seen
  unfolding of_lines
  begun x seen true is e = sym (empty seen e)
  begun x seen false is e = append-nil (of x.seen) ∙ ap of is

  parts : (records : List Record) (r : Record) (active : List Span) (seen : SeenValue)
      → of_lines (parts_in records r active seen) ≡ of (counted active seen)
  unfolding of_lines
  parts records r [] seen = nobodys r seen (is_unchanged seen) refl
  parts records r (s ∷ rest) seen = begun _ seen (is_nothing seen) refl refl

  pair : (b : Bool) (x y z w : LineValue) (seen : SeenValue) → x.seen ≡ seen → y.seen ≡ nothing_seen → z.seen ≡ nothing_seen → w.seen ≡ seen
      → of_lines (cond b (x ∷ y ∷ []) (z ∷ w ∷ [])) ≡ of seen
  unfolding of_lines
  pair true x y z w seen ex ey ez ew =
      (λ i. of (ex i) ++ ((ap of ey ∙ none) i ++ [])) ∙ append-nil (of seen)
  pair false x y z w seen ex ey ez ew =
      (λ i. (ap of ez ∙ none) i ++ (of (ew i) ++ [])) ∙ append-nil (of seen)

  -- a line that closes is active
  some : (closing : Bool) (at : ℕ) (active : List Span) (seen : SeenValue) (c : Span)
      → find (closes at closing) active ≡ Some c → of seen ≡ of (counted active seen)
  some closing at [] seen c e = absurd (none-some c e)
  some closing at (s ∷ rest) seen c e = refl

  by : (records : List Record) (r : Record) (at : ℕ) (active : List Span) (seen : SeenValue) (cut ended : Option Span)
      → find (closes at false) active ≡ cut → find (closes at true) active ≡ ended
      → of_lines (lines_by records r active seen cut ended) ≡ of (counted active seen)
  unfolding of_lines
  by records r at active seen (Some c) (Some e) is_cut is_ended =
      pair (length active == 2) _ _ _ _ seen refl refl refl refl ∙ some false at active seen c is_cut
  by records r at active seen (Some c) None is_cut is_ended =
      append-nil (of seen) ∙ some false at active seen c is_cut
  by records r at active seen None (Some e) is_cut is_ended =
      append-nil (of seen) ∙ some true at active seen e is_ended
  by records r at active seen None None is_cut is_ended = parts records r active seen

  from : (first : Sights) (os : List Observed) (at : ℕ) (rest : List Observed)
      → of_lines (lines_from first os at rest) ≡ flat_map of (counted_from_place first os at rest)
  unfolding of_lines
  from first os at [] = refl
  from first os at (o ∷ rest) =
      flat_map-append (λ l. of l.seen) (lines_in first os at o) (lines_from first os (at + 1) rest)
      ∙ (λ i. by (records_of os) o.said at (active_in os at) (seen_by (sights_before first os at) o.noted)
      (find (closes at false) (active_in os at)) (find (closes at true) (active_in os at)) refl refl i
      ++ from first os (at + 1) rest i)

  pub whole : (first : Sights) (os : List Observed)
      → flat_map (λ l. of l.seen) (lines_after first os) ≡ flat_map of (counted_after first os)
  unfolding of_lines lines_after
  whole first os = from first os 0 os

-- all changes count
same_changes : (active : List Span) (seen : SeenValue) → (counted active seen).changes ≡ seen.changes
same_changes [] seen = refl
same_changes (s ∷ rest) seen = refl

changes_from : (first : Sights) (os : List Observed) (at : ℕ) (rest : List Observed)
    → flat_map (λ seen. seen.changes) (counted_from_place first os at rest)
    ≡ flat_map (λ seen. seen.changes) (seen_from_place first os at rest)
changes_from first os at [] = refl
changes_from first os at (o ∷ rest) =
    (λ i. same_changes (active_in os at) (seen_by (sights_before first os at) o.noted) i
    ++ changes_from first os (at + 1) rest i)

pub all_changes : (first : Sights) (os : List Observed)
    → flat_map (λ line. line.seen.changes) (lines_after first os) ≡ flat_map (λ seen. seen.changes) (seen_after first os)
all_changes first os = whole (λ s. s.changes) refl no_changes first os ∙ changes_from first os 0 os

pub all_read : (first : Sights) (os : List Observed)
    → flat_map (λ line. line.seen.read) (lines_after first os) ≡ flat_map (λ seen. seen.read) (counted_after first os)
all_read first os = whole (λ s. s.read) refl no_read first os

pub all_listed : (first : Sights) (os : List Observed)
    → flat_map (λ line. line.seen.listed) (lines_after first os) ≡ flat_map (λ seen. seen.listed) (counted_after first os)
all_listed first os = whole (λ s. s.listed) refl no_listed first os
