-- The first records of sessions, with one more.
use Rattle.std.proofs.Common.{◌≡◌, ◌∙◌, ℕ, ◌+◌, ◌<◌, Bool, true, false, cond, List, ◌∷◌, get_or, length, map, drop}
use Rattle.std.proofs.Common.{Option, Some, None, refl, sym, ap}
use Rattle.std.specs.Prelude.{option_map, if◌then◌else◌}
use Rattle.std.specs.Borrow.{Bor}
use Rattle.std.specs.BTreeMap.{BTreeMap, get_by}
use Rattle.std.specs.Option.{is_some, option_or}
use Rattle.std.specs.Ordering.{is_eq}
use Rattle.std.proofs.lemmas.Bool.{true≢false}
use Rattle.std.proofs.lemmas.List.{drop_more}
use Rattle.std.proofs.lemmas.Map.Views.{tells_apart}
use Rattle.casebook_record.specs.declared.record.Record.{Record}
use Rattle.casebook_record.specs.declared.start.Start.{Start}
use Rattle.retro_path.specs.Order.{text_cmp, text_eq, text_exact}
use Rattle.casebook_typed.specs.Seeing.{said}
use Rattle.casebook_typed.specs.Missing.{missing_in}
use Rattle.casebook_typed.specs.Sessions.{SessionValue, first_record, first_start, parent_by, place_in, session_in, start_if, steps_of}
use Rattle.casebook_typed.specs.inner.FirstRecords.{named, value_if}
use Rattle.casebook_typed.specs.declared.observation.Observation.{Observation}
use Rattle.casebook_typed.proofs.Keys.{same_name}

same_text : (q key : List ℕ) → text_eq q key ≡ true → key ≡ q
same_text q key e = tells_apart text_exact key q (same_name key q ∙ e)

or_none : {X : Type 0} (o : Option X) → o ≡ option_or o None
or_none None = refl
or_none (Some x) = refl

-- ---- one session more

module _ {X : Type 0} (old new : BTreeMap (List ℕ) (Bor X)) (key : List ℕ) (x : Bor X) where
  -- nothing was known of the session
  pub named_first : is_some (get_by (text_cmp key) old) ≡ false
      → ((q : List ℕ) → get_by (text_cmp q) new ≡ cond (is_eq (text_cmp key q)) (Some x) (get_by (text_cmp q) old))
      → (q : List ℕ) → named q new ≡ option_or (named q old) (value_if q key x.now)
  named_first absent updates q =
      ap (option_map (λ (y : Bor X). y.now)) (updates q ∙ ap (λ b. cond b (Some x) (get_by (text_cmp q) old)) (same_name key q))
      ∙ by_test (text_eq q key) refl
    where
      nothing : (o : Option (Bor X)) → is_some o ≡ false → Some x.now ≡ option_or (option_map (λ (y : Bor X). y.now) o) (Some x.now)
      nothing None e = refl
      nothing (Some y) e = absurd (true≢false e)

      by_test : (b : Bool) → text_eq q key ≡ b
          → option_map (λ (y : Bor X). y.now) (cond b (Some x) (get_by (text_cmp q) old))
          ≡ option_or (named q old) (if b then Some x.now else None)
      by_test true e =
          nothing (get_by (text_cmp q) old) (ap (λ k. is_some (get_by (text_cmp k) old)) (sym (same_text q key e)) ∙ absent)
      by_test false e = or_none (named q old)

  -- something was known of the session
  pub named_known : is_some (get_by (text_cmp key) old) ≡ true
      → (q : List ℕ) → named q old ≡ option_or (named q old) (value_if q key x.now)
  named_known known q = by_test (text_eq q key) refl
    where
      there : (o : Option (Bor X)) (p : Option X) → is_some o ≡ true
          → option_map (λ (y : Bor X). y.now) o ≡ option_or (option_map (λ (y : Bor X). y.now) o) p
      there None p e = absurd (true≢false (sym e))
      there (Some y) p e = refl

      by_test : (b : Bool) → text_eq q key ≡ b → named q old ≡ option_or (named q old) (if b then Some x.now else None)
      by_test true e =
          there (get_by (text_cmp q) old) (Some x.now)
          (ap (λ k. is_some (get_by (text_cmp k) old)) (sym (same_text q key e)) ∙ known)
      by_test false e = or_none (named q old)

-- ---- one record more

regroup : {X : Type 0} (a b c : Option X) → option_or (option_or a b) c ≡ option_or a (option_or b c)
regroup None b c = refl
regroup (Some x) b c = refl

or_if : {X : Type 0} (a rest : Option X) (b : Bool) (x : X)
    → option_or (option_or a (if b then Some x else None)) rest ≡ option_or a (if b then Some x else rest)
or_if None rest true x = refl
or_if None rest false x = refl
or_if (Some y) rest true x = refl
or_if (Some y) rest false x = refl

module _ (os : List Observation) (i : ℕ) (o : Observation) (below : i < length os) (is : o ≡ get_or os i o) where
  rest_is : map said (drop i os) ≡ said o ∷ map said (drop (i + 1) os)
  rest_is = ap (map said) (drop_more os i o below) ∙ ap (λ x. said x ∷ map said (drop (i + 1) os)) (sym is)

  pub next_record : (q : List ℕ) (old new wanted : Option Record)
      → new ≡ option_or old (value_if q (said o).session (said o))
      → option_or old (first_record q (map said (drop i os))) ≡ wanted
      → option_or new (first_record q (map said (drop (i + 1) os))) ≡ wanted
  next_record q old new wanted one so_far =
      ap (λ n. option_or n (first_record q (map said (drop (i + 1) os)))) one
      ∙ or_if old (first_record q (map said (drop (i + 1) os))) (text_eq q (said o).session) (said o)
      ∙ sym (ap (λ rs. option_or old (first_record q rs)) rest_is) ∙ so_far

  pub next_start : (q : List ℕ) (old new wanted : Option Start)
      → new ≡ option_or old (start_if q (said o).session (said o).event)
      → option_or old (first_start q (map said (drop i os))) ≡ wanted
      → option_or new (first_start q (map said (drop (i + 1) os))) ≡ wanted
  next_start q old new wanted one so_far =
      ap (λ n. option_or n (first_start q (map said (drop (i + 1) os)))) one
      ∙ regroup old (start_if q (said o).session (said o).event) (first_start q (map said (drop (i + 1) os)))
      ∙ sym (ap (λ rs. option_or old (first_start q rs)) rest_is) ∙ so_far

-- ---- a session

pub session_is : (names : List (List ℕ)) (records : List Record) (name : List ℕ) (first : Option Record)
    (start : Option Start) (parent missing : ℕ) → first ≡ first_record name records → start ≡ first_start name records
    → parent ≡ parent_by names start → missing ≡ missing_in (steps_of records) (place_in names name)
    → (let this : SessionValue = record { name = name; first = first; start = start; parent = parent; missing = missing }
    in this ≡ session_in names records name)
session_is names records name first start parent missing first_is start_is parent_is missing_is = λ i. record {
  name = name;
  first = first_is i;
  start = start_is i;
  parent = (parent_is ∙ ap (parent_by names) start_is) i;
  missing = missing_is i;
}
