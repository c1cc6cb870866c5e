-- The rows of an about document.
use Rattle.std.specs.Prelude.{ℕ, ◌+◌, ℤ, List, [], ◌∷◌, Option, Some, None, Result, Ok, Err}
use Rattle.std.specs.Prelude.{if◌then◌else◌, nat_lt, ◌^◌, option_and_then, string_bytes}
use Rattle.serde_json.specs.Data.{Data}
use Rattle.serde_json.specs.Find.{as_i64, as_number, as_str, as_u64, at}
use Rattle.casebook_about.specs.declared.fault.AboutFault.{AboutFault}
use Rattle.casebook_about.specs.declared.fault.AboutFault.TheVariants.{BadRow}
use Rattle.casebook_about.specs.declared.fault.Part.{Part}
use Rattle.casebook_about.specs.declared.rows.LineTime.{LineTime}
use Rattle.casebook_about.specs.declared.rows.SessionUser.{SessionUser}

-- ---- cells

-- a number of 32 bits
abbrev pub u32_of : ℕ → Option ℕ
u32_of n = if nat_lt n (2 ^ 32) then Some n else None

abbrev pub number_at : ℕ → Data → Option ℕ
number_at cell row = option_and_then u32_of (option_and_then as_u64 (option_and_then as_number (at cell row)))

abbrev pub text_at : ℕ → Data → Option (List ℕ)
text_at cell row = option_and_then as_str (at cell row)

-- a whole number of 64 bits, with a sign
abbrev pub signed_at : ℕ → Data → Option ℤ
signed_at cell row = option_and_then as_i64 (option_and_then as_number (at cell row))

abbrev pub both : {A B : Type 0} → Option A → Option B → Option (A × B)
both (Some x) (Some y) = Some (x, y)
both _ _ = None

-- ---- rows

-- a session and its user: `[number,"name",..]`
abbrev pub user_row : Data → Option (ℕ × List ℕ)
user_row row = both (number_at 0 row) (text_at 1 row)

-- a line and its time: `[number,seconds,..]`
abbrev pub time_row : Data → Option (ℕ × ℤ)
time_row row = both (number_at 0 row) (signed_at 1 row)

abbrev pub row_then : {A : Type 0} → Part → ℕ → Option A → Result (List A) AboutFault → Result (List A) AboutFault
row_then part place None rest = Err (BadRow part (place + 1))
row_then part place (Some x) (Ok xs) = Ok (x ∷ xs)
row_then part place (Some x) (Err fault) = Err fault

-- what all rows from an index on say, or the place of the first that is none, counted from 1
unfoldable pub rows_from : {A : Type 0} → Part → (Data → Option A) → ℕ → List Data → Result (List A) AboutFault
rows_from part row place [] = Ok []
rows_from part row place (d ∷ ds) = row_then part place (row d) (rows_from part row (place + 1) ds)

abbrev pub rows_read : {A : Type 0} → Part → (Data → Option A) → List Data → Result (List A) AboutFault
rows_read part row ds = rows_from part row 0 ds

-- ---- values of the code

abbrev pub user_view : SessionUser → ℕ × List ℕ
user_view user = (user.session, string_bytes user.user)

abbrev pub time_view : LineTime → ℕ × ℤ
time_view time = (time.number, time.second)
