-- Where a document breaks the rule for which it is refused.
use Rattle.std.specs.Prelude.{◌≡◌, ℕ, ◌+◌, ◌==◌, ◌||◌, true, false, List, [], Some, None, Result, Ok, Err}
use Rattle.std.specs.Prelude.{⊤}
use Rattle.std.specs.Result.{result_unwrap_or}
use Rattle.std.specs.Str.{IsUtf8}
use Rattle.std.specs.Str.Lossy.{utf8_valid_len}
use Rattle.serde_json.specs.Data.{Data, Members}
use Rattle.serde_json.specs.Find.{as_object, get}
use Rattle.serde_json.specs.Read.{read}
use Rattle.retro_json.specs.declared.fault.Part.TheVariants as parts
use Rattle.retro_json.specs.declared.fault.Refusal.{Refusal}
use Rattle.retro_json.specs.declared.fault.Refusal.TheVariants as refusals
use Rattle.retro_json.specs.SessionsPart.{sessions_of}
use Rattle.retro_json.specs.Shape.{cells}
use Rattle.retro_json.specs.Steps.{◌>>=◌, guard}
use Rattle.retro_json.specs.TreePart.{tree_of}
use Rattle.retro_log.specs.Document.{from_key, has_member, json_of, line_number_in, member_at, version_in, version_is}
use Rattle.retro_log.specs.Document.{script_version}
use Rattle.retro_log.specs.LinesPart.{lines_of}
use Rattle.retro_log.specs.LogLinesPart.{log_lines_of}
use Rattle.casebook_check.specs.Items.{IsFall, IsFirst, IsRepeat, IsStranger, item_refusal, number_at}
use Rattle.casebook_check.specs.Keys.{first_missing, key_name, may_have}
use Rattle.casebook_check.specs.declared.key.Key.{Key}
use Rattle.casebook_check.specs.declared.key.Key.TheVariants as keys
use Rattle.casebook_check.specs.declared.kind.Kind.{Kind}
use Rattle.casebook_check.specs.declared.kind.Kind.TheVariants as kinds
use Rattle.casebook_check.specs.declared.place.Item.{Item}
use Rattle.casebook_check.specs.declared.place.Place.{Place}
use Rattle.casebook_check.specs.declared.place.Place.TheVariants as places

-- ---- the value of a key

-- the lines of a document of a kind, as a whole, are refused
abbrev pub AreLinesRefused : Kind → Data → Refusal → Type 0
AreLinesRefused kinds.Script d refusal = lines_of d ≡ Err refusal
AreLinesRefused kinds.Log d refusal = log_lines_of d ≡ Err refusal

-- reading the version of a kind of document
abbrev pub version_read : Kind → Data → Result ⊤ Refusal
version_read kinds.Script d = version_is script_version d
version_read kinds.Log d =
    version_in d >>= λ version. guard (version == 1 || version == 2) refusals.BadVersion

-- the value of a key, as a whole, is refused
abbrev pub IsValueRefused : Kind → Key → Data → Refusal → Type 0
IsValueRefused kind keys.Script d refusal = version_read kinds.Script d ≡ Err refusal
IsValueRefused kind keys.Log d refusal = version_read kinds.Log d ≡ Err refusal
IsValueRefused kind keys.From d refusal = line_number_in d ≡ Err refusal
IsValueRefused kind keys.Tree d refusal = tree_of d ≡ Err refusal
IsValueRefused kind keys.Sessions d refusal = sessions_of d ≡ Err refusal
IsValueRefused kind keys.Lines d refusal = AreLinesRefused kind d refusal

-- ---- an item of the list at a key

-- the items of the list at a key
abbrev pub HasItems : Data → Key → List Data → Type 0
HasItems d key items = (v : Data) × (get (key_name key) d ≡ Some v) × (cells parts.Lines v ≡ Ok items)

-- the number with which the lines of a document may begin
abbrev pub least_number : Data → ℕ
least_number d = result_unwrap_or (member_at from_key d >>= line_number_in) 1

-- the item at an index of the list at a key; positions are counted from 1
abbrev pub item_at : Key → List Data → ℕ → Item
item_at key items index = record { key = key; position = index + 1; number = number_at key items index }

-- ---- places

-- The place in a JSON value is one where the value breaks the rule of a refusal. A row for each way
-- in which it may do so.
pub data IsPlaceIn (kind : Kind) (d : Data) : Refusal → Place → Type 0 where
  -- nothing narrower is said
  anywhere : {refusal : Refusal} → IsPlaceIn kind d refusal places.Document
  -- a key of the object is none that such a document may have
  other_key : {key : List ℕ} → has_member d key ≡ true → may_have kind d key ≡ false
      → IsPlaceIn kind d refusals.UnknownKey (places.OtherKey key)
  -- it's the first key that the object should have and lacks
  missing_key : {key : Key} → (members : Members) → as_object d ≡ Some members → first_missing kind d ≡ Some key
      → IsPlaceIn kind d (refusals.WrongShape parts.Document) (places.MissingKey key)
  -- the value of a key is refused so
  value : {refusal : Refusal} {key : Key} → (v : Data) → get (key_name key) d ≡ Some v
      → IsValueRefused kind key v refusal → IsPlaceIn kind d refusal (places.Value key)
  -- it's the first item of its list that is refused so
  item : {refusal : Refusal} → (key : Key) (items : List Data) (index : ℕ) → HasItems d key items
      → IsFirst (λ one. item_refusal kind key one ≡ Some refusal) items index
      → IsPlaceIn kind d refusal (places.Item (item_at key items index))
  -- it's the first line whose number is too small
  fall : (items : List Data) (index : ℕ) → HasItems d keys.Lines items → IsFall (least_number d) items index
      → IsPlaceIn kind d refusals.NumbersNotRising (places.Item (item_at keys.Lines items index))
  -- it's the first line whose session isn't among the sessions
  stranger : (rows items : List Data) (index : ℕ) → HasItems d keys.Sessions rows → HasItems d keys.Lines items
      → IsFirst (IsStranger rows) items index
      → IsPlaceIn kind d refusals.UnknownSession (places.Item (item_at keys.Lines items index))
  -- it's the first row of the sessions whose number a row before it has
  repeat : (rows : List Data) (index : ℕ) → HasItems d keys.Sessions rows → IsRepeat [] rows index
      → IsPlaceIn kind d (refusals.WrongShape parts.Sessions) (places.Item (item_at keys.Sessions rows index))

-- The place in the bytes of a document is one where they break the rule of a refusal.
pub data IsPlace (kind : Kind) (bytes : List ℕ) : Refusal → Place → Type 0 where
  -- nothing narrower is said
  whole : {refusal : Refusal} → IsPlace kind bytes refusal places.Document
  -- the bytes before this one are the longest front that is UTF-8
  not_utf8 : {position : ℕ} → ¬ (IsUtf8 bytes) → position ≡ utf8_valid_len bytes + 1
      → IsPlace kind bytes refusals.NotJson (places.Byte position)
  -- the bytes are UTF-8 and no JSON value; where reading them stopped isn't defined
  not_json : {position : ℕ} → IsUtf8 bytes → read bytes ≡ None
      → IsPlace kind bytes refusals.NotJson (places.Byte position)
  -- the bytes are a JSON value, and the place is in it
  inside : {refusal : Refusal} {place : Place} → (d : Data) → json_of bytes ≡ Some d
      → IsPlaceIn kind d refusal place → IsPlace kind bytes refusal place

-- the place in a log
abbrev pub IsPlaceInLog : List ℕ → Refusal → Place → Type 0
IsPlaceInLog bytes refusal place = IsPlace kinds.Log bytes refusal place

-- the place in a script
abbrev pub IsPlaceInScript : List ℕ → Refusal → Place → Type 0
IsPlaceInScript bytes refusal place = IsPlace kinds.Script bytes refusal place
