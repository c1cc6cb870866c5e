-- A value without floats is read back, and so are arrays of such values.
use Rattle.std.proofs.Common.{◌≡◌, ◌∙◌, ℕ, ◌≤◌, List, [], ◌∷◌, Bool, true, false, Option, Some, refl}
use Rattle.std.proofs.Common.{sym, ap, ap₂, suc, max, arith, append-nil, subst}
use Rattle.std.specs.Prelude.{IsUtf8, option_and_then}
use Rattle.std.proofs.lemmas.Str.{IsUtf8-append}
use lib.Utf8.{encode}
use Rattle.json.specs.Token.{Token}
use Rattle.json.specs.Lex.{tokens}
use Rattle.json.specs.Json as json
use Rattle.json.specs.Tree as tree
use Rattle.json.specs.Tree.{json_tokens, HasNumbers, ItemsHaveNumbers}
use Rattle.json.proofs.Numbered.{ArePrintableOrBad-tokens, value-HasNumbers}
use Rattle.json.proofs.Printed.Tokens.{tokens-print}
use Rattle.json.proofs.Printed.Trees.{value-json_tokens, ArePrintable-json_tokens}
use Rattle.serde_json.specs.Data.{Data, null, boolean, number, string, array, object, Items, no_items, item, Members}
use Rattle.serde_json.specs.Data.{no_members, member, depth, items_depth, members_depth}
use Rattle.serde_json.specs.Read.{read, of_json, of_items, max_depth}
use Rattle.serde_json.specs.Written.{outline, items_outline, members_outline, compact_text, items_text}
use Rattle.serde_json.specs.Written.{comma_if}
use Rattle.serde_json.specs.Written.{IsInOrder, has_float}
use Rattle.serde_json.specs.View.{items_of}
use Rattle.serde_json.proofs.Texts.{tokens_from_order, print-outline}
use Rattle.retro_json.specs.Values.{array_of}
use Rattle.retro_json.specs.ReadBack.{IsReadBack}

-- ---- a value is read back as deep as it is written

mutual
  outline_depth : (d : Data) → tree.depth (outline d) ≡ depth d
  outline_depth null = refl
  outline_depth (boolean b) = refl
  outline_depth (number n) = refl
  outline_depth (string s) = refl
  outline_depth (array ds) = ap suc (items_outline_depth ds)
  outline_depth (object ms) = ap suc (members_outline_depth ms)

  items_outline_depth : (ds : Items) → tree.items_depth (items_outline ds) ≡ items_depth ds
  items_outline_depth no_items = refl
  items_outline_depth (item d ds) = ap₂ max (outline_depth d) (items_outline_depth ds)

  members_outline_depth : (ms : Members) → tree.members_depth (members_outline ms) ≡ members_depth ms
  members_outline_depth no_members = refl
  members_outline_depth (member k d ms) = ap₂ max (outline_depth d) (members_outline_depth ms)

-- the JSON value that tokens are, if they are all of one
abbrev whole : Option (json.Json × List Token) → Option json.Json
whole o = option_and_then (λ p. json.if_last p.0 p.1) o

grammar : (d : Data) → depth d ≤ max_depth
    → json.value max_depth (json_tokens (outline d)) ≡ Some (outline d, [])
grammar d low =
    let same = outline_depth d in
    ap (json.value max_depth) (sym (append-nil _))
    ∙ value-json_tokens (outline d) max_depth [] (omega (arith, low, same))

-- a text of a value's tokens is read as what its outline is
read_outline : (text : List ℕ) (d : Data) → depth d ≤ max_depth → tokens text ≡ json_tokens (outline d)
    → read text ≡ of_json (outline d)
read_outline text d low same =
    ap (λ o. option_and_then of_json (whole o)) (ap (json.value max_depth) same ∙ grammar d low)

-- what `Value::to_vec` says of its text is enough
pub read_back : (text : List ℕ) (d : Data) → has_float d ≡ false → depth d ≤ max_depth → IsInOrder text d
    → read text ≡ Some d → text ≡ compact_text d → IsUtf8 text → IsReadBack d
read_back text d none low order reads is utf8 =
    let same : tokens text ≡ json_tokens (outline d) = tokens_from_order text d order none in
    record {
      value = sym (read_outline text d low same) ∙ reads;
      numbers =
          value-HasNumbers max_depth (tokens text) [] (outline d) (ArePrintableOrBad-tokens text)
          (ap (json.value max_depth) same ∙ grammar d low);
      utf8 = subst IsUtf8 is utf8;
    }

-- ---- and such a value's text is read as the value

pub text_tokens : (d : Data) → IsReadBack d → tokens (compact_text d) ≡ json_tokens (outline d)
text_tokens d h =
    ap tokens (sym (print-outline d))
    ∙ tokens-print (json_tokens (outline d)) (ArePrintable-json_tokens (outline d) h.numbers)

pub text_reads : (d : Data) → depth d ≤ max_depth → IsReadBack d → read (compact_text d) ≡ Some d
text_reads d low h = read_outline (compact_text d) d low (text_tokens d h) ∙ h.value

-- ---- arrays

abbrev pub AreReadBack : List Data → Type 0
AreReadBack [] = Unit {0}
AreReadBack (d ∷ ds) = IsReadBack d × AreReadBack ds

array_value : (ds : List Data) → AreReadBack ds → of_items (items_outline (items_of ds)) ≡ Some (items_of ds)
array_value [] h = refl
array_value (d ∷ ds) h = rw (h.0.value, array_value ds h.1) refl

array_numbers : (ds : List Data) → AreReadBack ds → ItemsHaveNumbers (items_outline (items_of ds))
array_numbers [] h = tt
array_numbers (d ∷ ds) h = (h.0.numbers, array_numbers ds h.1)

pub comma_utf8 : (later : Bool) → IsUtf8 (comma_if later)
unfolding encode
comma_utf8 true = (44 ∷ [], (refl, refl))
comma_utf8 false = ([], (refl, refl))

closed_utf8 : IsUtf8 (93 ∷ [])
unfolding encode
closed_utf8 = (93 ∷ [], (refl, refl))

opened_utf8 : IsUtf8 (91 ∷ [])
unfolding encode
opened_utf8 = (91 ∷ [], (refl, refl))

array_utf8 : (later : Bool) (ds : List Data) → AreReadBack ds → IsUtf8 (items_text later (items_of ds))
array_utf8 later [] h = closed_utf8
array_utf8 later (d ∷ ds) h =
    IsUtf8-append (comma_if later) _ (comma_utf8 later)
    (IsUtf8-append (compact_text d) (items_text true (items_of ds)) h.0.utf8 (array_utf8 true ds h.1))

pub array_read_back : (ds : List Data) → AreReadBack ds → IsReadBack (array_of ds)
array_read_back ds h = record {
  value = rw (array_value ds h) refl;
  numbers = array_numbers ds h;
  utf8 = IsUtf8-append (91 ∷ []) (items_text false (items_of ds)) opened_utf8 (array_utf8 false ds h);
}
