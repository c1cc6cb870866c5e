-- The object of a log is read back if its values are.
use Rattle.std.proofs.Common.{◌≡◌, ℕ, List, [], ◌∷◌, ◌++◌, Bool, true, false, refl}
use Rattle.std.proofs.Common.{sym, ap, arith, append_assoc, subst, codes}
use Rattle.std.specs.Prelude.{IsUtf8, option_map, decimal}
use Rattle.std.specs.Fmt.{digits}
use Rattle.std.proofs.lemmas.Str.{IsUtf8-append}
use lib.Utf8.{encode}
use Rattle.json.specs.Print.{quoted, escape_byte}
use Rattle.json.proofs.Printed.Decimals.{IsNumber-decimal}
use Rattle.json.proofs.Printed.Utf8.{are_ascii, IsUtf8-are_ascii, IsUtf8-key}
use Rattle.serde_json.specs.Data.{Data, number, Members}
use Rattle.serde_json.specs.Data.{no_members, member}
use Rattle.serde_json.specs.Written.{compact_text}
use Rattle.serde_json.specs.Written.{comma_if, members_text}
use Rattle.serde_json.proofs.Numbers.{number_of-decimal}
use Rattle.retro_log.specs.LogText.{log_object}
use Rattle.retro_json.specs.Values.{number_data}
use Rattle.retro_json.specs.ReadBack.{IsReadBack}
use Rattle.retro_json.proofs.ReadBack.{comma_utf8}

-- ---- objects

member_utf8 : (later : Bool) (k : List ℕ) (d : Data) (ms : Members) → IsUtf8 k → IsUtf8 (compact_text d)
    → IsUtf8 (members_text true ms) → IsUtf8 (members_text later (member k d ms))
member_utf8 later k d ms key value rest =
    subst IsUtf8 (sym (ap (λ text. comma_if later ++ text) (sym (append_assoc (quoted k) (58 ∷ []) _))))
    (IsUtf8-append (comma_if later) _ (comma_utf8 later)
    (IsUtf8-append (quoted k ++ 58 ∷ []) _ (IsUtf8-key k key)
    (IsUtf8-append (compact_text d) (members_text true ms) value rest)))

ended_utf8 : IsUtf8 (125 ∷ [])
unfolding encode
ended_utf8 = (125 ∷ [], (refl, refl))

begun_utf8 : IsUtf8 (123 ∷ [])
unfolding encode
begun_utf8 = (123 ∷ [], (refl, refl))

two_read_back : IsReadBack (number_data 2)
unfolding digits
two_read_back = record {
  value = ap (option_map number) (number_of-decimal 2 (omega arith));
  numbers = IsNumber-decimal 2 (omega arith);
  utf8 = IsUtf8-are_ascii (decimal 2) refl;
}

-- the object of a log
pub log_read_back : (from : ℕ) (lines sessions tree_of : Data) → IsReadBack (number_data from) → IsReadBack lines
    → IsReadBack sessions → IsReadBack tree_of → IsReadBack (log_object from lines sessions tree_of)
log_read_back from lines sessions tree_of n a b c =
    let trees = member (codes "tree") tree_of no_members in
    let state = member (codes "sessions") sessions trees in
    let version = member (codes "log") (number_data 2) state in
    let all_lines = member (codes "lines") lines version in
    let key : (k : List ℕ) → are_ascii k ≡ true → IsUtf8 k = IsUtf8-are_ascii in
    record {
      value = rw (n.value, a.value, two_read_back.value, b.value, c.value) refl;
      numbers = (n.numbers, (a.numbers, (two_read_back.numbers, (b.numbers, (c.numbers, tt)))));
      utf8 = IsUtf8-append (123 ∷ []) (members_text false (member (codes "from") (number_data from) all_lines))
          begun_utf8
          (member_utf8 false (codes "from") (number_data from) all_lines (key (codes "from") refl) n.utf8
          (member_utf8 true (codes "lines") lines version (key (codes "lines") refl) a.utf8
          (member_utf8 true (codes "log") (number_data 2) state (key (codes "log") refl) two_read_back.utf8
          (member_utf8 true (codes "sessions") sessions trees (key (codes "sessions") refl) b.utf8
          (member_utf8 true (codes "tree") tree_of no_members (key (codes "tree") refl) c.utf8 ended_utf8)))));
    }

-- the text of a log, in the pieces that it is written in
pub log_pieces : (from : ℕ) (lines sessions tree_of : Data) → compact_text (log_object from lines sessions tree_of)
    ≡ codes "{\"from\":" ++ (compact_text (number_data from) ++ (codes ",\"lines\":" ++ (compact_text lines
    ++ (codes ",\"log\":2,\"sessions\":" ++ (compact_text sessions
    ++ (codes ",\"tree\":" ++ (compact_text tree_of ++ codes "}")))))))
unfolding escape_byte digits
log_pieces from lines sessions tree_of = refl
