-- The parts of a document's object, as its members are put in one after another.
use Rattle.std.proofs.Common.{◌≡◌, List, ◌∷◌, Bool, true, false, ◌&&◌, ◌||◌, cond, Option, Some, None, Result}
use Rattle.std.proofs.Common.{MatchOption, is_some, option_map, bytes_eq, sym, ap, ◌∙◌}
use Rattle.std.specs.Prelude.{codes}
use Rattle.json.specs.Token.{Token}
use Rattle.serde_json.specs.Data.{Data, Members, object, put}
use Rattle.serde_json.specs.Find.{as_object, get_member}
use Rattle.retro_value.specs.Left.{value_left}
use Rattle.retro_json.specs.declared.fault.Refusal.{Refusal}
use Rattle.retro_json.specs.Shape.{Text}
use Rattle.retro_json.specs.Rows.{session_rows, tree_rows}
use Rattle.retro_log.specs.Document.{from_key, has_keys, is_key, line_number_in, version_in}
use Rattle.retro_log.specs.inner.Parts.{Kind, Parts, all_lines, keys_of, log, parts_of, script, version_key}
use Rattle.retro_log.proofs.Puts.{get_put, keys_put, not_key}

-- the parts, by the members at their keys
abbrev pub parts_read : {L : Type 0} → (Data → Result L Refusal) → Bool → Option Data → Option Data
    → Option Data → Option Data → Option Data → Parts L
parts_read line_of known version from tree sessions lines = record {
  is_known = known;
  version = option_map version_in version;
  from = option_map line_number_in from;
  tree = option_map tree_rows tree;
  sessions = option_map session_rows sessions;
  lines = option_map (all_lines line_of) lines;
}

module _ {L : Type 0} (line_of : Data → Result L Refusal) (d : Data) (ms : Members) where
  -- the parts with one more member, by whether its key is known and which part's it is
  abbrev parts_if : Kind → Bool → Bool → Bool → Bool → Bool → Bool → Parts L
  parts_if kind known version from tree sessions lines =
      let at : Text → Bool → Option Data = λ key same. cond same (Some d) (get_member key ms) in
      parts_read line_of (known && has_keys (is_key (keys_of kind)) ms) (at (version_key kind) version)
      (at from_key from) (at (codes "tree") tree) (at (codes "sessions") sessions) (at (codes "lines") lines)

  abbrev parts_with : Kind → Text → Parts L
  parts_with kind k =
      parts_if kind (is_key (keys_of kind) k) (bytes_eq (version_key kind) k) (bytes_eq from_key k)
      (bytes_eq (codes "tree") k) (bytes_eq (codes "sessions") k) (bytes_eq (codes "lines") k)

  parts_put : (kind : Kind) (k : Text) → parts_of kind line_of (put k d ms) ≡ parts_with kind k
  parts_put kind k =
      λ i. parts_read line_of (keys_put (is_key (keys_of kind)) k d ms i) (get_put (version_key kind) k d ms i)
      (get_put from_key k d ms i) (get_put (codes "tree") k d ms i) (get_put (codes "sessions") k d ms i)
      (get_put (codes "lines") k d ms i)

  -- at a key, the part is that of the member
  pub put_version : (kind : Kind) (k : Text) → k ≡ version_key kind
      → parts_of kind line_of (put k d ms) ≡ record (parts_of kind line_of ms) { version = Some (version_in d) }
  put_version script k is = parts_put script k ∙ ap (parts_with script) is
  put_version log k is = parts_put log k ∙ ap (parts_with log) is

  pub put_from : (kind : Kind) (k : Text) → k ≡ codes "from"
      → parts_of kind line_of (put k d ms) ≡ record (parts_of kind line_of ms) { from = Some (line_number_in d) }
  put_from script k is = parts_put script k ∙ ap (parts_with script) is
  put_from log k is = parts_put log k ∙ ap (parts_with log) is

  pub put_tree : (kind : Kind) (k : Text) → k ≡ codes "tree"
      → parts_of kind line_of (put k d ms) ≡ record (parts_of kind line_of ms) { tree = Some (tree_rows d) }
  put_tree script k is = parts_put script k ∙ ap (parts_with script) is
  put_tree log k is = parts_put log k ∙ ap (parts_with log) is

  pub put_sessions : (kind : Kind) (k : Text) → k ≡ codes "sessions"
      → parts_of kind line_of (put k d ms) ≡ record (parts_of kind line_of ms) { sessions = Some (session_rows d) }
  put_sessions script k is = parts_put script k ∙ ap (parts_with script) is
  put_sessions log k is = parts_put log k ∙ ap (parts_with log) is

  pub put_lines : (kind : Kind) (k : Text) → k ≡ codes "lines"
      → parts_of kind line_of (put k d ms) ≡ record (parts_of kind line_of ms) { lines = Some (all_lines line_of d) }
  put_lines script k is = parts_put script k ∙ ap (parts_with script) is
  put_lines log k is = parts_put log k ∙ ap (parts_with log) is

  -- at no key, the document has a key too many
  pub put_other : (kind : Kind) (k : Text) → (k ≡ version_key kind → ⊥) → (k ≡ codes "from" → ⊥)
      → (k ≡ codes "tree" → ⊥) → (k ≡ codes "sessions" → ⊥) → (k ≡ codes "lines" → ⊥)
      → parts_of kind line_of (put k d ms) ≡ record (parts_of kind line_of ms) { is_known = false }
  put_other kind k version from tree sessions lines =
      let back : (key : Text) → (k ≡ key → ⊥) → bytes_eq key k ≡ false = λ key h. not_key key k (λ e. h (sym e)) in
      parts_put kind k
      ∙ (λ i. parts_if kind (not_key k from_key from i || (not_key k (version_key kind) version i
      || (not_key k (codes "tree") tree i || (not_key k (codes "sessions") sessions i
      || (not_key k (codes "lines") lines i || false))))) (back (version_key kind) version i) (back from_key from i)
      (back (codes "tree") tree i) (back (codes "sessions") sessions i) (back (codes "lines") lines i))

-- ---- texts

-- a text that goes on after its value
pub goes_on : {P R : Type 0} (Is : P → Members → Type 0) (Over : Type 0) (token : R → Token) (found : Option P)
    (next : Option R) (old rest new : List Token)
    → MatchOption found ((d : Data) × (value_left 127 old ≡ Some (d, rest)) × (as_object d ≡ None))
    (λ p. (ms : Members) × (value_left 127 old ≡ Some (object ms, rest)) × Is p ms)
    → MatchOption next Over (λ t. rest ≡ token t ∷ new) → is_some next ≡ true
    → (d : Data) × (t : Token) × (value_left 127 old ≡ Some (d, t ∷ new))
goes_on Is Over token None (Some t) old rest new read more some = (read.0, token t, read.1 ∙ ap (λ r. Some (read.0, r)) more)
goes_on Is Over token (Some p) (Some t) old rest new read more some =
    (object read.0, token t, read.1 ∙ ap (λ r. Some (object read.0, r)) more)
goes_on Is Over token found None old rest new read more some = absurd (cc)
