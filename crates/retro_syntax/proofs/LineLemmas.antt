-- A text is read as the line that it spells.
use Rattle.std.proofs.Common.{true, false, nat_le, ◌≡◌, ◌≤◌, ◌<◌, Bool, ℕ, List, [], ◌∷◌, length, Option, Some, None}
use Rattle.std.proofs.Common.{cond, Result, Ok, Err, option_map, option_and_then, refl, sym, ap, subst, ◌∙◌}
use Rattle.std.specs.Str.{chars}
use Rattle.std.proofs.lemmas.Bool.{leb-true, leb-false, le-leb, lt-leb}
use Rattle.retro_syntax.specs.Tree.{Token, Commands}
use Rattle.retro_syntax.specs.Parsing.{commands_of}
use Rattle.retro_syntax.specs.Quoting.{tokens_of}
use Rattle.retro_syntax.specs.Depth.{line_depth}
use Rattle.retro_syntax.specs.Lines.{SpellsLine, TextSpells, SpellsWithin, Meets, Answers, line_of, line_of_tokens}
use Rattle.retro_syntax.specs.Lines.{line_view, parsed, if_short, if_shallow, refused_of}
use Rattle.retro_syntax.specs.declared.lines.Line.{Line}
use Rattle.retro_syntax.specs.declared.lines.Refused.{Refused}
use Rattle.retro_syntax.specs.declared.lines.Refused.TheVariants.{Unsupported, TooDeep}
use Rattle.std.specs.Result.{IsErrAnd}
use Rattle.retro_path.specs.OutOfMemory.{IsMeant}
use Rattle.retro_syntax.specs.inner.Failing.{fault}
use Rattle.retro_syntax.specs.declared.syntax_error.SyntaxError.{SyntaxError}
use Rattle.retro_syntax.specs.declared.syntax_error.SyntaxError.TheVariants as e
use Rattle.retro_syntax.proofs.Sound.{Spells-commands_of}
use Rattle.retro_syntax.proofs.Complete.{commands_of-Spells}

inj : {A : Type 0} (a b : A) → Some a ≡ Some b → a ≡ b
inj a b e = cc

some_commands : (ts : List Token) (m : Option Commands) (l : Option Commands) → commands_of ts ≡ m
    → option_map (λ c. Some c) m ≡ Some l → SpellsLine ts l
some_commands ts None l e f = absurd (let g : None ≡ Some l = f in cc)
some_commands ts (Some c) l e f = subst (λ x. SpellsLine ts x) (inj (Some c) l f) (Spells-commands_of ts c e)

tokens_spell : (ts : List Token) (l : Option Commands) → line_of_tokens ts ≡ Some l → SpellsLine ts l
tokens_spell [] l e = subst (λ x. SpellsLine [] x) (inj None l e) refl
tokens_spell (t ∷ ts) l e = some_commands (t ∷ ts) (commands_of (t ∷ ts)) l refl e

no_tokens : (c : Commands) → commands_of [] ≡ Some c → ⊥
unfolding commands_of
no_tokens c e = let f : None ≡ Some c = e in cc

spelled_tokens : (ts : List Token) (l : Option Commands) → SpellsLine ts l → line_of_tokens ts ≡ Some l
spelled_tokens [] None h = refl
spelled_tokens (t ∷ ts) None h = cc
spelled_tokens [] (Some c) h = absurd (no_tokens c (commands_of-Spells [] c h))
spelled_tokens (t ∷ ts) (Some c) h = ap (option_map (λ x. Some x)) (commands_of-Spells (t ∷ ts) c h)

from_tokens : (text : List ℕ) (m : Option (List Token)) (l : Option Commands) → tokens_of (chars text) ≡ m
    → option_and_then line_of_tokens m ≡ Some l → TextSpells text l
from_tokens text None l e f = absurd (let g : None ≡ Some l = f in cc)
from_tokens text (Some ts) l e f = record { tokens = ts; lexed = e; spelled = tokens_spell ts l f }

pub TextSpells-line_of : (text : List ℕ) (l : Option Commands) → line_of text ≡ Some l → TextSpells text l
unfolding line_of
TextSpells-line_of text l e = from_tokens text (tokens_of (chars text)) l refl e

pub line_of-TextSpells : (text : List ℕ) (l : Option Commands) → TextSpells text l → line_of text ≡ Some l
unfolding line_of
line_of-TextSpells text l x = ap (option_and_then line_of_tokens) x.lexed ∙ spelled_tokens x.tokens l x.spelled

pub one_line : (text : List ℕ) (k l : Option Commands) → TextSpells text k → TextSpells text l → k ≡ l
one_line text k l x y = inj k l (sym (line_of-TextSpells text k x) ∙ line_of-TextSpells text l y)

-- ---- within the limits

pub parsed_long : (text : List ℕ) → 4096 < length text → parsed text ≡ None
unfolding parsed
parsed_long text h = ap (λ b. if_short b text) (lt-leb (length text) 4096 h)

parsed_short : (text : List ℕ) → length text ≤ 4096 → parsed text ≡ option_and_then if_shallow (line_of text)
unfolding parsed
parsed_short text h = ap (λ b. if_short b text) (le-leb (length text) 4096 h)

parsed_of : (text : List ℕ) (l : Option Commands) (t : Bool) → length text ≤ 4096 → line_of text ≡ Some l
    → nat_le (line_depth l) 32 ≡ t
    → parsed text ≡ cond t (Some l) None
parsed_of text l t h e d = parsed_short text h ∙ ap (option_and_then if_shallow) e ∙ ap (λ b. cond b (Some l) None) d

no_line : (text : List ℕ) → line_of text ≡ None → (l : Option Commands) → TextSpells text l → ⊥
no_line text h l x = let both : None ≡ Some l = sym h ∙ line_of-TextSpells text l x in cc

-- ---- what is refused, and what is found

-- both clauses of `parse`
abbrev Both : List ℕ → Result Line Refused → Type 0
Both text r = Meets text r × Answers text r

pub refused_unspelled : (text : List ℕ) → length text ≤ 4096 → line_of text ≡ None → Both text (Err Unsupported)
refused_unspelled text h e = ((h, no_line text e), parsed_short text h ∙ ap (option_and_then if_shallow) e)

refused_by : (text : List ℕ) (e : SyntaxError) → length text ≤ 4096 → IsMeant (fault e) (line_of text)
    → Both text (Err (refused_of e))
refused_by text e.Unsupported h m = refused_unspelled text h m
refused_by text e.NoMem h m = (tt, tt)

-- a fault of `line_of` that is passed on
pub refused_result : (text : List ℕ) (r : Result Line Refused) (e : SyntaxError) → length text ≤ 4096
    → IsErrAnd r (λ x. x ≡ refused_of e) → IsMeant (fault e) (line_of text) → Both text r
refused_result text (Ok line) e h k m = absurd k
refused_result text (Err x) e h k m = subst (λ y. Both text (Err y)) (sym k) (refused_by text e h m)

pub refused_deep : (text : List ℕ) (l : Option Commands) → length text ≤ 4096 → line_of text ≡ Some l
    → nat_le (line_depth l) 32 ≡ false → Both text (Err TooDeep)
refused_deep text l h e d =
    ((h, (l, TextSpells-line_of text l e, leb-false (line_depth l) 32 d)), parsed_of text l false h e d)

pub found_line : (text : List ℕ) (line : Line) → length text ≤ 4096 → line_of text ≡ Some (line_view line)
    → nat_le (line_depth (line_view line)) 32 ≡ true → Both text (Ok line)
found_line text line h e d = (
  (h, TextSpells-line_of text (line_view line) e, leb-true (line_depth (line_view line)) 32 d),
  parsed_of text
      (line_view line) true h e d,
)

-- ---- the line that is answered for a text

shallow_line : (text : List ℕ) (k l : Option Commands) (t : Bool) → length text ≤ 4096 → line_of text ≡ Some k
    → nat_le (line_depth k) 32 ≡ t
    → cond t (Some k) None ≡ Some l → SpellsWithin text l
shallow_line text k l true h e d f =
    subst (λ m. SpellsWithin text m) (inj k l f)
    (record { short = h; spelled = TextSpells-line_of text k e; shallow = leb-true (line_depth k) 32 d })
shallow_line text k l false h e d f = absurd (let both : None ≡ Some l = f in cc)

spelled_line : (text : List ℕ) (m : Option (Option Commands)) (l : Option Commands) → length text ≤ 4096
    → line_of text ≡ m → option_and_then if_shallow m ≡ Some l → SpellsWithin text l
spelled_line text None l h e f = absurd (let both : None ≡ Some l = f in cc)
spelled_line text (Some k) l h e f = shallow_line text k l (nat_le (line_depth k) 32) h e refl f

short_line : (text : List ℕ) (t : Bool) (l : Option Commands) → nat_le (length text) 4096 ≡ t → if_short t text ≡ Some l
    → SpellsWithin text l
short_line text true l h e = spelled_line text (line_of text) l (leb-true (length text) 4096 h) refl e
short_line text false l h e = absurd (let both : None ≡ Some l = e in cc)

pub parsed-SpellsWithin : (text : List ℕ) (l : Option Commands) → parsed text ≡ Some l → SpellsWithin text l
unfolding parsed
parsed-SpellsWithin text l e = short_line text (nat_le (length text) 4096) l refl e

pub SpellsWithin-parsed : (text : List ℕ) (l : Option Commands) → SpellsWithin text l → parsed text ≡ Some l
SpellsWithin-parsed text l x = parsed_of text l true x.short (line_of-TextSpells text l x.spelled)
    (le-leb (line_depth l) 32 x.shallow)
