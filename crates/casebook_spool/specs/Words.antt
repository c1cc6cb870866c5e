-- The words with which rows begin, and other words in them.
use Rattle.std.specs.Prelude.{ℕ, List, codes}
use Rattle.casebook_watch.specs.declared.kind.Kind.{Kind}
use Rattle.casebook_watch.specs.declared.kind.Kind.TheVariants as kinds
use Rattle.casebook_spool.specs.declared.content.Unkept.{Unkept}
use Rattle.casebook_spool.specs.declared.content.Unkept.TheVariants as unkepts

-- the word of a path at which something of this kind is
abbrev pub kind_word : Kind → List ℕ
kind_word kinds.Dir = codes "dir"
kind_word kinds.File = codes "file"
kind_word kinds.Link = codes "link"
kind_word kinds.Other = codes "other"

-- why bytes aren't kept
abbrev pub unkept_word : Unkept → List ℕ
unkept_word unkepts.TooLarge = codes "too-large"
unkept_word unkepts.Unreadable = codes "unreadable"
unkept_word unkepts.Changing = codes "changing"
