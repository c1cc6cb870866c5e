-- The constants of the template. Each of them, and each tag with a number, begins and ends outside
-- of tags, and what it begins of the style or of a script it ends.
use Rattle.std.specs.Prelude.{ℕ, List, ◌++◌, codes, decimal}
use Rattle.casebook_html.specs.declared.tag.Tag.{Tag}
use Rattle.casebook_html.specs.declared.tag.Tag.TheVariants as tags
use Rattle.casebook_html.specs.declared.number_tag.NumberTag.{NumberTag}
use Rattle.casebook_html.specs.declared.number_tag.NumberTag.TheVariants as numbered
use Rattle.casebook_html.specs.declared.row_class.RowClass.{RowClass}
use Rattle.casebook_html.specs.declared.row_class.RowClass.TheVariants as classes
use Rattle.casebook_html.specs.declared.script.TheConstants.{SCRIPT}
use Rattle.casebook_html.specs.declared.style.TheConstants.{STYLE}

unfoldable pub tag_text : Tag → List ℕ
tag_text tags.Begin = codes "<!doctype html><html lang=en><meta charset=utf-8><meta name=viewport content=\"width=device-width\"><meta http-equiv=Content-Security-Policy content=\"default-src 'none'; style-src 'unsafe-inline'; script-src 'sha256-RecdBngLGHf2XbiOLeTrnCvwPvPErXDENIM4Du3o3Wg='\"><title>"
tag_text tags.Style = STYLE.now
tag_text tags.Header = codes "</h1><nav><a href=#cancelled>Cancelled</a><a href=#restore>Restore</a><a href=#tell>Tell</a><a href=#lines>Lines</a></nav><input id=q type=search placeholder=\"/ to search\" aria-label=\"search lines\" hidden><label title=\"dark\"><input type=checkbox id=dark>&#9680;</label></header><main>"
tag_text tags.Script = SCRIPT.now
tag_text tags.Lead = codes "<p class=lead>"
tag_text tags.Paragraph = codes "<p>"
tag_text tags.Small = codes "<p class=io>"
tag_text tags.ParagraphEnd = codes "</p>"
tag_text tags.Strong = codes "<strong>"
tag_text tags.StrongEnd = codes "</strong>"
tag_text tags.Unknown = codes "<section class=doubt id=unknown><p><i class=q>?</i> "
tag_text tags.UnknownList = codes "</p><ul>"
tag_text tags.UnknownRow = codes "<li>"
tag_text tags.UnknownRowEnd = codes "</li>"
tag_text tags.UnknownEnd = codes "</ul></section>"
tag_text tags.UnknownLink = codes " <a class=q href=#unknown>? "
tag_text tags.SignUnknown = codes "<i class=q title=\"not understood\">?</i> "
tag_text tags.SignNeed = codes "<i class=q title=\"has to be run for real\">?</i> "
tag_text tags.SignObserved = codes "<u title=\"as it was observed\">o</u> "
tag_text tags.SignDoubtful = codes " <i class=q title=\"written by a line that wasn't understood\">?</i>"
tag_text tags.SignDoubtfulNeed = codes " <i class=q title=\"written by a line that has to be run for real\">?</i>"
tag_text tags.Map = codes "<div class=map>"
tag_text tags.BlockEnd = codes "</div>"
tag_text tags.Span = codes "<span>"
tag_text tags.MapName = codes "</title>"
tag_text tags.MapEnd = codes "</svg>"
tag_text tags.LinkEnd = codes "</a>"
tag_text tags.Key = codes "<form class=key>"
tag_text tags.KeyCancelled = codes "<label class=c><input type=checkbox id=fc checked><i>&#10005;</i>"
tag_text tags.KeyChanged = codes "<label class=r><input type=checkbox id=fr checked><i>&#8635;</i>"
tag_text tags.KeyAlike = codes "<label class=s><input type=checkbox id=fs checked><i>=</i>"
tag_text tags.KeyKept = codes "<label class=k><input type=checkbox id=fk checked><i>&asymp;</i>"
tag_text tags.KeyUntouched = codes "<label class=u><input type=checkbox id=fu checked><i>&middot;</i>"
tag_text tags.LabelEnd = codes "</label>"
tag_text tags.KeyEnd = codes "</form>"
tag_text tags.Cancelled = codes "<section id=cancelled><h2>Cancelled <small>what each line led to</small></h2>"
tag_text tags.Restore = codes "<section id=restore><h2>Restore <small>"
tag_text tags.HeadEnd = codes "</small></h2>"
tag_text tags.Tell = codes "<section id=tell><h2>Tell <small>nobody can take back what somebody read</small></h2>"
tag_text tags.Lines = codes "<section id=lines><h2>Lines <small>open one to see why</small></h2><div class=t>"
tag_text tags.LinesEnd = codes "</div></section>"
tag_text tags.SectionEnd = codes "</section>"
tag_text tags.Person = codes "<h3>"
tag_text tags.PersonEnd = codes "</h3>"
tag_text tags.Effect = codes "<details class=\"f c\"><summary><i>"
tag_text tags.Leak = codes "<mark>"
tag_text tags.LeakEnd = codes "</mark>"
tag_text tags.Modified = codes "<details class=\"f change\"><summary><i>M</i><code>"
tag_text tags.Added = codes "<details class=\"f restore\"><summary><i>A</i><code>"
tag_text tags.Removed = codes "<details class=\"f remove\"><summary><i>D</i><code>"
tag_text tags.Undecided =
    codes "<details class=f><summary><i class=q title=\"written by a line that has to be run for real\">?</i><code>"
tag_text tags.Subject = codes "<details class=f><summary><i>"
tag_text tags.Times = codes "&times;</i><code>"
tag_text tags.EffectName = codes "</i> <b class=who>"
tag_text tags.EffectCode = codes "</b> <code>"
tag_text tags.RowDetail = codes "</code><span>"
tag_text tags.RowBody = codes "</span></summary>"
tag_text tags.DetailsEnd = codes "</details>\n"
tag_text tags.Command = codes "<pre class=cmd>"
tag_text tags.Pre = codes "<pre>\n"
tag_text tags.Diff = codes "<pre class=diff>"
tag_text tags.PreEnd = codes "</pre>"
tag_text tags.Cut = codes "<u>"
tag_text tags.CutEnd = codes "</u>"
tag_text tags.More = codes " <small>"
tag_text tags.MoreEnd = codes "</small>"
tag_text tags.Nothing = codes "<u>nothing</u>"
tag_text tags.Delete = codes "<del>"
tag_text tags.DeleteEnd = codes "</del>"
tag_text tags.Insert = codes "<ins>"
tag_text tags.InsertEnd = codes "</ins>"
tag_text tags.Newline = codes "\n"
tag_text tags.Pair = codes "<div class=pair>"
tag_text tags.Saw = codes "<figure><figcaption>saw</figcaption><pre>\n"
tag_text tags.WouldSee = codes "<figure><figcaption>would have seen</figcaption><pre>\n"
tag_text tags.FigureEnd = codes "</pre></figure>"
tag_text tags.Columns = codes "<div class=head><b></b><time></time>"
tag_text tags.SpanEnd = codes "</span>"
tag_text tags.LineTime = codes "</b> <time>"
tag_text tags.LineName = codes "</time> <b class=who>"
tag_text tags.LineEnd = codes "</code></summary>"
tag_text tags.Body = codes "<div class=b><p class=io>line "
tag_text tags.BodyName = codes ", session <b class=who>"
tag_text tags.BodyNameEnd = codes "</b></p>"
tag_text tags.Fold = codes "<details class=fold><summary>"
tag_text tags.FoldEnd = codes "</summary>"
tag_text tags.Arrow = codes " &larr; "

-- ---- tags with a number

-- what comes before the number
unfoldable pub before_number : NumberTag → List ℕ
before_number numbered.Body = codes "<body style=\"--n:"
before_number numbered.Map = codes "</span><svg viewBox=\"0 0 "
before_number numbered.TickUntouched = codes "<path class=u d=\"M"
before_number numbered.TickCancelled = codes "<path class=c d=\"M"
before_number numbered.TickChanged = codes "<path class=r d=\"M"
before_number numbered.TickAlike = codes "<path class=s d=\"M"
before_number numbered.TickKept = codes "<path class=k d=\"M"
before_number numbered.Link = codes "<a href=\"#l"
before_number numbered.LinkChanged = codes "<a class=r href=\"#l"
before_number numbered.LinkAlike = codes "<a class=s href=\"#l"
before_number numbered.Column = codes "<span style=\"--i:"
before_number numbered.CodeCancelled = codes "</b> <code style=\"--i:"
before_number numbered.CodeChanged = codes "</b> <code style=\"--i:"
before_number numbered.CodeAlike = codes "</b> <code style=\"--i:"
before_number numbered.CodeKept = codes "</b> <code style=\"--i:"
before_number numbered.CodeUntouched = codes "</b> <code style=\"--i:"

-- what comes after the number
unfoldable pub after_number : NumberTag → List ℕ
after_number numbered.Body = codes "\"><header><h1>"
after_number numbered.Map = codes " 10\" preserveAspectRatio=none role=img><title>lines of "
after_number numbered.TickUntouched = codes ".5 3v4\"/>"
after_number numbered.TickCancelled = codes ".5 0v10\"/></a>"
after_number numbered.TickChanged = codes ".5 0v10\"/></a>"
after_number numbered.TickAlike = codes ".5 0v10\"/></a>"
after_number numbered.TickKept = codes ".5 0v10\"/></a>"
after_number numbered.Link = codes "\">"
after_number numbered.LinkChanged = codes "\">"
after_number numbered.LinkAlike = codes "\">"
after_number numbered.Column = codes "\">"
after_number numbered.CodeCancelled = codes "\" title=\"cancelled\"><i>&#10005;</i>"
after_number numbered.CodeChanged = codes "\" title=\"run again, another result\"><i>&#8635;</i>"
after_number numbered.CodeAlike = codes "\" title=\"run again, the same result\"><i>=</i>"
after_number numbered.CodeKept = codes "\" title=\"met, kept as recorded\"><i>&asymp;</i>"
after_number numbered.CodeUntouched = codes "\" title=\"untouched\"><i>&middot;</i>"

abbrev pub number_text : NumberTag → ℕ → List ℕ
number_text tag number = before_number tag ++ (decimal number ++ after_number tag)

-- a bar, with how many percent of its lines have another result, and how many the same
abbrev pub bar_text : ℕ → ℕ → List ℕ
bar_text changed alike =
    codes "<b class=bar style=\"--p:"
    ++ (decimal changed ++ (codes ";--q:" ++ (decimal alike ++ codes "\"></b>")))

-- ---- rows of lines

unfoldable pub class_text : RowClass → List ℕ
class_text classes.Cancelled = codes "c"
class_text classes.Changed = codes "r"
class_text classes.Told = codes "r w"
class_text classes.Alike = codes "s"
class_text classes.Kept = codes "k"
class_text classes.Untouched = codes "u"

-- the start of the row of the line with a number and a class of some names, up to the number that
-- is shown
abbrev pub row_start : ℕ → List ℕ → List ℕ
row_start number names =
    codes "<details id=l" ++ (decimal number ++ (codes " class=\"l " ++ (names ++ codes "\"><summary><b>")))

abbrev pub row_text : ℕ → RowClass → List ℕ
row_text number class = row_start number (class_text class)
