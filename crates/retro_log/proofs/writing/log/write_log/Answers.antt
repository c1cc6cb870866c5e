use Rattle.std.proofs.Common.{◌≡◌, ◌∙◌, ◌++◌, ◌∷◌, [], Some, ap, sym, codes}
use Rattle.std.specs.Prelude.{IsUtf8}
use Rattle.std.proofs.lemmas.Str.{IsUtf8-append}
use Rattle.json.specs.Lex.{tokens}
use Rattle.json.specs.Print.{print}
use Rattle.serde_json.specs.Read.{read}
use Rattle.serde_json.specs.Written.{compact_text, outline}
use Rattle.serde_json.proofs.Texts.{print-outline}
use Rattle.retro_log.specs.Document.{log_in}
use Rattle.retro_log.specs.LogText.{log_data, log_text}
use Rattle.retro_log.proofs.LogShape.{log_low}
use Rattle.retro_log.proofs.LogTrip.{log_again}
use Rattle.retro_log.proofs.Newline.{newline_reads, newline_utf8}
use Rattle.retro_json.proofs.ReadBack.{text_reads, text_tokens}
use Rattle.retro_log.proofs.ReadLimits.{fits_again}
use Rattle.retro_log.proofs.writing.log.write_log.Goals as goal

pub returns-clause-text : goal.returns-clause-text
unfolding log_text
returns-clause-text c =
    c.in_ok-push.ensures.items ∙ ap (λ text. text ++ codes "\n")
    (c.in_ok-push_log.ensures.text
    ∙ ap (λ text. text ++ compact_text (log_data c.args.recording.now)) c.new-text.ensures.items)

pub returns-clause-again : goal.returns-clause-again
returns-clause-again c = λ fit plain.
    let r = c.args.recording.now in
    let pushed = c.in_ok-push_log.ensures in
    let d = log_data r in
    let text = compact_text d in
    let same = text_tokens d pushed.read_back in
    let printed : text ≡ print (tokens text) = sym (print-outline d) ∙ ap print (sym same) in
    let reads : read (text ++ 10 ∷ []) ≡ Some d =
    newline_reads text (outline d) printed same ∙ text_reads d (log_low r) pushed.read_back in
    let utf8 : IsUtf8 (text ++ 10 ∷ []) = IsUtf8-append text (10 ∷ []) pushed.read_back.utf8 newline_utf8 in
    ap log_in (c.in_ok-push.ensures.items
    ∙ ap (λ t. t ++ 10 ∷ []) (pushed.text ∙ ap (λ t. t ++ text) c.new-text.ensures.items))
    ∙ log_again (text ++ 10 ∷ []) r utf8 reads pushed.well_formed pushed.typed fit plain

pub returns-clause-fits : goal.returns-clause-fits
returns-clause-fits c = fits_again c.args.recording.now c.in_ok-push_log.ensures.well_formed
