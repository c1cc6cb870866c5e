-- Reading a list of spans, text by text.
use Rattle.std.proofs.Common.{◌≡◌, ℕ, ◌+◌, ◌<◌, ◌≤◌, List, [], ◌∷◌, ◌++◌, length, get_or, drop, sym, ap, ◌∙◌}
use Rattle.std.specs.Prelude.{Some, None}
use Rattle.std.proofs.lemmas.List.{drop_more, drop_all}
use Rattle.retro_text.specs.declared.span.Span.{Span}
use Rattle.retro_text.specs.Spans.{span_in, spans_after, add_span}

at_text : (spans : List Span) (texts : List (List ℕ)) (n : ℕ) (text : List ℕ) → n < length texts
    → text ≡ get_or texts n text → spans_after spans (drop n texts) ≡ spans_after spans (text ∷ drop (n + 1) texts)
at_text spans texts n text inside is =
    ap (spans_after spans) (drop_more texts n text inside ∙ ap (λ t. t ∷ drop (n + 1) texts) (sym is))

pub span_read : (spans : List Span) (texts : List (List ℕ)) (n : ℕ) (text : List ℕ) (s : Span) → n < length texts
    → text ≡ get_or texts n text → Some s ≡ span_in text
    → spans_after (spans ++ s ∷ []) (drop (n + 1) texts) ≡ spans_after spans (drop n texts)
span_read spans texts n text s inside is h =
    ap (λ o. add_span spans o (λ all. spans_after all (drop (n + 1) texts))) h
    ∙ sym (at_text spans texts n text inside is)

pub no_span : (spans : List Span) (texts : List (List ℕ)) (n : ℕ) (text : List ℕ) → n < length texts
    → text ≡ get_or texts n text → None ≡ span_in text → None ≡ spans_after spans (drop n texts)
no_span spans texts n text inside is h =
    ap (λ o. add_span spans o (λ all. spans_after all (drop (n + 1) texts))) h
    ∙ sym (at_text spans texts n text inside is)

pub spans_read : (spans : List Span) (texts : List (List ℕ)) (n : ℕ) → length texts ≤ n
    → spans_after spans (drop n texts) ≡ Some spans
spans_read spans texts n past = ap (spans_after spans) (drop_all n texts past)
