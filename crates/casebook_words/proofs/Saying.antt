-- Words that are appended to a line, one piece after another.
use Rattle.std.proofs.Common.{◌≡◌, ℕ, List, ◌++◌, ap, ◌∙◌, append_assoc, Result, Ok, Err, OnOk}

pub said_two : {X E : Type 0} (r : Result X E) (line mid new a b : List ℕ) → mid ≡ line ++ a → OnOk r (new ≡ mid ++ b)
    → OnOk r (new ≡ line ++ (a ++ b))
said_two (Ok x) line mid new a b before after = after ∙ ap (λ t. t ++ b) before ∙ append_assoc line a b
said_two (Err e) line mid new a b before after = tt

pub both_said : (line first second a b : List ℕ) → first ≡ line ++ a → second ≡ first ++ b → second ≡ line ++ (a ++ b)
both_said line first second a b before after = after ∙ ap (λ t. t ++ b) before ∙ append_assoc line a b
