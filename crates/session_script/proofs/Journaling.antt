-- The journal's lines of commands, as more are added.
use Rattle.std.proofs.Common.{◌≡◌, ℕ, List, [], ◌∷◌, ◌++◌, sym, ap, ◌∙◌, append_assoc, append-nil}
use Rattle.std.proofs.lemmas.List.Concat.{flat_map-append}
use Rattle.fx_rules.specs.declared.command.Sent.{Sent}
use Rattle.fx_rules.specs.Session.{Header}
use Rattle.order_lines.specs.Spelling.{command_text_of}
use Rattle.session_script.specs.Journal.{sent_line, sent_lines}

-- the lines of one command more
lines_one : (h : Header) (all : List Sent) (sent : Sent) → sent_lines h (all ++ sent ∷ []) ≡ sent_lines h all ++ sent_line h sent
lines_one h all sent = flat_map-append (sent_line h) all (sent ∷ []) ∙ ap (λ (line : List ℕ). sent_lines h all ++ line) (append-nil (sent_line h sent))

-- the lines of more commands stand behind those so far
pub lines_more : (h : Header) (former old new more : List Sent) {before after : List ℕ} → before ≡ sent_lines h (former ++ old) → new ≡ old ++ more → after ≡ before ++ sent_lines h more → after ≡ sent_lines h (former ++ new)
lines_more h former old new more are is added =
    added ∙ ap (λ (lines : List ℕ). lines ++ sent_lines h more) are
    ∙ sym (flat_map-append (sent_line h) (former ++ old) more)
    ∙ ap (sent_lines h) (append_assoc former old more ∙ ap (λ (all : List Sent). former ++ all) (sym is))

-- a text that begins with lines, and goes on with one
pub spelled_on : (h : Header) (all : List Sent) (rest behind : List ℕ) (sent : Sent) → rest ≡ command_text_of h sent.bank sent.command ++ 10 ∷ behind → sent_lines h all ++ rest ≡ sent_lines h (all ++ sent ∷ []) ++ behind
spelled_on h all rest behind sent is =
    ap (λ (text : List ℕ). sent_lines h all ++ text) (is ∙ sym (append_assoc (command_text_of h sent.bank sent.command) (10 ∷ []) behind))
    ∙ sym (append_assoc (sent_lines h all) (sent_line h sent) behind)
    ∙ ap (λ (lines : List ℕ). lines ++ behind) (sym (lines_one h all sent))
