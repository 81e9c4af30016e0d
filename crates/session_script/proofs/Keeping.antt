-- What is held stays as more is held behind it.
use Rattle.std.proofs.Common.{ℕ, ◌≡◌, ◌+◌, ◌-◌, ◌≤◌, List, [], ◌∷◌, ◌++◌, length, map, take, drop, refl, ap, ap₂, ◌∙◌, arith}
use Rattle.std.proofs.Math.Seq.{drop-append_seam, get_or-append_seam}
use Rattle.std.proofs.lemmas.List.{drop-append-le, get_or_append_left, length-drop, map-append, take-append-le, take_all}
use Rattle.fx_rules.specs.declared.command.Sent.{Sent}
use Rattle.fx_rules.specs.Lists.{Each}
use Rattle.fx_text.specs.declared.line.Line.{Line}
use Rattle.fx_text.specs.declared.line.Line.TheVariants as lines
use Rattle.session_script.specs.Heard.{Heard}
use Rattle.session_script.specs.Heard.Heard.{Command as HeardCommand, Stray as HeardStray}
use Rattle.session_script.specs.declared.heard.Kept.{Kept}
use Rattle.session_script.specs.declared.heard.Kept.TheVariants.{Command, Whole, Long}
use Rattle.session_script.specs.inside.Kept.{IsAmong, between, heard_in, kept_at, no_command, text_of}

between-longer : (bytes more : List ℕ) (from to : ℕ) → from ≤ to → to ≤ length bytes → between (bytes ++ more) from to ≡ between bytes from to
between-longer bytes more from to order within =
    let first : from ≤ length bytes = omega (arith, order, within) in
    let rest : to - from ≤ length (drop from bytes) = omega (arith, order, within, length-drop from bytes) in
    ap (take (to - from)) (drop-append-le from bytes more first) ∙ take-append-le (to - from) (drop from bytes) more rest

-- what is held, with more bytes, or more commands
pub with-bytes : (sent : List Sent) (bytes more : List ℕ) (kept : Kept) → IsAmong (length sent) (length bytes) kept → heard_in sent (bytes ++ more) kept ≡ heard_in sent bytes kept
with-bytes sent bytes more (Command at) among = refl
with-bytes sent bytes more (Whole from to) among = ap (λ (text : List ℕ). HeardStray (lines.Whole text)) (between-longer bytes more from to among.0 among.1)
with-bytes sent bytes more (Long from to) among = ap (λ (text : List ℕ). HeardStray (lines.Long text)) (between-longer bytes more from to among.0 among.1)

pub with-commands : (sent more : List Sent) (bytes : List ℕ) (kept : Kept) → IsAmong (length sent) (length bytes) kept → heard_in (sent ++ more) bytes kept ≡ heard_in sent bytes kept
with-commands sent more bytes (Command at) among = ap HeardCommand (get_or_append_left sent more no_command at among)
with-commands sent more bytes (Whole from to) among = refl
with-commands sent more bytes (Long from to) among = refl

all-stay : (f g : Kept → Heard) (P : Kept → Type 0) (items : List Kept) → Each P items → ((kept : Kept) → P kept → g kept ≡ f kept) → map g items ≡ map f items
all-stay f g P [] each stays = refl
all-stay f g P (kept ∷ items) each stays = ap₂ (λ (x : Heard) (xs : List Heard). x ∷ xs) (stays kept each.0) (all-stay f g P items each.1 stays)

-- one line more
pub held-more : (f g : Kept → Heard) (P : Kept → Type 0) (items : List Kept) (kept : Kept) (heard : Heard) → Each P items → ((kept : Kept) → P kept → g kept ≡ f kept) → g kept ≡ heard → map g (items ++ kept ∷ []) ≡ map f items ++ heard ∷ []
held-more f g P items kept heard each stays is =
    map-append g items (kept ∷ []) ∙ ap₂ (λ (xs : List Heard) (x : Heard). xs ++ x ∷ []) (all-stay f g P items each stays) is

text-behind : (bytes text : List ℕ) → between (bytes ++ text) (length bytes) (length bytes + length text) ≡ text
text-behind bytes text =
    let size : length bytes + length text - length bytes ≡ length text = omega arith in
    ap₂ take size (drop-append_seam bytes text) ∙ take_all (length text) text (omega arith)

-- a stray that is held behind these bytes
pub stray-held : (sent : List Sent) (bytes : List ℕ) (line : Line) → heard_in sent (bytes ++ text_of line) (kept_at (length bytes) line) ≡ HeardStray line
stray-held sent bytes (lines.Whole text) = ap (λ (t : List ℕ). HeardStray (lines.Whole t)) (text-behind bytes text)
stray-held sent bytes (lines.Long field) = ap (λ (t : List ℕ). HeardStray (lines.Long t)) (text-behind bytes field)

-- and a command behind these
pub command-held : (sent : List Sent) (bytes : List ℕ) (said : Sent) → heard_in (sent ++ said ∷ []) bytes (Command (length sent)) ≡ HeardCommand said
command-held sent bytes said = ap HeardCommand (get_or-append_seam sent said [] no_command)
