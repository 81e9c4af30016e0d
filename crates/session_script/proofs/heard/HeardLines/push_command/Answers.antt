-- The command stands behind the others.
use Rattle.std.proofs.Common.{rules, ℕ, ◌≡◌, ◌∷◌, ◌++◌, [], List, length, map, ap, ap₂, ◌∙◌}
use Rattle.fx_rules.specs.declared.command.Sent.{Sent}
use Rattle.session_script.specs.Heard.{Heard}
use Rattle.session_script.specs.Heard.Heard.{Command as HeardCommand}
use Rattle.session_script.specs.declared.heard.Kept.{Kept}
use Rattle.session_script.specs.declared.heard.Kept.TheVariants.{Command}
use Rattle.session_script.specs.inside.Kept.{IsAmong, heard_in}
use Rattle.session_script.proofs.Keeping.{command-held, held-more, with-commands}
use Rattle.session_script.proofs.heard.HeardLines.push_command.Goals as goal

pub returns : goal.returns
returns c =
    let sent : List Sent = c.self.inside.commands.items in
    let bytes : List ℕ = c.self.inside.bytes.items in
    let items : List Kept = c.self.inside.items.items in
    let said : Sent = record { bank = c.args.bank; command = c.args.command.now } in
    let count : c.len-at.result ≡ length sent = search rules in
    record {
      ok = ap₂ (λ (all : List Sent) (held : List Kept). map (heard_in all bytes) held) c.in_ok-push.ensures.items
          (c.push_reserved.ensures.items ∙ ap₂ (λ (held : List Kept) (kept : Kept). held ++ kept ∷ []) c.reserve.ensures.items (ap Command count))
          ∙ held-more (heard_in sent bytes) (heard_in (sent ++ said ∷ []) bytes) (IsAmong (length sent) (length bytes)) items (Command (length sent)) (HeardCommand said) c.self.invariant (with-commands sent (said ∷ []) bytes) (command-held sent bytes said)
          ∙ ap (λ (all : List Heard). all ++ HeardCommand said ∷ []) c.self.view_is;
    }
