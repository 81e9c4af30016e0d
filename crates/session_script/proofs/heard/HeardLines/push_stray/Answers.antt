-- The text stands behind the others.
use Rattle.std.proofs.Common.{ℕ, ◌∷◌, ◌++◌, [], List, length, map, ap, ap₂, ◌∙◌}
use Rattle.fx_text.specs.Lines.{line_seen}
use Rattle.session_script.specs.Heard.{Heard}
use Rattle.session_script.specs.Heard.Heard.{Stray as HeardStray}
use Rattle.session_script.specs.declared.heard.Kept.{Kept}
use Rattle.session_script.specs.inside.Kept.{IsAmong, heard_in, kept_at, text_of}
use Rattle.session_script.proofs.Keeping.{held-more, stray-held, with-bytes}
use Rattle.session_script.proofs.heard.HeardLines.push_stray.Goals as goal

pub returns : goal.returns
returns c =
    let sent = c.self.inside.commands.items in
    let bytes : List ℕ = c.self.inside.bytes.items in
    let items : List Kept = c.self.inside.items.items in
    let line = line_seen c.args.line.now in
    record {
      ok = ap₂ (λ (all : List ℕ) (held : List Kept). map (heard_in sent all) held) c.in_ok-kept.ensures.longer
          (c.push_reserved.ensures.items ∙ ap₂ (λ (held : List Kept) (kept : Kept). held ++ kept ∷ []) c.reserve.ensures.items c.in_ok-kept.ensures.kept)
          ∙ held-more (heard_in sent bytes) (heard_in sent (bytes ++ text_of line)) (IsAmong (length sent) (length bytes)) items (kept_at (length bytes) line) (HeardStray line) c.self.invariant (with-bytes sent bytes (text_of line)) (stray-held sent bytes line)
          ∙ ap (λ (all : List Heard). all ++ HeardStray line ∷ []) c.self.view_is;
    }
