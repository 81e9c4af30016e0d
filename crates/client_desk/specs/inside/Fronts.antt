-- The front of a client's line in its one spelling.
use Rattle.std.specs.Prelude.{ℕ, ◌≡◌, false, Some, List, ◌∷◌, bytes_eq}
use Rattle.fx_text.specs.Fields.{fields_of}
use Rattle.fx_rules.specs.Session.{Header}
use Rattle.client_desk.specs.declared.client.Client.{Client}
use Rattle.client_desk.specs.Lines.{client_named, client_word}

-- the first field of a text names this client, and the others are those of what stands behind it
pub record BeginsWithClient (h : Header) (clients : List Client) (c : ℕ) (text behind : List ℕ) : Type 0 where
  pub first : List ℕ
  pub fields : fields_of text ≡ first ∷ fields_of behind
  pub declares : bytes_eq first client_word ≡ false
  pub named : client_named h clients first ≡ Some c
