-- What a client is found by.
use Rattle.std.specs.Prelude.{ℕ, ◌≡◌, ◌≤◌, ◌<◌, ◌^◌, List, [], ◌∷◌, length}
use Rattle.std.specs.Int.{w64, to_le_bytes}
use Rattle.fx_rules.specs.Names.{padded}
use Rattle.client_desk.specs.declared.client.Client.{Client}
use Rattle.client_desk.specs.declared.keys.ClientKey.{ClientKey}

-- the key of a bank and a text of at most eight bytes
pub record IsKeyOf (bank : ℕ) (text : List ℕ) (key : ClientKey) : Type 0 where
  pub of_bank : key.bank ≡ bank
  pub short : length text ≤ 8
  pub size : key.len ≡ length text
  pub word : to_le_bytes w64 key.word ≡ padded text
  pub small : key.word < 2 ^ 64

-- the keys of clients, in their order: of each its bank and its name
abbrev pub AreKeysOf : List Client → List ClientKey → Type 0
AreKeysOf [] [] = Unit {0}
AreKeysOf [] (key ∷ keys) = ⊥
AreKeysOf (client ∷ clients) [] = ⊥
AreKeysOf (client ∷ clients) (key ∷ keys) = IsKeyOf client.bank client.name key × AreKeysOf clients keys
