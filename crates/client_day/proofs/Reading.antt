-- What is read of a client at its place.
use Rattle.std.proofs.Common.{ℕ, zero, suc, ◌≡◌, ◌<◌, List, [], ◌∷◌, length, get_or, refl, ap, ap₂, ◌∙◌, arith}
use Rattle.client_desk.specs.Clients.{bank_of_client, limit_of}
use Rattle.client_desk.specs.declared.client.Client.{Client}
use Rattle.client_day.specs.Text.{name_of_client}

bank-at : (clients : List Client) (c : ℕ) (kept : Client) → c < length clients → (get_or clients c kept).bank ≡ bank_of_client clients c
bank-at [] c kept within = absurd (omega arith)
bank-at (client ∷ clients) zero kept within = refl
bank-at (client ∷ clients) (suc c) kept within = bank-at clients c kept (omega arith)

limit-at : (clients : List Client) (c : ℕ) (kept : Client) → c < length clients → (get_or clients c kept).limit ≡ limit_of clients c
limit-at [] c kept within = absurd (omega arith)
limit-at (client ∷ clients) zero kept within = refl
limit-at (client ∷ clients) (suc c) kept within = limit-at clients c kept (omega arith)

name-at : (clients : List Client) (c : ℕ) (kept : Client) → c < length clients → (get_or clients c kept).name ≡ name_of_client clients c
name-at [] c kept within = absurd (omega arith)
name-at (client ∷ clients) zero kept within = refl
name-at (client ∷ clients) (suc c) kept within = name-at clients c kept (omega arith)

-- the client that was read at this place of these clients, under the names that the reading has for both
module _ (clients read : List Client) (c place : ℕ) (kept : Client) (read_is : read ≡ clients) (place_is : place ≡ c) (within : c < length clients) (is : kept ≡ get_or read place kept) where
  here : kept ≡ get_or clients c kept
  here = is ∙ ap₂ (λ (all : List Client) (n : ℕ). get_or all n kept) read_is place_is

  pub kept-bank : kept.bank ≡ bank_of_client clients c
  kept-bank = ap (λ (k : Client). k.bank) here ∙ bank-at clients c kept within

  pub kept-limit : kept.limit ≡ limit_of clients c
  kept-limit = ap (λ (k : Client). k.limit) here ∙ limit-at clients c kept within

  pub kept-name : kept.name ≡ name_of_client clients c
  kept-name = ap (λ (k : Client). k.name) here ∙ name-at clients c kept within
