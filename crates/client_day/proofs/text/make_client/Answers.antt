-- The fields stand behind the word, and fit.
use Rattle.std.proofs.Common.{◌≡◌, ◌≤◌, ◌<◌, ◌++◌, ◌∷◌, ◌∙◌, [], List, ℕ, ap, sym, subst, take, codes, length, arith, length-append}
use Rattle.fx_amounts.specs.Numeral.{numeral}
use Rattle.fx_rules.proofs.NameTexts.{HasNameBytes-name}
use Rattle.fx_rules.specs.Session.{bank_count, bank_name}
use Rattle.fx_text.proofs.LineTexts.{last_field, one_field, pushed_line}
use Rattle.client_desk.specs.Clients.{bank_of_client, filled_by, limit_of, reserved_by}
use Rattle.client_desk.proofs.Naming.{client-within}
use Rattle.client_day.specs.Text.{client_row, name_of_client}
use Rattle.client_day.proofs.Reading.{kept-bank, kept-limit, kept-name}
use Rattle.client_day.proofs.text.make_client.Goals as goal

pub name-requires : goal.name-requires
name-requires c =
    subst (λ b. b < bank_count c.args.session.now) (sym (kept-bank c.args.book.now.clients c.clients.result.now c.args.client c.index.result c.index-clients-index.result c.clients.ensures.value c.index.ensures.value c.requires.client c.index-clients-index.is))
    (client-within c.args.session.now c.args.book.now.clients c.args.client c.requires.clients.banks c.requires.client)

pub returns : goal.returns
unfolding client_row
returns c = record {
  made = λ tagged stands.
      let clients = c.args.book.now.clients in
      let bank : List ℕ = bank_name c.args.session.now (bank_of_client clients c.args.client) in
      let name : List ℕ = name_of_client clients c.args.client in
      let limit : List ℕ = numeral (limit_of clients c.args.client) in
      let filled : List ℕ = numeral (filled_by c.args.session.now tagged c.args.client) in
      let reserved : List ℕ = numeral (reserved_by c.args.session.now tagged c.args.client) in
      let count : List ℕ = numeral c.args.count in
      let start = c.push.new.self in
      let one = c.push_field.new.self in
      let two = c.push_field-2.new.self in
      let three = c.push_number_field.new.self in
      let four = c.push_number_field-2.new.self in
      let five = c.push_number_field-3.new.self in
      let six = c.push_number_field-4.new.self in
      let bank_is : c.name.result.now ≡ bank = c.name.ensures.value ∙ ap (bank_name c.args.session.now) (kept-bank clients c.clients.result.now c.args.client c.index.result c.index-clients-index.result c.clients.ensures.value c.index.ensures.value c.requires.client c.index-clients-index.is) in
      let name_is : c.as_bytes.result.now ≡ name = c.as_bytes.ensures.text ∙ kept-name clients c.clients.result.now c.args.client c.index.result c.index-clients-index.result c.clients.ensures.value c.index.ensures.value c.requires.client c.index-clients-index.is in
      let limit_is : c.get.result ≡ limit_of clients c.args.client = c.get.ensures.value ∙ kept-limit clients c.clients.result.now c.args.client c.index.result c.index-clients-index.result c.clients.ensures.value c.index.ensures.value c.requires.client c.index-clients-index.is in
      let filled_is : c.get-2.result ≡ filled_by c.args.session.now tagged c.args.client = c.get-2.ensures.value ∙ c.filled.ensures.filled c.args.session.now tagged stands in
      let reserved_is : c.get-3.result ≡ reserved_by c.args.session.now tagged c.args.client = c.get-3.ensures.value ∙ c.reserved.ensures.reserved c.args.session.now tagged stands in
      let bank_few : length bank ≤ 8 = rw (sym bank_is) c.name.ensures.most in
      let name_few : length name ≤ 8 = omega (arith, (HasNameBytes-name c.index-clients-index.result.name c.as_bytes.ensures.valid).most, ap length (sym c.as_bytes.ensures.text ∙ name_is)) in
      let limit_few : length limit ≤ 20 = omega (arith, c.push_number_field.ensures.few, ap (λ n. length (numeral n)) limit_is) in
      let filled_few : length filled ≤ 20 = omega (arith, c.push_number_field-2.ensures.few, ap (λ n. length (numeral n)) filled_is) in
      let reserved_few : length reserved ≤ 20 = omega (arith, c.push_number_field-3.ensures.few, ap (λ n. length (numeral n)) reserved_is) in
      pushed_line (codes "CLIENT") (bank ∷ name ∷ limit ∷ filled ∷ reserved ∷ count ∷ []) c.clear.new.self start six c.push_byte.new.self c.clear.ensures c.push.ensures
      (one_field start one six bank (name ∷ limit ∷ filled ∷ reserved ∷ count ∷ []) (c.push_field.ensures ∙ ap (λ (t : List ℕ). take 256 (start ++ 32 ∷ t)) bank_is)
      (one_field one two six name (limit ∷ filled ∷ reserved ∷ count ∷ []) (c.push_field-2.ensures ∙ ap (λ (t : List ℕ). take 256 (one ++ 32 ∷ t)) name_is)
      (one_field two three six limit (filled ∷ reserved ∷ count ∷ []) (c.push_number_field.ensures.text ∙ ap (λ n. take 256 (two ++ 32 ∷ numeral n)) limit_is)
      (one_field three four six filled (reserved ∷ count ∷ []) (c.push_number_field-2.ensures.text ∙ ap (λ n. take 256 (three ++ 32 ∷ numeral n)) filled_is)
      (one_field four five six reserved (count ∷ []) (c.push_number_field-3.ensures.text ∙ ap (λ n. take 256 (four ++ 32 ∷ numeral n)) reserved_is)
      (last_field five six count c.push_number_field-4.ensures.text))))))
      c.push_byte.ensures (omega arith)
      (omega (
        arith,
        bank_few,
        name_few,
        limit_few,
        filled_few,
        reserved_few,
        c.push_number_field-4.ensures.few,
        length-append (32 ∷ bank) ((32 ∷ name) ++ ((32 ∷ limit) ++ ((32 ∷ filled) ++ ((32 ∷ reserved) ++ ((32 ∷ count) ++ []))))),
        length-append (32 ∷ name) ((32 ∷ limit) ++ ((32 ∷ filled) ++ ((32 ∷ reserved) ++ ((32 ∷ count) ++ [])))),
        length-append (32 ∷ limit) ((32 ∷ filled) ++ ((32 ∷ reserved) ++ ((32 ∷ count) ++ []))),
        length-append (32 ∷ filled) ((32 ∷ reserved) ++ ((32 ∷ count) ++ [])),
        length-append (32 ∷ reserved) ((32 ∷ count) ++ []),
        length-append (32 ∷ count) [],
      ));
}
