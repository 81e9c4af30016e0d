use Rattle.std.proofs.Common.{ℕ, ◌≡◌, ◌∙◌, ◌++◌, ◌∷◌, [], List, ap, arith, length, length-append, take}
use Rattle.fx_rules.specs.Session.{bank_name}
use Rattle.fx_text.proofs.LineTexts.{fits_room, pushed_two}
use Rattle.client_desk.proofs.spelled.make_line.Goals as goal

pub returns : goal.returns
returns c =
    let name : List ℕ = bank_name c.args.session.now c.args.bank in
    let rest : List ℕ = c.args.rest.now in
    let front : c.push.new.self ≡ take 256 ([] ++ name) = c.push.ensures ∙ ap (λ (t : List ℕ). take 256 (t ++ c.name.result.now)) c.clear.ensures ∙ ap (take 256) c.name.ensures.value in
    let two : c.push_field.new.self ≡ take 256 ([] ++ (name ++ 32 ∷ rest)) = pushed_two [] c.push.new.self c.push_field.new.self name (32 ∷ rest) front c.push_field.ensures in
    let three : c.push_byte.new.self ≡ take 256 ([] ++ ((name ++ 32 ∷ rest) ++ 10 ∷ [])) = pushed_two [] c.push_field.new.self c.push_byte.new.self (name ++ 32 ∷ rest) (10 ∷ []) two c.push_byte.ensures in
    record {
      value = fits_room ((name ++ 32 ∷ rest) ++ 10 ∷ []) c.push_byte.new.self
          (omega (arith, ap length c.name.ensures.value, c.name.ensures.most, c.requires.few, length-append (name ++ 32 ∷ rest) (10 ∷ []), length-append name (32 ∷ rest))) three;
    }
