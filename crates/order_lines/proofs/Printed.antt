-- A line as it grows by its fields.
use Rattle.std.proofs.Common.{◌≡◌, ℕ, ◌≤◌, List, [], ◌∷◌, ◌++◌, length, take, refl, sym, ap, ◌∙◌, append-nil}
use Rattle.std.specs.List.{join_with_byte, flat_map}
use Rattle.fx_amounts.specs.Numeral.{numeral}
use Rattle.fx_amounts.specs.declared.side.Side.{Side}
use Rattle.fx_rules.specs.Session.{Header, bank_name}
use Rattle.fx_rules.specs.declared.command.Command.{Command}
use Rattle.fx_rules.specs.declared.command.Command.TheVariants as command
use Rattle.fx_rules.specs.declared.command.Life.{Life}
use Rattle.fx_text.proofs.LineTexts.{pushed_two, no_field, last_field, one_field}
use Rattle.fx_text.specs.Fields.{fields_text}
use Rattle.order_lines.specs.inside.Printing.{word_field, subject_field, details, price_spelled}
use Rattle.order_lines.specs.Spelling.{command_fields, command_text_of}
use Rattle.order_lines.specs.Words.{life_text, sender_name}

-- fields with one space between each two are the first and, with a space before each, the others
join_with_byte-first : (c : ℕ) (first : List ℕ) (rest : List (List ℕ)) → join_with_byte c (first ∷ rest) ≡ first ++ flat_map (λ field. c ∷ field) rest
join_with_byte-first c first [] = sym (append-nil first)
join_with_byte-first c first (second ∷ more) = ap (λ (text : List ℕ). first ++ (c ∷ text)) (join_with_byte-first c second more)

pub command_fields-named : (h : Header) (sender : ℕ) (said : Command) → command_fields h sender said ≡ sender_name h sender ∷ word_field said ∷ subject_field h said ∷ details h said
command_fields-named h sender (command.Order side pair price lots life) = refl
command_fields-named h sender (command.Cancel pair number) = refl
command_fields-named h sender (command.Reduce pair number lots) = refl
command_fields-named h sender (command.Pull pair) = refl
command_fields-named h sender (command.Line other limit) = refl
command_fields-named h sender (command.Total limit) = refl
command_fields-named h sender (command.Settle a b units) = refl
command_fields-named h sender (command.Show other) = refl
command_fields-named h sender (command.Book pair) = refl
command_fields-named h sender (command.Bad fault) = refl

-- the line of a command: its sender's name, its word, what it is about, and its details
command_text_of-parts : (h : Header) (sender : ℕ) (said : Command)
    → command_text_of h sender said ≡ sender_name h sender ++ ((32 ∷ word_field said) ++ ((32 ∷ subject_field h said) ++ fields_text (details h said)))
unfolding command_text_of
command_text_of-parts h sender said =
    ap (join_with_byte 32) (command_fields-named h sender said)
    ∙ join_with_byte-first 32 (sender_name h sender) (word_field said ∷ subject_field h said ∷ details h said)

-- the four pieces of a line, one after the other
pub whole_line : (h : Header) (sender : ℕ) (said : Command) (start named worded about after : List ℕ) → named ≡ take 256 (start ++ sender_name h sender) → worded ≡ take 256 (named ++ 32 ∷ word_field said)
    → about ≡ take 256 (worded ++ 32 ∷ subject_field h said) → after ≡ take 256 (about ++ fields_text (details h said)) → after ≡ take 256 (start ++ command_text_of h sender said)
whole_line h sender said start named worded about after first second third last =
    let word : List ℕ = 32 ∷ word_field said in
    let subject : List ℕ = 32 ∷ subject_field h said in
    let rest : List ℕ = fields_text (details h said) in
    pushed_two start named after (sender_name h sender) (word ++ (subject ++ rest)) first
    (pushed_two named worded after word (subject ++ rest) second (pushed_two worded about after subject rest third last))
    ∙ ap (λ (text : List ℕ). take 256 (start ++ text)) (sym (command_text_of-parts h sender said))

-- the details of each command that has some, and of those that have none
pub order_details : (h : Header) (said : Command) (side : Side) (pair price lots : ℕ) (life : Life) (start one two after : List ℕ) → said ≡ command.Order side pair price lots life
    → one ≡ take 256 (start ++ 32 ∷ price_spelled h pair price) → two ≡ take 256 (one ++ 32 ∷ numeral lots) → after ≡ take 256 (two ++ 32 ∷ life_text life)
    → after ≡ take 256 (start ++ fields_text (details h said))
order_details h said side pair price lots life start one two after is first second third =
    one_field start one after (price_spelled h pair price) (numeral lots ∷ life_text life ∷ []) first
    (one_field one two after (numeral lots) (life_text life ∷ []) second (last_field two after (life_text life) third))
    ∙ ap (λ (s : Command). take 256 (start ++ fields_text (details h s))) (sym is)

pub reduce_details : (h : Header) (said : Command) (pair number lots : ℕ) (start one after : List ℕ) → said ≡ command.Reduce pair number lots
    → one ≡ take 256 (start ++ 32 ∷ numeral number) → after ≡ take 256 (one ++ 32 ∷ numeral lots) → after ≡ take 256 (start ++ fields_text (details h said))
reduce_details h said pair number lots start one after is first second =
    one_field start one after (numeral number) (numeral lots ∷ []) first (last_field one after (numeral lots) second)
    ∙ ap (λ (s : Command). take 256 (start ++ fields_text (details h s))) (sym is)

pub settle_details : (h : Header) (said : Command) (a b units : ℕ) (start one after : List ℕ) → said ≡ command.Settle a b units
    → one ≡ take 256 (start ++ 32 ∷ bank_name h b) → after ≡ take 256 (one ++ 32 ∷ numeral units) → after ≡ take 256 (start ++ fields_text (details h said))
settle_details h said a b units start one after is first second =
    one_field start one after (bank_name h b) (numeral units ∷ []) first (last_field one after (numeral units) second)
    ∙ ap (λ (s : Command). take 256 (start ++ fields_text (details h s))) (sym is)

pub no_details : (h : Header) (said : Command) (start : List ℕ) → details h said ≡ [] → length start ≤ 256 → start ≡ take 256 (start ++ fields_text (details h said))
no_details h said start none within = no_field start within ∙ ap (λ (fields : List (List ℕ)). take 256 (start ++ fields_text fields)) (sym none)
