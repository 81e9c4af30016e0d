-- The lines of a text as they are taken one after another.
use Rattle.std.proofs.Common.{◌≡◌, ℕ, ◌+◌, min, Bool, true, false, List, [], ◌∷◌, ◌++◌, Some, refl, sym, ap, ap₂, ◌∙◌, subst, arith, add-zero}
use Rattle.fx_rules.specs.Lists.{Each}
use Rattle.fx_rules.specs.Session.{Header}
use Rattle.fx_rules.proofs.ListLemmas.{Each-append}
use Rattle.fx_text.specs.declared.line.Line.{Line}
use Rattle.session_head.specs.Head as heads
use Rattle.session_head.specs.Head.{Head, read_head, session_of}
use Rattle.order_lines.specs.Grammar.{command_line}
use Rattle.order_lines.specs.declared.spoken.Spoken.{Spoken}
use Rattle.order_lines.specs.declared.spoken.Spoken.TheVariants.{Of, Stray, End, Passed}
use Rattle.session_script.specs.inside.Script.{is_started}
use Rattle.session_script.specs.Script.{spoken_of, up_to_end, has_end, sent_among, strays_in}
use Rattle.fx_rules.specs.Sending.{IsSentOf}
use Rattle.session_script.specs.Stage.{Tells, most_strays}
use Rattle.session_script.specs.inside.Stage.{goes_on, counted}
use Rattle.fx_rules.specs.declared.command.Sent.{Sent}
use Rattle.session_script.proofs.ScriptLaws.{session_of-more, spoken_of-append, spoken_of-start, has_end-more, up_to_end-more, has_end-append, up_to_end-append, sent_among-append, strays_in-append, sent_among-one, strays_in-one}

-- a header that goes on has not started
pub goes_on-not_started : (head : Head) → goes_on head ≡ true → is_started head ≡ false
goes_on-not_started (heads.Begun line) is = refl
goes_on-not_started (heads.Drafting line draft) is = refl
goes_on-not_started (heads.Started line h) is = absurd (cc)
goes_on-not_started (heads.Faulted line reason) is = refl

-- behind START nothing is said yet
pub Tells-start : (lines : List Line) (line : Line) (before after : Head) (h : Header) (sent : List Sent) (strays : ℕ) → before ≡ read_head lines → goes_on before ≡ true → after ≡ read_head (lines ++ line ∷ [])
    → session_of after ≡ Some h → sent ≡ [] → strays ≡ 0 → Tells (lines ++ line ∷ []) h sent strays false
Tells-start lines line before after h sent strays is going on session none zero =
    let silent : spoken_of h (lines ++ line ∷ []) ≡ [] = spoken_of-start h lines line (ap is_started (sym is) ∙ goes_on-not_started before going) in
    record {
      session = ap session_of (sym on) ∙ session;
      commands = none ∙ ap (λ (said : List Spoken). sent_among (up_to_end said)) (sym silent);
      count = zero ∙ ap (λ (said : List Spoken). min (strays_in (up_to_end said)) most_strays) (sym silent);
      end = ap has_end (sym silent);
      valid = subst (Each (IsSentOf h)) (sym none) tt;
    }

-- a line more before the END line
counted-strays : (a : ℕ) (said : Spoken) → counted (min a most_strays) said ≡ min (a + strays_in (said ∷ [])) most_strays
counted-strays a (Of bank command) = ap (λ (n : ℕ). min n most_strays) (sym (add-zero a))
counted-strays a Stray = omega arith
counted-strays a End = ap (λ (n : ℕ). min n most_strays) (sym (add-zero a))
counted-strays a Passed = ap (λ (n : ℕ). min n most_strays) (sym (add-zero a))

said_more : (h : Header) (lines : List Line) (line : Line) → session_of (read_head lines) ≡ Some h → has_end (spoken_of h lines) ≡ false
    → up_to_end (spoken_of h (lines ++ line ∷ [])) ≡ up_to_end (spoken_of h lines) ++ up_to_end (command_line h line ∷ [])
said_more h lines line session going = ap up_to_end (spoken_of-append h lines (line ∷ []) session) ∙ up_to_end-append (spoken_of h lines) (command_line h line ∷ []) going

tells_more : (lines : List Line) (line : Line) (h : Header) (sent sent' : List Sent) (strays strays' : ℕ) (is_end : Bool) → Tells lines h sent strays false
    → sent' ≡ sent ++ sent_among (command_line h line ∷ []) → strays' ≡ counted strays (command_line h line) → is_end ≡ has_end (command_line h line ∷ [])
    → Each (IsSentOf h) (sent_among (command_line h line ∷ [])) → Tells (lines ++ line ∷ []) h sent' strays' is_end
tells_more lines line h sent sent' strays strays' is_end tells more count end valid =
    let said : List Spoken = up_to_end (spoken_of h lines) in
    let spoken : Spoken = command_line h line in
    let goes : up_to_end (spoken_of h (lines ++ line ∷ [])) ≡ said ++ up_to_end (spoken ∷ []) = said_more h lines line tells.session (sym tells.end) in
    record {
      session = session_of-more lines (line ∷ []) h tells.session;
      commands = more ∙ ap₂ (λ (front back : List Sent). front ++ back) tells.commands (sym (sent_among-one spoken)) ∙ sym (ap sent_among goes ∙ sent_among-append said (up_to_end (spoken ∷ [])));
      count = count
          ∙ ap (λ (n : ℕ). counted n spoken) tells.count
          ∙ counted-strays (strays_in said) spoken
          ∙ ap (λ (n : ℕ). min n most_strays) (sym (ap strays_in goes ∙ strays_in-append said (up_to_end (spoken ∷ [])) ∙ ap (λ (n : ℕ). strays_in said + n) (strays_in-one spoken)));
      end = end ∙ sym (ap has_end (spoken_of-append h lines (line ∷ []) tells.session) ∙ has_end-append (spoken_of h lines) (spoken ∷ []) (sym tells.end));
      valid = subst (Each (IsSentOf h)) (sym more) (Each-append (IsSentOf h) sent (sent_among (spoken ∷ [])) tells.valid valid);
    }

pub Tells-line : (lines : List Line) (line : Line) (h h' : Header) (sent sent' : List Sent) (strays strays' : ℕ) (is_end : Bool) → Tells lines h sent strays false
    → h' ≡ h → sent' ≡ sent ++ sent_among (command_line h line ∷ []) → strays' ≡ counted strays (command_line h line) → is_end ≡ has_end (command_line h line ∷ [])
    → Each (IsSentOf h) (sent_among (command_line h line ∷ [])) → Tells (lines ++ line ∷ []) h' sent' strays' is_end
Tells-line lines line h h' sent sent' strays strays' is_end tells same more count end valid =
    subst (λ (header : Header). Tells (lines ++ line ∷ []) header sent' strays' is_end) (sym same) (tells_more lines line h sent sent' strays strays' is_end tells more count end valid)

-- a line behind the END line
pub Tells-behind : (lines : List Line) (line : Line) (h : Header) (sent : List Sent) (strays : ℕ) → Tells lines h sent strays true → Tells (lines ++ line ∷ []) h sent strays true
Tells-behind lines line h sent strays tells =
    let spoken : spoken_of h (lines ++ line ∷ []) ≡ spoken_of h lines ++ command_line h line ∷ [] = spoken_of-append h lines (line ∷ []) tells.session in
    let said : up_to_end (spoken_of h (lines ++ line ∷ [])) ≡ up_to_end (spoken_of h lines) = ap up_to_end spoken ∙ up_to_end-more (spoken_of h lines) (command_line h line ∷ []) (sym tells.end) in
    record {
      session = session_of-more lines (line ∷ []) h tells.session;
      commands = tells.commands ∙ ap sent_among (sym said);
      count = tells.count ∙ ap (λ (all : List Spoken). min (strays_in all) most_strays) (sym said);
      end = sym (ap has_end spoken ∙ has_end-more (spoken_of h lines) (command_line h line ∷ []) (sym tells.end));
      valid = tells.valid;
    }
