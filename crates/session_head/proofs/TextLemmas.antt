-- The text of a header, line by line.
use Rattle.std.proofs.Common.{◌≡◌, ℕ, ◌+◌, ◌<◌, ◌≤◌, true, false, List, [], ◌∷◌, ◌++◌, sym, ap, ap₂, ◌∙◌, append_assoc, append-nil, arith, nat_lt}
use Rattle.std.proofs.lemmas.Bool.{lt-ltb, cond-true, cond-false}
use Rattle.std.proofs.lemmas.Bool.Decides.{nat_tests}
use Rattle.std.proofs.lemmas.Grind.{flat_map-append}
use Rattle.fx_rules.specs.Session.{Header, opening_limit}
use Rattle.fx_rules.proofs.Below.{flat_map-more}
use Rattle.session_head.specs.HeadText.{limit_statement, line_text, lines_text}
use Rattle.session_head.specs.inside.HeadText.{limits_of}
use Rattle.session_head.specs.Statement.{spelling}
use Rattle.session_head.specs.declared.statement.Statement.{Statement}
use Rattle.session_head.specs.declared.statement.Statement.TheVariants as statements

pub lines_text-append : (banks : List (List ℕ)) (stated more : List Statement) → lines_text banks (stated ++ more) ≡ lines_text banks stated ++ lines_text banks more
lines_text-append banks stated more = flat_map-append (λ (s : Statement). line_text (spelling banks s)) stated more

-- the limit on one bank more
limits_more : (h : Header) (from to : ℕ) (start text line : List ℕ) → text ≡ start ++ lines_text h.banks (limits_of h from to) → line ≡ lines_text h.banks (limit_statement h from to)
    → text ++ line ≡ start ++ lines_text h.banks (limits_of h from (to + 1))
limits_more h from to start text line so_far is =
    ap₂ (λ (a b : List ℕ). a ++ b) so_far is
    ∙ append_assoc start (lines_text h.banks (limits_of h from to)) (lines_text h.banks (limit_statement h from to))
    ∙ ap (λ (xs : List ℕ). start ++ xs) (sym (lines_text-append h.banks (limits_of h from to) (limit_statement h from to)))
    ∙ ap (λ (xs : List Statement). start ++ lines_text h.banks xs) (sym (flat_map-more (limit_statement h from) to))

pub limit_pushed : (h : Header) (from to at limit : ℕ) (start text new : List ℕ) → text ≡ start ++ lines_text h.banks (limits_of h from to) → at ≡ to → limit ≡ opening_limit h from to → 0 < limit
    → new ≡ text ++ line_text (spelling h.banks (statements.Line from at limit)) → new ≡ start ++ lines_text h.banks (limits_of h from (to + 1))
limit_pushed h from to at limit start text new so_far place is some pushed =
    let test : nat_lt 0 (opening_limit h from to) ≡ true = lt-ltb 0 (opening_limit h from to) (omega arith) in
    let stated : limit_statement h from to ≡ statements.Line from to (opening_limit h from to) ∷ [] = cond-true _ _ _ test in
    let line : line_text (spelling h.banks (statements.Line from at limit)) ≡ lines_text h.banks (limit_statement h from to) =
    ap₂ (λ (t l : ℕ). line_text (spelling h.banks (statements.Line from t l))) place is
    ∙ sym (append-nil _)
    ∙ ap (λ (xs : List Statement). lines_text h.banks xs) (sym stated) in
    pushed ∙ limits_more h from to start text _ so_far line

pub limit_left : (h : Header) (from to limit : ℕ) (start text : List ℕ) → text ≡ start ++ lines_text h.banks (limits_of h from to) → limit ≡ opening_limit h from to → limit ≤ 0
    → text ≡ start ++ lines_text h.banks (limits_of h from (to + 1))
limit_left h from to limit start text so_far is none =
    let test : nat_lt 0 (opening_limit h from to) ≡ false = let zero : opening_limit h from to ≤ 0 = omega arith in grind (arith, nat_tests) in
    let stated : limit_statement h from to ≡ [] = cond-false _ _ _ test in
    sym (append-nil text) ∙ limits_more h from to start text [] so_far (ap (λ (xs : List Statement). lines_text h.banks xs) (sym stated))
