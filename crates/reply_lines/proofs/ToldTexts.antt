-- The notices of a history as they are told: to whom, with which numbers, and what is told by two parts of it.
use Rattle.std.proofs.Common.{ℕ, ◌≡◌, ◌≢◌, ◌+◌, Bool, true, false, eqb, cond, List, [], ◌∷◌, ◌++◌, map, length, inl, inr, refl, ap, ap₂, sym, subst, ◌∙◌, arith, append_assoc, append-nil, length-append, flat_map}
use Rattle.std.proofs.lemmas.Bool.{cases_eq, eq-eqb, ne_eqb, cond-true, cond-false}
use Rattle.std.proofs.lemmas.List.{map-append, length-map}
use Rattle.std.proofs.lemmas.List.Concat.{flat_map-append}
use Rattle.std.proofs.lemmas.List.Elements.{filter-append}
use Rattle.std.specs.List.{filter}
use Rattle.fx_rules.specs.declared.orders.Fill.{Fill}
use Rattle.fx_rules.specs.declared.outcome.Entry.{Entry}
use Rattle.fx_rules.specs.Session.{Header}
use Rattle.fx_rules.specs.Step.{fills_of}
use Rattle.fx_rules.proofs.ListLemmas.{filter_cons_true, filter_cons_false}
use Rattle.reply_lines.specs.Laws.{DesksAreTold}
use Rattle.reply_lines.specs.Notices.{Notice, fill_notices, notice_line, notice_lines, notices, notices_in}
use Rattle.reply_lines.specs.Notices.Notice.{Replied, Took, Gave}
use Rattle.reply_lines.specs.Telling.{Addressed, Told, addressed, addressed_in, addressed_to, count_to, fill_addressed, numbered, told, told_line, told_text}

-- ---- what one sender gets

-- whether a sender gets a notice
abbrev pub is_to : ℕ → Addressed → Bool
is_to sender a = eqb a.sender sender

-- the notices that a sender gets
abbrev pub notices_to : ℕ → List Addressed → List Notice
notices_to sender all = map (λ (a : Addressed). a.notice) (filter (is_to sender) all)

notices_to-append : (sender : ℕ) (xs ys : List Addressed) → notices_to sender (xs ++ ys) ≡ notices_to sender xs ++ notices_to sender ys
notices_to-append sender xs ys =
    ap (map (λ (a : Addressed). a.notice)) (filter-append (is_to sender) xs ys)
    ∙ map-append (λ (a : Addressed). a.notice) (filter (is_to sender) xs) (filter (is_to sender) ys)

pub count_to-append : (sender : ℕ) (xs ys : List Addressed) → count_to sender (xs ++ ys) ≡ count_to sender xs + count_to sender ys
count_to-append sender xs ys =
    ap length (filter-append (is_to sender) xs ys) ∙ length-append (filter (is_to sender) xs) (filter (is_to sender) ys)

notices_to-one : (sender : ℕ) (a : Addressed) → notices_to sender (a ∷ []) ≡ cond (eqb a.sender sender) (a.notice ∷ []) []
notices_to-one sender a =
    elim (cases_eq a.sender sender) [
      | inl same ↦
          let yes : eqb a.sender sender ≡ true = eq-eqb a.sender sender same in
          ap (map (λ (b : Addressed). b.notice)) (filter_cons_true (is_to sender) a [] yes) ∙ sym (cond-true (eqb a.sender sender) (a.notice ∷ []) [] yes)
      | inr differ ↦
          let not_it : eqb a.sender sender ≡ false = ne_eqb a.sender sender differ in
          ap (map (λ (b : Addressed). b.notice)) (filter_cons_false (is_to sender) a [] not_it) ∙ sym (cond-false (eqb a.sender sender) (a.notice ∷ []) [] not_it)
    ]

fill-notices : (sender : ℕ) (fill : Fill) → notices_to sender (fill_addressed fill) ≡ fill_notices sender fill
fill-notices sender fill =
    let taker : Addressed = addressed_to fill.taker (Took fill) in
    let maker : Addressed = addressed_to fill.maker (Gave fill) in
    notices_to-append sender (taker ∷ []) (maker ∷ []) ∙ ap₂ (λ (xs ys : List Notice). xs ++ ys) (notices_to-one sender taker) (notices_to-one sender maker)

fills-notices : (sender : ℕ) (fills : List Fill) → notices_to sender (flat_map fill_addressed fills) ≡ flat_map (fill_notices sender) fills
fills-notices sender [] = refl
fills-notices sender (fill ∷ fills) =
    notices_to-append sender (fill_addressed fill) (flat_map fill_addressed fills)
    ∙ ap₂ (λ (xs ys : List Notice). xs ++ ys) (fill-notices sender fill) (fills-notices sender fills)

entry-notices : (sender : ℕ) (e : Entry) → notices_to sender (addressed_in e) ≡ notices_in sender e
entry-notices sender e =
    let reply : Addressed = addressed_to e.bank (Replied e) in
    notices_to-append sender (reply ∷ []) (flat_map fill_addressed (fills_of e.outcome))
    ∙ ap₂ (λ (xs ys : List Notice). xs ++ ys) (notices_to-one sender reply) (fills-notices sender (fills_of e.outcome))

-- what a sender gets of a history are its notices
notices-addressed : (sender : ℕ) (entries : List Entry) → notices_to sender (addressed entries) ≡ notices sender entries
notices-addressed sender [] = refl
notices-addressed sender (e ∷ entries) =
    notices_to-append sender (addressed_in e) (addressed entries) ∙ ap₂ (λ (xs ys : List Notice). xs ++ ys) (entry-notices sender e) (notices-addressed sender entries)

pub count-notices : (sender : ℕ) (entries : List Entry) → count_to sender (addressed entries) ≡ length (notices sender entries)
count-notices sender entries =
    sym (length-map (filter (is_to sender) (addressed entries)) (λ (a : Addressed). a.notice)) ∙ ap length (notices-addressed sender entries)

pub addressed-append : (one more : List Entry) → addressed (one ++ more) ≡ addressed one ++ addressed more
addressed-append one more = flat_map-append addressed_in one more

-- ---- one notice more

pub count-here : (a : Addressed) → count_to a.sender (a ∷ []) ≡ 1
count-here a = ap length (filter_cons_true (is_to a.sender) a [] (eq-eqb a.sender a.sender refl))

pub count-elsewhere : (sender : ℕ) (a : Addressed) → a.sender ≢ sender → count_to sender (a ∷ []) ≡ 0
count-elsewhere sender a differ = ap length (filter_cons_false (is_to sender) a [] (ne_eqb a.sender sender differ))

-- ---- what is told

numbered-append : (before xs ys : List Addressed) → numbered before (xs ++ ys) ≡ numbered before xs ++ numbered (before ++ xs) ys
numbered-append before [] ys = ap (λ (all : List Addressed). numbered all ys) (sym (append-nil before))
numbered-append before (a ∷ xs) ys =
    let first : Told = record { sender = a.sender; number = count_to a.sender before + 1; notice = a.notice } in
    ap (λ (rest : List Told). first ∷ rest)
    (numbered-append (before ++ a ∷ []) xs ys
    ∙ ap (λ (all : List Addressed). numbered (before ++ a ∷ []) xs ++ numbered all ys) (append_assoc before (a ∷ []) xs))

told-append : (before one more : List Entry) → told before (one ++ more) ≡ told before one ++ told (before ++ one) more
told-append before one more =
    ap (numbered (addressed before)) (addressed-append one more)
    ∙ numbered-append (addressed before) (addressed one) (addressed more)
    ∙ ap (λ (all : List Addressed). told before one ++ numbered all (addressed more)) (sym (addressed-append before one))

-- of no entry nothing is told
pub told_text-nil : (h : Header) (before : List Entry) → told_text h before [] ≡ []
told_text-nil h before = refl

-- of two parts of a history their texts are told one behind the other
pub told_text-append : (h : Header) (before one more : List Entry) → told_text h before (one ++ more) ≡ told_text h before one ++ told_text h (before ++ one) more
told_text-append h before one more =
    ap (flat_map (told_line h)) (told-append before one more) ∙ flat_map-append (told_line h) (told before one) (told (before ++ one) more)

-- ---- a desk is what its sender is told

-- what is told to a sender
abbrev told_to : ℕ → List Told → List Told
told_to sender all = filter (λ (t : Told). eqb t.sender sender) all

abbrev desk_lines : Header → List Told → List ℕ
desk_lines h all = flat_map (λ (t : Told). notice_line h t.number t.notice) all

desk-told : (h : Header) (sender : ℕ) (before more : List Addressed) → desk_lines h (told_to sender (numbered before more)) ≡ notice_lines h (count_to sender before) (notices_to sender more)
desk-told h sender before [] = refl
desk-told h sender before (a ∷ more) =
    let first : Told = record { sender = a.sender; number = count_to a.sender before + 1; notice = a.notice } in
    let rest : List Told = numbered (before ++ a ∷ []) more in
    let others = desk-told h sender (before ++ a ∷ []) more in
    elim (cases_eq a.sender sender) [
      | inl same ↦
          let yes : eqb a.sender sender ≡ true = eq-eqb a.sender sender same in
          let counted : count_to sender (before ++ a ∷ []) ≡ count_to sender before + 1 =
          count_to-append sender before (a ∷ []) ∙ ap (λ n. count_to sender before + n) (subst (λ s. count_to s (a ∷ []) ≡ 1) same (count-here a)) in
          let line : notice_line h (count_to a.sender before + 1) a.notice ≡ notice_line h (count_to sender before + 1) a.notice =
          ap (λ s. notice_line h (count_to s before + 1) a.notice) same in
          ap (desk_lines h) (filter_cons_true (λ (t : Told). eqb t.sender sender) first rest yes)
          ∙ ap₂ (λ (one all : List ℕ). one ++ all) line (others ∙ ap (λ n. notice_lines h n (notices_to sender more)) counted)
          ∙ ap (λ (all : List Addressed). notice_lines h (count_to sender before) (map (λ (b : Addressed). b.notice) all)) (sym (filter_cons_true (is_to sender) a more yes))
      | inr differ ↦
          let not_it : eqb a.sender sender ≡ false = ne_eqb a.sender sender differ in
          let counted : count_to sender (before ++ a ∷ []) ≡ count_to sender before =
          count_to-append sender before (a ∷ []) ∙ omega (arith, count-elsewhere sender a differ) in
          ap (desk_lines h) (filter_cons_false (λ (t : Told). eqb t.sender sender) first rest not_it)
          ∙ others ∙ ap (λ n. notice_lines h n (notices_to sender more)) counted
          ∙ ap (λ (all : List Addressed). notice_lines h (count_to sender before) (map (λ (b : Addressed). b.notice) all)) (sym (filter_cons_false (is_to sender) a more not_it))
    ]

pub desks_are_told : DesksAreTold
desks_are_told h before more sender =
    desk-told h sender (addressed before) (addressed more)
    ∙ ap₂ (notice_lines h) (count-notices sender before) (notices-addressed sender more)
