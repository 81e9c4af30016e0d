-- Histories that have what each bank sends: they are as long as what was sent.
use Rattle.std.proofs.Common.{ℕ, suc, ◌≡◌, ◌≢◌, eqb, cond, Bool, true, false, List, [], ◌∷◌, map, length, refl, ap, sym, ◌∙◌, inl, inr, eq-eqb, ne_eqb}
use Rattle.std.specs.List.{filter}
use Rattle.std.proofs.lemmas.Bool.{cases_eq, cond-true, cond-false}
use Rattle.fx_rules.specs.declared.command.Command.{Command}
use Rattle.fx_rules.specs.declared.command.Sent.{Sent}
use Rattle.fx_rules.specs.declared.outcome.Entry.{Entry}
use Rattle.fx_rules.specs.History.{own}
use Rattle.fx_rules.specs.Sending.{sent_by}
use Rattle.fx_rules.proofs.ListLemmas.{filter_cons_true, filter_cons_false}
use Rattle.fx_chronicle.specs.Streams.{stream_of, HasStreams}

-- the head of a bank's stream, and of another's
stream_own : (bank : ℕ) (s : Sent) (sent : List Sent) → s.bank ≡ bank → stream_of bank (s ∷ sent) ≡ s.command ∷ stream_of bank sent
stream_own bank s sent is = ap (map (λ (t : Sent). t.command)) (filter_cons_true (λ (t : Sent). eqb t.bank bank) s sent (eq-eqb s.bank bank is))

stream_other : (bank : ℕ) (s : Sent) (sent : List Sent) → s.bank ≢ bank → stream_of bank (s ∷ sent) ≡ stream_of bank sent
stream_other bank s sent other = ap (map (λ (t : Sent). t.command)) (filter_cons_false (λ (t : Sent). eqb t.bank bank) s sent (ne_eqb s.bank bank other))

own_head : (bank : ℕ) (e : Entry) (es : List Entry) → e.bank ≡ bank → own bank (e ∷ es) ≡ e ∷ own bank es
own_head bank e es is = filter_cons_true (λ (d : Entry). eqb d.bank bank) e es (eq-eqb e.bank bank is)

own_other : (bank : ℕ) (e : Entry) (es : List Entry) → e.bank ≢ bank → own bank (e ∷ es) ≡ own bank es
own_other bank e es other = filter_cons_false (λ (d : Entry). eqb d.bank bank) e es (ne_eqb e.bank bank other)

-- what was sent without a bank's first command
without_first : ℕ → List Sent → List Sent
without_first bank [] = []
without_first bank (s ∷ sent) = cond (eqb s.bank bank) sent (s ∷ without_first bank sent)

first_gone : (bank : ℕ) (s : Sent) (sent : List Sent) → s.bank ≡ bank → without_first bank (s ∷ sent) ≡ sent
unfolding without_first
first_gone bank s sent is = cond-true (eqb s.bank bank) sent (s ∷ without_first bank sent) (eq-eqb s.bank bank is)

later_gone : (bank : ℕ) (s : Sent) (sent : List Sent) → s.bank ≢ bank → without_first bank (s ∷ sent) ≡ s ∷ without_first bank sent
unfolding without_first
later_gone bank s sent other = cond-false (eqb s.bank bank) sent (s ∷ without_first bank sent) (ne_eqb s.bank bank other)

record IsWithout (bank : ℕ) (sent : List Sent) (cs : List Command) : Type 0 where
  pub one_less : length sent ≡ suc (length (without_first bank sent))
  pub own_rest : stream_of bank (without_first bank sent) ≡ cs
  pub others : (other : ℕ) → other ≢ bank → stream_of other (without_first bank sent) ≡ stream_of other sent

is_without : (bank : ℕ) (sent : List Sent) (c : Command) (cs : List Command) → stream_of bank sent ≡ c ∷ cs → IsWithout bank sent cs
is_without bank [] c cs is = absurd (cc is)
is_without bank (s ∷ sent) c cs is =
    elim (cases_eq s.bank bank) [
      | inl same ↦ record {
        one_less = ap (λ (ss : List Sent). suc (length ss)) (sym (first_gone bank s sent same));
        own_rest = ap (stream_of bank) (first_gone bank s sent same) ∙ tail (s.command) c (stream_of bank sent) cs (sym (stream_own bank s sent same) ∙ is);
        others = λ other apart. ap (stream_of other) (first_gone bank s sent same) ∙ sym (stream_other other s sent (λ also. apart (sym also ∙ same)));
      }
      | inr differ ↦
          let rest : IsWithout bank sent cs = is_without bank sent c cs (sym (stream_other bank s sent differ) ∙ is) in
          record {
            one_less = ap suc rest.one_less ∙ ap (λ (ss : List Sent). suc (length ss)) (sym (later_gone bank s sent differ));
            own_rest = ap (stream_of bank) (later_gone bank s sent differ) ∙ stream_other bank s (without_first bank sent) differ ∙ rest.own_rest;
            others = λ other apart.
                ap (stream_of other) (later_gone bank s sent differ)
                ∙ elim (cases_eq s.bank other) [
                  | inl also ↦ stream_own other s (without_first bank sent) also ∙ ap (λ (ds : List Command). s.command ∷ ds) (rest.others other apart) ∙ sym (stream_own other s sent also)
                  | inr nor ↦ stream_other other s (without_first bank sent) nor ∙ rest.others other apart ∙ sym (stream_other other s sent nor)
                ];
          }
    ]
  where
    tail : (a b : Command) (cs ds : List Command) → a ∷ cs ≡ b ∷ ds → cs ≡ ds
    tail a b cs ds e = cc

nothing_sent : (sent : List Sent) → ((bank : ℕ) → [] ≡ stream_of bank sent) → length sent ≡ 0
nothing_sent [] none = refl
nothing_sent (s ∷ sent) none = let no : [] ≡ s.command ∷ stream_of s.bank sent = none s.bank ∙ stream_own s.bank s sent refl in absurd (cc no)

pub streams-length : (sent : List Sent) (entries : List Entry) → HasStreams sent entries → length entries ≡ length sent
streams-length sent [] streams = sym (nothing_sent sent streams)
streams-length sent (e ∷ es) streams =
    let here : stream_of e.bank sent ≡ e.command ∷ map (λ (d : Entry). d.command) (own e.bank es) =
    sym (streams e.bank) ∙ ap (map (λ (d : Entry). d.command)) (own_head e.bank e es refl) in
    let rest : IsWithout e.bank sent (map (λ (d : Entry). d.command) (own e.bank es)) = is_without e.bank sent e.command _ here in
    let less : HasStreams (without_first e.bank sent) es = λ bank.
    elim (cases_eq bank e.bank) [
      | inl same ↦ ap (λ b. map (λ (d : Entry). d.command) (own b es)) same ∙ sym rest.own_rest ∙ ap (λ b. stream_of b (without_first e.bank sent)) (sym same)
      | inr other ↦ ap (map (λ (d : Entry). d.command)) (sym (own_other bank e es (λ also. other (sym also)))) ∙ streams bank ∙ sym (rest.others bank other)
    ] in
    ap suc (streams-length (without_first e.bank sent) es less) ∙ sym rest.one_less

-- what one bank sent, whether this entry is its or not
one_more : (is : Bool) (e : Entry) (es : List Entry) (sent : List Sent) → map (λ (e : Entry). e.command) es ≡ map (λ (s : Sent). s.command) sent → map (λ (e : Entry). e.command) (cond is (e ∷ es) es) ≡ map (λ (s : Sent). s.command) (cond is (sent_by e ∷ sent) sent)
one_more true e es sent same = ap (λ commands. e.command ∷ commands) same
one_more false e es sent same = same

own_commands : (bank : ℕ) (entries : List Entry) → map (λ (e : Entry). e.command) (own bank entries) ≡ stream_of bank (map sent_by entries)
own_commands bank [] = refl
own_commands bank (e ∷ es) = one_more (eqb e.bank bank) e (own bank es) (filter (λ (s : Sent). eqb s.bank bank) (map sent_by es)) (own_commands bank es)

-- where the commands went in their order, each bank's did
pub streams-in_order : (sent : List Sent) (entries : List Entry) → map sent_by entries ≡ sent → HasStreams sent entries
streams-in_order sent entries in_order = λ bank. own_commands bank entries ∙ ap (stream_of bank) in_order
