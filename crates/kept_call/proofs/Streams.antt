-- What a run serves behind a kept history is what its senders send then.
use Rattle.std.proofs.Common.{ℕ, ◌≡◌, eqb, List, [], ◌∷◌, ◌++◌, map, refl, ap, sym, ◌∙◌, inl, inr}
use Rattle.std.proofs.lemmas.Bool.{cases_Bool}
use Rattle.std.proofs.lemmas.List.{map-append, append_cancel_left}
use Rattle.std.proofs.lemmas.List.Elements.{filter-append}
use mathlib.Core.List.{IsPrefix}
use Rattle.fx_rules.specs.declared.command.Command.{Command}
use Rattle.fx_rules.specs.declared.command.Sent.{Sent}
use Rattle.fx_rules.specs.declared.outcome.Entry.{Entry}
use Rattle.fx_rules.specs.History.{own}
use Rattle.fx_rules.specs.Sending.{sent_by}
use Rattle.fx_rules.proofs.ListLemmas.{filter_cons_true, filter_cons_false}
use Rattle.fx_chronicle.proofs.Prefixes.{prefix_trans}
use Rattle.fx_chronicle.specs.Streams.{stream_of, HasStreams}
use Rattle.fx_chronicle.proofs.Owning.{own-append}
use Rattle.kept_call.specs.Running.{AreBegunBy}

stream-append : (bank : ℕ) (sent more : List Sent) → stream_of bank (sent ++ more) ≡ stream_of bank sent ++ stream_of bank more
stream-append bank sent more =
    ap (map (λ (s : Sent). s.command)) (filter-append (λ (s : Sent). eqb s.bank bank) sent more)
    ∙ map-append (λ (s : Sent). s.command) _ _

-- what entries were made of is what their senders sent
stream-back : (bank : ℕ) (entries : List Entry) → stream_of bank (map sent_by entries) ≡ map (λ (e : Entry). e.command) (own bank entries)
stream-back bank [] = refl
stream-back bank (e ∷ es) =
    elim (cases_Bool (eqb e.bank bank)) [
      | inl is ↦
          ap (map (λ (s : Sent). s.command)) (filter_cons_true (λ (s : Sent). eqb s.bank bank) (sent_by e) (map sent_by es) is)
          ∙ ap (λ (cs : List Command). e.command ∷ cs) (stream-back bank es)
          ∙ sym (ap (map (λ (d : Entry). d.command)) (filter_cons_true (λ (d : Entry). eqb d.bank bank) e es is))
      | inr other ↦
          ap (map (λ (s : Sent). s.command)) (filter_cons_false (λ (s : Sent). eqb s.bank bank) (sent_by e) (map sent_by es) other)
          ∙ stream-back bank es
          ∙ sym (ap (map (λ (d : Entry). d.command)) (filter_cons_false (λ (d : Entry). eqb d.bank bank) e es other))
    ]

-- the entries behind a kept history have the commands that were sent behind its own
pub streams-behind : (kept entries : List Entry) (sent : List Sent) → HasStreams (map sent_by kept ++ sent) (kept ++ entries) → HasStreams sent entries
streams-behind kept entries sent streams = λ bank.
    let command : Entry → Command = λ (e : Entry). e.command in
    append_cancel_left (map command (own bank kept)) (map command (own bank entries)) (stream_of bank sent)
    (sym (ap (map command) (own-append bank kept entries) ∙ map-append command (own bank kept) (own bank entries))
    ∙ streams bank
    ∙ stream-append bank (map sent_by kept) sent
    ∙ ap (λ (cs : List Command). cs ++ stream_of bank sent) (stream-back bank kept))

-- and so they begin what is sent in all
pub begun-by : (kept entries : List Entry) (sent more : List Sent) → HasStreams (map sent_by kept ++ sent) (kept ++ entries) → AreBegunBy (sent ++ more) entries
begun-by kept entries sent more streams = λ bank. (
  stream_of bank more,
  ap (λ (cs : List Command). cs ++ stream_of bank more) (streams-behind kept entries sent streams bank) ∙ sym (stream-append bank sent more),
)

-- what begins some commands begins more
pub begun-longer : (sent all : List Sent) (entries : List Entry) → IsPrefix sent all → AreBegunBy sent entries → AreBegunBy all entries
begun-longer sent all entries begins begun = λ bank.
    prefix_trans _ _ _ (begun bank) (stream_of bank begins.0, sym (stream-append bank sent begins.0) ∙ ap (stream_of bank) begins.1)
