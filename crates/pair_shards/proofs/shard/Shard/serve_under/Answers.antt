use Rattle.std.proofs.Common.{Some, List, ap, sym, subst, ◌∙◌}
use Rattle.std.specs.Sync.Mutex.{mutex_guard_value}
use Rattle.fx_rules.specs.declared.outcome.Entry.{Entry}
use Rattle.fx_rules.specs.History.{state}
use Rattle.fx_chronicle.specs.Faces.{Witness}
use Rattle.global_book.specs.Book.{Book}
use Rattle.fx_rules.specs.Sending.{IsNextIn}
use Rattle.pair_host.specs.Carries.{HasRoomFor}
use Rattle.credit_book.specs.declared.signed.SignedBook.{SignedBook}
use Rattle.credit_book.specs.Recorded.{Recorded}
use Rattle.pair_shards.specs.Shards.{PairState}
use Rattle.pair_shards.proofs.Keeping.{legal_entries, step_of, settled}
use Rattle.pair_shards.proofs.Signing.{are_keys, is_last, pair_pends, signed_by_both, serves}
use Rattle.pair_shards.proofs.shard.Shard.serve_under.Goals as goal

pub sign-requires : goal.sign-requires
sign-requires g c = record {
  pends = pair_pends _ _ _ c.prepare.new.pass.key c.self.inside.front.key c.prepare.new.credit c.enter.new.self
      (are_keys _ (record { book = c.self.inside.book; front = c.self.inside.front }) _ _ c.prepare.new.pass.key _ _ _ _ c.self.invariant c.in_ok-sender.ensures.prepared
      (c.requires.pair ∙ ap Some (sym (ap (λ (s : PairState). s.book.pair) c.self.view_is ∙ ap (λ (b : Book). b.pair) c.catch_up.ensures.book))) (ap (λ (w : Witness Entry). w.key) c.prepare.ensures.pass))
      c.prepare.ensures.kept.keys c.enter.ensures.value;
}

pub invariant_of-credit_book : goal.invariant_of-credit_book
invariant_of-credit_book g c = record {
  signed = signed_by_both _ _ _ c.prepare.new.pass.key c.self.inside.front.key c.prepare.new.credit c.enter.new.self c.sign.new.self
      (are_keys _ (record { book = c.self.inside.book; front = c.self.inside.front }) _ _ c.prepare.new.pass.key _ _ _ _ c.self.invariant c.in_ok-sender.ensures.prepared
      (c.requires.pair ∙ ap Some (sym (ap (λ (s : PairState). s.book.pair) c.self.view_is ∙ ap (λ (b : Book). b.pair) c.catch_up.ensures.book))) (ap (λ (w : Witness Entry). w.key) c.prepare.ensures.pass))
      c.enter.ensures.value c.sign.ensures.value;
}

pub carry_out-requires-clause-step : goal.carry_out-requires-clause-step
carry_out-requires-clause-step g c =
    let seen_is = ap (λ (w : Witness Entry). w.seen) c.catch_up.ensures.front ∙ sym (ap (λ (b : Recorded). b.history.entries) c.catch_up.ensures.same) in
    record {
      session = g.N.Naming.session;
      before = _;
      valid = c.self.invariant.legal.session;
      step = step_of _ _ c.catch_up.new.self c.enter.new.self.history.entries _ _ _ c.self.view_is c.self.invariant (legal_entries _ c.enter.new.self c.sign.new.self c.sign.ensures.value c.sign.ensures.kept)
          (is_last _ c.catch_up.new.credit c.prepare.new.credit c.enter.new.self c.catch_up.new.self.front _ c.prepare.new.pass.key _ _ _ _ c.prepare.ensures.value c.enter.ensures.value seen_is c.in_ok-sender.ensures.prepared)
          (subst (λ (es : List Entry). IsNextIn (state g.N.Naming.session es) c.in_ok-sender.field-0.sender) (sym seen_is) c.in_ok-sender.ensures.prepared.next);
    }

pub carry_out-requires-clause-room : goal.carry_out-requires-clause-room
carry_out-requires-clause-room g c =
    subst (λ (b : Book). HasRoomFor b c.in_ok-sender.field-0.sender.bank c.args.command.now) (sym (ap (λ (s : PairState). s.book) c.self.view_is ∙ c.catch_up.ensures.book))
    (subst (λ bank. HasRoomFor c.args.self.now.book bank c.args.command.now) (sym c.in_ok-sender.ensures.prepared.bank_is) c.requires.room)

pub invariant_of-self : goal.invariant_of-self
invariant_of-self g c =
    let seen_is = ap (λ (w : Witness Entry). w.seen) c.catch_up.ensures.front ∙ sym (ap (λ (b : Recorded). b.history.entries) c.catch_up.ensures.same) in
    settled _ _ c.catch_up.new.self c.enter.new.self.history.entries _ _ _ _ _ c.self.view_is c.self.invariant (legal_entries _ c.enter.new.self c.sign.new.self c.sign.ensures.value c.sign.ensures.kept)
    (is_last _ c.catch_up.new.credit c.prepare.new.credit c.enter.new.self c.catch_up.new.self.front _ c.prepare.new.pass.key _ _ _ _ c.prepare.ensures.value c.enter.ensures.value seen_is c.in_ok-sender.ensures.prepared)
    (subst (λ (es : List Entry). IsNextIn (state g.N.Naming.session es) c.in_ok-sender.field-0.sender) (sym seen_is) c.in_ok-sender.ensures.prepared.next)
    c.sign.ensures.front c.carry_out.ensures.pair c.carry_out.ensures.banks c.carry_out.ensures.follows

pub returns-clause-served : goal.returns-clause-served
returns-clause-served g c =
    serves _ (mutex_guard_value c.args.credit).book c.catch_up.new.credit c.prepare.new.credit c.enter.new.pass.seen c.args.pass.now c.prepare.new.pass c.enter.new.pass _ _ _ _
    (c.catch_up.ensures.same ∙ ap (λ (s : SignedBook _ _). s.book) c.deref_mut.ensures.value) c.prepare.ensures.value c.prepare.ensures.pass c.in_ok-sender.ensures.prepared c.enter.ensures.seen c.enter.ensures.own
    (ap (λ (w : Witness Entry). w.seen) c.enter.ensures.pass) c.enter.ensures.pass
