-- Commands that are served in parts, one part after another.
use Rattle.std.proofs.Common.{◌≡◌, ◌+◌, List, [], ◌++◌, ap, sym, subst, ◌∙◌, arith, inl, inr, Result, length, take, length-append, append_assoc}
use Rattle.std.proofs.Math.Seq.{take-append-add}
use Rattle.std.proofs.lemmas.List.{take-append-le}
use Rattle.std.specs.Prelude.{◌⊎◌, OnErr}
use Rattle.fx_rules.specs.declared.command.Sent.{Sent}
use Rattle.fx_rules.specs.declared.outcome.Entry.{Entry}
use Rattle.fx_rules.specs.Session.{Header}
use Rattle.fx_rules.specs.State.{State}
use Rattle.market_run.specs.Ran.{Ran}
use Rattle.market_run.specs.Running.{MayServe, ServesOn, ServesSome}
use Rattle.market_run.proofs.Serving.{may-serve-part, serves-both, serves-none, on-err}

module _ {M O : Type 0} (stands : M → Header → State → Type 0) (told : Header → List Entry → O → Type 0) (h : Header) where
  -- the commands in front of the rest were served
  pub record ServesFront (was now : Ran M O) (all rest : List Sent) : Type 0 where
    pub front : List Sent
    pub parted : front ++ rest ≡ all
    pub served : ServesOn stands told h was now front

  pub front-none : (run : Ran M O) (all rest : List Sent) → rest ≡ all → ServesFront run run all rest
  front-none run all rest is = record { front = []; parted = is; served = serves-none stands told h run }

-- The rest begins with the next part, for which the run is made ready: it stays the same.
module _ {M O : Type 0} (stands : M → Header → State → Type 0) (told : Header → List Entry → O → Type 0) (h : Header) (was mid ready : Ran M O) (all rest part more : List Sent)
    (so_far : ServesFront stands told h was mid all rest) (parts : rest ≡ part ++ more) (same : ready ≡ mid) where
  -- the same is in front of it
  served-front : ServesOn stands told h was ready so_far.front
  served-front = subst (λ (run : Ran M O). ServesOn stands told h was run so_far.front) (sym same) so_far.served

  parted : so_far.front ++ (part ++ more) ≡ all
  parted = ap (λ (xs : List Sent). so_far.front ++ xs) (sym parts) ∙ so_far.parted

  -- it can be served
  pub may-serve-part-next : MayServe stands told h was all → MayServe stands told h ready part
  may-serve-part-next may =
      may-serve-part stands told h was ready so_far.front part more (subst (MayServe stands told h was) (sym (append_assoc so_far.front part more ∙ parted)) may) served-front

  -- and then it is in front too
  pub serves-part-next : (now : Ran M O) → ServesOn stands told h ready now part → ServesFront stands told h was now all more
  serves-part-next now served = record {
    front = so_far.front ++ part;
    parted = append_assoc so_far.front part more ∙ parted;
    served = serves-both stands told h was ready now so_far.front part served-front served;
  }

  -- or the first so many of it were served
  serves-some-next : (now : Ran M O) → ServesSome stands told h ready now part → ServesSome stands told h was now all
  serves-some-next now some =
      let front : List Sent = so_far.front in
      let taken : front ++ take some.count part ≡ take (length front + some.count) all =
      ap (λ (xs : List Sent). front ++ xs) (sym (take-append-le some.count part more (omega (arith, some.fewer))))
      ∙ sym (take-append-add front (part ++ more) some.count) ∙ ap (take (length front + some.count)) parted in
      record {
        count = length front + some.count;
        fewer = omega (arith, some.fewer, ap length parted, length-append front (part ++ more), length-append part more);
        served = subst (ServesOn stands told h was now) taken (serves-both stands told h was ready now front (take some.count part) served-front some.served);
      }

  pub served-some-next : {T E : Type 0} (result : Result T E) (may_break : Type 0) (now : Ran M O) → ServesSome stands told h ready now part ⊎ may_break → OnErr result (ServesSome stands told h was now all ⊎ may_break)
  served-some-next result may_break now either = elim either [
    | inl some ↦ on-err (ServesSome stands told h was now all ⊎ may_break) result (inl (serves-some-next now some))
    | inr broken ↦ on-err (ServesSome stands told h was now all ⊎ may_break) result (inr broken)
  ]
