-- A fill is added to the volume of its pair.
use Rattle.std.proofs.Common.{ℕ, ◌≡◌, ◌≢◌, ◌+◌, ◌*◌, ◌≤◌, ◌<◌, true, false, eqb, List, [], ◌∷◌, ◌++◌, length, get_or, set, inl, inr, refl, ap, sym, subst, ◌∙◌, arith, append-nil}
use Rattle.std.proofs.lemmas.Bool.{cases_eq, eq-eqb, ne_eqb}
use Rattle.std.proofs.lemmas.List.{length_push, length-set, get_or-set_same, get_or-set_other}
use Rattle.std.proofs.lemmas.List.Elements.{filter-append}
use Rattle.fx_rules.specs.declared.orders.Fill.{Fill}
use Rattle.fx_rules.specs.Lists.{total}
use Rattle.fx_rules.specs.Session.{Header, pair_count}
use Rattle.fx_rules.proofs.ListLemmas.{filter_cons_true, filter_cons_false}
use Rattle.day_report.specs.declared.rows.Volume.{Volume}
use Rattle.day_report.specs.Report.{base_of, quote_of, volume_of}
use Rattle.day_report.specs.inside.Trades.{fills_in, CanAdd}
use Rattle.day_report.specs.Trades.{with_fills}
use Rattle.day_report.specs.Sums.{AreVolumes}
use Rattle.day_report.proofs.Sums.{total_push}
use Rattle.day_report.proofs.Bounds.{count-fits, lots-fit, bases-fit, quotes-fit, last-trade}

-- a volume with a fill more
abbrev pub raised : Header → Volume → Fill → Volume
raised h v f = record { pair = v.pair; fills = v.fills + 1; lots = v.lots + f.lots; base = v.base + base_of h f; quote = v.quote + quote_of h f }

-- the volume that some fills of a pair make
abbrev pub volume_by : Header → ℕ → List Fill → Volume
volume_by h pair fills = record {
  pair = pair;
  fills = length fills;
  lots = total (λ f. f.lots) fills;
  base = total (base_of h) fills;
  quote = total (quote_of h) fills;
}

raised_by : (h : Header) (pair : ℕ) (fills : List Fill) (f : Fill) → volume_by h pair (fills ++ f ∷ []) ≡ raised h (volume_by h pair fills) f
raised_by h pair fills f =
    let Of : ℕ → ℕ → ℕ → ℕ → Volume = λ n lots base quote. record { pair = pair; fills = n; lots = lots; base = base; quote = quote } in
    ap (λ n. Of n (total (λ (g : Fill). g.lots) (fills ++ f ∷ [])) (total (base_of h) (fills ++ f ∷ [])) (total (quote_of h) (fills ++ f ∷ []))) (length_push fills f)
    ∙ ap (λ l. Of (length fills + 1) l (total (base_of h) (fills ++ f ∷ [])) (total (quote_of h) (fills ++ f ∷ []))) (total_push (λ (g : Fill). g.lots) fills f)
    ∙ ap (λ b. Of (length fills + 1) (total (λ (g : Fill). g.lots) fills + f.lots) b (total (quote_of h) (fills ++ f ∷ []))) (total_push (base_of h) fills f)
    ∙ ap (Of (length fills + 1) (total (λ (g : Fill). g.lots) fills + f.lots) (total (base_of h) fills + base_of h f)) (total_push (quote_of h) fills f)

volume-same : (h : Header) (fills : List Fill) (f : Fill) → volume_of h (with_fills h (fills ++ f ∷ [])) f.pair ≡ raised h (volume_of h (with_fills h fills) f.pair) f
volume-same h fills f =
    let test : eqb f.pair f.pair ≡ true = eq-eqb f.pair f.pair refl in
    ap (volume_by h f.pair) (filter-append (λ (g : Fill). eqb g.pair f.pair) fills (f ∷ [])
    ∙ ap (λ gs. fills_in f.pair fills ++ gs) (filter_cons_true (λ (g : Fill). eqb g.pair f.pair) f [] test))
    ∙ raised_by h f.pair (fills_in f.pair fills) f

volume-other : (h : Header) (fills : List Fill) (f : Fill) (pair : ℕ) → pair ≢ f.pair → volume_of h (with_fills h (fills ++ f ∷ [])) pair ≡ volume_of h (with_fills h fills) pair
volume-other h fills f pair differ =
    let test : eqb f.pair pair ≡ false = ne_eqb f.pair pair (λ same. differ (sym same)) in
    ap (volume_by h pair) (filter-append (λ (g : Fill). eqb g.pair pair) fills (f ∷ [])
    ∙ ap (λ gs. fills_in pair fills ++ gs) (filter_cons_false (λ (g : Fill). eqb g.pair pair) f [] test) ∙ append-nil (fills_in pair fills))

-- the volume that was read
pub read-volume : (h : Header) (fills : List Fill) (volumes : List Volume) (f : Fill) (at : ℕ) (before : Volume) → f.pair < pair_count h → AreVolumes h fills volumes → at ≡ f.pair → before ≡ get_or volumes at before → before ≡ volume_of h (with_fills h fills) f.pair
read-volume h fills volumes f at before within are is read =
    read ∙ ap (λ k. get_or volumes k before) is ∙ are.each f.pair before within

-- what the volume of a pair becomes fits
pub record Fits (h : Header) (f : Fill) (before : Volume) : Type 0 where
  pub fills : before.fills + 1 ≤ 4096000000000000000
  pub lots : before.lots + f.lots ≤ 4096000000000000000
  pub base : before.base + base_of h f ≤ 4096000000000000000 * 1000000000
  pub quote : before.quote + quote_of h f ≤ 4096000000000000000 * 1000000000000000000

subst_fits : (h : Header) (f : Fill) (before now : Volume) → now ≡ raised h before f → now.fills ≤ 4096000000000000000 → now.lots ≤ 4096000000000000000 → now.base ≤ 4096000000000000000 * 1000000000 → now.quote ≤ 4096000000000000000 * 1000000000000000000 → Fits h f before
subst_fits h f before now is fills lots base quote = record {
  fills = subst (λ (v : Volume). v.fills ≤ 4096000000000000000) is fills;
  lots = subst (λ (v : Volume). v.lots ≤ 4096000000000000000) is lots;
  base = subst (λ (v : Volume). v.base ≤ 4096000000000000000 * 1000000000) is base;
  quote = subst (λ (v : Volume). v.quote ≤ 4096000000000000000 * 1000000000000000000) is quote;
}

pub volume-fits : (h : Header) (volumes : List Volume) (f : Fill) (at : ℕ) (before : Volume) → CanAdd h (λ fills. AreVolumes h fills volumes) f → at ≡ f.pair → before ≡ get_or volumes at before → Fits h f before
volume-fits h volumes f at before can is read =
    let now : volume_of h (with_fills h (can.0 ++ f ∷ [])) f.pair ≡ raised h before f =
    volume-same h can.0 f ∙ ap (λ v. raised h v f) (sym (read-volume h can.0 volumes f at before (last-trade h can.0 f can.2.each).pair can.1 is read)) in
    subst_fits h f before (volume_of h (with_fills h (can.0 ++ f ∷ [])) f.pair) now
    (count-fits h f.pair (can.0 ++ f ∷ []) can.2) (lots-fit h f.pair (can.0 ++ f ∷ []) can.2)
    (bases-fit h f.pair (can.0 ++ f ∷ []) can.2) (quotes-fit h f.pair (can.0 ++ f ∷ []) can.2)

pub volumes-add : (h : Header) (fills : List Fill) (volumes : List Volume) (f : Fill) (at : ℕ) (before after : Volume) → f.pair < pair_count h → AreVolumes h fills volumes → at ≡ f.pair → before ≡ get_or volumes at before → after ≡ raised h before f
    → AreVolumes h (fills ++ f ∷ []) (set volumes at after)
volumes-add h fills volumes f at before after within are is read is_after =
    let made : after ≡ volume_of h (with_fills h (fills ++ f ∷ [])) f.pair =
    is_after ∙ ap (λ v. raised h v f) (read-volume h fills volumes f at before within are is read) ∙ sym (volume-same h fills f) in
    subst (λ k. AreVolumes h (fills ++ f ∷ []) (set volumes k after)) (sym is)
    (record {
      count = length-set volumes f.pair after ∙ are.count;
      each = λ pair d p. elim (cases_eq pair f.pair) [
        | inl same ↦ subst (λ k. get_or (set volumes f.pair after) k d ≡ volume_of h (with_fills h (fills ++ f ∷ [])) k) (sym same)
            (get_or-set_same volumes f.pair after d (omega (arith, are.count)) ∙ made)
        | inr differ ↦ get_or-set_other volumes f.pair pair after d differ ∙ are.each pair d p ∙ sym (volume-other h fills f pair differ)
      ];
    })

pub raised-from : (h : Header) (v : Volume) (f : Fill) (lots base quote : ℕ) → lots ≡ f.lots → base ≡ base_of h f → quote ≡ quote_of h f
    → (let after : Volume = record { pair = v.pair; fills = v.fills + 1; lots = v.lots + lots; base = v.base + base; quote = v.quote + quote } in after) ≡ raised h v f
raised-from h v f lots base quote p q r =
    let Of : ℕ → ℕ → ℕ → Volume = λ l b u. record { pair = v.pair; fills = v.fills + 1; lots = v.lots + l; base = v.base + b; quote = v.quote + u } in
    ap (λ l. Of l base quote) p ∙ ap (λ b. Of f.lots b quote) q ∙ ap (Of f.lots (base_of h f)) r
