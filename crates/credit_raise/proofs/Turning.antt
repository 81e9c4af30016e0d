-- The turns of a pair's orders, one after the other, and what their fills leave of a book and of lines.
use Rattle.std.proofs.Common.{ℕ, ◌≡◌, ◌*◌, ◌≤◌, ◌<◌, Bool, true, not, ◌&&◌, eqb, leb, ltb, List, [], ◌∷◌, ◌++◌, Option, Some, None, find, inl, inr, refl, ap, sym, subst, ◌∙◌, arith, append_assoc, append-nil}
use Rattle.std.proofs.lemmas.Bool.{cases_Bool, cond_both, cond-true, cond-false, and_from, ne_eqb, lt-ltb, le-leb}
use Rattle.std.specs.List.{filter}
use Rattle.fx_rules.specs.declared.orders.Resting.{Resting}
use Rattle.fx_rules.specs.declared.orders.Fill.{Fill}
use Rattle.fx_rules.specs.Lists.{Among, Each}
use Rattle.fx_rules.specs.Session.{Header, weight_of}
use Rattle.fx_rules.specs.State.{State, orders_in}
use Rattle.fx_rules.specs.Sweep.{Taker, Swept, is_order, filled, filled_all, less}
use Rattle.fx_rules.specs.Raise.{Turned, order_of, taker_of_resting}
use Rattle.fx_rules.specs.Sound.{IsSound}
use Rattle.fx_rules.proofs.ListLemmas.{Each-among, Each-append, Each-weaker, filter_cons_true, filter_cons_false}
use Rattle.fx_rules.proofs.RaiseSound.{match_cases, turns-walk, turned-sound}
use Rattle.fx_rules.proofs.SweepSound.{filled_all-append}
use Rattle.fx_rules.proofs.ViewHidden.{match_none, match_some}
use Rattle.global_book.specs.Book.{Book, IsBook, IsHeld, first}
use Rattle.credit_lines.specs.Credit.{Credit, IsCredit, line_in, taken}
use Rattle.credit_lines.specs.Market.{StandsFor, IsPaid, ArePaid, taken_by, taken_by_all}
use Rattle.credit_lines.proofs.Paying.{turns_paid}
use Rattle.match_sweep.specs.Carries.{carried}
use Rattle.match_sweep.specs.Sweeps.{Fits, IsSweep}
use Rattle.match_sweep.proofs.Lowering.{found-among}
use Rattle.match_sweep.proofs.OfBook.{turns_carried}
use Rattle.credit_raise.specs.Turns.{TurnsEach}
use Rattle.credit_raise.specs.inside.Paying.{pays, paid_by, paid_all}

-- ---- one turn

-- the first of those that pass is what a search finds
pub find-first : {X : Type 0} (test : X → Bool) (xs : List X) → first (filter test xs) ≡ find test xs
find-first test [] = refl
find-first test (x ∷ xs) =
    elim (cases_Bool (test x)) [
      | inl is ↦ ap (λ ys. first ys) (filter_cons_true test x xs is) ∙ sym (cond-true (test x) (Some x) (find test xs) is)
      | inr is_not ↦ ap (λ ys. first ys) (filter_cons_false test x xs is_not) ∙ find-first test xs ∙ sym (cond-false (test x) (Some x) (find test xs) is_not)
    ]

-- what a book that fits finds is the market's order
order-found : (h : Header) (S : State) (book : Book) (credit : Credit) (weight bank number : ℕ) (found : Option Resting) → Fits h S book credit weight
    → found ≡ first (filter (is_order bank number) book.orders) → order_of S book.pair bank number ≡ found
order-found h S book credit weight bank number found fits is =
    sym (is ∙ find-first (is_order bank number) book.orders ∙ ap (find (is_order bank number)) fits.orders)

-- what a book finds is an order of one of its banks
pub found-within : (book : Book) (bank number : ℕ) (found : Option Resting) (now : Resting) → IsBook book → found ≡ first (filter (is_order bank number) book.orders) → found ≡ Some now → now.bank < book.banks
found-within book bank number found now valid is some =
    let there : Among now book.orders = (found-among bank number book.orders now (sym is ∙ some)).0 in
    (Each-among (IsHeld book.banks) book.orders now valid.held there).bank

-- what follows where an order still rests
abbrev Goes : Header → ℕ → State → List Resting → List Fill → Resting → Type 0
Goes h pair S orders fills now =
    (own more : List Fill) × (left : ℕ) × Swept h S (taker_of_resting pair now) own left
    × (fills ≡ own ++ more) × Turned h pair (filled_all S own) orders more

-- an order that no longer rests has no fills
pub turn-gone : (book : Book) (credit : Credit) (weight : ℕ) (order : Resting) (found : Option Resting) (fills : List Fill)
    → found ≡ first (filter (is_order order.bank order.number) book.orders) → found ≡ None → fills ≡ []
    → TurnsEach book credit weight (order ∷ []) fills
turn-gone book credit weight order found fills is none empty h S sound fits =
    match_none (order_of S book.pair order.bank order.number) (Turned h book.pair S [] fills) (Goes h book.pair S [] fills)
    (order-found h S book credit weight order.bank order.number found fits is ∙ none) empty

-- one that rests has those of its sweep
pub turn-here : (book : Book) (credit : Credit) (weight : ℕ) (order now : Resting) (taker : Taker) (found : Option Resting) (fills : List Fill) (left pair : ℕ)
    → found ≡ first (filter (is_order order.bank order.number) book.orders) → found ≡ Some now → pair ≡ book.pair → taker ≡ taker_of_resting pair now
    → IsSweep book credit weight taker fills left → TurnsEach book credit weight (order ∷ []) fills
turn-here book credit weight order now taker found fills left pair is some same taker_is sweep h S sound fits =
    match_some (order_of S book.pair order.bank order.number) now (Turned h book.pair S [] fills) (Goes h book.pair S [] fills)
    (order-found h S book credit weight order.bank order.number found fits is ∙ some)
    (fills, [], left, subst (λ t. Swept h S t fills left) (taker_is ∙ ap (λ p. taker_of_resting p now) same) (sweep h S sound fits), sym (append-nil fills), refl)

-- ---- turns behind turns

pub turned-append : (h : Header) (pair : ℕ) (S : State) (xs ys : List Resting) (own more : List Fill)
    → Turned h pair S xs own → Turned h pair (filled_all S own) ys more → Turned h pair S (xs ++ ys) (own ++ more)
turned-append h pair S [] ys own more none rest =
    subst (λ (fs : List Fill). Turned h pair S ys (fs ++ more)) (sym none) (subst (λ (fs : List Fill). Turned h pair (filled_all S fs) ys more) none rest)
turned-append h pair S (x ∷ xs) ys own more turned rest =
    elim (match_cases (order_of S pair x.bank x.number) (Turned h pair S xs own) (Goes h pair S xs own) turned) [
      | inl gone ↦
          match_none (order_of S pair x.bank x.number) (Turned h pair S (xs ++ ys) (own ++ more)) (Goes h pair S (xs ++ ys) (own ++ more)) gone.0
          (turned-append h pair S xs ys own more gone.1 rest)
      | inr here ↦
          let now : Resting = here.0 in
          let mine : List Fill = here.2.0 in
          let others : List Fill = here.2.1 in
          match_some (order_of S pair x.bank x.number) now (Turned h pair S (xs ++ ys) (own ++ more)) (Goes h pair S (xs ++ ys) (own ++ more)) here.1 (
            mine,
            others ++ more,
            here.2.2,
            here.2.3,
            ap (λ (fs : List Fill). fs ++ more) here.2.4 ∙ append_assoc mine others more,
            turned-append h pair (filled_all S mine) xs ys others more here.2.5
                (subst (λ (T : State). Turned h pair T ys more) (ap (filled_all S) here.2.4 ∙ filled_all-append S mine others) rest),
          )
    ]

-- ---- the pair of the fills

swept-pair : (h : Header) (S : State) (t : Taker) (fills : List Fill) (left : ℕ) → Swept h S t fills left → Each (λ (f : Fill). f.pair ≡ t.pair) fills
swept-pair h S t [] left swept = tt
swept-pair h S t (f ∷ fills) left swept = (ap (λ (g : Fill). g.pair) swept.3, swept-pair h (filled S f) (less t f.lots) fills left swept.4)

turned-pair : (h : Header) (pair : ℕ) (S : State) (orders : List Resting) (fills : List Fill) → 0 < weight_of h pair → IsSound h S → Turned h pair S orders fills → Each (λ (f : Fill). f.pair ≡ pair) fills
turned-pair h pair =
    turns-walk h pair (λ S fills. Each (λ (f : Fill). f.pair ≡ pair) fills) (λ S sound. tt)
    (λ S own more first rest. Each-append (λ (f : Fill). f.pair ≡ pair) own more first rest)
    (λ S bank number now fills left sound turn some swept. swept-pair h S (taker_of_resting pair now) fills left swept)

-- ---- what is taken of the lines

pays-of : (h : Header) (weight : ℕ) (credit : Credit) (f : Fill) → weight_of h f.pair ≡ weight → IsPaid h credit f → pays weight credit f ≡ true
pays-of h weight credit f weighs paid =
    let differ : not (eqb f.taker f.maker) ≡ true = ap not (ne_eqb f.taker f.maker paid.differ) in
    let enough : f.lots * weight ≤ line_in credit f.taker f.maker = subst (λ w. f.lots * w ≤ line_in credit f.taker f.maker) weighs paid.pays in
    and_from (ltb f.taker credit.banks && ltb f.maker credit.banks && not (eqb f.taker f.maker)) (leb (f.lots * weight) (line_in credit f.taker f.maker))
    (and_from (ltb f.taker credit.banks && ltb f.maker credit.banks) (not (eqb f.taker f.maker))
    (and_from (ltb f.taker credit.banks) (ltb f.maker credit.banks) (lt-ltb f.taker credit.banks paid.taker) (lt-ltb f.maker credit.banks paid.maker)) differ)
    (le-leb (f.lots * weight) (line_in credit f.taker f.maker) enough)

-- a fill that its line pays for is paid for
paid-taken : (h : Header) (weight : ℕ) (credit : Credit) (f : Fill) → weight_of h f.pair ≡ weight → IsPaid h credit f → paid_by weight credit f ≡ taken_by h credit f
paid-taken h weight credit f weighs paid =
    cond-true (pays weight credit f) (taken credit f.taker f.maker (f.lots * weight)) credit (pays-of h weight credit f weighs paid)
    ∙ ap (λ w. taken credit f.taker f.maker (f.lots * w)) (sym weighs)

paid_all-taken : (h : Header) (weight : ℕ) (credit : Credit) (fills : List Fill) → Each (λ (f : Fill). weight_of h f.pair ≡ weight) fills → ArePaid h credit fills → paid_all weight credit fills ≡ taken_by_all h credit fills
paid_all-taken h weight credit [] weigh paid = refl
paid_all-taken h weight credit (f ∷ fills) weigh paid =
    ap (λ (c : Credit). paid_all weight c fills) (paid-taken h weight credit f weigh.0 paid.0)
    ∙ paid_all-taken h weight (taken_by h credit f) fills weigh.1 paid.1

-- ---- a book and lines that follow turns

pub fits-turned : (h : Header) (S : State) (book next : Book) (credit left : Credit) (weight : ℕ) (orders : List Resting) (fills : List Fill)
    → IsCredit credit → 1 ≤ weight → next.pair ≡ book.pair → next.orders ≡ carried book.orders fills → left ≡ paid_all weight credit fills
    → IsSound h S → Fits h S book credit weight → Turned h book.pair S orders fills
    → IsSound h (filled_all S fills) × Fits h (filled_all S fills) next left weight
fits-turned h S book next credit left weight orders fills valid some pair_is orders_are left_is sound fits turned =
    let heavy : 0 < weight_of h book.pair = omega (arith, some, fits.weighs) in
    let paid = turns_paid h book.pair S credit orders fills sound valid fits.lines heavy turned in
    let weigh : Each (λ (f : Fill). weight_of h f.pair ≡ weight) fills =
    Each-weaker (λ (f : Fill). f.pair ≡ book.pair) (λ (f : Fill). weight_of h f.pair ≡ weight) (λ f is. ap (weight_of h) is ∙ sym fits.weighs) fills
    (turned-pair h book.pair S orders fills heavy sound turned) in (
      turned-sound h book.pair S orders fills heavy sound turned,
      record {
        orders = orders_are ∙ ap (λ (os : List Resting). carried os fills) fits.orders ∙ (turns_carried h book.pair S orders fills sound heavy turned).1
            ∙ ap (λ p. orders_in p (filled_all S fills).orders) (sym pair_is);
        lines = subst (λ (c : Credit). StandsFor h (filled_all S fills) c) (sym (left_is ∙ paid_all-taken h weight credit fills weigh paid.0)) paid.1;
        weighs = fits.weighs ∙ ap (weight_of h) (sym pair_is);
      },
    )

pub paid_by-banks : (weight : ℕ) (credit : Credit) (f : Fill) → (paid_by weight credit f).banks ≡ credit.banks
paid_by-banks weight credit f =
    cond_both (pays weight credit f) (taken credit f.taker f.maker (f.lots * weight)) credit (λ (c : Credit). c.banks ≡ credit.banks) (λ _. refl) (λ _. refl)

pub paid_all-push : (weight : ℕ) (credit : Credit) (fills : List Fill) (f : Fill) → paid_all weight credit (fills ++ f ∷ []) ≡ paid_by weight (paid_all weight credit fills) f
paid_all-push weight credit [] f = refl
paid_all-push weight credit (x ∷ fills) f = paid_all-push weight (paid_by weight credit x) fills f

pub paid_all-banks : (weight : ℕ) (credit : Credit) (fills : List Fill) → (paid_all weight credit fills).banks ≡ credit.banks
paid_all-banks weight credit [] = refl
paid_all-banks weight credit (f ∷ fills) =
    paid_all-banks weight (paid_by weight credit f) fills ∙ paid_by-banks weight credit f

-- ---- turn by turn

-- Some orders had their turns: in each state that the book and the lines were of these are their fills, and the book and the lines
-- are now of the state with the fills made.
pub record Leads (book : Book) (credit : Credit) (weight : ℕ) (orders : List Resting) (fills : List Fill) (next : Book) (left : Credit) : Type 0 where
  pub turned : TurnsEach book credit weight orders fills
  pub fits : (h : Header) (S : State) → IsSound h S → Fits h S book credit weight → IsSound h (filled_all S fills) × Fits h (filled_all S fills) next left weight

pub leads-none : (book : Book) (credit : Credit) (weight : ℕ) (fills : List Fill) → fills ≡ [] → Leads book credit weight [] fills book credit
leads-none book credit weight fills none = record {
  turned = λ h S sound fits. none;
  fits = λ h S sound fits. subst (λ (fs : List Fill). IsSound h (filled_all S fs) × Fits h (filled_all S fs) book credit weight) (sym none) (sound, fits);
}

pub leads-more : (book now next : Book) (credit have left : Credit) (weight : ℕ) (orders : List Resting) (order : Resting) (fills own all : List Fill)
    → 1 ≤ weight → Leads book credit weight orders fills now have → now.pair ≡ book.pair → IsCredit have
    → TurnsEach now have weight (order ∷ []) own → next.pair ≡ now.pair → next.orders ≡ carried now.orders own → left ≡ paid_all weight have own → all ≡ fills ++ own
    → Leads book credit weight (orders ++ order ∷ []) all next left
leads-more book now next credit have left weight orders order fills own all some leads pair_is valid turns next_pair next_orders left_is all_is = record {
  turned = λ h S sound fits.
      let there = leads.fits h S sound fits in
      subst (Turned h book.pair S (orders ++ order ∷ [])) (sym all_is)
      (turned-append h book.pair S orders (order ∷ []) fills own (leads.turned h S sound fits)
      (subst (λ p. Turned h p (filled_all S fills) (order ∷ []) own) pair_is (turns h (filled_all S fills) there.0 there.1)));
  fits = λ h S sound fits.
      let there = leads.fits h S sound fits in
      subst (λ (T : State). IsSound h T × Fits h T next left weight) (sym (filled_all-append S fills own) ∙ ap (filled_all S) (sym all_is))
      (fits-turned h (filled_all S fills) now next have left weight (order ∷ []) own valid some next_pair next_orders left_is there.0 there.1
      (turns h (filled_all S fills) there.0 there.1));
}
