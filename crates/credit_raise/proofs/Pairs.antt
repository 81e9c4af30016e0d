-- A credit change from its first pair to its last.
use Rattle.std.proofs.Common.{ℕ, zero, suc, ◌≡◌, ◌≢◌, ◌+◌, ◌≤◌, ◌<◌, min, max, List, [], ◌∷◌, ◌++◌, length, slice_get, Some, None, refl, ap, sym, subst, ◌∙◌, arith, append_assoc, append-nil}
use Rattle.fx_rules.specs.declared.orders.Fill.{Fill}
use Rattle.fx_rules.specs.declared.orders.Plan.{Plan}
use Rattle.fx_rules.specs.declared.orders.Resting.{Resting}
use Rattle.fx_rules.specs.declared.command.Command.{Command}
use Rattle.fx_rules.specs.declared.command.Command.TheVariants.{Line, Total, Settle}
use Rattle.fx_rules.specs.declared.outcome.Entry.{Entry}
use Rattle.fx_rules.specs.Session.{Header, bank_count, pair_count, weight_of}
use Rattle.fx_rules.specs.State.{State, orders_in, line}
use Rattle.fx_rules.specs.Sweep.{filled_all}
use Rattle.fx_rules.specs.Raise as raise
use Rattle.fx_rules.specs.Raise.{limit_set, total_set, given_back, Turned, PairsTurned}
use Rattle.fx_rules.specs.Step.{IsCommand, IsOutcome, credit_changed}
use Rattle.fx_rules.specs.History.{IsLegal, state}
use Rattle.fx_rules.specs.Sound.{IsSound}
use Rattle.fx_rules.proofs.RaiseSound.{totalled-sound, settled-sound}
use Rattle.fx_rules.proofs.Soundness.{legal-sound}
use Rattle.fx_rules.proofs.Staying.{turned-stays}
use Rattle.fx_rules.proofs.SweepSound.{filled_all-append}
use Rattle.global_book.specs.Book.{Book}
use Rattle.credit_lines.specs.Credit.{Credit, IsCredit, limited, line_in, spent_in, used_in}
use Rattle.credit_lines.specs.Market.{StandsFor}
use Rattle.credit_lines.proofs.MarketLemmas.{line_in-line, spent_in-spent, StandsFor-limited, StandsFor-totalled, StandsFor-settled}
use Rattle.match_sweep.specs.Carries.{carried}
use Rattle.credit_raise.specs.declared.course.Course.{Course}
use Rattle.credit_raise.specs.declared.course.Course.TheVariants as courses
use Rattle.credit_raise.specs.Two.{IsRaised}
use Rattle.credit_raise.specs.inside.Paying.{paid_all}
use Rattle.credit_raise.specs.UnderWay.{Change, IsAmong, IsChange, IsReady, IsSetBy, answer_of, fills_of_all, outcome_of, opened, begun, reached, set_of, IsPairOf, Makes, EachMakes, IsUnderWay}
use Rattle.credit_raise.specs.inside.UnderWay.{AreParties, HasCredit, course_behind, with_plan}
use Rattle.credit_raise.proofs.Going.{raised-first, raised-next}
use Rattle.credit_raise.proofs.Turning.{fits-turned, paid_all-banks}

-- ---- one plan more

push_fills : (plans : List Plan) (plan : Plan) → fills_of_all (plans ++ plan ∷ []) ≡ fills_of_all plans ++ plan.fills
push_fills [] plan = append-nil plan.fills
push_fills (p ∷ plans) plan =
    ap (λ (fs : List Fill). p.fills ++ fs) (push_fills plans plan) ∙ sym (append_assoc p.fills (fills_of_all plans) plan.fills)

push_count : (plans : List Plan) (plan : Plan) → length (plans ++ plan ∷ []) ≡ length plans + 1
push_count [] plan = refl
push_count (p ∷ plans) plan = omega (arith, push_count plans plan)

-- what is set stays
set_behind : (weight : ℕ) (fills : List Fill) (course : Course) → set_of (course_behind weight fills course) ≡ set_of course
set_behind weight fills (courses.Raised other limit line) = refl
set_behind weight fills (courses.Swept lines set) = refl

begun_push : (change : Change) (plan : Plan) (weight : ℕ) (S : State) → begun (with_plan change plan weight) S ≡ begun change S
begun_push change plan weight S =
    ap (λ set. credit_changed S change.sender change.command (answer_of change.command set [])) (set_behind weight plan.fills change.course)

reached_push : (change : Change) (plan : Plan) (weight : ℕ) (S : State) → reached (with_plan change plan weight) S ≡ filled_all (reached change S) plan.fills
reached_push change plan weight S =
    ap (λ (T : State). filled_all T (fills_of_all (change.plans ++ plan ∷ []))) (begun_push change plan weight S)
    ∙ ap (filled_all (begun change S)) (push_fills change.plans plan) ∙ filled_all-append (begun change S) (fills_of_all change.plans) plan.fills

-- plans make as much where their pairs stay as they are
makes_later : (S T U : State) (pair : ℕ) (plans : List Plan) → ((p : ℕ) → p < pair + length plans → orders_in p U.orders ≡ orders_in p T.orders) → EachMakes S T pair plans → EachMakes S U pair plans
makes_later S T U pair [] same all = tt
makes_later S T U pair (plan ∷ plans) same all = (
  record {
    turn = all.0.turn;
    rising = all.0.rising;
    orders = all.0.orders;
    leaves = all.0.leaves ∙ sym (same pair (omega arith));
  },
  makes_later S T U (pair + 1) plans (λ p below. same p (omega (arith, below))) all.1,
)

makes_push : (S T : State) (pair : ℕ) (plans : List Plan) (plan : Plan) → EachMakes S T pair plans → Makes S T (pair + length plans) plan.fills → EachMakes S T pair (plans ++ plan ∷ [])
makes_push S T pair [] plan all last =
    let same : pair + 0 ≡ pair = omega arith in (subst (λ n. Makes S T n plan.fills) same last, tt)
makes_push S T pair (p ∷ plans) plan all last =
    let same : pair + length (p ∷ plans) ≡ pair + 1 + length plans = omega arith in
    (all.0, makes_push S T (pair + 1) plans plan all.1 (subst (λ n. Makes S T n plan.fills) same last))

none_some : (plan : Plan) → None ≡ Some plan → ⊥
none_some plan is = cc

makes_at : (S T : State) (pair : ℕ) (plans : List Plan) (k : ℕ) (plan : Plan) → slice_get plans k ≡ Some plan → EachMakes S T pair plans → Makes S T (pair + k) plan.fills
makes_at S T pair [] zero plan is all = absurd (none_some plan is)
makes_at S T pair [] (suc k) plan is all = absurd (none_some plan is)
makes_at S T pair (p ∷ plans) zero plan is all =
    let it : p ≡ plan = cc in
    let same : pair ≡ pair + zero = omega arith in
    subst (λ n. Makes S T n plan.fills) same (subst (λ (q : Plan). Makes S T pair q.fills) it all.0)
makes_at S T pair (p ∷ plans) (suc k) plan is all =
    let same : pair + 1 + k ≡ pair + suc k = omega arith in
    subst (λ n. Makes S T n plan.fills) same (makes_at S T (pair + 1) plans k plan is all.1)

pub plan_makes : (S T : State) (plans : List Plan) (k : ℕ) (plan : Plan) → slice_get plans k ≡ Some plan → EachMakes S T 0 plans → Makes S T k plan.fills
plan_makes S T plans k plan is all =
    let same : 0 + k ≡ k = omega arith in subst (λ n. Makes S T n plan.fills) same (makes_at S T 0 plans k plan is all)

-- ---- the next pair

behind : (pair other n : ℕ) → pair ≡ n → n + 1 ≤ other → pair ≢ other
behind pair other n at past same = absurd (omega arith)

before : (pair p n : ℕ) → pair ≡ n → p < 0 + n → pair ≢ p
before pair p n at below same = absurd (omega arith)

-- where a pair's turn can come the state is sound, and the book has the pair's orders
ready-sound : (h : Header) (S : State) (book : Book) (weight sender : ℕ) (course : Course) → IsReady h S book weight sender course → IsSound h S × (orders_in book.pair S.orders ≡ book.orders)
ready-sound h S book weight sender (courses.Raised other limit line) ready = (ready.sound, ready.orders)
ready-sound h S book weight sender (courses.Swept lines set) ready = (ready.0, sym ready.1.orders)

-- A pair whose turn can come can have it once another pair had its turn.
ready-next : (h : Header) (S : State) (book next : Book) (weight next_weight sender : ℕ) (course : Course) (fills : List Fill) → HasCredit course → IsAmong (bank_count h) sender course
    → book.pair ≢ next.pair → 1 ≤ weight → 1 ≤ next_weight → IsReady h S book weight sender course → Turned h book.pair S book.orders fills → AreParties book.pair sender course fills
    → IsReady h S next next_weight sender course → IsReady h (filled_all S fills) next next_weight sender (course_behind weight fills course)
ready-next h S book next weight next_weight sender (courses.Raised other limit line) fills valid among differ some next_some ready turned parties there =
    raised-next h S book next weight next_weight sender other line fills among.0 among.1 among.2 differ some next_some ready turned parties there.orders there.weight_is there.apart
ready-next h S book next weight next_weight sender (courses.Swept lines set) fills valid among differ some next_some ready turned parties there =
    let heavy : 0 < weight_of h book.pair = omega (arith, some, ready.1.weighs) in
    let led = fits-turned h S book (record book { orders = carried book.orders fills }) lines (paid_all weight lines fills) weight book.orders fills valid some refl refl refl ready.0 ready.1 turned in (
      led.0,
      record {
        orders = there.1.orders ∙ sym (turned-stays h book.pair S book.orders fills next.pair differ heavy ready.0 turned);
        lines = led.1.lines;
        weighs = there.1.weighs;
      },
    )

-- the banks of a course are the same
among_behind : (banks sender weight : ℕ) (fills : List Fill) (course : Course) → IsAmong banks sender course → IsAmong banks sender (course_behind weight fills course)
among_behind banks sender weight fills (courses.Raised other limit line) among = among
among_behind banks sender weight fills (courses.Swept lines set) among = paid_all-banks weight lines fills ∙ among

pub goes_on : (h : Header) (S : State) (change : Change) (book : Book) (weight : ℕ) (plan : Plan) → HasCredit change.course → 1 ≤ weight → book.pair ≡ length change.plans
    → ((T : State) → IsReady h T book weight change.sender change.course → Turned h book.pair T book.orders plan.fills) → AreParties book.pair change.sender change.course plan.fills
    → IsUnderWay h S change → IsPairOf h S book weight → IsUnderWay h S (with_plan change plan weight)
goes_on h S change book weight plan valid some at plans parties under of =
    let T : State = reached change S in
    let U : State = filled_all T plan.fills in
    let next : Change = with_plan change plan weight in
    let here : IsReady h T book weight change.sender change.course = under.waits book weight (omega (arith, at)) some of in
    let right = ready-sound h T book weight change.sender change.course here in
    let sound : IsSound h T = right.0 in
    let turned : Turned h book.pair T book.orders plan.fills = plans T here in
    let heavy : 0 < weight_of h book.pair = omega (arith, some, of.weighs) in
    let is_next : reached next S ≡ U = reached_push change plan weight S in
    let more : length next.plans ≡ length change.plans + 1 = push_count change.plans plan in
    let last : Makes S U book.pair plan.fills = record { turn = T; rising = sound.rising; orders = right.1 ∙ of.orders; leaves = refl } in
    let place : book.pair ≡ 0 + length change.plans = omega (arith, at) in
    let those : EachMakes S U 0 change.plans = makes_later S T U 0 change.plans
    (λ p below. turned-stays h book.pair T book.orders plan.fills p (before book.pair p (length change.plans) at below) heavy sound turned) under.makes in
    record {
      set = subst (IsSetBy h S change.sender change.command) (sym (set_behind weight plan.fills change.course)) under.set;
      banks = among_behind (bank_count h) change.sender weight plan.fills change.course under.banks;
      waits = λ other other_weight past other_some other_of.
          let late : length change.plans + 1 ≤ other.pair = omega (arith, past, more) in
          let there : IsReady h T other other_weight change.sender change.course = under.waits other other_weight (omega (arith, late)) other_some other_of in
          subst (λ (V : State). IsReady h V other other_weight change.sender next.course) (sym is_next)
          (ready-next h T book other weight other_weight change.sender change.course plan.fills valid under.banks (behind book.pair other.pair (length change.plans) at late) some other_some
          here turned parties there);
      goes_on = λ pairs fills rest.
          let rest' : PairsTurned h pairs (length change.plans + 1) U fills =
          subst (λ (V : State). PairsTurned h pairs (length change.plans + 1) V fills) is_next (subst (λ n. PairsTurned h pairs n (reached next S) fills) more rest) in
          let turned' : Turned h (length change.plans) T (orders_in (length change.plans) T.orders) plan.fills =
          subst (λ p. Turned h p T (orders_in p T.orders) plan.fills) at (subst (λ (os : List Resting). Turned h book.pair T os plan.fills) (sym right.1) turned) in
          let all : PairsTurned h (length change.plans + suc pairs) 0 (begun change S) (fills_of_all change.plans ++ (plan.fills ++ fills)) =
          under.goes_on (suc pairs) (plan.fills ++ fills) (plan.fills, fills, turned', refl, rest') in
          let count : length change.plans + suc pairs ≡ length next.plans + pairs = omega (arith, more) in
          let list : fills_of_all change.plans ++ (plan.fills ++ fills) ≡ fills_of_all next.plans ++ fills =
          sym (append_assoc (fills_of_all change.plans) plan.fills fills) ∙ ap (λ (fs : List Fill). fs ++ fills) (sym (push_fills change.plans plan)) in
          subst (λ (V : State). PairsTurned h (length next.plans + pairs) 0 V (fills_of_all next.plans ++ fills)) (sym (begun_push change plan weight S))
          (subst (PairsTurned h (length next.plans + pairs) 0 (begun change S)) list
          (subst (λ n. PairsTurned h n 0 (begun change S) (fills_of_all change.plans ++ (plan.fills ++ fills))) count all));
      makes = subst (λ (V : State). EachMakes S V 0 next.plans) (sym is_next)
          (makes_push S U 0 change.plans plan those (subst (λ n. Makes S U n plan.fills) place last));
    }

-- ---- the end

-- what is set as the market sets it, with all fills, is the market's answer
answer-is : (h : Header) (S : State) (sender : ℕ) (command : Command) (set : ℕ) (fills : List Fill) → IsSetBy h S sender command set
    → raise.Raised h (credit_changed S sender command (answer_of command set [])) fills → IsOutcome h S sender command (answer_of command set fills)
answer-is h S sender (Line other asked) set fills is raised = (is, raised)
answer-is h S sender (Total asked) set fills is raised = (is, raised)
answer-is h S sender (Settle a b asked) set fills is raised = (is, raised)
answer-is h S sender command set fills is raised = absurd is

pub answered : (h : Header) (S : State) (change : Change) → IsUnderWay h S change → length change.plans ≡ pair_count h → IsOutcome h S change.sender change.command (outcome_of change)
answered h S change under all =
    let turned : PairsTurned h (length change.plans + zero) 0 (begun change S) (fills_of_all change.plans ++ []) = under.goes_on zero [] refl in
    let count : length change.plans + zero ≡ pair_count h = omega (arith, all) in
    answer-is h S change.sender change.command (set_of change.course) (fills_of_all change.plans) under.set
    (subst (PairsTurned h (pair_count h) 0 (begun change S)) (append-nil (fills_of_all change.plans))
    (subst (λ n. PairsTurned h n 0 (begun change S) (fills_of_all change.plans ++ [])) count turned))

-- ---- the start

-- before the first turn whatever all turns make is what they make
starts : (h : Header) (S : State) (pairs : ℕ) (fills : List Fill) → PairsTurned h pairs 0 S fills → PairsTurned h (0 + pairs) 0 S fills
starts h S pairs fills rest = let count : pairs ≡ 0 + pairs = omega arith in subst (λ n. PairsTurned h n 0 S fills) count rest

begins_line : (h : Header) (entries : List Entry) (credit : Credit) (sender other asked : ℕ) → IsLegal h entries → IsCredit credit → StandsFor h (state h entries) credit
    → IsChange credit.banks sender (Line other asked) → IsCommand h sender (Line other asked) → IsUnderWay h (state h entries) (opened credit sender (Line other asked))
begins_line h entries credit sender other asked legal valid stands its may =
    let S : State = state h entries in
    let limit : ℕ = max asked (used_in credit sender other) in
    let line_now : ℕ = line_in (limited credit sender other limit) sender other in
    let sender_in : sender < bank_count h = omega (arith, its.0, stands.banks) in
    let other_in : other < bank_count h = omega (arith, its.1, stands.banks) in
    let limit_is : limit ≡ limit_set h S sender other asked = ap (max asked) (stands.uses sender other sender_in other_in its.2) in
    let stands_now : StandsFor h (raise.limited sender other limit S) (limited credit sender other limit) = StandsFor-limited h S credit sender other limit valid stands sender_in other_in in
    let line_is : line h (raise.limited sender other limit S) sender other ≡ line_now =
    sym (line_in-line h (raise.limited sender other limit S) (limited credit sender other limit) sender other stands_now sender_in other_in its.2) in
    record {
      set = limit_is;
      banks = (sender_in, other_in, its.2);
      waits = λ book weight past some of.
          subst (λ n. IsRaised h (raise.limited sender other n S) book weight sender other line_now) (sym limit_is)
          (raised-first h entries book weight sender other asked line_now legal sender_in other_in (λ same. its.2 (sym same)) may.values.2 (sym of.orders) (sym of.weighs)
          (ap (λ n. line h (raise.limited sender other n S) sender other) (sym limit_is) ∙ line_is));
      goes_on = λ pairs fills rest. starts h (raise.limited sender other limit S) pairs fills rest;
      makes = tt;
    }

begins_total : (h : Header) (entries : List Entry) (credit : Credit) (sender asked : ℕ) → IsLegal h entries → IsCredit credit → StandsFor h (state h entries) credit
    → IsChange credit.banks sender (Total asked) → IsCommand h sender (Total asked) → IsUnderWay h (state h entries) (opened credit sender (Total asked))
begins_total h entries credit sender asked legal valid stands its may =
    let S : State = state h entries in
    let most : ℕ = max asked (spent_in credit sender) in
    let sender_in : sender < bank_count h = omega (arith, its, stands.banks) in
    let most_is : most ≡ total_set h S sender asked = ap (max asked) (spent_in-spent h S credit sender stands sender_in) in
    let sound : IsSound h (raise.totalled sender most S) = totalled-sound h S sender asked most legal.session (legal-sound h entries legal) may.sends.0 sender_in may.values most_is in
    record {
      set = most_is;
      banks = stands.banks;
      waits = λ book weight past some of. (
        sound,
        record { orders = of.orders; lines = StandsFor-totalled h S credit sender most valid stands sender_in; weighs = of.weighs },
      );
      goes_on = λ pairs fills rest. starts h (raise.totalled sender most S) pairs fills rest;
      makes = tt;
    }

begins_settle : (h : Header) (entries : List Entry) (credit : Credit) (sender a b asked : ℕ) → IsLegal h entries → IsCredit credit → StandsFor h (state h entries) credit
    → IsChange credit.banks sender (Settle a b asked) → IsCommand h sender (Settle a b asked) → IsUnderWay h (state h entries) (opened credit sender (Settle a b asked))
begins_settle h entries credit sender a b asked legal valid stands its may =
    let S : State = state h entries in
    let given : ℕ = min asked (used_in credit a b) in
    let a_in : a < bank_count h = omega (arith, its.0, stands.banks) in
    let b_in : b < bank_count h = omega (arith, its.1, stands.banks) in
    let given_is : given ≡ given_back h S a b asked = ap (min asked) (stands.uses a b a_in b_in its.2) in
    let sound : IsSound h (raise.settled a b given S) = settled-sound h S a b asked given (legal-sound h entries legal) may.sends.0 given_is in
    record {
      set = given_is;
      banks = stands.banks;
      waits = λ book weight past some of. (
        sound,
        record { orders = of.orders; lines = StandsFor-settled h S credit a b given valid.uses_full stands a_in b_in; weighs = of.weighs },
      );
      goes_on = λ pairs fills rest. starts h (raise.settled a b given S) pairs fills rest;
      makes = tt;
    }

pub begins : (h : Header) (entries : List Entry) (credit : Credit) (sender : ℕ) (command : Command) → IsLegal h entries → IsCredit credit → StandsFor h (state h entries) credit
    → IsChange credit.banks sender command → IsCommand h sender command → IsUnderWay h (state h entries) (opened credit sender command)
begins h entries credit sender (Line other asked) = begins_line h entries credit sender other asked
begins h entries credit sender (Total asked) = begins_total h entries credit sender asked
begins h entries credit sender (Settle a b asked) = begins_settle h entries credit sender a b asked
begins h entries credit sender command = λ legal valid stands its may. absurd its
