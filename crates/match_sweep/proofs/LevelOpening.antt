-- The lines and first prices of the banks that a walk from price to price has passed.
use Rattle.std.proofs.Common.{ℕ, ◌≡◌, ◌≢◌, ◌/◌, ◌≤◌, ◌<◌, ◌^◌, ◌++◌, ◌∷◌, [], List, None, inl, inr, refl, ap, sym, subst, ◌∙◌, arith, length, slice_index}
use Rattle.std.proofs.lemmas.Bool.{cases_eq}
use Rattle.std.proofs.lemmas.List.Elements.{Contains-push_cases}
use Rattle.std.specs.List.{Contains}
use Rattle.fx_amounts.specs.declared.side.Side.{Side}
use Rattle.fx_rules.specs.declared.orders.Resting.{Resting}
use Rattle.fx_rules.specs.Lists.{Among}
use Rattle.fx_rules.proofs.ListLemmas.{Each-among, Each-of}
use Rattle.fx_rules.proofs.Planning.{div_none}
use Rattle.global_book.specs.Book.{AreOwners, Book, IsBook, IsPriceOf}
use Rattle.credit_lines.specs.Credit.{Credit, line_in}
use Rattle.match_sweep.specs.declared.reached.LevelWalk.{LevelWalk}
use Rattle.match_sweep.specs.inside.Reaches.{BeginsAt, HasFirst, HaveOpened, IsBareLevel, OpensLevel, price_at, price_in}
use Rattle.match_sweep.proofs.Reaching.{price_left}
use Rattle.match_sweep.proofs.Tables.{replicate-at, total-most}

-- no bank is passed
pub none-opened : (book : Book) (credit : Credit) (bank : ℕ) (walk : LevelWalk) → 1 ≤ walk.weight → IsBareLevel walk → HaveOpened book credit [] bank walk walk
none-opened book credit bank walk some bare =
    let none : (other : ℕ) → slice_index walk.lines other ≡ 0 = λ other. ap (λ (xs : List ℕ). slice_index xs other) bare.lines ∙ replicate-at {X = ℕ} 0 65 other in
    record {
      keeps = record { same = refl; long = refl };
      most = λ other. omega (arith, none other);
      few = λ other there _. absurd (omega (arith, there.1));
      lines = λ other there _. absurd (omega (arith, there.1));
      own = none bank;
      heads = λ other reach. absurd (omega (arith, reach, ap (λ n. n / walk.weight) (none other) ∙ div_none 0 walk.weight (omega (arith, some))));
    }

module _ (book : Book) (credit : Credit) (banks more : List ℕ) (bank n : ℕ) (old now : LevelWalk) (is : more ≡ banks ++ n ∷ []) (was : HaveOpened book credit banks bank old now) where
  before : (other : ℕ) → other ≢ n → Contains more other → Contains banks other
  before other differ there =
      elim (Contains-push_cases banks n other (subst (λ (xs : List ℕ). Contains xs other) is there)) [
        | inl earlier ↦ earlier
        | inr same ↦ absurd (differ (sym same))
      ]

  -- the bank's own is passed
  pub own-passed : n ≡ bank → HaveOpened book credit more bank old now
  own-passed own = record {
    keeps = was.keeps;
    most = was.most;
    few = λ other there differ. was.few other (before other (λ same. differ (same ∙ own)) there) differ;
    lines = λ other there differ. was.lines other (before other (λ same. differ (same ∙ own)) there) differ;
    own = was.own;
    heads = was.heads;
  }

  -- another is opened
  pub opened-level : (new : LevelWalk) (rank : ℕ) → n ≢ bank → n < 65 → IsPriceOf old.taker n None book.orders (price_at old.taker rank) → OpensLevel credit now new bank n rank → HaveOpened book credit more bank old new
  opened-level new rank differ below first it =
      let weight_same : now.weight ≡ old.weight = ap (λ (w : LevelWalk). w.weight) was.keeps.same in
      let taker_new : new.taker ≡ old.taker = ap (λ (w : LevelWalk). w.taker) it.keeps.same ∙ ap (λ (w : LevelWalk). w.taker) was.keeps.same in
      record {
        keeps = record {
          same = it.keeps.same ∙ ap (λ (w : LevelWalk). record w { lines = new.lines; ranks = new.ranks }) was.keeps.same;
          long = it.keeps.long ∙ was.keeps.long;
        };
        most = λ other. elim (cases_eq other n) [
          | inl same ↦ subst (λ (b : ℕ). slice_index new.lines b ≤ 10 ^ 15) (sym same) (omega (arith, it.line, it.most))
          | inr apart ↦ omega (arith, (it.others other apart).line, was.most other)
        ];
        few = λ other there apart_own. elim (cases_eq other n) [
          | inl same ↦ omega (arith, same, below)
          | inr apart ↦ was.few other (before other apart there) apart_own
        ];
        lines = λ other there apart_own. elim (cases_eq other n) [
          | inl same ↦ subst (λ (b : ℕ). slice_index new.lines b ≡ line_in credit bank b) (sym same) it.line
          | inr apart ↦ (it.others other apart).line ∙ was.lines other (before other apart there) apart_own
        ];
        own = (it.others bank (λ same. differ (sym same))).line ∙ was.own;
        heads = λ other. elim (cases_eq other n) [
          | inl same ↦ subst (HasFirst book old.weight old.taker new) (sym same) (λ reach.
              subst (IsPriceOf old.taker n None book.orders)
              (sym (ap (λ (s : Side). price_at s (slice_index new.ranks n)) taker_new
              ∙ ap (price_at old.taker) (it.has (subst (λ (w : ℕ). 1 ≤ slice_index new.lines n / w) (sym weight_same) reach))))
              first)
          | inr apart ↦ λ reach.
              subst (IsPriceOf old.taker other None book.orders) (sym (price_left now new other (ap (λ (w : LevelWalk). w.taker) it.keeps.same) (it.others other apart)))
              (was.heads other (subst (λ (line : ℕ). 1 ≤ line / old.weight) (it.others other apart).line reach))
        ];
      }

-- all banks that have an order are opened, and the bank is one below 65
pub opened-begins-at : (book : Book) (credit : Credit) (owners : List ℕ) (bank : ℕ) (old walk : LevelWalk) → IsBook book → AreOwners book owners → bank < 65 → IsBareLevel old → HaveOpened book credit owners bank old walk
    → BeginsAt book credit old.weight bank old.taker walk
opened-begins-at book credit owners bank old walk valid are below bare opened =
    let long : length walk.lines ≡ 65 = opened.keeps.long ∙ ap length bare.lines in
    let weight_same : walk.weight ≡ old.weight = ap (λ (w : LevelWalk). w.weight) opened.keeps.same in
    let taker_same : walk.taker ≡ old.taker = ap (λ (w : LevelWalk). w.taker) opened.keeps.same in
    let owned : (o : Resting) → Among o book.orders → Contains owners o.bank = λ o there. Each-among (λ (q : Resting). Contains owners q.bank) book.orders o are.all there in
    record {
      valid = valid;
      few = Each-of (λ (o : Resting). o.bank < 65) book.orders (λ o there. elim (cases_eq o.bank bank) [
        | inl same ↦ omega (arith, same, below)
        | inr differ ↦ opened.few o.bank (owned o there) differ
      ]);
      long = long;
      heads = λ other _ reach.
          subst (λ (s : Side). IsPriceOf s other None book.orders (price_in walk other)) (sym taker_same)
          (opened.heads other (subst (λ (w : ℕ). 1 ≤ slice_index walk.lines other / w) weight_same reach));
      is = opened.keeps.same;
      own = opened.own;
      line = Each-of (λ (o : Resting). o.bank ≢ bank → slice_index walk.lines o.bank ≡ line_in credit bank o.bank) book.orders (λ o there differ. opened.lines o.bank (owned o there) differ);
      most = omega (arith, total-most walk.lines (10 ^ 15) opened.most, long);
    }
