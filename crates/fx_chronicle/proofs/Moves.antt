-- Each step keeps the rule.
use Rattle.std.proofs.Common.{◌≡◌, ◌≢◌, ◌⊎◌, ℕ, zero, suc, ◌+◌, ◌<◌, ◌==◌, if◌then◌else◌, List, [], ◌∷◌, ◌++◌, length, set, Bool, true, false, true≢false, refl, sym, ap, ◌∙◌, subst, ⊎_elim, inl, inr, arith, length-append, eq-eqb, ne_eqb}
use Rattle.std.specs.Prelude.{slice_index, slice_set}
use mathlib.Core.Option.{some, none, some-ne-none, some-injective}
use mathlib.Core.List.{IsPrefix}
use lib.ListN.{get_elem?, length-set}
use prog.Atomic.{either}
use Rattle.atomic_table.specs.Table.{keeps, Me, step, Allows, Splits, Joins, opening}
use Rattle.atomic_table.proofs.Lists.{at_set, set_else}
use Rattle.fx_chronicle.specs.declared.rule.View.{View}
use Rattle.fx_chronicle.specs.Touching.{Untouched, touched, pends, without}
use Rattle.fx_chronicle.specs.Faces.{longer}
use Rattle.fx_chronicle.specs.Views.{writer, front, holder, learner, slip, nobody, IsWriter, IsFront, IsSlip, dealt, next_front, taken_in, met_all, let_go, front_again, slip_of, told}
use Rattle.fx_chronicle.specs.Rule.{Settled, Fits, Kept, Commits, Meets, Learns}
use Rattle.fx_chronicle.proofs.Prefixes.{prefix_self, prefix_push, longer_begins}
use Rattle.fx_chronicle.proofs.Pending.{pends-without_same, pends-without, pends-touched, untouched_all, untouched_push, but_last-push}

off : false ≡ true → ⊥
off e = true≢false (sym e)

-- the key is at this seat now, the others where they were
abbrev placed : (ℕ → ℕ) → ℕ → ℕ → ℕ → ℕ
placed place key id k = if k == key then id else place k

placed_here : (place : ℕ → ℕ) (key id : ℕ) → placed place key id key ≡ id
placed_here place key id = ap (λ b. if b then id else place key) (eq-eqb key key refl)

placed_else : (place : ℕ → ℕ) (key id k : ℕ) → k ≢ key → placed place key id k ≡ place k
placed_else place key id k apart = ap (λ b. if b then id else place k) (ne_eqb k key apart)

module _ {X : Type 0} (F : ℕ → X → Type 0) where
  -- a fact of every view stays one when one view changes
  set_all : (views : List X) (id : ℕ) (w : X) → ((j : ℕ) (u : X) → j ≢ id → get_elem? views j ≡ some u → F j u) → F id w
      → (j : ℕ) (u : X) → get_elem? (set views id w) j ≡ some u → F j u
  set_all views id w others mine j u e =
      ⊎_elim
      (λ (x : (j ≡ id) × (w ≡ u)). subst (λ (y : ℕ × X). F y.0 y.1) (λ i. (sym x.0 i, x.1 i)) mine)
      (λ (x : (j ≢ id) × (get_elem? views j ≡ some u)). others j u x.0 x.1)
      (at_set views id j w u e)

  at_end : (views : List X) (new : X) (j : ℕ) (u : X) → get_elem? (views ++ new ∷ []) j ≡ some u → ((j < length views) × (get_elem? views j ≡ some u)) ⊎ ((j ≡ length views) × (new ≡ u))
  at_end [] new zero u e = inr (refl, some-injective new u e)
  at_end [] new (suc j) u e = absurd (some-ne-none u (sym e))
  at_end (v ∷ views) new zero u e = inl (omega arith, e)
  at_end (v ∷ views) new (suc j) u e =
      ⊎_elim
      (λ (x : (j < length views) × (get_elem? views j ≡ some u)). inl (omega arith, x.1))
      (λ (x : (j ≡ length views) × (new ≡ u)). inr (ap suc x.0, x.1))
      (at_end views new j u e)

  -- and when a view is added too
  split_all : (views : List X) (id : ℕ) (left right : X) → ((j : ℕ) (u : X) → j ≢ id → j < length views → get_elem? views j ≡ some u → F j u) → F id left → F (length views) right
      → (j : ℕ) (u : X) → get_elem? (set views id left ++ right ∷ []) j ≡ some u → F j u
  split_all views id left right others mine new j u e =
      ⊎_elim
      (λ (x : (j < length (set views id left)) × (get_elem? (set views id left) j ≡ some u)).
      ⊎_elim
      (λ (y : (j ≡ id) × (left ≡ u)). subst (λ (z : ℕ × X). F z.0 z.1) (λ i. (sym y.0 i, y.1 i)) mine)
      (λ (y : (j ≢ id) × (get_elem? views j ≡ some u)). others j u y.0 (omega (arith, length-set views id left)) y.1)
      (at_set views id j left u x.1))
      (λ (x : (j ≡ length (set views id left)) × (right ≡ u)). subst (λ (z : ℕ × X). F z.0 z.1) (λ i. (sym (x.0 ∙ length-set views id left) i, x.1 i)) new)
      (at_end (set views id left) right j u e)

module _ {E : Type 0} (t : E → ℕ → Bool) where
  nothing_left : (log : List E) → IsPrefix [] log
  nothing_left log = (log, refl)

  settled_all : (key : ℕ) (pending : List ℕ) (log : List E) → pends pending key ≡ false → Settled t key pending log log
  settled_all key pending log free = record {
    signed = λ _. untouched_all t key log;
    waits = λ bound. absurd (true≢false (sym bound ∙ free));
  }

  settled_push : (key keys : ℕ) (met log : List E) (e : E) → key < keys → Settled t key [] met log → Settled t key (touched t e keys) met (log ++ e ∷ [])
  settled_push key keys met log e lt s = record {
    signed = λ free. untouched_push t key met log e (s.signed refl) (sym (pends-touched t e keys key lt) ∙ free);
    waits = λ _. subst (Untouched t key met) (sym (but_last-push log e)) (s.signed refl);
  }

  settled_without : (key other : ℕ) (pending : List ℕ) (met log : List E) → other ≢ key → Settled t other pending met log → Settled t other (without key pending) met log
  settled_without key other pending met log apart s =
      let same = pends-without key other pending apart in
      record { signed = λ free. s.signed (sym same ∙ free); waits = λ bound. s.waits (sym same ∙ bound) }

  -- a view that has neither the writer's part nor a key
  plain_fits : (log : List E) (pending : List ℕ) (keys seat : ℕ) (place : ℕ → ℕ) (id : ℕ) (seen : List E) → IsPrefix seen log → Fits t log pending keys seat place id (slip seen)
  plain_fits log pending keys seat place id seen p = record {
    writes = λ w. absurd (off w);
    seen = p;
    told = nothing_left log;
    keyed = λ k. absurd (off k);
  }

  -- the views of other seats, where a key moved away from a seat or came new
  moved_fits : (log : List E) (pending : List ℕ) (keys seat : ℕ) (place : ℕ → ℕ) (key to j : ℕ) (u : View E) → (u.keyed ≡ true → u.key ≢ key) → Fits t log pending keys seat place j u → Fits t log pending keys seat (placed place key to) j u
  moved_fits log pending keys seat place key to j u apart f = record {
    writes = f.writes;
    seen = f.seen;
    told = f.told;
    keyed = λ k. let old = f.keyed k in (old.0, placed_else place key to u.key (apart k) ∙ old.1, old.2);
  }

  -- a key that is at one seat is at no other
  apart : (place : ℕ → ℕ) (key k id j : ℕ) → place key ≡ id → place k ≡ j → j ≢ id → k ≢ key
  apart place key k id j here there n e = n (sym there ∙ ap place e ∙ here)

  -- the writer deals the next key
  pub deals : (id : ℕ) (log : List E) (keys : ℕ) → Splits (Kept t) id (writer log [] keys) (writer log [] (keys + 1)) (front keys log log)
  deals id log keys s h at =
      let mine = h.fits id (writer log [] keys) at in
      let w = mine.writes refl in
      let place = placed h.place keys (length s.views) in
      record {
        log = h.log;
        pending = h.pending;
        keys = h.keys + 1;
        seat = h.seat;
        place = place;
        words = h.words;
        fits = split_all (Fits t h.log h.pending (h.keys + 1) h.seat place) s.views id (writer log [] (keys + 1)) (front keys log log)
            (λ j u n lt e. other h (h.fits j u e) (λ b. n (b ∙ sym w.0)) w.3)
            (record {
              writes = λ _. (w.0, w.1, w.2, ap (λ k. k + 1) w.3);
              seen = mine.seen;
              told = nothing_left h.log;
              keyed = λ k. absurd (off k);
            })
            (record {
              writes = λ b. absurd (off b);
              seen = mine.seen;
              told = nothing_left h.log;
              keyed = λ _. (omega (arith, w.3), placed_here h.place keys (length s.views), subst (λ p. Settled t keys p log h.log) w.2 (subst (λ l. Settled t keys [] log l) w.1 (settled_all keys [] log refl)));
            });
      }
    where
      other : (h : Kept t s) {j : ℕ} {u : View E} → Fits t h.log h.pending h.keys h.seat h.place j u → j ≢ h.seat → keys ≡ h.keys → Fits t h.log h.pending (h.keys + 1) h.seat (placed h.place keys (length s.views)) j u
      other h f n same = record {
        writes = λ b. absurd (n (f.writes b).0);
        seen = f.seen;
        told = f.told;
        keyed = λ k. let old = f.keyed k in (omega arith, placed_else h.place keys (length s.views) _ (λ e. omega arith) ∙ old.1, old.2);
      }

  -- the writer lets go the front that it took in
  pub lets_go : (id : ℕ) (log : List E) (pending : List ℕ) (keys key : ℕ) (told met : List E) → Splits (Kept t) id (holder log pending keys key told met) (writer log pending keys) (front key log met)
  lets_go id log pending keys key told met s h at =
      let mine = h.fits id (holder log pending keys key told met) at in
      let k = mine.keyed refl in
      let place = placed h.place key (length s.views) in
      record {
        log = h.log;
        pending = h.pending;
        keys = h.keys;
        seat = h.seat;
        place = place;
        words = h.words;
        fits = split_all (Fits t h.log h.pending h.keys h.seat place) s.views id (writer log pending keys) (front key log met)
            (λ j u n lt e. let f = h.fits j u e in moved_fits h.log h.pending h.keys h.seat h.place key (length s.views) j u (λ b. apart h.place key u.key id j k.1 (f.keyed b).1 n) f)
            (record { writes = λ _. mine.writes refl; seen = mine.seen; told = nothing_left h.log; keyed = λ b. absurd (off b) })
            (record { writes = λ b. absurd (off b); seen = mine.seen; told = nothing_left h.log; keyed = λ _. (k.0, placed_here h.place key (length s.views), k.2) });
      }

  -- a front gives a slip
  pub gives : (id key : ℕ) (seen met : List E) → Splits (Kept t) id (front key seen met) (front key seen met) (slip seen)
  gives id key seen met s h at =
      let mine = h.fits id (front key seen met) at in
      record {
        log = h.log;
        pending = h.pending;
        keys = h.keys;
        seat = h.seat;
        place = h.place;
        words = h.words;
        fits = split_all (Fits t h.log h.pending h.keys h.seat h.place) s.views id (front key seen met) (slip seen)
            (λ j u n lt e. h.fits j u e)
            mine
            (plain_fits h.log h.pending h.keys h.seat h.place (length s.views) seen mine.seen);
      }

  -- the writer takes a front in
  pub takes_in : (id : ℕ) (log : List E) (pending : List ℕ) (keys other key : ℕ) (seen met : List E)
      → Joins (Kept t) id (writer log pending keys) other (front key seen met) (holder log pending keys key seen met) nobody
  takes_in id log pending keys other key seen met s h at differ there =
      let both = holder log pending keys key seen met in
      let mine = h.fits id (writer log pending keys) at in
      let theirs = h.fits other (front key seen met) (sym (set_else s.views id other both differ) ∙ there) in
      let k = theirs.keyed refl in
      let place = placed h.place key id in
      record {
        log = h.log;
        pending = h.pending;
        keys = h.keys;
        seat = h.seat;
        place = place;
        words = h.words;
        fits = set_all (Fits t h.log h.pending h.keys h.seat place) (set s.views id both) other nobody
            (λ j u n e. set_all (λ i v. i ≢ other → Fits t h.log h.pending h.keys h.seat place i v) s.views id both
            (λ i v m a c. let f = h.fits i v a in moved_fits h.log h.pending h.keys h.seat h.place key id i v (λ b. apart h.place key v.key other i k.1 (f.keyed b).1 c) f)
            (λ c. record { writes = λ _. mine.writes refl; seen = mine.seen; told = theirs.seen; keyed = λ _. (k.0, placed_here h.place key id, k.2) })
            j u e n)
            (plain_fits h.log h.pending h.keys h.seat place other [] (nothing_left h.log));
      }

  -- a front takes a slip in
  pub tells : (id key : ℕ) (seen met : List E) (other : ℕ) (told : List E)
      → Joins (Kept t) id (front key seen met) other (slip told) (learner key seen met told) nobody
  tells id key seen met other told s h at differ there =
      let both = learner key seen met told in
      let mine = h.fits id (front key seen met) at in
      let theirs = h.fits other (slip told) (sym (set_else s.views id other both differ) ∙ there) in
      record {
        log = h.log;
        pending = h.pending;
        keys = h.keys;
        seat = h.seat;
        place = h.place;
        words = h.words;
        fits = set_all (Fits t h.log h.pending h.keys h.seat h.place) (set s.views id both) other nobody
            (λ j u n e. set_all (Fits t h.log h.pending h.keys h.seat h.place) s.views id both
            (λ i v m a. h.fits i v a)
            (record { writes = λ b. absurd (off b); seen = mine.seen; told = theirs.seen; keyed = λ _. mine.keyed refl })
            j u e)
            (plain_fits h.log h.pending h.keys h.seat h.place other [] (nothing_left h.log));
      }

  same_word : (words : List ℕ) (n : ℕ) → words ≡ n ∷ [] → slice_set words 0 (slice_index words 0) ≡ n ∷ []
  same_word words n is = subst (λ ws. slice_set ws 0 (slice_index ws 0) ≡ n ∷ []) (sym is) refl

  -- a front that was taken in has met all entries
  pub meets : (slots id : ℕ) (log : List E) (pending : List ℕ) (keys key : ℕ) (told met : List E)
      → Allows (Kept t) slots id (holder log pending keys key told met, []) 0 (λ n. n) (Meets t (step slots 0 0 0 none) (holder log pending keys key told met, []))
  meets slots id log pending keys key told met s h deep at fits =
      let mine = h.fits id (holder log pending keys key told met) at in
      let w = mine.writes refl in
      let k = mine.keyed refl in
      let left = without key pending in
      let after = holder log left keys key [] log in (
        after,
        keeps,
        tt,
        record {
          log = h.log;
          pending = left;
          keys = h.keys;
          seat = h.seat;
          place = h.place;
          words = same_word s.words (length h.log) h.words;
          fits = set_all (Fits t h.log left h.keys h.seat h.place) s.views id after
              (λ j u n e. let f = h.fits j u e in record {
                writes = λ b. absurd (n ((f.writes b).0 ∙ sym w.0));
                seen = f.seen;
                told = f.told;
                keyed = λ b. let old = f.keyed b in
                    (old.0, old.1, settled_without key u.key pending u.met h.log (apart h.place key u.key id j k.1 old.1 n) (subst (λ p. Settled t u.key p u.met h.log) (sym w.2) old.2));
              })
              (record {
                writes = λ _. (w.0, w.1, refl, w.3);
                seen = mine.seen;
                told = nothing_left h.log;
                keyed = λ _. (k.0, k.1, subst (λ l. Settled t key left l h.log) (sym w.1) (settled_all key left h.log (pends-without_same key pending)));
              });
        },
        (
          refl,
          subst (IsPrefix told) (sym w.1) mine.told,
          subst (λ p. Settled t key p met log) (sym w.2) (subst (Settled t key h.pending met) (sym w.1) k.2),
        ),
      )

  -- a front learns what a slip has seen
  pub learns : (slots id key : ℕ) (seen met told : List E)
      → Allows (Kept t) slots id (learner key seen met told, []) 0 (λ n. n) (Learns (step slots 0 0 0 none) (learner key seen met told, []))
  learns slots id key seen met told s h deep at fits =
      let mine = h.fits id (learner key seen met told) at in
      let after = front key (longer seen told) met in
      let long = longer_begins seen told h.log mine.seen mine.told in (
        after,
        keeps,
        tt,
        record {
          log = h.log;
          pending = h.pending;
          keys = h.keys;
          seat = h.seat;
          place = h.place;
          words = same_word s.words (length h.log) h.words;
          fits = set_all (Fits t h.log h.pending h.keys h.seat h.place) s.views id after
              (λ j u n e. h.fits j u e)
              (record { writes = λ b. absurd (off b); seen = long.0; told = nothing_left h.log; keyed = λ _. mine.keyed refl });
        },
        (refl, long.1, long.2),
      )

  next_word : (words : List ℕ) (log : List E) (e : E) (old : ℕ) → words ≡ length log ∷ [] → old ≡ length log
      → slice_set words 0 (either (slice_index words 0 == old) (old + 1) (slice_index words 0)) ≡ length (log ++ e ∷ []) ∷ []
  next_word words log e old is before =
      subst (λ ws. slice_set ws 0 (either (slice_index ws 0 == old) (old + 1) (slice_index ws 0)) ≡ length (log ++ e ∷ []) ∷ []) (sym is)
      (ap (λ n. n ∷ []) (ap (λ b. either b (old + 1) (length log)) (eq-eqb (length log) old (sym before)) ∙ (let next : old + 1 ≡ length (log ++ e ∷ []) = omega (arith, length-append log (e ∷ [])) in next)))

  -- the writer adds an entry
  pub commits : (slots id : ℕ) (log : List E) (keys : ℕ) (e : E) (old : ℕ) → old ≡ length log
      → Allows (Kept t) slots id (writer log [] keys, []) 0 (λ n. either (n == old) (old + 1) n) (Commits t (step slots 0 old (old + 1) (some e)) (writer log [] keys, []))
  commits slots id log keys e old before s h deep at fits =
      let mine = h.fits id (writer log [] keys) at in
      let w = mine.writes refl in
      let now = h.log ++ e ∷ [] in
      let pending = touched t e h.keys in
      let after = writer (log ++ e ∷ []) (touched t e keys) keys in (
        after,
        keeps,
        tt,
        record {
          log = now;
          pending = pending;
          keys = h.keys;
          seat = h.seat;
          place = h.place;
          words = next_word s.words h.log e old h.words (before ∙ ap length w.1);
          fits = set_all (Fits t now pending h.keys h.seat h.place) s.views id after
              (λ j u n a. let f = h.fits j u a in record {
                writes = λ b. absurd (n ((f.writes b).0 ∙ sym w.0));
                seen = prefix_push u.seen h.log e f.seen;
                told = prefix_push u.told h.log e f.told;
                keyed = λ b. let old = f.keyed b in
                    (old.0, old.1, settled_push u.key h.keys u.met h.log e old.0 (subst (λ p. Settled t u.key p u.met h.log) (sym w.2) old.2));
              })
              (record {
                writes = λ _. (w.0, ap (λ l. l ++ e ∷ []) w.1, ap (touched t e) w.3, w.3);
                seen = subst (λ l. IsPrefix (log ++ e ∷ []) (l ++ e ∷ [])) w.1 (prefix_self (log ++ e ∷ []));
                told = nothing_left now;
                keyed = λ b. absurd (off b);
              });
        },
        refl,
      )

  -- the moves, at views that are known
  pub deals_as : (id : ℕ) (v : View E) → IsWriter v → v.pending ≡ [] → Splits (Kept t) id v (dealt v) (next_front v)
  deals_as id v is free =
      subst (λ x. Splits (Kept t) id x (dealt v) (next_front v)) (sym is)
      (subst (λ p. Splits (Kept t) id (writer v.seen p v.keys) (writer v.seen p (v.keys + 1)) (next_front v)) (sym free) (deals id v.seen v.keys))

  pub lets_go_as : (id : ℕ) (v w : View E) → v ≡ met_all w → Splits (Kept t) id v (let_go v) (front_again v)
  lets_go_as id v w is = subst (λ x. Splits (Kept t) id x (let_go x) (front_again x)) (sym is) (lets_go id w.seen (without w.key w.pending) w.keys w.key [] w.seen)

  pub gives_as : (id : ℕ) (v : View E) → IsFront v → Splits (Kept t) id v v (slip_of v)
  gives_as id v is = subst (λ x. Splits (Kept t) id x x (slip_of v)) (sym is) (gives id v.key v.seen v.met)

  pub takes_in_as : (id : ℕ) (v : View E) (other : ℕ) (w : View E) → IsWriter v → IsFront w → Joins (Kept t) id v other w (taken_in v w) nobody
  takes_in_as id v other w writes fronts =
      subst (λ x. Joins (Kept t) id x other w (taken_in v w) nobody) (sym writes)
      (subst (λ y. Joins (Kept t) id (writer v.seen v.pending v.keys) other y (taken_in v w) nobody) (sym fronts) (takes_in id v.seen v.pending v.keys other w.key w.seen w.met))

  pub tells_as : (id : ℕ) (v : View E) (other : ℕ) (w : View E) → IsFront v → IsSlip w → Joins (Kept t) id v other w (told v w) nobody
  tells_as id v other w fronts slips =
      subst (λ x. Joins (Kept t) id x other w (told v w) nobody) (sym fronts)
      (subst (λ y. Joins (Kept t) id (front v.key v.seen v.met) other y (told v w) nobody) (sym slips) (tells id v.key v.seen v.met other w.seen))

  pub meets_as : (slots id : ℕ) (me : Me E (View E)) (v w : View E) → me ≡ (taken_in v w, []) → Allows (Kept t) slots id me 0 (λ n. n) (Meets t (step slots 0 0 0 none) me)
  meets_as slots id me v w is =
      subst (λ (x : Me E (View E)). Allows (Kept t) slots id x 0 (λ n. n) (Meets t (step slots 0 0 0 none) x)) (sym is) (meets slots id v.seen v.pending v.keys w.key w.seen w.met)

  pub learns_as : (slots id : ℕ) (me : Me E (View E)) (v w : View E) → me ≡ (told v w, []) → Allows (Kept t) slots id me 0 (λ n. n) (Learns (step slots 0 0 0 none) me)
  learns_as slots id me v w is =
      subst (λ (x : Me E (View E)). Allows (Kept t) slots id x 0 (λ n. n) (Learns (step slots 0 0 0 none) x)) (sym is) (learns slots id v.key v.seen v.met w.seen)

  pub commits_as : (slots id : ℕ) (me : Me E (View E)) (e : E) (old : ℕ) → IsWriter me.0 → me.0.pending ≡ [] → me.1 ≡ [] → old ≡ length me.0.seen
      → Allows (Kept t) slots id me 0 (λ n. either (n == old) (old + 1) n) (Commits t (step slots 0 old (old + 1) (some e)) me)
  commits_as slots id me e old is free bare before =
      let known : me ≡ (writer me.0.seen [] me.0.keys, []) = λ i. ((is ∙ ap (λ p. writer me.0.seen p me.0.keys) free) i, bare i) in
      subst (λ (x : Me E (View E)). Allows (Kept t) slots id x 0 (λ n. either (n == old) (old + 1) n) (Commits t (step slots 0 old (old + 1) (some e)) x)) (sym known)
      (commits slots id me.0.seen me.0.keys e old before)

  -- the rule as the table is made
  pub begins : Kept t (opening (0 ∷ []) [] (writer [] [] 0))
  begins = record {
    log = [];
    pending = [];
    keys = 0;
    seat = 0;
    place = λ _. 0;
    words = refl;
    fits = one;
  }
    where
      one : (id : ℕ) (v : View E) → get_elem? (writer [] [] 0 ∷ []) id ≡ some v → Fits t [] [] 0 0 (λ _. 0) id v
      one zero v e = subst (Fits t [] [] 0 0 (λ _. 0) 0) (some-injective (writer [] [] 0) v e) (record { writes = λ _. (refl, refl, refl, refl); seen = ([], refl); told = ([], refl); keyed = λ b. absurd (off b) })
      one (suc id) v e = absurd (some-ne-none v (sym e))
