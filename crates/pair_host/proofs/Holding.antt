-- Books, the states that they are of, and what changes one of them or all.
use Rattle.std.proofs.Common.{ℕ, ◌≡◌, ◌≢◌, ◌+◌, ◌-◌, ◌<◌, ◌≤◌, List, [], ◌∷◌, ◌++◌, length, map, take, drop, get_or, set, length-append, inl, inr, ap, sym, subst, ◌∙◌, arith}
use Rattle.std.proofs.lemmas.Bool.{cases_eq, cases_lt}
use Rattle.std.proofs.lemmas.List.{take-append-le, take_all, get_or_append_left, length-map, length-set, get_or-map, get_or-set_same, get_or-set_other, get_or_default}
use Rattle.std.proofs.Math.Seq.{map-set_same, get_or-append_right}
use Rattle.fx_rules.specs.declared.orders.Resting.{Resting}
use Rattle.fx_rules.specs.Session.{Header, bank_count, pair_count}
use Rattle.fx_rules.specs.State.{State, orders_in}
use Rattle.global_book.specs.Book.{Book}
use Rattle.credit_lines.specs.Table.{Table, Stands}
use Rattle.pair_host.specs.Standing.{HostState, StandsFor, AreBooksOf}
use Rattle.pair_host.specs.inside.Books.{IsBookAt, AreBooks, AreHosted, AreEmpty, HaveOrders, host_of}

no_book : Book
no_book = record { pair = 0; banks = 0; orders = []; room = record { places = []; ladders = record { bids = []; asks = [] } } }

-- the books and the table are a state's
pub record BooksOf (h : Header) (S : State) (books : List Book) (table : Table) : Type 0 where
  pub count : length books ≡ pair_count h
  pub orders : HaveOrders S books
  pub credit : Stands h S table

pub books-of : (h : Header) (S : State) (books : List Book) (table : Table) → StandsFor h S (host_of books table) → BooksOf h S books table
books-of h S books table stood =
    let count : length books ≡ pair_count h = sym (length-map books (λ (b : Book). b.orders)) ∙ stood.pairs in
    record {
      count = count;
      orders = λ place none within. sym (get_or-map (λ (b : Book). b.orders) books place none [] within) ∙ stood.orders place (omega (arith, count, within));
      credit = stood.credit;
    }

pub stands-by : (h : Header) (S : State) (books : List Book) (table : Table) → BooksOf h S books table → StandsFor h S (host_of books table)
stands-by h S books table of = record {
  pairs = length-map books (λ (b : Book). b.orders) ∙ of.count;
  orders = λ pair within.
      let within' : pair < length books = omega (arith, of.count, within) in
      get_or-map (λ (b : Book). b.orders) books pair no_book [] within' ∙ of.orders pair no_book within';
  credit = of.credit;
}

-- ---- books that are made before the host is

pub stands-of : (h : Header) (S : State) (books : List Book) (table : Table) → AreBooksOf h S books → Stands h S table → StandsFor h S (host_of books table)
stands-of h S books table are credit = stands-by h S books table (record {
  count = are.count;
  orders = λ place none within. (are.each place none (omega (arith, are.count, within))).orders;
  credit = credit;
})

-- ---- one book changes

pub have-orders-set : (S T : State) (books : List Book) (at : ℕ) (new : Book) → HaveOrders S books → new.orders ≡ orders_in at T.orders
    → ((other : ℕ) → other ≢ at → orders_in other T.orders ≡ orders_in other S.orders) → HaveOrders T (set books at new)
have-orders-set S T books at new have new_orders stay place none within =
    let within' : place < length books = omega (arith, length-set books at new, within) in
    elim (cases_eq place at) [
      | inl same ↦
          let here : get_or (set books at new) place none ≡ new =
          ap (λ p. get_or (set books at new) p none) same ∙ get_or-set_same books at new none (omega (arith, same, within')) in
          ap (λ (b : Book). b.orders) here ∙ new_orders ∙ ap (λ p. orders_in p T.orders) (sym same)
      | inr differ ↦
          ap (λ (b : Book). b.orders) (get_or-set_other books at place new none differ) ∙ have place none within' ∙ sym (stay place differ)
    ]

-- ---- all of them change, in order

-- books of which the first so many came to be what they are to be, and the others are as they were
pub record HaveTurned (became : Book → Book → Type 0) (was mid : List Book) (n : ℕ) : Type 0 where
  pub long : length mid ≡ length was
  pub so_far : (i : ℕ) (d : Book) → i < n → became (get_or was i d) (get_or mid i d)
  pub to_come : (i : ℕ) (d : Book) → n ≤ i → get_or mid i d ≡ get_or was i d

turned-at : (became : Book → Book → Type 0) (was mid : List Book) (n : ℕ) (item book : Book) → HaveTurned became was mid n → n < length was → became (get_or mid n item) book
    → (d : Book) → became (get_or was n d) (get_or (set mid n book) n d)
turned-at became was mid n item book turned within on d =
    let within' : n < length mid = omega (arith, turned.long, within) in
    let old : get_or mid n item ≡ get_or was n d = get_or_default mid n item d within' ∙ turned.to_come n d (omega arith) in
    subst (λ (now : Book). became (get_or was n d) now) (sym (get_or-set_same mid n book d within')) (subst (λ (before : Book). became before book) old on)

pub turned-next : (became : Book → Book → Type 0) (was mid : List Book) (n : ℕ) (item book : Book) → HaveTurned became was mid n → n < length was → became (get_or mid n item) book
    → HaveTurned became was (set mid n book) (n + 1)
turned-next became was mid n item book turned within on = record {
  long = length-set mid n book ∙ turned.long;
  so_far = λ i d low.
      elim (cases_lt i n) [
        | inl before ↦
            let other : i ≢ n = λ same. absurd (omega (arith, same, before)) in
            subst (λ (now : Book). became (get_or was i d) now) (sym (get_or-set_other mid n i book d other)) (turned.so_far i d before)
        | inr past ↦
            let same : n ≡ i = omega (arith, past, low) in
            subst (λ (j : ℕ). became (get_or was j d) (get_or (set mid n book) j d)) same (turned-at became was mid n item book turned within on d)
      ];
  to_come = λ i d past. get_or-set_other mid n i book d (λ same. absurd (omega (arith, same, past))) ∙ turned.to_come i d (omega (arith, past));
}

-- ---- nothing changes

pub same-host : (books : List Book) (at : ℕ) (book new : Book) (table table' : Table) → book ≡ get_or books at book → new.orders ≡ book.orders → table' ≡ table
    → host_of (set books at new) table' ≡ host_of books table
same-host books at book new table table' is orders same =
    let lists : map (λ (b : Book). b.orders) (set books at new) ≡ map (λ (b : Book). b.orders) books =
    map-set_same (λ (b : Book). b.orders) books at new book (orders ∙ ap (λ (b : Book). b.orders) is) in
    ap (λ (os : List (List Resting)). let host : HostState = record { books = os; table = table' } in host) lists
    ∙ ap (λ (t : Table). host_of books t) same

-- ---- one book more

-- what holds of each book at its place holds with one more at the end
pub each-push : (P : ℕ → Book → Type 0) (books : List Book) (book : Book) → ((place : ℕ) (none : Book) → place < length books → P place (get_or books place none)) → P (length books) book
    → (place : ℕ) (none : Book) → place < length (books ++ book ∷ []) → P place (get_or (books ++ book ∷ []) place none)
each-push P books book all last place none within =
    elim (cases_lt place (length books)) [
      | inl before ↦ subst (P place) (sym (get_or_append_left books (book ∷ []) none place before)) (all place none before)
      | inr past ↦
          let here : place ≡ length books = omega (arith, length-append books (book ∷ []), within, past) in
          let gone : place - length books ≡ 0 = omega (arith, here) in
          let is : get_or (books ++ book ∷ []) place none ≡ book = get_or-append_right books (book ∷ []) place none past ∙ ap (λ n. get_or (book ∷ []) n none) gone in
          subst (P place) (sym is) (subst (λ n. P n book) (sym here) last)
    ]

pub are-books-push : (banks : ℕ) (books : List Book) (book : Book) → AreBooks banks books → book.pair ≡ length books → book.banks ≡ banks → AreBooks banks (books ++ book ∷ [])
are-books-push banks books book are pair made_for =
    each-push (λ place (b : Book). IsBookAt banks place b) books book are (record { pair = pair; made_for = made_for })

pub are-empty-push : (books : List Book) (book : Book) → AreEmpty books → book.orders ≡ [] → AreEmpty (books ++ book ∷ [])
are-empty-push books book are empty = each-push (λ place (b : Book). b.orders ≡ []) books book are empty

-- ---- a vector written through

pub written : (len : ℕ) (books items : List Book) → length books ≡ len → take len (books ++ drop (length books) items) ≡ books
written len books items same =
    take-append-le len books (drop (length books) items) (omega (arith, same)) ∙ take_all len books (omega (arith, same))

-- books that keep their pairs and their banks are still a host's
pub hosted-by : (books books' : List Book) (table table' : Table) → AreHosted books table → table'.session ≡ table.session → length books' ≡ length books
    → ((place : ℕ) (none : Book) → place < length books → (get_or books' place none).pair ≡ (get_or books place none).pair)
    → ((place : ℕ) (none : Book) → place < length books → (get_or books' place none).banks ≡ (get_or books place none).banks)
    → AreHosted books' table'
hosted-by books books' table table' hosted session count pairs banks = record {
  count = count ∙ hosted.count ∙ ap pair_count (sym session);
  are = λ place none within.
      let within' : place < length books = omega (arith, count, within) in
      let was : IsBookAt (bank_count table.session) place (get_or books place none) = hosted.are place none within' in
      record { pair = pairs place none within' ∙ was.pair; made_for = banks place none within' ∙ was.made_for ∙ ap bank_count (sym session) };
}
