-- Filling the index: a row's cells go in front of their lists one by one, and the rows from the last one on.
use Rattle.meaning.proofs.Kit.{◌≡◌, ◌∙◌, sym, ap, refl, subst, ⊎_elim, inl, inr, ◌⊎◌, true, cond, List, map, ◌≤◌, ℕ, ◌<◌, ◌+◌, suc, ◌*◌, ◌/◌}
use Rattle.meaning.proofs.Kit.{eq-or-lt_of_le, arith, ℤ, nat_abs, length, get_or, replicate, set, length-set, get_or-replicate, get_or-set_other}
use Rattle.meaning.proofs.Kit.{get_or-set_same, ne_eqb, eq-eqb}
use Rattle.meaning.specs.Tests.{member, none}
use Rattle.meaning.proofs.Tests.{true_or_false, clash, member_in}
use Rattle.meaning.proofs.Tables.{le_or_lt, tabulate_ext, map_tabulate}
use Rattle.literals.specs.Literal.{place_of}
use Rattle.literals.specs.Row.{width, most_literals, numbers_at, decode, rows_in, Fit}
use Rattle.literals.proofs.Counting.{count_few}
use Rattle.literals.proofs.Scanning.{number_at, Literal, fit_row, row_in}
use Rattle.index.specs.Index.{in_cell, empty, holds, next_cell, heads_of, links_of}
use Rattle.index.specs.Listing.{Listed}
use Rattle.index.proofs.Cells.{Some, few_cells, cell_number, holds_words, holds_of, cell_of, cell_contains, cell_some, cell_zero, cell_alone}
use Rattle.index.proofs.Next.{next_only, next_skip, next_here}

-- ---- the cells of a row

pub listed_none : {table : List ℤ} {base : ℕ} {heads links : List ℕ} → Listed table base 0 heads links heads links
listed_none =
    record {
      long_heads = refl;
      long_links = refl;
      head_here = λ i p h l y. absurd (omega arith);
      head_other = λ p n. refl;
      link_here = λ i p h l y. absurd (omega arith);
      link_other = λ i o. refl;
    }

-- one cell more
module _ {places : ℕ} {table : List ℤ} {r j q : ℕ} {heads links newHeads newLinks : List ℕ}
    (fit : Fit places (r + 1) table) (inside : j < most_literals) (literal : Literal places table r j q)
    (old : Listed table (most_literals * r) j heads links newHeads newLinks) where
  abbrev cell : ℕ
  cell = most_literals * r + j

  is_number_lem : in_cell table cell ≡ number_at table r j
  is_number_lem = cell_number table r j inside

  held : holds table q cell ≡ true
  held = holds_of table q cell (λ z. omega (arith, z, ap nat_abs is_number_lem, literal.some)) (ap place_of is_number_lem ∙ sym literal.is_place)

  -- the row's cells before it do not hold its literal
  alone : (i : ℕ) → most_literals * r ≤ i → i < cell → holds table q i ≡ true → ⊥
  alone i h l y = cell_alone fit {i = cell} (omega (arith, inside)) q i (omega (arith, h, l, inside)) l y held

  -- it holds no other one
  same : (p i : ℕ) → i ≡ cell → holds table p i ≡ true → p ≡ q
  same p i e y = sym (holds_words table p i y).1 ∙ ap (λ x. place_of (in_cell table x)) e ∙ ap place_of is_number_lem ∙ sym literal.is_place

  pub listed_more : cell < length newLinks → q < length newHeads
      → Listed table (most_literals * r) (j + 1) heads links (set newHeads q cell) (set newLinks cell (get_or newHeads q 0))
  listed_more room low =
      record {
        long_heads = length-set newHeads q cell ∙ old.long_heads;
        long_links = length-set newLinks cell (get_or newHeads q 0) ∙ old.long_links;
        head_here = λ i p h l y. ⊎_elim
            (λ e. rw (same p i e y, get_or-set_same newHeads q cell 0 low) (sym e))
            (λ s. get_or-set_other newHeads q p cell 0 (λ e. alone i h s (subst (λ x. holds table x i ≡ true) e y)) ∙ old.head_here i p h s y)
            (last i l);
        head_other = λ p n.
            get_or-set_other newHeads q p cell 0 (λ e. n cell (omega arith) (omega arith) (subst (λ x. holds table x cell ≡ true) (sym e) held))
            ∙ old.head_other p (λ i h l y. n i h (omega (arith, l)) y);
        link_here = λ i p h l y. ⊎_elim
            (λ e. ap (λ x. get_or (set newLinks cell (get_or newHeads q 0)) x 0) e ∙ get_or-set_same newLinks cell (get_or newHeads q 0) 0 room
            ∙ old.head_other q alone ∙ ap (λ x. get_or heads x 0) (sym (same p i e y)))
            (λ s. get_or-set_other newLinks cell i (get_or newHeads q 0) 0 (λ e. omega (arith, e, s)) ∙ old.link_here i p h s y)
            (last i l);
        link_other = λ i o.
            get_or-set_other newLinks cell i (get_or newHeads q 0) 0 (λ e. ⊎_elim (λ l. omega (arith, e, l)) (λ l. omega (arith, e, l)) o)
            ∙ old.link_other i (⊎_elim (λ l. inl l) (λ l. inr (omega (arith, l))) o);
      }
    where
      last : (i : ℕ) → i < most_literals * r + (j + 1) → (i ≡ cell) ⊎ (i < cell)
      last i l = eq-or-lt_of_le (omega (arith, l))

-- ---- the rows

-- where the list of cell i goes on
abbrev link_of : (used : ℕ) → List ℤ → List ℕ → ℕ → ℕ
link_of used table lent i = cond (empty table i) (get_or lent i 0) (next_cell used table (place_of (in_cell table i)) (suc i))

-- the rows from r on are listed and counted
pub record Since (places used : ℕ) (table : List ℤ) (lent : List ℕ) (r : ℕ) (heads links counts : List ℕ) : Type 0 where
  pub head : (p : ℕ) → p < places → get_or heads p 0 ≡ next_cell used table p (most_literals * r)
  pub link : (i : ℕ) → most_literals * r ≤ i → i < most_literals * used → get_or links i 0 ≡ link_of used table lent i
  pub kept : (i : ℕ) → i < most_literals * r → get_or links i 0 ≡ get_or lent i 0
  pub count : (k : ℕ) → r ≤ k → k < used → get_or counts k 0 ≡ length (decode (numbers_at table k))

module _ {places used : ℕ} {table : List ℤ} (fit : Fit places used table) where
  pub since_none : {heads lent counts : List ℕ} → heads ≡ replicate places none → Since places used table lent used heads lent counts
  since_none {heads} blank =
      record {
        head = λ p b. ap (λ t. get_or t p 0) blank ∙ get_or-replicate places p none 0 b
            ∙ next_only used table (few_cells fit) {p = p} {from = most_literals * used}
            (record { cell = inl refl; between = λ i h l c y. omega (arith, h, c) });
        link = λ i h c. absurd (omega (arith, h, c));
        kept = λ i h. refl;
        count = λ k h c. absurd (omega (arith, h, c));
      }

  -- one row more
  module _ {lent heads links counts newHeads newLinks : List ℕ} {r n : ℕ} (low : r < used)
      (old : Since places used table lent (suc r) heads links counts)
      (many : n ≡ length (decode (numbers_at table r))) (listed : Listed table (most_literals * r) n heads links newHeads newLinks) where
    few : n ≤ most_literals
    unfolding numbers_at
    few = omega (arith, many, count_few table (width * r))

    -- cell i, one of the row's
    module _ {i : ℕ} (from : most_literals * r ≤ i) (to : i < most_literals * r + most_literals) where
      in_use : i < most_literals * used
      in_use = omega (arith, to, low)

      its_row : i / most_literals ≡ r
      its_row = omega (arith, from, to)

      contains : (p : ℕ) → holds table p i ≡ true → member p (decode (numbers_at table r)) ≡ true
      contains p y = subst (λ x. member p (decode (numbers_at table x)) ≡ true) its_row (cell_contains fit in_use p y)

      some : i < most_literals * r + n → Some (in_cell table i)
      some h = cell_some fit in_use (rw (its_row, ← many) (omega (arith, from, to, h)))

      zero_past : most_literals * r + n ≤ i → nat_abs (in_cell table i) ≡ 0
      zero_past h = cell_zero fit in_use (rw (its_row, ← many) (omega (arith, from, to, h)))

      -- a cell that holds something is one of those listed
      among : (p : ℕ) → holds table p i ≡ true → i < most_literals * r + n
      among p y = ⊎_elim (λ h. absurd ((holds_words table p i y).0 (zero_past h))) (λ h. h) (le_or_lt (most_literals * r + n) i)

      -- and the only one of the row that holds it
      before : (p : ℕ) → holds table p i ≡ true → (k : ℕ) → most_literals * r ≤ k → k < i → holds table p k ≡ true → ⊥
      before p y k h l z = cell_alone fit in_use p k (omega (arith, h, l, to)) l z y

      after : (p : ℕ) → holds table p i ≡ true → (k : ℕ) → suc i ≤ k → k < most_literals * suc r → holds table p k ≡ true → ⊥
      after p y k h l z = cell_alone fit {i = k} (omega (arith, l, low)) p i (omega (arith, h, l, from)) h y z

    next_head : (p : ℕ) → p < places → get_or newHeads p 0 ≡ next_cell used table p (most_literals * r)
    next_head p b =
        ⊎_elim
        (λ m. (let f = cell_of table r p m in
        let y = f.3 in
        listed.head_here f.0 p f.1 (among f.1 f.2 p y) y
        ∙ next_here used table (few_cells fit) p (most_literals * r) f.0 (in_use f.1 f.2) y f.1 (before f.1 f.2 p y)))
        (λ m. (let no : (i : ℕ) → most_literals * r ≤ i → i < most_literals * suc r → holds table p i ≡ true → ⊥ =
        λ i h l y. clash (contains h (omega (arith, l)) p y) m in
        listed.head_other p (λ i h l y. no i h (omega (arith, l, few)) y) ∙ old.head p b
        ∙ next_skip used table (few_cells fit) p (most_literals * r) (most_literals * suc r) (omega arith) no))
        (true_or_false (member p (decode (numbers_at table r))))

    link_in : (i : ℕ) → most_literals * r ≤ i → i < most_literals * r + most_literals → get_or newLinks i 0 ≡ link_of used table lent i
    unfolding empty
    link_in i h l =
        ⊎_elim
        (λ past. rw (eq-eqb (nat_abs (in_cell table i)) 0 (zero_past h l past)) (listed.link_other i (inr past) ∙ old.kept i (omega (arith, l))))
        (λ early. (let n = some h l early in
        let p = place_of (in_cell table i) in
        let y = holds_of table p i n refl in
        let b = row_in places r table (fit_row places used table fit r low) (member_in p (decode (numbers_at table r)) (contains h l p y)) in
        rw (ne_eqb (nat_abs (in_cell table i)) 0 n)
        (listed.link_here i p h early y ∙ old.head p b
        ∙ next_skip used table (few_cells fit) p (suc i) (most_literals * suc r) (omega (arith, l)) (after h l p y))))
        (le_or_lt (most_literals * r + n) i)

    pub since_more : r < length counts → Since places used table lent r newHeads newLinks (set counts r n)
    since_more room =
        record {
          head = next_head;
          link = λ i h c. ⊎_elim
              (λ past. listed.link_other i (inr (omega (arith, past, few))) ∙ old.link i (omega (arith, past)) c)
              (λ l. link_in i h l)
              (le_or_lt (most_literals * r + most_literals) i);
          kept = λ i h. listed.link_other i (inl h) ∙ old.kept i (omega (arith, h));
          count = λ k h c. ⊎_elim
              (λ e. rw (← e, get_or-set_same counts r n 0 room) many)
              (λ s. get_or-set_other counts r k n 0 (λ e. omega (arith, e, s)) ∙ old.count k s c)
              (eq-or-lt_of_le h);
        }

  -- with row 0 all are
  module _ {lent heads links counts : List ℕ} (all : Since places used table lent 0 heads links counts) where
    pub all_heads : length heads ≡ places → heads ≡ heads_of places used table
    unfolding heads_of
    all_heads long = tabulate_ext 0 places (λ p. next_cell used table p 0) heads long (λ p b. all.head p b)

    pub all_links : length links ≡ most_literals * used → links ≡ links_of used table lent
    unfolding links_of
    all_links long = tabulate_ext 0 (most_literals * used) (link_of used table lent) links long (λ i c. all.link i (omega arith) c)

    pub all_counts : length counts ≡ used → counts ≡ map length (rows_in used table)
    unfolding rows_in
    all_counts long =
        tabulate_ext 0 used (λ k. length (decode (numbers_at table k))) counts long (λ k c. all.count k (omega arith) c)
        ∙ sym (map_tabulate length used (λ k. decode (numbers_at table k)))
