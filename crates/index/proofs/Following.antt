-- Following a literal's list leads through the rows that contain it, lowest first, and past no other one.
use Rattle.meaning.proofs.Kit.{◌≡◌, ◌∙◌, sym, ap, subst, ⊎_elim, inl, inr, ◌⊎◌, true, cond, List, [], ◌∷◌, ◌≤◌, ℕ, ◌<◌, suc, ◌*◌, zero, ◌/◌}
use Rattle.meaning.proofs.Kit.{not-suc-le-zero, eq-or-lt_of_le, arith, ℤ, nat_abs, length, get_or, ne_eqb}
use Rattle.meaning.specs.Tests.{none}
use Rattle.meaning.proofs.Tables.{length_tabulate, get_d_tabulate, le_or_lt}
use Rattle.literals.specs.Literal.{place_of}
use Rattle.literals.specs.Row.{most_literals, Fit}
use Rattle.index.specs.Index.{Contains, in_cell, empty, holds, next_cell, heads_of, links_of, Index}
use Rattle.index.proofs.Cells.{Some, few_cells, holds_words, cell_of, cell_contains}
use Rattle.index.proofs.Next.{Next, next}

-- the two tables, once they are filled from links that were lent
pub filled : {places used : ℕ} {table : List ℤ} {heads links : List ℕ} (lent : List ℕ) → heads ≡ heads_of places used table
    → links ≡ links_of used table lent → Index places used table heads links
unfolding links_of empty
filled {used} {table} {links} lent h l = record { heads_are = h; links_are = λ i p c y. go i p c (holds_words table p i y) }
  where
    go : (i p : ℕ) → i < most_literals * used → Some (in_cell table i) × (place_of (in_cell table i) ≡ p) → get_or links i 0 ≡ next_cell used table p (suc i)
    go i p c w =
        let at_i = get_d_tabulate (most_literals * used)
        (λ j. cond (empty table j) (get_or lent j 0) (next_cell used table (place_of (in_cell table j)) (suc j))) i 0 c in
        ap (λ t. get_or t i 0) l ∙ at_i ∙ rw (ne_eqb (nat_abs (in_cell table i)) 0 w.0, w.1)

-- the way along p's list has come to a cell: it holds p, or the list is at its end; of the rows before it, those that contain p have passed
pub record Along (used : ℕ) (table : List ℤ) (p cell : ℕ) (Passed : ℕ → Type 0) : Type 0 where
  pub come : (cell ≡ none) ⊎ ((cell < most_literals * used) × (holds table p cell ≡ true))
  pub passed : (r : ℕ) → r < used → r < cell / most_literals → Contains table r p → Passed r

pub heads_long : {places used : ℕ} {table : List ℤ} {heads links : List ℕ} → Index places used table heads links → length heads ≡ places
unfolding heads_of
heads_long {places} index = ap length index.heads_are ∙ length_tabulate places _

-- a list that is not 0 at a place has that place
long_enough : (l : List ℕ) (i : ℕ) → 0 < get_or l i 0 → i < length l
long_enough [] i h = absurd (not-suc-le-zero h)
long_enough (x ∷ l) zero h = omega arith
long_enough (x ∷ l) (suc i) h = omega (arith, long_enough l i h)

module _ {places used : ℕ} {table : List ℤ} {heads links : List ℕ} (fit : Fit places used table)
    (index : Index places used table heads links) {p : ℕ} where
  -- at the head none has
  pub along_head : {P : ℕ → Type 0} → p < places → Along used table p (get_or heads p 0) P
  unfolding heads_of
  along_head low =
      let is : get_or heads p 0 ≡ next_cell used table p 0 =
      ap (λ t. get_or t p 0) index.heads_are ∙ get_d_tabulate places (λ q. next_cell used table q 0) p 0 low in
      let n : Next used table p 0 (get_or heads p 0) = rw is (next used table (few_cells fit) p 0) in
      record {
        come = ⊎_elim (λ e. inl e) (λ c. inr (c.0, c.1)) n.cell;
        passed = λ r h b m. (let f = cell_of table r p m in
            absurd (n.between f.0 (omega arith) (omega (arith, f.2, b)) (omega (arith, f.2, h)) f.3));
      }

  module _ {cell : ℕ} {P : ℕ → Type 0} (w : Along used table p cell P) where
    -- at the end all have
    pub along_end : most_literals * used ≤ cell → (r : ℕ) → r < used → Contains table r p → P r
    along_end past r h m = w.passed r h (omega (arith, past, h)) m

    module _ (inside : cell < most_literals * used) where
      held : holds table p cell ≡ true
      held = ⊎_elim (λ e. absurd (omega (arith, e, few_cells fit, inside))) (λ h. h.1) w.come

      go_on_lem : Next used table p (suc cell) (get_or links cell 0)
      go_on_lem = rw (index.links_are cell p inside held) (next used table (few_cells fit) p (suc cell))

      -- the row of the cell is one of them
      pub along_row : cell / most_literals < used
      along_row = omega (arith, inside)

      pub along_contains : Contains table (cell / most_literals) p
      along_contains = cell_contains fit inside p held

      -- the list rises
      pub along_rises : cell < get_or links cell 0
      along_rises = ⊎_elim (λ e. omega (arith, e, few_cells fit, inside)) (λ c. c.2) go_on_lem.cell

      -- so there is a link
      pub along_linked : cell < length links
      along_linked = long_enough links cell (omega (arith, along_rises))

      -- one row more; what passed before may be said anew
      pub along_link : {Q : ℕ → Type 0} → ((r : ℕ) → r < cell / most_literals → P r → Q r) → Q (cell / most_literals)
          → Along used table p (get_or links cell 0) Q
      along_link {Q} again here =
          record {
            come = ⊎_elim (λ e. inl e) (λ c. inr (c.0, c.1)) go_on_lem.cell;
            passed = λ r h b m. ⊎_elim
                (λ l. ⊎_elim (λ e. subst Q (sym e) here) (λ s. again r s (w.passed r h s m)) (eq-or-lt_of_le l))
                (λ l. (let f = cell_of table r p m in
                absurd (go_on_lem.between f.0 (omega (arith, f.1, l)) (omega (arith, f.2, b)) (omega (arith, f.2, h)) f.3)))
                (le_or_lt r (cell / most_literals));
          }
