-- The rows of a board with only position variables and pair tables: each is of one of three kinds, with these literals.
use Rattle.meaning.proofs.Kit.{◌≡◌, ◌∙◌, sym, ap, refl, subst, ⊎_elim, inl, inr, ◌⊎◌, true, List, [], ◌∷◌, map, In, here, there, in_nil, in_cons}
use Rattle.meaning.proofs.Kit.{in_of_map, in_map, in_append_left, in_append_right, in_append, in_one, ℕ, ◌<◌}
use Rattle.meaning.specs.Tests.{all, from}
use Rattle.meaning.specs.Literals.{place}
use Rattle.meaning.specs.Formulae.{Formula, Rule, rule_of}
use Rattle.meaning.specs.Clauses.{rows_of, all_rows}
use Rattle.meaning.specs.SecondWay.{rules_of}
use Rattle.positions.specs.Positions.{Variable, on, off, PairTable, Side, first_side, second_side, sides, partners, pair_clause, pair_row}
use Rattle.positions.specs.Positions.{pair_clauses, Entry, positions, pairs, formulae_of, formulae_of_all, suits}
use Rattle.meaning.proofs.Tests.{all_at}
use Rattle.meaning.proofs.Rows.{in_all_rows, all_rows_in}
use Rattle.positions.proofs.Turns.{in_made, made_in}
use Rattle.positions.proofs.VariableRows.{variable_rows}
use Rattle.positions.proofs.PairRules.{in_partners, partners_in, beside_in, in_beside_itself, in_beside_rest, own_first_lem}
use Rattle.positions.proofs.PositionRows.{pair_rows}

-- ---- the literals of the rows

-- that one position at least is taken
abbrev pub one_taken : Variable → List ℕ
one_taken x = map (on x) (from 0 x.count)

-- that not both are
abbrev pub not_both : Variable → ℕ → ℕ → List ℕ
not_both x i j = off x i ∷ off x j ∷ []

-- that a position is not taken, or one that it may stand with is
module _ (s : Side) (i : ℕ) where
  abbrev others : List ℕ
  others = map (λ (t : ℕ). place t true) (partners s i)

  pub own_in_row : In (off s.own i) (pair_row s i)
  own_in_row = in_beside_itself (own_first_lem s) (off s.own i) others

  pub partner_in_row : (j : ℕ) → j < s.partner.count → s.may i j ≡ true → In (on s.partner j) (pair_row s i)
  partner_in_row j l h =
      in_beside_rest (own_first_lem s) (off s.own i) (on s.partner j) others (in_map (λ (t : ℕ). place t true) (in_partners s i j l h))

  pub pair_row_in : (q : ℕ) → In q (pair_row s i)
      → (q ≡ off s.own i) ⊎ ((j : ℕ) × (j < s.partner.count) × (s.may i j ≡ true) × (q ≡ on s.partner j))
  pair_row_in q m = ⊎_elim inl (λ n. inr (found n)) (beside_in (own_first_lem s) (off s.own i) q others m)
    where
      found : In q others → (j : ℕ) × (j < s.partner.count) × (s.may i j ≡ true) × (q ≡ on s.partner j)
      found n =
          let r = in_of_map (λ (t : ℕ). place t true) (partners s i) n in
          let k = partners_in s i r.0 r.1 in
          (k.0, k.1, k.2, sym r.2 ∙ ap (λ (t : ℕ). place t true) k.3)

-- ---- the kinds

pub data Kind (entries : List Entry) (row : List ℕ) : Type 0 where
  least : (x : Variable) → In (positions x) entries → row ≡ one_taken x → Kind entries row
  most : (x : Variable) (i j : ℕ) → In (positions x) entries → i < j → j < x.count → row ≡ not_both x i j → Kind entries row
  pair : (t : PairTable) (s : Side) (i : ℕ) → In (pairs t) entries → In s (sides t) → i < s.own.count → row ≡ pair_row s i → Kind entries row

in_formulae : (entries : List Entry) {e : Entry} {f : Formula} → In e entries → In f (formulae_of e) → In f (formulae_of_all entries)
in_formulae [] m k = absurd (in_nil m)
in_formulae (d ∷ entries) {f = f} m k =
    ⊎_elim (λ e. in_append_left (formulae_of_all entries) (subst (λ (g : Entry). In f (formulae_of g)) e k))
    (λ n. in_append_right (formulae_of d) (in_formulae entries n k)) (in_cons m)

formulae_in_lem : (entries : List Entry) (f : Formula) → In f (formulae_of_all entries) → (e : Entry) × In e entries × In f (formulae_of e)
formulae_in_lem [] f m = absurd (in_nil m)
formulae_in_lem (d ∷ entries) f m =
    ⊎_elim (λ n. (d, here refl, n)) (λ n. let r = formulae_in_lem entries f n in (r.0, there r.1, r.2)) (in_append (formulae_of d) m)

in_pairs : (t : PairTable) (s : Side) (i : ℕ) → In s (sides t) → i < s.own.count → In (pair_clause s i) (formulae_of (pairs t))
unfolding formulae_of
in_pairs t s i m l =
    ⊎_elim (λ e. in_append_left (pair_clauses (second_side t)) (subst Has e itself))
    (λ n. in_append_right (pair_clauses (first_side t)) (subst Has (in_one n) itself)) (in_cons m)
  where
    Has : Side → Type 0
    Has u = In (pair_clause s i) (pair_clauses u)

    itself : Has s
    itself = in_made (pair_clause s) s.own.count i l

module _ (S : ℕ) (entries : List Entry) (ok : all (suits S) entries ≡ true) where
  -- a row of each kind is there,
  pub in_rows : (row : List ℕ) → Kind entries row → In row (all_rows (rules_of S (formulae_of_all entries)))
  unfolding formulae_of
  in_rows row (least x m e) =
      in_all_rows (rules_of S (formulae_of_all entries)) (in_map (rule_of S) (in_formulae entries m (here refl)))
      ((variable_rows S x row (all_at (suits S) ok m)).1 (inl e))
  in_rows row (most x i j m l b e) =
      in_all_rows (rules_of S (formulae_of_all entries)) (in_map (rule_of S) (in_formulae entries m (here refl)))
      ((variable_rows S x row (all_at (suits S) ok m)).1 (inr (i, j, l, b, e)))
  in_rows row (pair t s i m k l e) =
      in_all_rows (rules_of S (formulae_of_all entries)) (in_map (rule_of S) (in_formulae entries m (in_pairs t s i k l)))
      (rw (pair_rows S t s i (all_at (suits S) ok m) k l) (here e))

  side_kind : (t : PairTable) (s : Side) (row : List ℕ) (f : Formula) → In (pairs t) entries → In s (sides t)
      → In f (pair_clauses s) → In row (rows_of (rule_of S f)) → Kind entries row
  side_kind t s row f m k n h =
      let r = made_in (pair_clause s) s.own.count n in
      let only = pair_rows S t s r.0 (all_at (suits S) ok m) k r.1 in
      pair t s r.0 m k r.1 (in_one (subst (In row) (ap (λ (g : Formula). rows_of (rule_of S g)) r.2 ∙ only) h))

  entry_kind : (e : Entry) (row : List ℕ) (f : Formula) → In e entries → In f (formulae_of e) → In row (rows_of (rule_of S f)) → Kind entries row
  unfolding formulae_of
  entry_kind (positions x) row f m k h =
      ⊎_elim (least x m) (λ w. most x w.0 w.1 m w.2 w.3 w.4)
      ((variable_rows S x row (all_at (suits S) ok m)).0 (subst (λ (g : Formula). In row (rows_of (rule_of S g))) (in_one k) h))
  entry_kind (pairs t) row f m k h =
      ⊎_elim (λ n. side_kind t (first_side t) row f m (here refl) n h) (λ n. side_kind t (second_side t) row f m (there (here refl)) n h)
      (in_append (pair_clauses (first_side t)) k)

  -- and there is no other
  pub kind : (row : List ℕ) → In row (all_rows (rules_of S (formulae_of_all entries))) → Kind entries row
  kind row m =
      let r = all_rows_in (rules_of S (formulae_of_all entries)) row m in
      let g = in_of_map (rule_of S) (formulae_of_all entries) r.1 in
      let k = formulae_in_lem entries g.0 g.1 in
      entry_kind k.0 row g.0 k.1 k.2 (subst (λ (rule : Rule). In row (rows_of rule)) (sym g.2) r.2)
