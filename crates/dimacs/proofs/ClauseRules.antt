-- The rows of a clause as a rule: the clause itself, or none if it has a literal and its opposite.
use Rattle.meaning.proofs.Kit.{◌≡◌, ◌∙◌, sym, ap, subst, ⊎_elim, true, false, Bool, cond, ◌&&◌, not, bool_beq, List, [], ◌∷◌, map, In, in_of_map}
use Rattle.meaning.proofs.Kit.{in_map, ◌≤◌, ℕ, arith, eqb, ℤ, nat_abs, length, length-map, eq-eqb, eqb-true}
use Rattle.meaning.specs.Tests.{any, all, keep, member, from}
use Rattle.meaning.specs.Literals.{place, opp}
use Rattle.meaning.specs.Formulae.{look, occurs, rule_of, symbols_of}
use Rattle.meaning.specs.Clauses.{row_of}
use Rattle.meaning.proofs.Tests.{any_at, any_found, any_not, any_same, both_true, clash, false_of, from_in, in_member, keep_same, member_in, one_true_lem}
use Rattle.meaning.proofs.Tests.{or_left, or_right, same_test}
use Rattle.meaning.proofs.Literals.{opp_place, place_same}
use Rattle.meaning.proofs.Formulae.{look_self, symbols_ascend}
use Rattle.meaning.proofs.ClauseRows.{against, always_rows, clause_alone, falsifies_map, unless}
use Rattle.literals.specs.Literal.{in_range, place_of}
use Rattle.dimacs.specs.Clauses.{one_of, rows_of_clause}
use Rattle.dimacs.specs.Gathering.{gathered_rows, gathered}
use Rattle.dimacs.specs.Promises.{ClauseRow, has_opposite, places_in}
use Rattle.dimacs.proofs.GatheredSymbols.{gathered_symbols, place_symbol, symbol_at}
use Rattle.dimacs.proofs.GatheredPlaces.{always_opposite, gathered_in}
use Rattle.dimacs.proofs.PlacedRows.{either, row_again, row_places}
use Rattle.dimacs.proofs.ClauseValues.{always_holds, clause_occurs, clause_value, denied, denied_is, denied_at, literal_place, nonzero}
use Rattle.dimacs.proofs.ClauseValues.{test_symbols}
use Rattle.dimacs.proofs.Tested.{by_test}

-- ---- its one row

module _ (S : ℕ) (first : ℤ) (others : List ℤ) (range : all (in_range S) (first ∷ others) ≡ true) where
  abbrev c : List ℤ
  c = first ∷ others

  abbrev symbols : List ℕ
  symbols = symbols_of S (one_of c)

  -- the symbols, each with the value that the clause denies it
  abbrev values : List Bool
  values = map (denied_at S first others range) symbols

  module _ (free : has_opposite c ≡ false) where
    says_clause : (a : List Bool) → length a ≡ length symbols → (rule_of S (one_of c)).accepts a ≡ unless values a
    says_clause a long =
        let e : ℕ → Bool = look symbols a in
        let f : ℕ → Bool = denied_at S first others range in
        clause_value e first others
        ∙ any_same (λ m. not (bool_beq (denied m) (e (nat_abs m)))) (λ m. not (bool_beq (f (nat_abs m)) (e (nat_abs m)))) c
        (λ m i. ap (λ (b : Bool). not (bool_beq b (e (nat_abs m)))) (sym (denied_is S first others range free m i)))
        ∙ any_not (λ m. bool_beq (f (nat_abs m)) (e (nat_abs m))) c
        ∙ ap not (sym (test_symbols S first others range (λ s. bool_beq (f s) (e s))) ∙ sym (falsifies_map f e symbols))
        ∙ ap (λ (b : List Bool). unless values b) (look_self 0 symbols a (symbols_ascend S (one_of c)) long)

    free_rows : rows_of_clause S c ≡ row_of symbols (against values) ∷ []
    free_rows = clause_alone (rule_of S (one_of c)) values (length-map symbols (denied_at S first others range)) says_clause

  opposite_rows : has_opposite c ≡ true → rows_of_clause S c ≡ []
  opposite_rows h = always_rows (rule_of S (one_of c)) (λ a e. always_holds S first others range h (look symbols a))

  -- in whatever way its row is told
  rows_by : (row : List ℕ) → (has_opposite c ≡ false → row_of symbols (against values) ≡ row) → rows_of_clause S c ≡ cond (has_opposite c) [] (row ∷ [])
  rows_by row f = by_test (has_opposite c) (λ h. rw h (opposite_rows h)) (λ h. rw h (free_rows h ∙ ap (λ (r : List ℕ). r ∷ []) (f h)))

  -- by insertion
  pub symbols_gathered : symbols ≡ map symbol_at (gathered [] c)
  unfolding symbols_of
  symbols_gathered =
      sym (gathered_symbols S c range
      ∙ keep_same (λ s. any (λ l. eqb (nat_abs l) s) c) (λ s. occurs s (one_of c)) (from 1 S) (λ s i. sym (clause_occurs s first others)))

  row_gathered : has_opposite c ≡ false → row_of symbols (against values) ≡ gathered [] c
  row_gathered free =
      let f : ℕ → Bool = denied_at S first others range in
      ap (λ (ss : List ℕ). row_of ss (against (map f ss))) symbols_gathered ∙ row_again f (gathered [] c) is
    where
      is : (q : ℕ) → In q (gathered [] c) → place (symbol_at q) (not (denied_at S first others range (symbol_at q))) ≡ q
      is q i =
          let r = in_of_map place_of c (gathered_in c q i) in
          let l = r.0 in
          let e : symbol_at q ≡ nat_abs l = ap symbol_at (sym r.2) ∙ place_symbol l (nonzero S first others range l r.1) in
          ap (λ (s : ℕ). place s (not (denied_at S first others range s))) e
          ∙ ap (λ (b : Bool). place (nat_abs l) (not b)) (denied_is S first others range free l r.1)
          ∙ sym (literal_place l)
          ∙ r.2

  -- by its places in order
  abbrev among : ℕ → Bool
  among p = member p (map place_of c)

  placed_symbol : (s : ℕ) → 1 ≤ s → occurs s (one_of c) ≡ either among s
  placed_symbol s low = clause_occurs s first others ∙ same_test (any (λ l. eqb (nat_abs l) s) c) (either among s) to back
    where
      by_sign : (b : Bool) → among (place s b) ≡ true → either among s ≡ true
      by_sign true e = or_left (among (place s true)) (among (place s false)) e
      by_sign false e = or_right (among (place s true)) (among (place s false)) e

      to : any (λ l. eqb (nat_abs l) s) c ≡ true → either among s ≡ true
      to h =
          let r = any_found (λ (l : ℤ). eqb (nat_abs l) s) c h in
          let l = r.0 in
          let e : place_of l ≡ place s (not (denied l)) =
          literal_place l ∙ ap (λ (t : ℕ). place t (not (denied l))) (eqb-true (nat_abs l) s r.2) in
          by_sign (not (denied l)) (subst (λ (p : ℕ). among p ≡ true) e (in_member (in_map place_of r.1)))

      found : (b : Bool) → among (place s b) ≡ true → any (λ l. eqb (nat_abs l) s) c ≡ true
      found b h =
          let r = in_of_map place_of c (member_in (place s b) (map place_of c) h) in
          let l = r.0 in
          let e = place_same (nat_abs l) s (not (denied l)) b (nonzero S first others range l r.1) low (sym (literal_place l) ∙ r.2) in
          any_at (λ (l : ℤ). eqb (nat_abs l) s) r.1 (eq-eqb (nat_abs l) s e.0)

      back : either among s ≡ true → any (λ l. eqb (nat_abs l) s) c ≡ true
      back h = ⊎_elim (found true) (found false) (one_true_lem (among (place s true)) (among (place s false)) h)

  symbols_placed : symbols ≡ keep (either among) (from 1 S)
  unfolding symbols_of
  symbols_placed = keep_same (λ s. occurs s (one_of c)) (either among) (from 1 S) (λ s i. placed_symbol s (from_in 1 S s i).0)

  one_sign : has_opposite c ≡ false → (s : ℕ) → among (place s true) && among (place s false) ≡ false
  one_sign free s = false_of (among (place s true) && among (place s false)) both
    where
      both : among (place s true) && among (place s false) ≡ true → ⊥
      both h =
          let w = both_true (among (place s true)) (among (place s false)) h in
          let r = in_of_map place_of c (member_in (place s true) (map place_of c) w.0) in
          clash (any_at (λ (l : ℤ). among (opp (place_of l))) r.1 (ap among (ap opp r.2 ∙ opp_place s true) ∙ w.1)) free

  row_placed : has_opposite c ≡ false → row_of symbols (against values) ≡ places_in S c
  row_placed free =
      ap (λ (ss : List ℕ). row_of ss (against (map (denied_at S first others range) ss))) symbols_placed ∙ row_places among 0 S (one_sign free)

pub clause_row : ClauseRow
clause_row S [] range some = absurd (omega arith)
clause_row S (l ∷ ls) range some = rows_by S l ls range (places_in S (l ∷ ls)) (row_placed S l ls range)

pub clause_rows : (S : ℕ) (c : List ℤ) → all (in_range S) c ≡ true → 1 ≤ length c → rows_of_clause S c ≡ gathered_rows c
clause_rows S [] range some = absurd (omega arith)
clause_rows S (l ∷ ls) range some = rw (always_opposite (l ∷ ls)) (rows_by S l ls range (gathered [] (l ∷ ls)) (row_gathered S l ls range))
