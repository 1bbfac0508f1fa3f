-- `append_rule` meets its contract: the table of hits is filled and tells whether the rule is satisfiable, the table of primes that is
-- written over it has the rule's prime implicates, and those that fit are appended.
use Rattle.meaning.proofs.Kit.{◌≡◌, ◌∙◌, sym, ap, ap₂, inl, inr, ◌⊎◌, false, Bool, List, ◌++◌, map, ◌≤◌, ℕ, ◌<◌, ◌-◌, ◌+◌, ◌^◌}
use Rattle.meaning.proofs.Kit.{add-one, arith, length, get_or, take, replicate, length-map, length-replicate, length-take-le}
use Rattle.meaning.specs.Clauses.{in_order, row_of, rows_of, satisfiable}
use Rattle.literals.specs.Row.{most_rules, of_rule}
use Rattle.implicates.specs.Hits.{hit_table, marked, prime_table}
use Rattle.implicates.specs.Appending.{rule_by, appended}
use Rattle.std.specs.Prelude.{Ok}
use Rattle.implicates.proofs.Numbers.{clauses_some, clauses_more}
use Rattle.implicates.proofs.Table.{length_hit_table, length_prime_table}
use Rattle.implicates.proofs.Rules.{Front, front_of, hits_last, primes_listed, told_unsatisfiable, told_full, told_rows, fits_not, fits_so}
use Rattle.implicates.proofs.append_rule.Goals.{then-lent-used-via-then-lent-used, then-lent-used-via-else-lent-used+then-rules-eq-MOST_RULES}
use Rattle.implicates.proofs.append_rule.Goals as goal

-- the local table, before anything is written
abbrev blank : List Bool
blank = replicate 6561 false

-- of so many clauses over the rule's symbols, the tables with the hits and with the primes over them, and what they tell of the rule
module _ (symbols : List ℕ) (truth : List Bool) {count : ℕ} (is : count ≡ 3 ^ length symbols) where
  room : length symbols ≤ 8 → count ≤ 6561
  room h = omega (arith, is, clauses_more (length symbols) 8 h)

  blank_long : length symbols ≤ 8 → length (take count blank) ≡ count
  blank_long h = length-take-le count blank (rw length-replicate (room h))

  module _ {hits : List Bool} (filled : hits ≡ hit_table (length symbols) truth) (rest : List Bool) where
    hits_in : Front count (hit_table (length symbols) truth) (hits ++ rest)
    hits_in = front_of rest filled (length_hit_table (length symbols) truth ∙ sym is)

    last_tells : get_or (hits ++ rest) (count - 1) false ≡ satisfiable (rule_by symbols truth)
    last_tells = hits_last (length symbols) truth (hits ++ rest) hits_in is

    module _ {primes : List Bool} (over : primes ≡ prime_table (length symbols) (take count (hits ++ rest))) (left : List Bool) where
      primes_in : Front count (prime_table (length symbols) (hit_table (length symbols) truth)) (primes ++ left)
      primes_in =
          let n = length symbols in
          front_of left (over ∙ ap (prime_table n) hits_in.is) (length_prime_table n (hit_table n truth) ∙ sym is)

      rows_are : map (row_of symbols) (in_order (marked (take count (primes ++ left))) (length symbols)) ≡ rows_of (rule_by symbols truth)
      rows_are =
          let n = length symbols in
          ap (map (row_of symbols)) (ap (λ (p : List Bool). in_order (marked p) n) primes_in.is ∙ primes_listed n truth)

      counted : {rows : ℕ} → rows ≡ length (in_order (marked (take count (primes ++ left))) (length symbols))
          → rows ≡ length (rows_of (rule_by symbols truth))
      counted e = e ∙ sym (length-map _ (row_of symbols)) ∙ ap length rows_are

pub slice_bounds-clauses-end : goal.slice_bounds-clauses-end
slice_bounds-clauses-end c = room c.args.symbols.now c.args.truth.now c.clause_count-count.ensures c.requires.symbols_len_bound.0

pub slice_bounds-fill_hits-end : goal.slice_bounds-fill_hits-end
slice_bounds-fill_hits-end c = sym (blank_long c.args.symbols.now c.args.truth.now c.clause_count-count.ensures c.requires.symbols_len_bound.0)

pub fill_hits-requires : goal.fill_hits-requires
fill_hits-requires c =
    let is = c.clause_count-count.ensures in
    let bound = c.requires.symbols_len_bound in
    (bound.2, blank_long c.args.symbols.now c.args.truth.now is bound.0 ∙ is)

pub overflow_sub-count : goal.overflow_sub-count
overflow_sub-count c = omega (arith, c.clause_count-count.ensures, clauses_some (length c.args.symbols.now))

pub bounds-clauses-count : goal.bounds-clauses-count
bounds-clauses-count c =
    let is = c.clause_count-count.ensures in
    let room = room c.args.symbols.now c.args.truth.now is c.requires.symbols_len_bound.0 in
    omega (arith, room, is, clauses_some (length c.args.symbols.now))

pub returns-then-not-clauses-count : goal.returns-then-not-clauses-count
returns-then-not-clauses-count c =
    let a = c.args in
    let is = c.clause_count-count.ensures in
    let last = last_tells a.symbols.now a.truth.now is c.fill_hits.ensures _ in
    let told = told_unsatisfiable (rule_by a.symbols.now a.truth.now) a.used a.rules a.lent a.table.now (sym last ∙ c.if-not-clauses-count.true) in
    record { value = told.0; table_after = told.1 }

pub returns-then-lent-used : goal.returns-then-lent-used
returns-then-lent-used c =
    let a = c.args in
    let rule = rule_by a.symbols.now a.truth.now in
    let is = c.clause_count-count.ensures in
    let satisfied = sym (last_tells a.symbols.now a.truth.now is c.fill_hits.ensures _) ∙ c.if-not-clauses-count.false in
    let rows = counted a.symbols.now a.truth.now is c.fill_hits.ensures _ c.mark_primes.ensures _ c.row_count-rows.ensures in
    let full : (a.lent < a.used + length (rows_of rule)) ⊎ (a.rules ≡ most_rules) = elim c.then-lent-used.branch [
      | then-lent-used-via-then-lent-used w ↦ inl (omega (arith, rows, w.if-lent-used.true, c.requires.used_le_lent.0))
      | then-lent-used-via-else-lent-used+then-rules-eq-MOST_RULES w ↦ inr w.if-rules-eq-MOST_RULES.true
    ] in
    let told = told_full rule a.used a.rules a.lent a.table.now satisfied (fits_not a.used a.rules a.lent (rows_of rule) full) in
    record { value = told.0; table_after = told.1 }

pub returns : goal.returns
returns c =
    let a = c.args in
    let ss = a.symbols.now in
    let rule = rule_by ss a.truth.now in
    let is = c.clause_count-count.ensures in
    let satisfied = sym (last_tells ss a.truth.now is c.fill_hits.ensures _) ∙ c.if-not-clauses-count.false in
    let rows = counted ss a.truth.now is c.fill_hits.ensures _ c.mark_primes.ensures _ c.row_count-rows.ensures in
    let same = rows_are ss a.truth.now is c.fill_hits.ensures _ c.mark_primes.ensures _ in
    let room : a.used + length (rows_of rule) ≤ a.lent = omega (arith, rows, c.if-lent-used.false, c.requires.used_le_lent.0) in
    let told = told_rows rule a.used a.rules a.lent a.table.now satisfied
    (fits_so a.used a.rules a.lent (rows_of rule) room c.if-rules-eq-MOST_RULES.false) in
    record {
      value = ap Ok rows ∙ told.0;
      table_after =
          c.append_primes.ensures.table_after
          ∙ ap₂ (λ (rows : List (List ℕ)) (n : ℕ). appended a.table.now a.used (of_rule n rows)) same (add-one a.rules) ∙ told.1;
    }
