-- `rules::add_formula` meets its contract: what it tests are the last three faults of `rule_faults`, in their order.
use Rattle.meaning.proofs.Kit.{◌≡◌, ◌∙◌, sym, ap, refl, true, List, ℕ, arith, ⊎_elim}
use Rattle.std.specs.Prelude.{Option, Some, Err}
use Rattle.meaning.specs.Formulae.{rule_of}
use Rattle.meaning.specs.Clauses.{rows_of}
use Rattle.literals.specs.Row.{rows_lent}
use Rattle.literals.specs.declared.refusal.Refusal.TheVariants.{TooManySymbols, NoAssignment, TableFull}
use Rattle.formula.specs.Parse.{parse, levels, whole_of}
use Rattle.formula.specs.Answers.{is_good, names_of, formula_of}
use Rattle.formula.specs.declared.naming.Names.{Names}
use Rattle.implicates.proofs.Rules.{told_unsatisfiable, told_full, told_rows, fits_facts}
use Rattle.board.specs.Rules.{no_place, rule_faults, ruled, ruled_table}
use Rattle.board.proofs.Goodness.{good_is}
use Rattle.board.proofs.Adding.{Listed, listed, too_many_lem, whole_is, because, rule_refused, rule_done}
use Rattle.board.proofs.rules.add_formula.Goals as goal

-- the names that are listed of the front are those of the whole bytes
of_whole : (S : ℕ) (bytes : List ℕ) {names : Option Names} → is_good (whole_of S bytes) ≡ true → names ≡ names_of S (parse S levels bytes)
    → names ≡ names_of S (whole_of S bytes)
of_whole S bytes well told = told ∙ ap (names_of S) (sym (whole_is S bytes well))

list_of : (S : ℕ) (bytes : List ℕ) {names : Names} → is_good (whole_of S bytes) ≡ true → Some names ≡ names_of S (parse S levels bytes)
    → Listed S (whole_of S bytes) names
list_of S bytes well told = listed S (whole_of S bytes) well (of_whole S bytes well told)

pub symbols_of-requires-clause-symbols_bound : goal.symbols_of-requires-clause-symbols_bound
symbols_of-requires-clause-symbols_bound c = (good_is _ _ c.requires.board_value).sound.symbols

pub symbols_of-requires-clause-bytes_value : goal.symbols_of-requires-clause-bytes_value
symbols_of-requires-clause-bytes_value c =
    let well = c.requires.bytes_value in ap is_good (sym (whole_is c.args.board.symbols c.args.bytes.now well)) ∙ well

pub returns-in-None : goal.returns-in-None
unfolding rule_faults
returns-in-None c =
    let S = c.args.board.symbols in
    let bytes = c.args.bytes.now in
    let well = c.requires.bytes_value in
    let many = too_many_lem S (whole_of S bytes) well (of_whole S bytes well c.in-None.ensures) in
    let all = rule_refused c.args.table.now c.args.board bytes TooManySymbols (rw (c.requires.board_value, well, many)) refl in
    record { value = c.refused.ensures ∙ all.0; table_after = all.1 }

pub slice_bounds-list-end : goal.slice_bounds-list-end
slice_bounds-list-end c = (list_of c.args.board.symbols c.args.bytes.now c.requires.bytes_value c.in-Some.ensures).room

pub slice_bounds-append-end : goal.slice_bounds-append-end
slice_bounds-append-end c = sym (list_of c.args.board.symbols c.args.bytes.now c.requires.bytes_value c.in-Some.ensures).long

pub append-requires : goal.append-requires
append-requires c =
    let good = good_is _ _ c.requires.board_value in
    let l = list_of c.args.board.symbols c.args.bytes.now c.requires.bytes_value c.in-Some.ensures in
    record {
      symbols_bound = (good.sound.symbols, good.few, good.lent, c.requires.bytes_value);
      names_len_bound = (omega (arith, l.long, l.most), l.is);
    }

pub overflow_add-next : goal.overflow_add-next
overflow_add-next c =
    let b = c.args.board in
    let rule = rule_of b.symbols (formula_of (whole_of b.symbols c.args.bytes.now)) in
    let lent = rows_lent c.args.table.now in
    let r = because rule b.rows b.rules lent (sym c.in-Ok.ensures.value) in
    omega (arith, r.2, (fits_facts b.rows b.rules lent (rows_of rule) r.1).0)

pub overflow_add-next-in-Ok : goal.overflow_add-next-in-Ok
overflow_add-next-in-Ok c = omega (arith, (good_is _ _ c.requires.board_value).few)

pub returns-in-Err : goal.returns-in-Err
unfolding rule_faults
returns-in-Err c =
    let b = c.args.board in
    let table = c.args.table.now in
    let bytes = c.args.bytes.now in
    let well = c.requires.bytes_value in
    let rule = rule_of b.symbols (formula_of (whole_of b.symbols bytes)) in
    let lent = rows_lent table in
    let few = (list_of b.symbols bytes well c.in-Some.ensures).few in
    let left = c.append.ensures.table_after in
    let all =
    ⊎_elim
    {C = (record { outcome = Err c.in-Err.why; place = no_place; added = 0; board = b } ≡ ruled table b bytes)
    × (c.append.new.table ≡ ruled_table table b bytes)}
    (λ u.
    let told = rule_refused table b bytes NoAssignment (rw (c.requires.board_value, well, few, u.1)) refl in
    (rw u.0 told.0, left ∙ sym (told_unsatisfiable rule b.rows b.rules lent table u.1).1 ∙ told.1))
    (λ f.
    let told = rule_refused table b bytes TableFull (rw (c.requires.board_value, well, few, f.1, f.2)) refl in
    (rw f.0 told.0, left ∙ sym (told_full rule b.rows b.rules lent table f.1 f.2).1 ∙ told.1))
    (because rule b.rows b.rules lent (sym c.in-Err.ensures.value)) in
    record { value = c.refused-in-Err.ensures ∙ all.0; table_after = all.1 }

pub returns-in-Ok : goal.returns-in-Ok
unfolding rule_faults
returns-in-Ok c =
    let b = c.args.board in
    let table = c.args.table.now in
    let well = c.requires.bytes_value in
    let rule = rule_of b.symbols (formula_of (whole_of b.symbols c.args.bytes.now)) in
    let few = (list_of b.symbols c.args.bytes.now well c.in-Some.ensures).few in
    let r = because rule b.rows b.rules (rows_lent table) (sym c.in-Ok.ensures.value) in
    let all = rule_done table b c.args.bytes.now (rw (c.requires.board_value, well, few, r.0, r.1)) in
    record {
      value = rw r.2 all.0;
      table_after = c.append.ensures.table_after ∙ sym (told_rows rule b.rows b.rules (rows_lent table) table r.0 r.1).1 ∙ all.1;
    }
