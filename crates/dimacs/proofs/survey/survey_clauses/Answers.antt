-- `survey::survey_clauses` meets its contract: what is found with a clause more.
use Rattle.meaning.proofs.Kit.{◌≡◌, ◌∙◌, sym, ap, refl, true, cond, List, [], ◌<◌, ℕ, arith, length, drop, not-false, not-true}
use Rattle.dimacs.specs.Words.{in_word, since, words}
use Rattle.dimacs.specs.Form.{broken, clause_then, clauses_in}
use Rattle.dimacs.specs.Gathering.{Place, keeps_form, next_clause, past_clause}
use Rattle.dimacs.proofs.Scanning.{place_after}
use Rattle.dimacs.proofs.Splitting.{words_end, words_same, words_some}
use Rattle.dimacs.proofs.Clauses.{first_clause, no_clause}
use Rattle.dimacs.proofs.Surveying.{sofar_none, sofar_broken, sofar_end, sofar_other, sofar_more}
use Rattle.dimacs.proofs.survey.survey_clauses.Goals as goal

pub loop-row-init : goal.loop-row-init
loop-row-init c =
    let a = c.args in
    let r = c.requires in
    let whole = clauses_in a.variables [] (words (drop a.at a.text.now)) in
    (refl, r.0, omega arith, sofar_none a.symbols a.used a.rules a.lent a.clauses whole r.1 r.2 r.4)

pub returns-then-count-clauses : goal.returns-then-count-clauses
returns-then-count-clauses c =
    let none = words_end c.loop-row.i c.next_word-here.ensures c.if-here-text.true in
    sofar_end c.loop-row.invariant.3 (no_clause c.args.variables _ none) c.if-count-clauses.true

pub returns-then-here-text : goal.returns-then-here-text
returns-then-here-text c =
    let none = words_end c.loop-row.i c.next_word-here.ensures c.if-here-text.true in
    c.broken.ensures ∙ sofar_other c.loop-row.invariant.3 (no_clause c.args.variables _ none) c.if-count-clauses.false

-- the clauses from the next word on
first : {text : List ℕ} {here : ℕ} (v i : ℕ) → Place text here (since in_word (drop i text)) → here < length text → let left = words (drop here text) in
    clauses_in v [] (words (drop i text)) ≡ cond (keeps_form v left) (clause_then (next_clause left) (clauses_in v [] (past_clause left))) broken
first {text} {here} v i p more =
    let same = words_same i p in
    let some = ap length (sym same ∙ words_some i p more) in
    ap (λ (ws : List (List ℕ)). clauses_in v [] ws) same ∙ first_clause v (words (drop here text)) (omega (arith, some))

pub returns-then-not-c : goal.returns-then-not-c
returns-then-not-c c =
    let breaks = sym c.gather-c.ensures.is_kept ∙ not-true _ c.if-not-c.true in
    let none = first c.args.variables c.loop-row.i c.next_word-here.ensures (omega arith) ∙ rw breaks in
    c.broken-then-not-c.ensures ∙ sofar_broken c.loop-row.invariant.3 none

pub loop-row-smaller : goal.loop-row-smaller
loop-row-smaller c =
    let g = c.gather-c.ensures in
    let keeps : c.gather-c.result.keeps ≡ true = not-false _ c.if-not-c.false in
    omega (arith, place_after in_word c.loop-row.i c.next_word-here.ensures c.loop-row.invariant.1, g.onward keeps, g.within keeps)

pub loop-row-preserved : goal.loop-row-preserved
loop-row-preserved c =
    let p = c.next_word-here.ensures in
    let g = c.gather-c.ensures in
    let keeps : c.gather-c.result.keeps ≡ true = not-false _ c.if-not-c.false in
    let good = sym g.is_kept ∙ keeps in
    let clause = next_clause (words (drop c.next_word-here.result c.args.text.now)) in
    let next = c.with_clause-found.ensures.with_clause c.args.symbols clause _ (g.holds keeps) in (
      c.gather-c.auto.row ∙ c.loop-row.invariant.0,
      g.within keeps,
      omega (arith, place_after in_word c.loop-row.i p c.loop-row.invariant.1, g.onward keeps),
      sofar_more c.loop-row.invariant.3 clause (first c.args.variables c.loop-row.i p (omega arith) ∙ rw (good, g.rest keeps)) next,
    )
