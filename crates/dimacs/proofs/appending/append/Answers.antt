-- `appending::append` meets its contract: the row of a clause more.
use Rattle.meaning.proofs.Kit.{◌∙◌, sym, ap, refl, List, ◌≤◌, ◌<◌, ℕ, arith, ℤ, length, drop}
use Rattle.dimacs.specs.Words.{in_word, since, words}
use Rattle.dimacs.specs.Gathering.{Place}
use Rattle.dimacs.proofs.Scanning.{place_after}
use Rattle.dimacs.proofs.Splitting.{words_end, words_same, words_some}
use Rattle.dimacs.proofs.LastPass.{Left, Next, next, kept_count, kept_rows, kept_small, left_end, left_next, left_number, left_room, left_start}
use Rattle.dimacs.proofs.appending.append.Goals as goal

-- the clause at the next word
turn : {S lent v : ℕ} {text : List ℕ} {whole table : List ℤ} {long i row rules here : ℕ} → Left S lent v text whole long i row rules table
    → Place text here (since in_word (drop i text)) → here < length text → 1 ≤ S → S ≤ 200 → Next S lent v row rules (words (drop here text))
turn {S} {lent} {v} {text} {i = i} {row = row} {rules = rules} {here = here} l p more some most =
    let same = words_same i p in
    next S lent v row rules (words (drop here text)) some most (omega (arith, ap length (sym same ∙ words_some i p more))) (rw same at l.done)

pub loop-places-init : goal.loop-places-init
loop-places-init c =
    let a = c.args in
    let r = c.requires.at_in_bounds in
    (refl, left_start a.at a.used a.rules a.table.now r.0 r.3 r.4 c.requires.text_value)

pub returns-then-here-text : goal.returns-then-here-text
returns-then-here-text c = left_end c.loop-places.invariant.1 (words_end c.loop-places.i c.next_word-here.ensures c.if-here-text.true)

pub append_clause-row-requires : goal.append_clause-row-requires
append_clause-row-requires c =
    let l = c.loop-places.invariant.1 in
    let p = c.next_word-here.ensures in
    let t = turn l p (omega arith) c.requires.at_in_bounds.1 c.requires.at_in_bounds.2 in
    let g = c.gather-c in
    let holds = g.ensures.holds (g.ensures.is_kept ∙ t.keeps) in
    let count = kept_count t holds in
    record {
      count_in_bounds = (omega (arith, count, g.auto.row), count, kept_small t holds, left_number l t);
      room = left_room l (words_same c.loop-places.i p) t (omega arith) (kept_rows t holds);
    }

pub loop-places-smaller : goal.loop-places-smaller
loop-places-smaller c =
    let l = c.loop-places.invariant.1 in
    let p = c.next_word-here.ensures in
    let t = turn l p (omega arith) c.requires.at_in_bounds.1 c.requires.at_in_bounds.2 in
    let g = c.gather-c.ensures in
    let keeps = g.is_kept ∙ t.keeps in
    omega (arith, place_after in_word c.loop-places.i p l.within, g.onward keeps, g.within keeps)

pub loop-places-preserved : goal.loop-places-preserved
loop-places-preserved c =
    let l = c.loop-places.invariant.1 in
    let p = c.next_word-here.ensures in
    let t = turn l p (omega arith) c.requires.at_in_bounds.1 c.requires.at_in_bounds.2 in
    let g = c.gather-c.ensures in
    let keeps = g.is_kept ∙ t.keeps in
    let a = c.append_clause-row.ensures in (
      c.gather-c.auto.row ∙ c.loop-places.invariant.0,
      left_next l (words_same c.loop-places.i p) t (omega arith) (kept_rows t (g.holds keeps)) a.table_after a.value (g.within keeps) (g.rest keeps),
    )
