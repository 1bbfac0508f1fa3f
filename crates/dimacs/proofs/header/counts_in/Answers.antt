-- `header::counts_in` meets its contract: a word, a word, and nothing.
use Rattle.meaning.proofs.Kit.{◌∙◌, sym, arith, lt-ltb, le-ltb}
use Rattle.dimacs.specs.Words.{beyond}
use Rattle.dimacs.proofs.Splitting.{words_end, words_some, words_word}
use Rattle.dimacs.proofs.Heading.{counts_none, counts_one, counts_two, counts_three}
use Rattle.dimacs.proofs.header.counts_in.Goals.{else-v-lt-BEYOND-via-then-v-lt-BEYOND+else-n-lt-BEYOND, else-v-lt-BEYOND-via-else-v-lt-BEYOND}
use Rattle.dimacs.proofs.header.counts_in.Goals as goal

pub returns-then-first-line : goal.returns-then-first-line
returns-then-first-line c = counts_none (words_end 0 c.next_word-first.ensures c.if-first-line.true)

pub returns-then-second-line : goal.returns-then-second-line
returns-then-second-line c =
    let p = c.next_word-first.ensures in
    let first = words_word 0 p (omega (arith, p.within, c.if-first-line.false)) c.number_at-v.ensures.place in
    counts_one first (words_end c.number_at-v.result.end c.next_word-second.ensures c.if-second-line.true)

pub returns-then-last-line : goal.returns-then-last-line
returns-then-last-line c =
    let p = c.next_word-first.ensures in
    let q = c.next_word-second.ensures in
    let first = words_word 0 p (omega (arith, p.within, c.if-first-line.false)) c.number_at-v.ensures.place in
    let second = words_word c.number_at-v.result.end q (omega (arith, q.within, c.if-second-line.false)) c.number_at-n.ensures.place in
    counts_three first second (words_some c.number_at-n.result.end c.next_word-last.ensures c.if-last-line.true)

pub returns-then-n-lt-BEYOND : goal.returns-then-n-lt-BEYOND
returns-then-n-lt-BEYOND c =
    let p = c.next_word-first.ensures in
    let q = c.next_word-second.ensures in
    let r = c.next_word-last.ensures in
    let first = words_word 0 p (omega (arith, p.within, c.if-first-line.false)) c.number_at-v.ensures.place in
    let second = words_word c.number_at-v.result.end q (omega (arith, q.within, c.if-second-line.false)) c.number_at-n.ensures.place in
    let none = words_end c.number_at-n.result.end r (omega (arith, r.within, c.if-last-line.false)) in
    let two = counts_two first second none c.number_at-v.ensures.value_value c.number_at-n.ensures.value_value in
    sym (two ∙ rw (lt-ltb _ beyond c.if-v-lt-BEYOND.true, lt-ltb _ beyond c.if-n-lt-BEYOND.true))

pub returns : goal.returns
returns c =
    let p = c.next_word-first.ensures in
    let q = c.next_word-second.ensures in
    let r = c.next_word-last.ensures in
    let first = words_word 0 p (omega (arith, p.within, c.if-first-line.false)) c.number_at-v.ensures.place in
    let second = words_word c.number_at-v.result.end q (omega (arith, q.within, c.if-second-line.false)) c.number_at-n.ensures.place in
    let none = words_end c.number_at-n.result.end r (omega (arith, r.within, c.if-last-line.false)) in
    let two = counts_two first second none c.number_at-v.ensures.value_value c.number_at-n.ensures.value_value in
    elim c.else-v-lt-BEYOND.branch [
      | else-v-lt-BEYOND-via-then-v-lt-BEYOND+else-n-lt-BEYOND w ↦
          sym (two ∙ rw (lt-ltb _ beyond w.if-v-lt-BEYOND.true, le-ltb _ beyond w.if-n-lt-BEYOND.false))
      | else-v-lt-BEYOND-via-else-v-lt-BEYOND w ↦ sym (two ∙ rw (le-ltb _ beyond w.if-v-lt-BEYOND.false))
    ]
