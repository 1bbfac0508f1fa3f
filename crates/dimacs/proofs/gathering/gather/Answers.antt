-- `gathering::gather` meets its contract: a literal more, up to the clause's end or what breaks the form.
use Rattle.meaning.proofs.Kit.{◌≡◌, ◌∙◌, refl, false, List, ℕ, ◌<◌, arith, length, drop}
use Rattle.meaning.proofs.Tests.{clash}
use Rattle.dimacs.specs.Words.{in_word, is_gap, literal_of, up_to, words}
use Rattle.dimacs.specs.declared.gathering.Kept.{Kept}
use Rattle.dimacs.specs.Gathering.{Gathers, keeps_form}
use Rattle.dimacs.proofs.Scanning.{place_after}
use Rattle.dimacs.proofs.Literals.{literal_most}
use Rattle.dimacs.proofs.Splitting.{word_passed, words_end, words_word}
use Rattle.dimacs.proofs.FirstClause.{begun_none, begun_end, begun_beyond, begun_more, ended_keeps, ended_holds, ended_past}
use Rattle.dimacs.proofs.gathering.gather.Goals as goal

pub loop-k-init : goal.loop-k-init
loop-k-init c =
    let a = c.args in
    (omega arith, c.requires.0, omega arith, refl, begun_none a.symbols a.variables (words (drop a.at a.text.now)) a.row.now)

-- where the form is broken, nothing else is told
broken : {S v : ℕ} {text row : List ℕ} {from end : ℕ} {k : Kept} → false ≡ keeps_form v (words (drop from text))
    → Gathers S v text from row (record { kept = k; end = end; keeps = false })
broken e = record {
  is_kept = e;
  holds = λ k. clash k refl;
  within = λ k. clash k refl;
  onward = λ k. clash k refl;
  rest = λ k. clash k refl;
}

pub returns-then-here-text : goal.returns-then-here-text
returns-then-here-text c = broken (begun_end c.loop-k.invariant.4 (words_end c.loop-k.i c.next_word-here.ensures c.if-here-text.true))

pub returns-then-variables-l : goal.returns-then-variables-l
returns-then-variables-l c =
    let l = c.literal_at-l.ensures in
    broken (begun_beyond c.loop-k.invariant.4 (words_word c.loop-k.i c.next_word-here.ensures (omega arith) l.place) l.spells.size c.if-variables-l.true)

pub returns-then-l-eq0 : goal.returns-then-l-eq0
returns-then-l-eq0 c =
    let begun = c.loop-k.invariant.4 in
    let i = c.loop-k.i in
    let p = c.next_word-here.ensures in
    let l = c.literal_at-l.ensures in
    let more : c.next_word-here.result < length c.args.text.now = omega arith in
    let there = words_word i p more l.place in
    record {
      is_kept = ended_keeps begun there l.spells.size c.if-variables-l.false c.if-l-eq0.true;
      holds = λ k. ended_holds begun there l.spells.size c.if-variables-l.false c.if-l-eq0.true;
      within = λ k. l.place.within;
      onward = λ k. omega (arith, place_after in_word i p c.loop-k.invariant.1, word_passed i p more l.place);
      rest = λ k. ended_past begun there l.spells.size c.if-variables-l.false c.if-l-eq0.true;
    }

pub take_in-k-requires : goal.take_in-k-requires
take_in-k-requires c =
    let l = c.literal_at-l.ensures in (
      omega arith,
      omega (arith, l.spells.size, literal_most (up_to is_gap (drop c.next_word-here.result c.args.text.now))),
      c.loop-k.invariant.2,
      c.loop-k.invariant.3 ∙ c.requires.1,
    )

pub loop-k-smaller : goal.loop-k-smaller
loop-k-smaller c =
    let i = c.loop-k.i in
    let p = c.next_word-here.ensures in
    let l = c.literal_at-l.ensures in
    omega (arith, place_after in_word i p c.loop-k.invariant.1, word_passed i p (omega arith) l.place, l.place.within)

pub loop-k-preserved : goal.loop-k-preserved
loop-k-preserved c =
    let begun = c.loop-k.invariant.4 in
    let i = c.loop-k.i in
    let p = c.next_word-here.ensures in
    let l = c.literal_at-l.ensures in
    let t = c.take_in-k in
    let more : c.next_word-here.result < length c.args.text.now = omega arith in
    let word = up_to is_gap (drop c.next_word-here.result c.args.text.now) in
    let held = t.ensures.step begun.literals (literal_of word) l.spells.size l.spells.sign begun.holds in (
      omega (arith, place_after in_word i p c.loop-k.invariant.1, word_passed i p more l.place),
      l.place.within,
      omega (arith, t.ensures.fits, t.auto.row),
      t.auto.row ∙ c.loop-k.invariant.3,
      begun_more begun (words_word i p more l.place) l.spells.size c.if-variables-l.false c.if-l-eq0.false held,
    )
