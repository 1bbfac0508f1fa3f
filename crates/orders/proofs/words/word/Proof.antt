-- `words::word` meets its contract: the part of the line from where the word begins to where it ends.
use Rattle.meaning.proofs.Kit.{◌≤◌, arith}
use Rattle.orders.proofs.WordPlaces.{word_goes_on, word_part}
use Rattle.orders.proofs.words.word.Statement.{statement}
use Rattle.orders.proofs.words.word.Tie as tie

goes_on_lem : (c : tie.After-word_end-to) → c.word_place-from.result ≤ c.word_end-to.result
goes_on_lem c = word_goes_on c.args.k c.word_place-from.ensures c.word_end-to.ensures

returns : tie.Need-returns
returns c = word_part c.args.k c.word_place-from.ensures c.word_end-to.ensures

pub word_spec : {M : Type 1} → statement M
word_spec = tie.close (tie.spec
    (λ c κs. tt) (λ c κs. c.word_place-from.ensures.within) (λ c. omega (arith, goes_on_lem c)) (λ c. omega (arith, goes_on_lem c))
    (λ c. omega (arith, c.word_end-to.ensures.within)) returns)
