-- Each public function's contract leaves one answer.
use Rattle.meaning.proofs.Kit.{◌≡◌, ◌∙◌, sym, ap, refl, List, ℕ, arith, ℤ, length, length-drop}
use contract.Lifetimes.{Lfts}
use denote.Triple.Entry.{Args}
use Rattle.meaning.proofs.Answers.{Answer, One, ◌&◌}
use Rattle.dimacs.specs.Gathering.{Place}
use Rattle.orders.specs.States.{State, state_of}
use Rattle.orders.specs.declared.Desk.{Desk}
use Rattle.orders.specs.contracts as contract'
use Rattle.orders.proofs as orders

-- ---- words

-- a line has one place from which on these bytes stand
one_place : (line : List ℕ) {rest : List ℕ} {r s : ℕ} → Place line r rest → Place line s rest → r ≡ s
one_place line {r = r} {s = s} p q =
    omega (arith, p.within, q.within, length-drop r line, length-drop s line, ap length (p.stands ∙ sym q.stands))

one_is_between : One contract'.words.is_between.ended orders.words.is_between.Reads.Post
one_is_between κs a x y = (cc, refl)

one_word_place : One contract'.words.word_place.ended orders.words.word_place.Reads.Post
one_word_place κs a x y = (one_place _ x.allowed y.allowed, refl)

-- the part of the line that is answered: the same bytes
one_rest : (κs : Lfts 1) (a : Args contract'.words.rest.signature κs) (x y : Answer contract'.words.rest.ended orders.words.rest.Reads.Post κs a) →
    x.result.now ≡ y.result.now
one_rest κs a x y = cc

one_word : (κs : Lfts 1) (a : Args contract'.words.word.signature κs) (x y : Answer contract'.words.word.ended orders.words.word.Reads.Post κs a) →
    x.result.now ≡ y.result.now
one_word κs a x y = cc

one_ends_at : One contract'.words.ends_at.ended orders.words.ends_at.Reads.Post
one_ends_at κs a x y = (cc, refl)

-- ---- what a word says

one_number_in : One contract'.reading.number_in.ended orders.reading.number_in.Reads.Post
one_number_in κs a x y = (cc, refl)

one_symbol_in : One contract'.reading.symbol_in.ended orders.reading.symbol_in.Reads.Post
one_symbol_in κs a x y = (cc, refl)

one_literal_in : One contract'.reading.literal_in.ended orders.reading.literal_in.Reads.Post
one_literal_in κs a x y = (cc, refl)

one_order_of : One contract'.order.order_of.ended orders.order.order_of.Reads.Post
one_order_of κs a x y = (cc, refl)

-- ---- marks

one_table_fits : One contract'.marks.table_fits.ended orders.marks.table_fits.Reads.Post
one_table_fits κs a x y = (cc, refl)

one_pairs_in : One contract'.marks.pairs_in.ended orders.marks.pairs_in.Reads.Post
one_pairs_in κs a x y = (cc, refl)

-- ---- a line taken

-- a state has one desk, one table and one table of names
one_desk : {d e : Desk} {t u : List ℤ} {n m : List ℕ} → state_of d t n ≡ state_of e u m → (d ≡ e) × (t ≡ u) × (n ≡ m)
one_desk s = (
  ap (λ (x : State). record { board = x.world.board; stacks = x.world.stacks; furnace = x.furnace }) s,
  ap (λ (x : State). x.world.table) s,
  ap (λ (x : State). x.names) s,
)

one_take : One contract'.taking.take.ended orders.taking.take.Reads.Post
one_take κs a x y =
    let same = one_desk (x.allowed.moved ∙ sym y.allowed.moved) in
    let told = x.allowed.says ∙ sym y.allowed.says in
    (λ i. record { desk = same.0 i; told = told i }, refl & same.1 & same.2 & refl & refl)
