-- Each public function's contract leaves one answer.
use Rattle.meaning.proofs.Kit.{◌≡◌, ◌∙◌, sym, ap, refl, List, ℕ, arith, length, length-drop}
use Rattle.meaning.proofs.Answers.{One, ◌&◌}
use Rattle.dimacs.specs.Gathering.{Place}
use Rattle.dimacs.specs.contracts as contract'
use Rattle.dimacs.proofs as dimacs

-- a text has one place from which on these bytes stand
one_place : (text : List ℕ) {rest : List ℕ} {r s : ℕ} → Place text r rest → Place text s rest → r ≡ s
one_place text {r = r} {s = s} p q =
    omega (arith, p.within, q.within, length-drop r text, length-drop s text, ap length (p.stands ∙ sym q.stands))

one_header_place : One contract'.header.header_place.ended dimacs.header.header_place.Reads.Post
one_header_place κs a x y = (one_place _ x.allowed y.allowed, refl)

one_header_in : One contract'.header.header_in.ended dimacs.header.header_in.Reads.Post
one_header_in κs a x y = (cc, refl)

one_header : One contract'.header.header.ended dimacs.header.header.Reads.Post
one_header κs a x y = (cc, refl)

one_read : One contract'.reading.read.ended dimacs.reading.read.Reads.Post
one_read κs a x y = (cc, refl & (cc) & refl)

one_write : One contract'.writing.write.ended dimacs.writing.write.Reads.Post
one_write κs a x y = (cc, refl & refl & (cc) & refl)
