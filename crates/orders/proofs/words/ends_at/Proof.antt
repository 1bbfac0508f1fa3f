-- `words::ends_at` meets its contract: a word that is not there begins at the line's end.
use Rattle.orders.proofs.WordPlaces.{place_at_end}
use Rattle.orders.proofs.words.ends_at.Statement.{statement}
use Rattle.orders.proofs.words.ends_at.Tie as tie

pub ends_at_spec : {M : Type 1} → statement M
ends_at_spec = tie.close (tie.spec (λ c κs. tt) (λ c. place_at_end c.args.k c.word_place.ensures))
