-- Fewer premises derive no more, and bring no conflict; more rows and premises derive no less. Premises that are the same at all places derive the
-- same.
use Rattle.meaning.proofs.Kit.{◌≡◌, ap, refl, true, false, Bool, List, In, ℕ, ◌<◌, suc, zero}
use Rattle.meaning.specs.Literals.{has, Within, conflict}
use Rattle.meaning.specs.Rounds.{by_rows, next, reached, after, derived}
use Rattle.meaning.specs.Promises.{Derived, premise, by_row}
use Rattle.meaning.proofs.Tables.{tabulate_same}
use Rattle.meaning.proofs.Literals.{conflict_within}
use Rattle.meaning.proofs.Rounds.{reached_grows}
use Rattle.meaning.proofs.Ways.{rows_grow}

module _ (places : ℕ) (rows : List (List ℕ)) (less held : List Bool) (fewer : Within less held) where
  -- no more is known in any round,
  pub known_before : (k : ℕ) → Within (after places rows less k) (after places rows held k)
  known_before k = reached_grows places (by_rows rows) (rows_grow rows) less held fewer k

  -- so no conflict comes up
  pub no_conflict_more : conflict (derived places rows less) ≡ true → conflict (derived places rows held) ≡ true
  no_conflict_more c = conflict_within (derived places rows less) (derived places rows held) (known_before places) c

-- what is derived stays so with rows and premises more
pub derived_grows : {places : ℕ} {rows more : List (List ℕ)} {held now : List Bool} → ((row : List ℕ) → In row rows → In row more) → Within held now
    → {p : ℕ} → Derived places rows held p → Derived places more now p
derived_grows kept held (premise low h) = premise low (held _ h)
derived_grows kept held (by_row row r m low others) = by_row row (kept row r) m low (λ q i n. derived_grows kept held (others q i n))

-- only the premises at a literal's place count
pub same_known : (places : ℕ) (rows : List (List ℕ)) (a b : List Bool) → ((p : ℕ) → p < places → has a p ≡ has b p)
    → (k : ℕ) → after places rows a k ≡ after places rows b k
unfolding reached
same_known places rows a b f zero = tabulate_same false places places (λ p. has a p) (λ p. has b p) refl f
same_known places rows a b f (suc k) = ap (λ (known : List Bool). next places (by_rows rows) known) (same_known places rows a b f k)
