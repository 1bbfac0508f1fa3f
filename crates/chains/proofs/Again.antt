-- What is written of a formula is read as that formula, all of it.
use Rattle.meaning.proofs.Kit.{◌≡◌, ◌∙◌, ap, refl, false, List, [], ◌∷◌, ◌++◌, append-nil, append_assoc, ◌≤◌, ℕ, ◌+◌, suc, zero, arith, length, get_or}
use Rattle.meaning.proofs.Kit.{length-append, drop-append_seam, eq-eqb}
use Rattle.chains.proofs.Words.{Formula, symbol, neg, joined, good, Join, goes_on, unit_of, at_close, closed, bracket_at, unit_at, chain_at}
use Rattle.chains.proofs.Words.{most_open, whole_text, pair, bracketed, mark_of, unit_text, spelled}
use Rattle.formula.proofs.Steps.{Taken, one, not, two, taken}
use Rattle.chains.specs.Promises.{Says, SpelledSays}
use Rattle.chains.proofs.Joins.{spelled_joined, unit_joined, mark_joins, mark_goes}
use Rattle.chains.proofs.Numerals.{Stops, end_stops, close_stops, mark_stops, lead_space, number_unit}
use Rattle.chains.proofs.Links.{chain_one, chain_two}

-- a text is read as a unit, all of it, whatever may follow
abbrev ReadAs : ℕ → List ℕ → Formula → Type 0
ReadAs b text f = (rest : List ℕ) → Stops rest → unit_at b (text ++ rest) ≡ good f (length text)

module _ (b : ℕ) (join : Join) (f g : Formula) (left : ReadAs b (unit_text f) f) (right : ReadAs b (unit_text g) g) where
  abbrev both : List ℕ
  both = pair (mark_of join) (unit_text f) (unit_text g)

  pair_read : (tail : List ℕ) → Stops tail → goes_on (mark_of join) (get_or tail 0 0) ≡ false
      → chain_at b (both ++ tail) ≡ good (joined join f g) (length both)
  pair_read tail stops ends =
      let l = unit_text f in
      let r = unit_text g in
      let m = mark_of join in
      let size : length l + 1 + length r ≡ length both = omega (arith, length-append l (m ∷ r)) in
      rw (append_assoc l (m ∷ r) tail)
      (chain_two (λ k. unit_at b k) l r tail m f g (left (m ∷ (r ++ tail)) (mark_stops join (r ++ tail))) (right tail stops) (mark_goes join) ends
      ∙ rw (mark_joins f g join, size))

  bracket_read : ReadAs (suc b) (bracketed both) (joined join f g)
  unfolding unit_of bracket_at closed at_close
  bracket_read rest stops =
      let size : 1 + (length both + 1 + 0) ≡ length (bracketed both) = omega (arith, length-append both (41 ∷ [])) in
      let read = pair_read (41 ∷ rest) (close_stops rest) refl in
      rw (append_assoc both (41 ∷ []) rest, read, drop-append_seam both (41 ∷ rest), lead_space rest stops) (ap (good (joined join f g)) size)

one_read : (b : ℕ) (text : List ℕ) (f : Formula) → ReadAs b text f → chain_at b text ≡ good f (length text)
one_read b text f r = rw (append-nil text) at (chain_one (λ k. unit_at b k) text [] f (r [] end_stops) refl)

module _ {S : ℕ} where
  taken_deep : {depth used : ℕ} {bytes : List ℕ} {f : Formula} → Taken S depth bytes f used → 1 ≤ depth
  taken_deep (one e fits) = omega arith
  taken_deep (not e t) = omega arith
  taken_deep (two e t u) = omega arith

  -- a formula of one level more than the brackets that may be open
  unit_read : {depth used : ℕ} {bytes : List ℕ} {f : Formula} → Taken S depth bytes f used → (b : ℕ) → depth ≤ suc b → ReadAs b (unit_text f) f
  unfolding unit_text unit_of
  unit_read (one {s = s} e fits) b h rest stops = number_unit (λ l. bracket_at b l) s rest stops
  unit_read (not {f = f} e t) b h rest stops =
      let size : 1 + length (unit_text f) ≡ suc (length (unit_text f)) = omega arith in
      rw (unit_read t b (omega arith) rest stops) (ap (good (neg f)) size)
  unit_read (two e t u) zero h rest stops = absurd (omega (arith, taken_deep t))
  unit_read (two {f = f} {g = g} {join = join} e t u) (suc b) h rest stops =
      rw (unit_joined f g join)
      (bracket_read b join f g (λ l s. unit_read t b (omega arith) l s) (λ l s. unit_read u b (omega arith) l s) rest stops)

  whole_read : {depth used : ℕ} {bytes : List ℕ} {f : Formula} → Taken S depth bytes f used → (b : ℕ) → depth ≤ suc b
      → chain_at b (spelled f) ≡ good f (length (spelled f))
  unfolding spelled
  whole_read (one {k = k} {s = s} {rest = rest} e fits) b h =
      one_read b (unit_text (symbol s)) (symbol s) (unit_read (one {k = k} {rest = rest} e fits) b h)
  whole_read (not {k = k} {f = f} e t) b h = one_read b (unit_text (neg f)) (neg f) (unit_read (not {k = k} e t) b h)
  whole_read (two {f = f} {g = g} {join = join} e t u) b h =
      let both = pair (mark_of join) (unit_text f) (unit_text g) in
      let read = pair_read b join f g (unit_read t b (omega arith)) (unit_read u b (omega arith)) [] end_stops refl in
      rw (spelled_joined f g join) (rw (append-nil both) at read)

whole_says : (text : List ℕ) (f : Formula) → chain_at most_open text ≡ good f (length text) → Says text f
unfolding whole_text
whole_says text f e = rw (e, eq-eqb (length text) (length text) refl)

pub spelled_says : SpelledSays
spelled_says S bytes f used e = whole_says (spelled f) f (whole_read (taken S e) most_open (omega arith))
