-- A sound row as a clause: its literals are gathered to its own places, so that as a rule it is not at fault and has itself as its row.
use Rattle.meaning.proofs.Kit.{◌≡◌, ◌∙◌, sym, ap, refl, ◌≢◌, true, false, Bool, ◌&&◌, false≢true, List, [], ◌∷◌, ◌++◌, append-nil, append_assoc, ◌≤◌}
use Rattle.meaning.proofs.Kit.{ℕ, ◌<◌, suc, ◌/◌, arith, eqb, leb, ltb, ℤ, nat_abs, length, ne_eqb, le-leb, ltb-true, lt-ltb, ap₂, ◌||◌}
use Rattle.meaning.specs.Tests.{all}
use Rattle.meaning.proofs.Tests.{all_append, all_imp, both_true}
use Rattle.literals.specs.Literal.{in_range, place_of}
use Rattle.literals.specs.Row.{decode, most_literals, most_rules, rising, row_sound}
use Rattle.literals.proofs.Arguments.{range_facts}
use Rattle.literals.proofs.Decoding.{sound_rising}
use Rattle.implicates.proofs.Rules.{fits_so}
use Rattle.board.specs.Faults.{first_fault}
use Rattle.std.specs.Prelude.{Ok}
use Rattle.dimacs.specs.Clauses.{clause_faults, rows_of_clause}
use Rattle.dimacs.specs.Gathering.{always_true, clashes, gathered, inserted}
use Rattle.dimacs.specs.Writing.{literals_of}
use Rattle.dimacs.proofs.ClauseRules.{clause_rows}
use Rattle.dimacs.proofs.FoundFaults.{clause_fault}
use Rattle.dimacs.proofs.GatheredSymbols.{place_symbol}
use Rattle.dimacs.proofs.SoundTables.{sound_range}
use Rattle.dimacs.proofs.Tested.{by_test}

-- ---- a place of a later symbol goes to the end

-- every place is of a symbol before s (from 0)
abbrev below : ℕ → List ℕ → Bool
below s g = all (λ q. ltb (q / 2) s) g

below_more : {s t : ℕ} (g : List ℕ) → s ≤ t → below s g ≡ true → below t g ≡ true
below_more {s} {t} g h e = all_imp (λ q. ltb (q / 2) s) (λ q. ltb (q / 2) t) g (λ q m k. lt-ltb (q / 2) t (omega (arith, ltb-true (q / 2) s k))) e

below_snoc : (g : List ℕ) (p : ℕ) → below (p / 2) g ≡ true → below (suc (p / 2)) (g ++ (p ∷ [])) ≡ true
below_snoc g p e =
    let s = suc (p / 2) in
    rw (all_append (λ q. ltb (q / 2) s) g (p ∷ []), below_more {t = s} g (omega arith) e, lt-ltb (p / 2) s (omega arith))

inserted_last : (g : List ℕ) (p : ℕ) → below (p / 2) g ≡ true → (inserted p g ≡ g ++ (p ∷ [])) × (clashes p g ≡ false)
unfolding inserted clashes
inserted_last [] p e = (refl, refl)
inserted_last (q ∷ g) p e =
    let t = both_true (ltb (q / 2) (p / 2)) (below (p / 2) g) e in
    let r = inserted_last g p t.1 in
    (rw t.0 (ap (λ (l : List ℕ). q ∷ l) r.0), rw t.0 r.1)

-- ---- so do literals of rising symbols

-- behind the places g these literals go to these places, and none meets its opposite
abbrev GoTo : List ℕ → List ℤ → List ℕ → Type 0
GoTo g ls places = (gathered g ls ≡ g ++ places) × (always_true g ls ≡ false)

gather_rising : (S last : ℕ) (g : List ℕ) (ls : List ℤ) → below last g ≡ true → rising S last ls ≡ true → GoTo g (literals_of ls) (decode ls)
unfolding gathered always_true literals_of decode rising
gather_rising S last g [] b e = (sym (append-nil g), refl)
gather_rising S last g (l ∷ ls) b e =
    by_test (eqb (nat_abs l) 0) (λ z. rw z (sym (append-nil g), refl))
    (λ z.
    let p = place_of l in
    let t = both_true (ltb last (nat_abs l) && leb (nat_abs l) S) (rising S (nat_abs l) ls) (rw z at e) in
    let up = ltb-true last (nat_abs l) (both_true (ltb last (nat_abs l)) (leb (nat_abs l) S) t.0).0 in
    let s = place_symbol l (omega arith) in
    let lower = below_more {t = p / 2} g (omega (arith, s)) b in
    let i = inserted_last g p lower in
    let r = gather_rising S (nat_abs l) (g ++ (p ∷ [])) ls (rw s at (below_snoc g p lower)) t.1 in
    rw z (
      ap (λ (h : List ℕ). gathered h (literals_of ls)) i.0 ∙ r.0 ∙ append_assoc g (p ∷ []) (decode ls),
      ap₂ (λ (x : Bool) (h : List ℕ). x || always_true h (literals_of ls)) i.1 i.0 ∙ r.1,
    ))

-- ---- a sound row

-- the first number is a literal
sound_some : (S : ℕ) (row : List ℤ) → row_sound S row ≡ true → (1 ≤ length (literals_of row)) × (1 ≤ length (decode row))
unfolding row_sound literals_of decode
sound_some S [] e = absurd (false≢true e)
sound_some S (l ∷ ls) e =
    let range = range_facts S l (both_true (in_range S l) (rising S (nat_abs l) ls) e).0 in
    rw (ne_eqb (nat_abs l) 0 (omega (arith, range.0))) (omega arith, omega arith)

module _ (S : ℕ) (row : List ℤ) (sound : row_sound S row ≡ true) where
  own : GoTo [] (literals_of row) (decode row)
  own = gather_rising S 0 [] row refl (sound_rising S row sound)

  pub row_rows : rows_of_clause S (literals_of row) ≡ decode row ∷ []
  row_rows = clause_rows S (literals_of row) (sound_range S row sound) (sound_some S row sound).0 ∙ rw (own.1, own.0)

  -- it is not at fault where a row is free, and a number
  pub row_faultless : (used rules lent : ℕ) → 1 ≤ S → length (decode row) ≤ most_literals → used < lent → rules ≢ most_rules
      → first_fault (clause_faults S used rules lent (literals_of row)) ≡ Ok tt
  row_faultless used rules lent one short free number =
      let n = length (decode row) in
      let some = ne_eqb n 0 (λ z. omega (arith, z, (sound_some S row sound).1)) in
      let fit = fits_so used rules lent (decode row ∷ []) (omega arith) number in
      clause_fault S used rules lent (literals_of row) one
      ∙ rw (sound_range S row sound, own.0, le-leb n most_literals short, some, own.1, fit)
