-- The text of a table: the header's line, and the line of a row more at a time.
use Rattle.meaning.proofs.Kit.{◌≡◌, ◌∙◌, sym, ap, refl, List, [], ◌∷◌, ◌++◌, append-nil, append_assoc, ◌≤◌, ℕ, ◌<◌, ◌-◌, ◌+◌, suc, zero, add-one}
use Rattle.meaning.proofs.Kit.{arith, ℤ, length, length-append}
use Rattle.meaning.proofs.Tables.{length_tabulate, tabulate_snoc}
use Rattle.spelling.specs.Text.{Put, natural}
use Rattle.spelling.proofs.Pieces.{put_put}
use Rattle.dimacs.specs.Writing.{clause_at, clause_line, clause_lines, clauses_at, counts_line, text_of}

pub counts_size : (S n : ℕ) → length (counts_line S n) ≡ 8 + length (natural S) + length (natural n)
counts_size S n = omega (arith, length-append (natural S) (32 ∷ (natural n ++ (10 ∷ []))), length-append (natural n) (10 ∷ []))

lines_append : (a b : List (List ℤ)) → clause_lines (a ++ b) ≡ clause_lines a ++ clause_lines b
unfolding clause_lines
lines_append [] b = refl
lines_append (c ∷ a) b = rw (lines_append a b) (sym (append_assoc (clause_line c) (clause_lines a) (clause_lines b)))

module _ (t : List ℤ) where
  -- the lines of the first r rows, and the line of row r
  abbrev lines_of : (r : ℕ) → List ℕ
  lines_of r = clause_lines (clauses_at r t)

  abbrev line_of : (r : ℕ) → List ℕ
  line_of r = clause_line (clause_at t r)

  pub count_clauses : (r : ℕ) → length (clauses_at r t) ≡ r
  unfolding clauses_at
  count_clauses r = length_tabulate r (clause_at t)

  pub lines_none : lines_of 0 ≡ []
  unfolding clause_lines clauses_at
  lines_none = refl

  lines_next : (r : ℕ) → lines_of (r + 1) ≡ lines_of r ++ line_of r
  unfolding clause_lines clauses_at
  lines_next r =
      rw add-one
      (ap clause_lines (tabulate_snoc r (clause_at t))
      ∙ lines_append (clauses_at r t) (clause_at t r ∷ [])
      ∙ ap (λ (l : List ℕ). lines_of r ++ l) (append-nil (line_of r)))

  pub lines_size : (r : ℕ) → length (lines_of (r + 1)) ≡ length (lines_of r) + length (line_of r)
  lines_size r = ap length (lines_next r) ∙ length-append (lines_of r) (line_of r)

  pub lines_put : (r : ℕ) {l m o : List ℕ} {at mid next : ℕ} → Put l m at (lines_of r) mid → Put m o mid (line_of r) next
      → Put l o at (lines_of (r + 1)) next
  lines_put r p q = rw (lines_next r) (put_put (lines_of r) (line_of r) p q)

  -- the lines of some rows take no more than those of all: there is room for row r
  lines_most : (n d : ℕ) → length (lines_of n) ≤ length (lines_of (n + d))
  lines_most n zero = let e : n + 0 ≡ n = omega arith in rw e (omega arith)
  lines_most n (suc d) =
      let e : n + suc d ≡ (n + d) + 1 = omega arith in
      rw e (omega (arith, lines_size (n + d), lines_most n d))

  pub lines_room : (r used : ℕ) → r < used → length (lines_of r) + length (line_of r) ≤ length (lines_of used)
  lines_room r used h =
      let e : (r + 1) + (used - (r + 1)) ≡ used = omega arith in
      omega (arith, lines_size r, rw e at (lines_most (r + 1) (used - (r + 1))))

  -- ---- the whole

  module _ (S used : ℕ) where
    text_split : text_of S (clauses_at used t) ≡ counts_line S used ++ lines_of used
    unfolding text_of
    text_split = rw (count_clauses used)

    pub text_size : length (text_of S (clauses_at used t)) ≡ length (counts_line S used) + length (lines_of used)
    text_size = ap length text_split ∙ length-append (counts_line S used) (lines_of used)

    pub text_put : {out m o : List ℕ} {mid next : ℕ} → Put out m 0 (counts_line S used) mid → Put m o mid (lines_of used) next
        → Put out o 0 (text_of S (clauses_at used t)) next
    text_put p q = rw text_split (put_put (counts_line S used) (lines_of used) p q)
