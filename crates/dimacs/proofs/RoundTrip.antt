-- What is written of clauses says these clauses.
use Rattle.meaning.proofs.Kit.{◌≡◌, ◌∙◌, sym, ap, refl, true, false, Bool, not, List, [], ◌∷◌, ◌++◌, map, append-nil, append_assoc, ◌≤◌, ℕ, ◌<◌}
use Rattle.meaning.proofs.Kit.{arith, leb, ℤ, pos, nat_abs, length, ne_eqb, eq-eqb, not-true, le-leb, lt-ltb}
use Rattle.meaning.specs.Tests.{all}
use Rattle.meaning.proofs.Tests.{all_append, both_true}
use Rattle.literals.specs.Literal.{in_range}
use Rattle.literals.proofs.Arguments.{range_facts}
use Rattle.spelling.specs.Text.{decimal, literal, natural}
use Rattle.dimacs.specs.Words.{beyond, closed, ends, in_word, is_gap, literal_of, number_of, since, up_to, words, words_in}
use Rattle.dimacs.specs.Form.{good, clauses_in, clause_then, counted, counts_in, header_in, header_start, parse_text, past_comments, starts_with}
use Rattle.dimacs.specs.Writing.{clause_line, clause_lines, counts_line, spaced, text_of, zero_end}
use Rattle.dimacs.specs.Promises.{ReadsBack}
use Rattle.std.proofs.Common.{Some}
use Rattle.dimacs.proofs.Splitting.{words_cut}
use Rattle.spelling.proofs.Digits.{natural_some}
use Rattle.dimacs.proofs.Digits.{literal_some, literal_spells, literal_word, natural_line, natural_spells, natural_word}

-- ---- a word, with a gap or nothing behind it

-- bytes that do not pass a test come before the first that does
past_run : (test : ℕ → Bool) (a rest : List ℕ) → all (λ c. not (test c)) a ≡ true
    → (up_to test (a ++ rest) ≡ a ++ up_to test rest) × (since test (a ++ rest) ≡ since test rest)
unfolding up_to since
past_run test [] rest e = (refl, refl)
past_run test (c ∷ a) rest e =
    let b = both_true (not (test c)) (all (λ d. not (test d)) a) e in
    let onward : test c ≡ false = not-true _ b.0 in
    let r = past_run test a rest b.1 in
    rw onward (ap (λ (l : List ℕ). c ∷ l) r.0, r.1)

closed_some : (a : List ℕ) (ws : List (List ℕ)) → 1 ≤ length a → closed a ws ≡ a ∷ ws
closed_some [] ws h = absurd (omega arith)
closed_some (c ∷ a) ws h = refl

word_then : (a rest : List ℕ) → 1 ≤ length a → all in_word a ≡ true → up_to is_gap rest ≡ [] → words (a ++ rest) ≡ a ∷ words (since is_gap rest)
word_then a rest some e stops =
    let r = past_run is_gap a rest e in
    words_cut [] (a ++ rest) ∙ rw (r.0, r.1, stops, append-nil) (closed_some a (words (since is_gap rest)) some)

-- ---- a line

words_line : (ls : List ℤ) (rest : List ℕ) → words (clause_line ls ++ rest) ≡ map literal ls ++ ((48 ∷ []) ∷ words rest)
unfolding spaced words_in up_to since
words_line [] rest = refl
words_line (l ∷ ls) rest =
    let others = clause_line ls ++ rest in
    let split : (literal l ++ (32 ∷ spaced ls)) ++ zero_end ++ rest ≡ literal l ++ (32 ∷ others) = simp append_assoc in
    ap words split
    ∙ word_then (literal l) (32 ∷ others) (literal_some l) (literal_word l) refl
    ∙ ap (λ (ws : List (List ℕ)). literal l ∷ ws) (words_line ls rest)

zero_word : literal_of (48 ∷ []) ≡ pos 0
unfolding literal_of number_of decimal
zero_word = refl

-- a literal that is written goes into the clause so far, and the 0 closes it
module _ (S : ℕ) (small : S < beyond) where
  line_back : (sofar ls : List ℤ) (ws : List (List ℕ)) → all (in_range S) ls ≡ true
      → clauses_in S sofar (map literal ls ++ ((48 ∷ []) ∷ ws)) ≡ clause_then (sofar ++ ls) (clauses_in S [] ws)
  unfolding clauses_in
  line_back sofar [] ws e = rw (zero_word, le-leb 0 S (omega arith), append-nil)
  line_back sofar (l ∷ ls) ws e =
      let t = both_true (in_range S l) (all (in_range S) ls) e in
      let r = both_true (leb 1 (nat_abs l)) (leb (nat_abs l) S) t.0 in
      let f = range_facts S l t.0 in
      rw (literal_spells l (omega (arith, f.1)), r.1, ne_eqb (nat_abs l) 0 (omega (arith, f.0)))
      (line_back (sofar ++ (l ∷ [])) ls ws t.1 ∙ rw append_assoc)

  lines_back : (cs : List (List ℤ)) → all (all (in_range S)) cs ≡ true → clauses_in S [] (words (clause_lines cs)) ≡ good S cs
  unfolding clause_lines clauses_in words_in
  lines_back [] e = refl
  lines_back (c ∷ cs) e =
      let t = both_true (all (in_range S) c) (all (all (in_range S)) cs) e in
      ap (λ (ws : List (List ℕ)). clauses_in S [] ws) (words_line c (clause_lines cs))
      ∙ line_back [] c (words (clause_lines cs)) t.0
      ∙ ap (clause_then c) (lines_back cs t.1)

-- ---- the header's line

module _ (S n : ℕ) (small : S < beyond) (few : n < beyond) where
  -- the line, without its line feed
  abbrev line : List ℕ
  line = header_start ++ (natural S ++ (32 ∷ natural n))

  one_line : all (λ c. not (ends c)) line ≡ true
  one_line = rw (all_append (λ c. not (ends c)) (natural S) (32 ∷ natural n), natural_line S) (natural_line n)

  line_words : words (natural S ++ (32 ∷ natural n)) ≡ natural S ∷ natural n ∷ []
  unfolding words_in up_to since
  line_words =
      word_then (natural S) (32 ∷ natural n) (natural_some S) (natural_word S) refl
      ∙ ap (λ (l : List ℕ). natural S ∷ words l) (sym (append-nil (natural n)))
      ∙ ap (λ (ws : List (List ℕ)). natural S ∷ ws) (word_then (natural n) [] (natural_some n) (natural_word n) refl)

  line_counts : header_in line ≡ Some (record { variables = S; clauses = n })
  unfolding header_in starts_with counts_in
  line_counts = rw (line_words, natural_spells S small, natural_spells n few, lt-ltb S beyond small, lt-ltb n beyond few)

  header_back : (rest : List ℕ) → parse_text (line ++ (10 ∷ rest)) ≡ counted n (clauses_in S [] (words rest))
  unfolding parse_text past_comments words_in up_to since
  header_back rest = let r = past_run ends line (10 ∷ rest) one_line in rw (r.0, r.1, append-nil, line_counts)

-- ---- the whole

pub reads_back : ReadsBack
unfolding text_of
reads_back S cs small few e =
    let n = length cs in
    let split : counts_line S n ++ clause_lines cs ≡ line S n small few ++ (10 ∷ clause_lines cs) = simp append_assoc in
    ap parse_text split
    ∙ header_back S n small few (clause_lines cs)
    ∙ ap (counted n) (lines_back S small cs e)
    ∙ rw (eq-eqb n n refl)
