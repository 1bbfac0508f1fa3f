-- Comment lines before the header, a line at a time.
use Rattle.meaning.proofs.Kit.{◌≡◌, ◌∙◌, sym, ap, refl, true, false, List, [], ◌∷◌, ◌≤◌, ℕ, ◌<◌, ◌+◌, suc, add-one, arith, length, get_or, drop}
use Rattle.meaning.proofs.Kit.{drop_of_length-le, drop-cons, ne_eqb}
use Rattle.dimacs.specs.Words.{ends, since}
use Rattle.dimacs.specs.Form.{past_comments}
use Rattle.dimacs.specs.Gathering.{Place}
use Rattle.dimacs.proofs.Scanning.{place_here}
use Rattle.dimacs.proofs.Tested.{by_test}

to_line_end : (l : List ℕ) → past_comments true l ≡ past_comments true (since ends l)
unfolding past_comments since
to_line_end [] = refl
to_line_end (c ∷ rest) = by_test (ends c) (λ t. rw (t, t)) (λ f. rw f (to_line_end rest))

-- only comment lines stand before place i
pub record Passed (text : List ℕ) (i : ℕ) : Type 0 where
  pub within : i ≤ length text
  pub same : past_comments false text ≡ past_comments false (drop i text)

pub passed_none : (text : List ℕ) → Passed text 0
passed_none text = record { within = omega arith; same = refl }

module _ {text : List ℕ} {i : ℕ} (s : Passed text i) where
  abbrev Header : ℕ → Type 0
  Header r = Place text r (past_comments false text)

  -- the text ends here
  pub passed_all : length text ≤ i → Header i
  unfolding past_comments
  passed_all e = record { within = s.within; stands = sym (s.same ∙ rw (drop_of_length-le text {i = i} e)) }

  module _ (h : i < length text) where
    -- another line begins here
    pub passed_here : (get_or text i 0 ≡ 99 → ⊥) → Header i
    unfolding past_comments
    passed_here differs = record { within = s.within; stands = sym (s.same ∙ rw (drop-cons text i 0 h, ne_eqb (get_or text i 0) 99 differs)) }

    -- a comment line begins here, and r is its end
    module _ (is : get_or text i 0 ≡ 99) {r : ℕ} (p : Place text r (since ends (drop i text))) where
      passed_line : past_comments false text ≡ past_comments true (drop r text)
      unfolding past_comments since
      passed_line =
          let rest = drop (suc i) text in
          let first : past_comments false (drop i text) ≡ past_comments true rest = rw (drop-cons text i 0 h, is) in
          let line : since ends (drop i text) ≡ since ends rest = rw (drop-cons text i 0 h, is) in
          s.same ∙ first ∙ to_line_end rest ∙ ap (λ (l : List ℕ). past_comments true l) (sym line ∙ sym p.stands)

      pub passed_last : length text ≤ r → Passed text r
      unfolding past_comments
      passed_last e = record { within = p.within; same = passed_line ∙ rw (drop_of_length-le text {i = r} e) }

      pub passed_more : r < length text → Passed text (r + 1)
      unfolding past_comments
      passed_more k = record { within = omega arith; same = passed_line ∙ rw (add-one, drop-cons text r 0 k, place_here ends i p k) }
