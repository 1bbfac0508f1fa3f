-- Words, a word at a time.
use Rattle.meaning.proofs.Kit.{◌≡◌, ◌∙◌, sym, ap, refl, false, List, [], ◌∷◌, ◌++◌, append-nil, append_assoc, ◌≤◌, ℕ, ◌<◌, ◌+◌, suc, arith, length}
use Rattle.meaning.proofs.Kit.{get_or, drop, drop_of_length-le, drop-cons, not-true}
use Rattle.dimacs.specs.Words.{closed, in_word, is_gap, since, up_to, words, words_in}
use Rattle.dimacs.specs.Gathering.{Place}
use Rattle.dimacs.proofs.Scanning.{place_after, place_here, since_more}
use Rattle.dimacs.proofs.Tested.{by_test}

-- the first word goes up to a gap
pub words_cut : (word text : List ℕ) → words_in word text ≡ closed (word ++ up_to is_gap text) (words (since is_gap text))
unfolding words_in up_to since
words_cut word [] = rw append-nil
words_cut word (c ∷ rest) = by_test (is_gap c) (λ t. rw (t, append-nil word, t)) (λ f. rw f (words_cut (word ++ (c ∷ [])) rest ∙ rw append_assoc))

-- gaps before a word change nothing
words_since : (text : List ℕ) → words text ≡ words (since in_word text)
unfolding words_in since
words_since [] = refl
words_since (c ∷ rest) = by_test (is_gap c) (λ t. rw t (words_since rest)) (λ f. rw (f, f))

word_first : (c : ℕ) (rest : List ℕ) → is_gap c ≡ false → words (c ∷ rest) ≡ up_to is_gap (c ∷ rest) ∷ words (since is_gap (c ∷ rest))
unfolding words_in up_to since
word_first c rest e = rw e (words_cut (c ∷ []) rest)

-- ---- from a place on, with r the place of the next word

module _ {text : List ℕ} (at : ℕ) {r : ℕ} (p : Place text r (since in_word (drop at text))) where
  pub words_same : words (drop at text) ≡ words (drop r text)
  words_same = words_since (drop at text) ∙ ap words (sym p.stands)

  -- there is none
  pub words_end : r ≡ length text → words (drop at text) ≡ []
  unfolding words_in
  words_end h = words_same ∙ rw (drop_of_length-le text {i = r} (omega arith))

  module _ (h : r < length text) where
    no_gap : is_gap (get_or text r 0) ≡ false
    no_gap = not-true _ (place_here in_word at p h)

    -- there is one
    pub words_some : words (drop at text) ≡ up_to is_gap (drop r text) ∷ words (since is_gap (drop r text))
    words_some = words_same ∙ rw (drop-cons text r 0 h) (word_first (get_or text r 0) (drop (suc r) text) no_gap)

    -- it goes up to e
    module _ {e : ℕ} (q : Place text e (since is_gap (drop r text))) where
      pub words_word : words (drop at text) ≡ up_to is_gap (drop r text) ∷ words (drop e text)
      words_word = words_some ∙ ap (λ (l : List ℕ). up_to is_gap (drop r text) ∷ words l) (sym q.stands)

      pub word_passed : r + 1 ≤ e
      word_passed = place_after is_gap (r + 1) (record { within = q.within; stands = q.stands ∙ since_more is_gap text r h no_gap }) (omega arith)
