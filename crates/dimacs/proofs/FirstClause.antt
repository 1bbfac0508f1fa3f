-- The first clause of words, a word at a time, with what is kept of its literals.
use Rattle.meaning.proofs.Kit.{◌≡◌, ◌∙◌, sym, ap, refl, true, false, List, [], ◌∷◌, ◌++◌, append-nil, append_assoc, ◌≤◌, ℕ, ◌<◌, ℤ, nat_abs, ne_eqb}
use Rattle.meaning.proofs.Kit.{eq-eqb, le-leb, lt-leb}
use Rattle.dimacs.specs.Words.{literal_of}
use Rattle.dimacs.specs.declared.gathering.Kept.{Kept}
use Rattle.dimacs.specs.Gathering.{KeptOf, keeps_form, next_clause, past_clause}
use Rattle.dimacs.proofs.Collecting.{none_kept, holds_none}

-- of words, those that are left stand behind literals of the first clause, and this is kept of these
pub record Begun (S variables : ℕ) (ws left : List (List ℕ)) (row : List ℕ) (k : Kept) : Type 0 where
  pub literals : List ℤ
  pub holds : KeptOf S literals row k
  pub next : next_clause ws ≡ literals ++ next_clause left
  pub past : past_clause ws ≡ past_clause left
  pub keeps : keeps_form variables ws ≡ keeps_form variables left

pub begun_none : (S variables : ℕ) (ws : List (List ℕ)) (row : List ℕ) → Begun S variables ws ws row none_kept
begun_none S variables ws row = record { literals = []; holds = holds_none S row; next = refl; past = refl; keeps = refl }

module _ {S variables : ℕ} {ws left : List (List ℕ)} {row : List ℕ} {k : Kept} (b : Begun S variables ws left row k) where
  -- no word is left
  pub begun_end : left ≡ [] → false ≡ keeps_form variables ws
  unfolding keeps_form
  begun_end e = sym (b.keeps ∙ rw e)

  -- the word w is, of the symbol s
  module _ {w : List ℕ} {us : List (List ℕ)} (is : left ≡ w ∷ us) {s : ℕ} (size : s ≡ nat_abs (literal_of w)) where
    pub begun_beyond : variables < s → false ≡ keeps_form variables ws
    unfolding keeps_form
    begun_beyond h = sym (b.keeps ∙ rw (is, ← size, lt-leb s variables h))

    module _ (h : s ≤ variables) (z : s ≡ 0) where
      pub ended_keeps : true ≡ keeps_form variables ws
      unfolding keeps_form
      ended_keeps = sym (b.keeps ∙ rw (is, ← size, le-leb s variables h, eq-eqb s 0 z))

      pub ended_holds : KeptOf S (next_clause ws) row k
      unfolding next_clause
      ended_holds =
          let none : next_clause left ≡ [] = rw (is, ← size, eq-eqb s 0 z) in
          rw (b.next, none, append-nil b.literals) b.holds

      pub ended_past : us ≡ past_clause ws
      unfolding past_clause
      ended_past = sym (b.past ∙ rw (is, ← size, eq-eqb s 0 z))

    pub begun_more : s ≤ variables → (s ≡ 0 → ⊥) → {after : List ℕ} {more : Kept}
        → KeptOf S (b.literals ++ (literal_of w ∷ [])) after more → Begun S variables ws us after more
    unfolding next_clause past_clause keeps_form
    begun_more h n held = record {
      literals = b.literals ++ (literal_of w ∷ []);
      holds = held;
      next =
          let first : next_clause left ≡ literal_of w ∷ next_clause us = rw (is, ← size, ne_eqb s 0 n) in
          b.next ∙ ap (λ (ls : List ℤ). b.literals ++ ls) first ∙ sym (append_assoc b.literals (literal_of w ∷ []) (next_clause us));
      past = b.past ∙ rw (is, ← size, ne_eqb s 0 n);
      keeps = b.keeps ∙ rw (is, ← size, le-leb s variables h, ne_eqb s 0 n);
    }
