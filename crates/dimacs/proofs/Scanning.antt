-- A text from a place on, a byte at a time, up to the first byte that passes a test.
use Rattle.meaning.proofs.Kit.{◌≡◌, ◌∙◌, sym, ap, refl, true, false, Bool, List, [], ◌∷◌, ◌≤◌, ℕ, ◌<◌, ◌+◌, add-one, arith, length, get_or, drop}
use Rattle.meaning.proofs.Kit.{length-drop, drop_of_length-le, drop-cons, drop-drop, get_or-drop, not, suc}
use Rattle.formula.proofs.Parts.{onward, onward_drop}
use Rattle.std.specs.List.{prefix_len}
use Rattle.std.proofs.lemmas.List.Sums.{prefix_len-le-length}
use Rattle.dimacs.specs.Words.{since}
use Rattle.dimacs.specs.Gathering.{Place}
use Rattle.dimacs.proofs.Tested.{by_test}

pub since_more : (test : ℕ → Bool) (text : List ℕ) (i : ℕ) → i < length text → test (get_or text i 0) ≡ false
    → since test (drop i text) ≡ since test (drop (i + 1) text)
unfolding since
since_more test text i h e = rw (add-one, drop-cons text i 0 h, e)

-- a byte of what stands from a place on
pub byte_at : (text : List ℕ) (at k : ℕ) → get_or (onward at text) k 0 ≡ get_or text (at + k) 0
byte_at text at k = ap (λ (l : List ℕ). get_or l k 0) (onward_drop at text) ∙ get_or-drop at text k 0

-- ---- a search that has come to place i: no byte passed before

pub record Sought (test : ℕ → Bool) (text : List ℕ) (at i : ℕ) : Type 0 where
  pub within : i ≤ length text
  pub same : since test (drop at text) ≡ since test (drop i text)

pub sought_none : (test : ℕ → Bool) (text : List ℕ) (at : ℕ) → at ≤ length text → Sought test text at at
sought_none test text at h = record { within = h; same = refl }

module _ {test : ℕ → Bool} {text : List ℕ} {at i : ℕ} (s : Sought test text at i) where
  pub sought_more : i < length text → test (get_or text i 0) ≡ false → Sought test text at (i + 1)
  sought_more h e = record { within = omega arith; same = s.same ∙ since_more test text i h e }

  pub sought_here : i < length text → test (get_or text i 0) ≡ true → Place text i (since test (drop at text))
  unfolding since
  sought_here h e = record { within = s.within; stands = sym (s.same ∙ rw (drop-cons text i 0 h, e)) }

  pub sought_end : length text ≤ i → Place text i (since test (drop at text))
  unfolding since
  sought_end h = record { within = s.within; stands = sym (s.same ∙ rw (drop_of_length-le text h)) }

-- ---- a search as a count: of the bytes in front that do not pass

module _ (test stays : ℕ → Bool) (other : (c : ℕ) → stays c ≡ not (test c)) where
  prefix_since : (l : List ℕ) → drop (prefix_len stays l) l ≡ since test l
  unfolding since
  prefix_since [] = refl
  prefix_since (c ∷ rest) =
      let next : 1 + prefix_len stays rest ≡ suc (prefix_len stays rest) = omega arith in
      by_test (test c) (λ t. rw (other c, t)) (λ f. rw (other c, f, next) (prefix_since rest))

  pub counted_to : (text : List ℕ) (at n : ℕ) → at ≤ length text → n ≡ prefix_len stays (drop at text) → Place text (at + n) (since test (drop at text))
  counted_to text at n h is =
      record {
        within = omega (arith, is, prefix_len-le-length stays (drop at text), length-drop at text);
        stands = rw (is, ← drop-drop (prefix_len stays (drop at text)) at text) (prefix_since (drop at text));
      }

-- ---- the place where a search stops

pub since_within : (test : ℕ → Bool) (l : List ℕ) → length (since test l) ≤ length l
unfolding since
since_within test [] = omega arith
since_within test (c ∷ rest) = by_test (test c) (λ t. rw t (omega arith)) (λ f. rw f (omega (arith, since_within test rest)))

-- the byte there passes
since_head : (test : ℕ → Bool) (l : List ℕ) (c : ℕ) (rest : List ℕ) → since test l ≡ c ∷ rest → test c ≡ true
unfolding since
since_head test [] c rest e = let z : ◌≡◌ {A = ℕ} 0 1 = cc in absurd (omega arith)
since_head test (d ∷ l) c rest e = by_test (test d) (λ t. let s : d ∷ l ≡ c ∷ rest = rw t at e in cc) (λ f. since_head test l c rest (rw f at e))

module _ (test : ℕ → Bool) {text : List ℕ} (at : ℕ) {r : ℕ} (p : Place text r (since test (drop at text))) where
  -- a search goes on, not back
  pub place_after : at ≤ length text → at ≤ r
  place_after h = omega (arith, p.within, ap length p.stands, length-drop r text, length-drop at text, since_within test (drop at text))

  pub place_here : r < length text → test (get_or text r 0) ≡ true
  place_here h = since_head test (drop at text) _ _ (sym p.stands ∙ drop-cons text r 0 h)
