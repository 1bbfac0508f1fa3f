-- The words of a line: where the next one begins, where a word ends, and the part of the line that it is.
use Rattle.meaning.proofs.Kit.{◌≡◌, ◌∙◌, sym, ap, refl, true, false, Bool, cond, List, [], ◌∷◌, ◌≤◌, ℕ, ◌-◌, ◌+◌, suc, add-one, arith, eqb, length}
use Rattle.meaning.proofs.Kit.{drop, take, length-drop, eq-eqb, eqb-true}
use Rattle.meaning.proofs.Kit.{not, drop-drop}
use Rattle.std.specs.List.{position, position_or_len}
use Rattle.std.specs.Option.{unwrap_or}
use Rattle.std.proofs.lemmas.List.Sums.{prefix_len-le-length}
use Rattle.meaning.proofs.Tests.{same_test}
use Rattle.formula.proofs.Parts.{onward, onward_drop}
use Rattle.names.proofs.Runs.{place_or_end}
use Rattle.dimacs.specs.Words.{since, up_to}
use Rattle.dimacs.specs.Gathering.{Place}
use Rattle.dimacs.proofs.Scanning.{since_within, place_after}
use Rattle.orders.specs.Words.{ends_at, in_word, is_blank, rest_at, word_at}

-- ---- the place of the first byte that passes a test

since_from : (test : ℕ → Bool) (l : List ℕ) → drop (position_or_len test l) l ≡ since test l
unfolding since
since_from test [] = refl
since_from test (c ∷ rest) =
    let inner = since_from test rest in
    let k = position_or_len test rest in
    let next : 1 + k ≡ suc k = omega arith in
    elim (test c) as (λ b. drop (cond (not b) (1 + k) 0) (c ∷ rest) ≡ cond b (c ∷ rest) (since test rest)) [ true ↦ refl | false ↦ rw next inner ]

pub found_place : (test : ℕ → Bool) (line : List ℕ) (at p : ℕ) → at ≤ length line
    → p ≡ unwrap_or (position test (onward at line)) (length (onward at line)) → Place line (at + p) (since test (drop at line))
found_place test line at p h e =
    let left = drop at line in
    let is : p ≡ position_or_len test left = e ∙ ap (λ l. unwrap_or (position test l) (length l)) (onward_drop at line) ∙ place_or_end test left in
    record {
      within = omega (arith, is, prefix_len-le-length (λ b. not (test b)) left, length-drop at line);
      stands = sym (drop-drop p at line) ∙ rw is (since_from test left);
    }

-- ---- from word to word

pub first_place : {line : List ℕ} {at : ℕ} → Place line at (since in_word (drop 0 line)) → Place line at (rest_at 0 line)
unfolding rest_at
first_place p = p

pub next_place : {line : List ℕ} {at to next : ℕ} (k : ℕ) → Place line at (rest_at k line) → Place line to (since is_blank (drop at line))
    → Place line next (since in_word (drop to line)) → Place line next (rest_at (k + 1) line)
unfolding rest_at
next_place k p q r =
    rw (add-one k)
    (record {
      within = r.within;
      stands = r.stands ∙ ap (since in_word) (q.stands ∙ ap (since is_blank) p.stands);
    })

-- ---- a word

-- what stands before the place where a search stops
up_to_stop : (test : ℕ → Bool) (l : List ℕ) → take (length l - length (since test l)) l ≡ up_to test l
unfolding since up_to
up_to_stop test [] = refl
up_to_stop test (c ∷ rest) = go (test c) (since_within test rest) (up_to_stop test rest)
  where
    go : (b : Bool) → length (since test rest) ≤ length rest → take (length rest - length (since test rest)) rest ≡ up_to test rest
        → take (suc (length rest) - length (cond b (c ∷ rest) (since test rest))) (c ∷ rest) ≡ cond b [] (c ∷ up_to test rest)
    go true h ih = let e : suc (length rest) - suc (length rest) ≡ 0 = omega arith in rw e
    go false h ih =
        let e : suc (length rest) - length (since test rest) ≡ suc (length rest - length (since test rest)) = omega arith in
        rw e (ap (λ l. c ∷ l) ih)

module _ {line : List ℕ} {from to : ℕ} (k : ℕ) (p : Place line from (rest_at k line)) (q : Place line to (since is_blank (drop from line))) where
  pub word_goes_on : from ≤ to
  word_goes_on = place_after is_blank from q p.within

  pub word_part : take (to - from) (drop from line) ≡ word_at k line
  unfolding word_at
  word_part =
      let size : to - from ≡ length (drop from line) - length (since is_blank (drop from line)) =
      omega (arith, p.within, q.within, word_goes_on, ap length q.stands, length-drop to line, length-drop from line) in
      rw size (up_to_stop is_blank (drop from line) ∙ ap (up_to is_blank) p.stands)

-- ---- the words' end

pub place_at_end : {line : List ℕ} {at : ℕ} (k : ℕ) → Place line at (rest_at k line) → eqb at (length line) ≡ ends_at k line
unfolding ends_at
place_at_end {line} {at} k p =
    let left : length line - at ≡ length (rest_at k line) = sym (length-drop at line) ∙ ap length p.stands in
    same_test (eqb at (length line)) (eqb (length (rest_at k line)) 0)
    (λ e. eq-eqb (length (rest_at k line)) 0 (omega (arith, eqb-true at (length line) e)))
    (λ e. eq-eqb at (length line) (omega (arith, p.within, eqb-true (length (rest_at k line)) 0 e)))
