-- The header's line: where it ends, its first bytes, and its two numbers.
use Rattle.meaning.proofs.Kit.{◌≡◌, ◌∙◌, ap, refl, false, Bool, cond, ◌&&◌, List, [], ◌∷◌, ℕ, ◌-◌, suc, arith, eqb}
use Rattle.meaning.proofs.Kit.{ltb, length, drop, take, length-drop}
use Rattle.dimacs.specs.Words.{beyond, ends, number_of, since, up_to}
use Rattle.dimacs.specs.Form.{counts_in, header_line, past_comments, starts_with}
use Rattle.dimacs.specs.Gathering.{Place}
use Rattle.std.proofs.Common.{None, Some}
use Rattle.std.proofs.lemmas.Bool.Decides.{nat_tests}
use Rattle.std.specs.Str.{bytes_eq}
use Rattle.dimacs.proofs.Scanning.{since_within}
use Rattle.dimacs.proofs.Tested.{by_test}

-- ---- the line

up_to_take : (test : ℕ → Bool) (l : List ℕ) → take (length l - length (since test l)) l ≡ up_to test l
unfolding up_to since
up_to_take test [] = refl
up_to_take test (c ∷ rest) =
    let n = length (since test rest) in
    let none : suc (length rest) - suc (length rest) ≡ 0 = omega arith in
    let more : suc (length rest) - n ≡ suc (length rest - n) = omega (arith, since_within test rest) in
    by_test (test c) (λ t. rw (t, none)) (λ f. rw (f, more, up_to_take test rest))

-- from its place s up to its end e
pub line_is : (text : List ℕ) {s e : ℕ} → Place text s (past_comments false text) → Place text e (since ends (drop s text))
    → take (e - s) (drop s text) ≡ header_line text
line_is text {s} {e} p q =
    let n : e - s ≡ length (drop s text) - length (since ends (drop s text)) =
    omega (arith, length-drop s text, length-drop e text, ap length q.stands, q.within) in
    ap (λ (m : ℕ). take m (drop s text)) n ∙ up_to_take ends (drop s text) ∙ ap (up_to ends) p.stands

-- ---- `p cnf` and a blank

eqb_sym : (a b : ℕ) → eqb a b ≡ eqb b a
eqb_sym a b = grind (arith, nat_tests)

pub starts_prefix : (ps l : List ℕ) → bytes_eq (take (length ps) l) ps ≡ starts_with ps l
unfolding starts_with
starts_prefix [] l = refl
starts_prefix (p ∷ ps) [] = refl
starts_prefix (p ∷ ps) (c ∷ l) = rw (starts_prefix ps l, eqb_sym c p)

-- ---- the two numbers, by the words there

pub counts_none : {ws : List (List ℕ)} → ws ≡ [] → None ≡ counts_in ws
unfolding counts_in
counts_none e = rw e

pub counts_one : {ws vs : List (List ℕ)} {w : List ℕ} → ws ≡ w ∷ vs → vs ≡ [] → None ≡ counts_in ws
unfolding counts_in
counts_one e f = rw (e, f)

pub counts_three : {ws vs us xs : List (List ℕ)} {w v u : List ℕ} → ws ≡ w ∷ vs → vs ≡ v ∷ us → us ≡ u ∷ xs → None ≡ counts_in ws
unfolding counts_in
counts_three e f g = rw (e, f, g)

pub counts_two : {ws vs us : List (List ℕ)} {w v : List ℕ} {a b : ℕ} → ws ≡ w ∷ vs → vs ≡ v ∷ us → us ≡ [] → a ≡ number_of w → b ≡ number_of v
    → counts_in ws ≡ cond (ltb a beyond && ltb b beyond) (Some (record { variables = a; clauses = b })) None
unfolding counts_in
counts_two e f g is is-also = rw (e, f, g, is, is-also)
