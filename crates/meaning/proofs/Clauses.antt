-- Laws of clauses and of hits: by the first symbol, by leaving literals out, and of the empty clause.
use Rattle.meaning.proofs.Kit.{◌≡◌, ◌∙◌, sym, ap, refl, ⊎_elim, true, false, Bool, ◌||◌, or-false, List, [], ◌∷◌, map, In, here, there, in_nil}
use Rattle.meaning.proofs.Kit.{in_of_map, in_map, in_append_left, in_append_right, in_append, ◌≤◌, ℕ, suc, zero, arith, length}
use Rattle.meaning.proofs.Kit.{replicate}
use Rattle.meaning.specs.Tests.{any}
use Rattle.meaning.specs.Clauses.{Digit, denies, out, plus, minus, clauses, size, hit, assignments, row_of}
use Rattle.meaning.proofs.Tests.{any_append, any_map, any_never, or_left, or_right, one_true_lem}

-- ---- the clauses over n symbols

block_length : (d : Digit) (n : ℕ) (v : List Digit) → ((u : List Digit) → In u (clauses n) → length u ≡ n) → In v (map (λ u. d ∷ u) (clauses n))
    → length v ≡ suc n
block_length d n v f m = let w = in_of_map (λ (u : List Digit). d ∷ u) (clauses n) m in ap length (sym w.2) ∙ ap suc (f w.0 w.1)

-- they are the lists of n digits
pub clauses_length : (n : ℕ) (v : List Digit) → In v (clauses n) → length v ≡ n
clauses_length zero v (here e) = ap length e
clauses_length zero v (there m) = absurd (in_nil m)
clauses_length (suc n) v m =
    ⊎_elim (block_length plus n v (clauses_length n))
    (λ r. ⊎_elim (block_length minus n v (clauses_length n)) (block_length out n v (clauses_length n))
    (in_append (map (λ (u : List Digit). minus ∷ u) (clauses n)) r))
    (in_append (map (λ (u : List Digit). plus ∷ u) (clauses n)) m)

pub clauses_in_lem : (v : List Digit) → In v (clauses (length v))
clauses_in_lem [] = here refl
clauses_in_lem (denies false ∷ v) = in_append_left _ (in_map (λ (u : List Digit). plus ∷ u) (clauses_in_lem v))
clauses_in_lem (denies true ∷ v) =
    in_append_right (map (λ (u : List Digit). plus ∷ u) (clauses (length v)))
    (in_append_left _ (in_map (λ (u : List Digit). minus ∷ u) (clauses_in_lem v)))
clauses_in_lem (out ∷ v) =
    in_append_right (map (λ (u : List Digit). plus ∷ u) (clauses (length v)))
    (in_append_right (map (λ (u : List Digit). minus ∷ u) (clauses (length v))) (in_map (λ (u : List Digit). out ∷ u) (clauses_in_lem v)))

pub size_le : (v : List Digit) → size v ≤ length v
size_le [] = omega arith
size_le (denies x ∷ v) = omega (arith, size_le v)
size_le (out ∷ v) = omega (arith, size_le v)

-- a row has a place for each literal
pub length_row_of : (ss : List ℕ) (v : List Digit) → length v ≤ length ss → length (row_of ss v) ≡ size v
length_row_of [] [] h = refl
length_row_of [] (d ∷ v) h = absurd (omega arith)
length_row_of (s ∷ ss) [] h = refl
length_row_of (s ∷ ss) (denies x ∷ v) h = ap suc (length_row_of ss v (omega arith))
length_row_of (s ∷ ss) (out ∷ v) h = length_row_of ss v (omega arith)

-- ---- hits by the clause's first symbol

-- the rule once the first symbol has the value x
abbrev pub given : (List Bool → Bool) → Bool → List Bool → Bool
given sat x a = sat (x ∷ a)

-- a literal is false at one value of its symbol
pub hit_denies : (sat : List Bool → Bool) (x : Bool) (v : List Digit) → hit sat (denies x ∷ v) ≡ hit (given sat x) v
unfolding hit
hit_denies sat false v = simp (any_append, any_map, any_never, or-false)
hit_denies sat true v = simp (any_append, any_map, any_never)

-- a symbol that is left out may have either
pub hit_out : (sat : List Bool → Bool) (v : List Digit) → hit sat (out ∷ v) ≡ (hit (given sat false) v || hit (given sat true) v)
unfolding hit
hit_out sat v = simp (any_append, any_map)

-- a hit depends on the assignments to as many symbols only
pub hit_same : (sat sat' : List Bool → Bool) (v : List Digit) → ((a : List Bool) → length a ≡ length v → sat a ≡ sat' a) → hit sat v ≡ hit sat' v
hit_same sat sat' [] f = unfold hit in ap (λ (b : Bool). b || false) (f [] refl)
hit_same sat sat' (denies x ∷ v) f = rw (hit_denies, hit_denies) (hit_same (given sat x) (given sat' x) v (λ a l. f (x ∷ a) (ap suc l)))
hit_same sat sat' (out ∷ v) f =
    rw (
      hit_out,
      hit_out,
      hit_same (given sat false) (given sat' false) v (λ a l. f (false ∷ a) (ap suc l)),
      hit_same (given sat true) (given sat' true) v (λ a l. f (true ∷ a) (ap suc l)),
    )

-- the empty clause is hit where some assignment satisfies the rule
pub hit_empty : (sat : List Bool → Bool) (n : ℕ) → hit sat (replicate n out) ≡ any sat (assignments n)
hit_empty sat zero = unfold hit in refl
hit_empty sat (suc n) = hit_out sat (replicate n out) ∙ rw (hit_empty (given sat false) n, hit_empty (given sat true) n) (simp (any_append, any_map))

-- ---- leaving out literals

-- u is v with some of its literals left out, or none
pub data Leaves : List Digit → List Digit → Type 0 where
  done : Leaves [] []
  kept : {d : Digit} {u v : List Digit} → Leaves u v → Leaves (d ∷ u) (d ∷ v)
  left : {d : Digit} {u v : List Digit} → Leaves u v → Leaves (out ∷ u) (d ∷ v)

pub leaves_self : (v : List Digit) → Leaves v v
leaves_self [] = done
leaves_self (d ∷ v) = kept (leaves_self v)

pub leaves_more : {u v w : List Digit} → Leaves u v → Leaves v w → Leaves u w
leaves_more l done = l
leaves_more (kept l) (kept m) = kept (leaves_more l m)
leaves_more (left l) (kept m) = left (leaves_more l m)
leaves_more (kept l) (left m) = left (leaves_more l m)
leaves_more (left l) (left m) = left (leaves_more l m)

pub leaves_length : {u v : List Digit} → Leaves u v → length u ≡ length v
leaves_length done = refl
leaves_length (kept l) = ap suc (leaves_length l)
leaves_length (left l) = ap suc (leaves_length l)

either : {a b c d : Bool} → (a ≡ true → c ≡ true) → (b ≡ true → d ≡ true) → (a || b) ≡ true → (c || d) ≡ true
either {a} {b} {c} {d} f g h = ⊎_elim (λ e. or_left c d (f e)) (λ e. or_right c d (g e)) (one_true_lem a b h)

out_leaves : (sat : List Bool → Bool) (u v : List Digit) → ((x : Bool) → hit (given sat x) v ≡ true → hit (given sat x) u ≡ true)
    → hit sat (out ∷ v) ≡ true → hit sat (out ∷ u) ≡ true
out_leaves sat u v f h =
    hit_out sat u ∙ either {a = hit (given sat false) v} {b = hit (given sat true) v} (f false) (f true) (sym (hit_out sat v) ∙ h)

-- a clause with fewer literals is false under more assignments
pub hit_leaves : (sat : List Bool → Bool) {u v : List Digit} → Leaves u v → hit sat v ≡ true → hit sat u ≡ true
hit_leaves sat done h = h
hit_leaves sat (kept {d = denies x} {u = u} {v = v} l) h = hit_denies sat x u ∙ hit_leaves (given sat x) l (sym (hit_denies sat x v) ∙ h)
hit_leaves sat (kept {d = out} {u = u} {v = v} l) h = out_leaves sat u v (λ x. hit_leaves (given sat x) l) h
hit_leaves sat (left {d = denies false} {u = u} {v = v} l) h =
    hit_out sat u ∙ or_left (hit (given sat false) u) (hit (given sat true) u) (hit_leaves (given sat false) l (sym (hit_denies sat false v) ∙ h))
hit_leaves sat (left {d = denies true} {u = u} {v = v} l) h =
    hit_out sat u ∙ or_right (hit (given sat false) u) (hit (given sat true) u) (hit_leaves (given sat true) l (sym (hit_denies sat true v) ∙ h))
hit_leaves sat (left {d = out} {u = u} {v = v} l) h = out_leaves sat u v (λ x. hit_leaves (given sat x) l) h
