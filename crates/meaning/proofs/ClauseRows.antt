-- The rows of a rule that says that one clause is true, a clause with a literal of every symbol of the rule: this clause alone. And of a rule
-- that is always true: none.
use Rattle.meaning.proofs.Kit.{◌≡◌, ◌∙◌, sym, ap, refl, subst, subst₂, ⊎_elim, true, false, Bool, ◌&&◌, not, bool_beq, List, [], ◌∷◌, map, In}
use Rattle.meaning.proofs.Kit.{there, in_nil, ℕ, ◌<◌, suc, zero, arith, length, length-map, not-true, get_or, drop}
use mathlib.Core.List.Memᴰ.{head as here_in}
use Rattle.meaning.specs.Tests.{all, from}
use Rattle.meaning.specs.BySize.{BySize, EachBefore}
use Rattle.meaning.specs.Literals.{place}
use Rattle.meaning.specs.Formulae.{Rule}
use Rattle.meaning.specs.Clauses.{Digit, denies, out, falsifies, hit, prime, lone, clauses, size, primes_in_order, row_of, rows_of, RowBefore, here}
use Rattle.meaning.specs.Clauses.{later}
use Rattle.meaning.proofs.Tests.{both_true, and_intro, or_left, or_right, not_intro, clash}
use Rattle.meaning.proofs.BySize.{length_from, below_size_each}
use Rattle.meaning.proofs.Clauses.{hit_denies, hit_out, hit_same}
use Rattle.meaning.proofs.Primes.{lone_same, prime_lone, prime_same}
use Rattle.meaning.proofs.Formulae.{Ascending}
use Rattle.meaning.proofs.Order.{all_primes}
use Rattle.meaning.proofs.OrderOfRows.{Sorted, clauses_each}

-- a clause that is not hit, while leaving out any one literal makes it hit, is prime; and a prime one is not hit
pub prime_of : (sat : List Bool → Bool) (v : List Digit) → hit sat v ≡ false → lone (hit sat) v ≡ true → prime sat v ≡ true
prime_of sat v h l = prime_lone sat v ∙ and_intro (not (hit sat v)) (lone (hit sat) v) (not_intro (hit sat v) h) l

pub not_hit : (sat : List Bool → Bool) (v : List Digit) → prime sat v ≡ true → hit sat v ≡ false
not_hit sat v p = not-true (hit sat v) (both_true (not (hit sat v)) (lone (hit sat) v) (sym (prime_lone sat v) ∙ p)).0

-- ---- a rule that is always true is hit by every clause

abbrev always : List Bool → Bool
always a = true

hit_always : (v : List Digit) → hit always v ≡ true
hit_always [] = unfold hit in refl
hit_always (denies x ∷ v) = hit_denies always x v ∙ hit_always v
hit_always (out ∷ v) = hit_out always v ∙ or_left (hit always v) (hit always v) (hit_always v)

nothing_in : (vs : List (List Digit)) → ((v : List Digit) → In v vs → ⊥) → vs ≡ []
nothing_in [] f = refl
nothing_in (v ∷ vs) f = absurd (f v (here_in refl))

-- so it has no row
pub always_rows : (rule : Rule) → ((a : List Bool) → length a ≡ length rule.symbols → rule.accepts a ≡ true) → rows_of rule ≡ []
always_rows rule f = ap (map (row_of rule.symbols)) (nothing_in (primes_in_order rule.accepts (length rule.symbols)) none)
  where
    none : (v : List Digit) → In v (primes_in_order rule.accepts (length rule.symbols)) → ⊥
    none v m =
        let r = (all_primes rule.accepts (length rule.symbols) v).0 m in
        clash (hit_same rule.accepts always v (λ a e. f a (e ∙ r.0)) ∙ hit_always v) (not_hit rule.accepts v r.1)

-- ---- a rule that every assignment satisfies but one: the clause that denies each value of this one is true

abbrev pub against : List Bool → List Digit
against x = map denies x

abbrev pub unless : List Bool → List Bool → Bool
unless x a = not (falsifies (against x) a)

-- a clause that denies each symbol the value `f` is false where they have it,
pub falsifies_map : (f e : ℕ → Bool) (symbols : List ℕ)
    → falsifies (against (map f symbols)) (map e symbols) ≡ all (λ s. bool_beq (f s) (e s)) symbols
falsifies_map f e [] = refl
falsifies_map f e (s ∷ symbols) = ap (λ (b : Bool). bool_beq (f s) (e s) && b) (falsifies_map f e symbols)

-- and its row says of each the other value
pub row_map : (f : ℕ → Bool) (symbols : List ℕ) → row_of symbols (against (map f symbols)) ≡ map (λ s. place s (not (f s))) symbols
row_map f [] = refl
row_map f (s ∷ symbols) = ap (λ (row : List ℕ). place s (not (f s)) ∷ row) (row_map f symbols)

-- a clause that leaves out the first literal is hit
out_hit : (b : Bool) (x : List Bool) (v : List Digit) → hit (unless (b ∷ x)) (out ∷ v) ≡ true
out_hit false x v = hit_out (unless (false ∷ x)) v ∙ or_right (hit (unless x) v) (hit always v) (hit_always v)
out_hit true x v = hit_out (unless (true ∷ x)) v ∙ or_left (hit always v) (hit (unless x) v) (hit_always v)

-- one that has it is hit where the rest is
same_hit : (b : Bool) (x : List Bool) (v : List Digit) → hit (unless (b ∷ x)) (denies b ∷ v) ≡ hit (unless x) v
same_hit false x v = hit_denies (unless (false ∷ x)) false v
same_hit true x v = hit_denies (unless (true ∷ x)) true v

-- one that has its opposite is hit
other_hit : (b : Bool) (x : List Bool) (v : List Digit) → hit (unless (b ∷ x)) (denies (not b) ∷ v) ≡ true
other_hit false x v = hit_denies (unless (false ∷ x)) true v ∙ hit_always v
other_hit true x v = hit_denies (unless (true ∷ x)) false v ∙ hit_always v

-- so only the clause itself is not
itself_safe : (x : List Bool) → hit (unless x) (against x) ≡ false
itself_safe [] = unfold hit in refl
itself_safe (b ∷ x) = same_hit b x (against x) ∙ itself_safe x

only_itself : (x : List Bool) (v : List Digit) → length v ≡ length x → hit (unless x) v ≡ false → v ≡ against x
only_itself [] [] e h = refl
only_itself [] (d ∷ v) e h = absurd (omega arith)
only_itself (b ∷ x) [] e h = absurd (omega arith)
only_itself (b ∷ x) (out ∷ v) e h = clash (out_hit b x v) h
only_itself (true ∷ x) (denies true ∷ v) e h = ap (λ (u : List Digit). denies true ∷ u) (only_itself x v (omega arith) (sym (same_hit true x v) ∙ h))
only_itself (true ∷ x) (denies false ∷ v) e h = clash (other_hit true x v) h
only_itself (false ∷ x) (denies true ∷ v) e h = clash (other_hit false x v) h
only_itself (false ∷ x) (denies false ∷ v) e h =
    ap (λ (u : List Digit). denies false ∷ u) (only_itself x v (omega arith) (sym (same_hit false x v) ∙ h))

itself_lone : (x : List Bool) → lone (hit (unless x)) (against x) ≡ true
itself_lone [] = refl
itself_lone (b ∷ x) =
    and_intro (hit (unless (b ∷ x)) (out ∷ against x)) (lone (λ u. hit (unless (b ∷ x)) (denies b ∷ u)) (against x)) (out_hit b x (against x))
    (lone_same (λ u. hit (unless (b ∷ x)) (denies b ∷ u)) (hit (unless x)) (against x) (λ u e. same_hit b x u) ∙ itself_lone x)

-- ---- and it is there once

not_before : {r t : List ℕ} → RowBefore r t → r ≡ t → ⊥
not_before (here {p = p} {q = q} l) e = let same : p ≡ q = ap (λ (w : List ℕ). get_or w 0 0) e in omega arith
not_before (later b) e = not_before b (ap (drop 1) e)

not_itself : (ss : List ℕ) (u : List Digit) → BySize size (Sorted ss) u u → ⊥
not_itself ss u h = ⊎_elim (λ l. omega arith) (λ w. not_before (w.1 refl) refl) h

-- a list in order that has one clause only has it once
once : (R : List Digit → List Digit → Type 0) (u : List Digit) (vs : List (List Digit)) → (R u u → ⊥) → EachBefore R vs → In u vs
    → ((v : List Digit) → In v vs → v ≡ u) → vs ≡ u ∷ []
once R u [] n c m f = absurd (in_nil m)
once R u (v ∷ []) n c m f = ap (λ (w : List Digit). w ∷ []) (f v (here_in refl))
once R u (v ∷ w ∷ vs) n c m f = absurd (n (subst₂ R (f v (here_in refl)) (f w (there (here_in refl))) (c.0 w (here_in refl))))

pub from_ascends : (m k n : ℕ) → m < k → Ascending m (from k n)
from_ascends m k zero l = tt
from_ascends m k (suc n) l = (l, from_ascends k (suc k) n (omega arith))

one_prime : (sat : List Bool → Bool) (n : ℕ) (u : List Digit) → length u ≡ n → prime sat u ≡ true
    → ((v : List Digit) → length v ≡ n → prime sat v ≡ true → v ≡ u) → primes_in_order sat n ≡ u ∷ []
one_prime sat n u l p f =
    let ss = from 1 n in
    let c = subst (λ (k : ℕ). EachBefore (Sorted ss) (clauses k)) (length_from 1 n) (clauses_each 0 ss (from_ascends 0 1 n (omega arith))) in
    once (BySize size (Sorted ss)) u (primes_in_order sat n) (not_itself ss u) (below_size_each size (prime sat) (clauses n) (Sorted ss) c (suc n))
    ((all_primes sat n u).1 (l, p)) (λ v m. let r = (all_primes sat n v).0 m in f v r.0 r.1)

-- a rule that says of its symbols what one clause says has this clause as its row
pub clause_alone : (rule : Rule) (x : List Bool) → length x ≡ length rule.symbols
    → ((a : List Bool) → length a ≡ length rule.symbols → rule.accepts a ≡ unless x a)
    → rows_of rule ≡ row_of rule.symbols (against x) ∷ []
clause_alone rule x e f =
    ap (map (row_of rule.symbols))
    (one_prime rule.accepts (length rule.symbols) (against x) long
    (as_clause (against x) long ∙ prime_of (unless x) (against x) (itself_safe x) (itself_lone x))
    (λ v k p. only_itself x v (k ∙ sym e) (not_hit (unless x) v (sym (as_clause v k) ∙ p))))
  where
    long : length (against x) ≡ length rule.symbols
    long = length-map x denies ∙ e

    as_clause : (v : List Digit) → length v ≡ length rule.symbols → prime rule.accepts v ≡ prime (unless x) v
    as_clause v k = prime_same rule.accepts (unless x) v (λ a l. f a (l ∙ k))
