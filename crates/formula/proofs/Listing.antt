-- The marks that a formula leaves on an empty table tell which symbols stand in it.
use Rattle.meaning.proofs.Kit.{◌≡◌, ◌∙◌, sym, ap, refl, true, false, Bool, ◌||◌, or-false, or_assoc, List, ◌≤◌, ℕ, ◌<◌, arith, eqb, length, get_or}
use Rattle.meaning.proofs.Kit.{replicate, set, length-set, length-replicate, get_or-replicate, get_or-set_other, get_or-set_same, eqb-true, eqb-false}
use mathlib.Core.Bool.{or-true}
use Rattle.meaning.specs.Tests.{keep, from}
use Rattle.formula.proofs.Words.{Formula, symbol, neg, and, or, imp, same, occurs, symbols_of, Parsed, good, bad, is_good, marked, marks_of}
use Rattle.formula.proofs.Words.{named, names_of}
use Rattle.meaning.proofs.Tests.{keep_same, from_in}
use Rattle.formula.proofs.Gathering.{marks_at}
use Rattle.formula.proofs.Walk.{never}

marked_length : (f : Formula) (m : List Bool) → length (marked f m) ≡ length m
unfolding marked
marked_length (symbol s) m = length-set m s true
marked_length (neg f) m = marked_length f m
marked_length (and f g) m = marked_length g (marked f m) ∙ marked_length f m
marked_length (or f g) m = marked_length g (marked f m) ∙ marked_length f m
marked_length (imp f g) m = marked_length g (marked f m) ∙ marked_length f m
marked_length (same f g) m = marked_length g (marked f m) ∙ marked_length f m

-- whether s is marked after t is
set_tells : (t s : ℕ) (m : List Bool) (b : Bool) → eqb t s ≡ b → s < length m → get_or (set m t true) s false ≡ get_or m s false || b
set_tells t s m true e h =
    let q = eqb-true t s e in
    ap (λ (k : ℕ). get_or (set m k true) s false) q ∙ get_or-set_same m s true false h ∙ sym (or-true (get_or m s false))
set_tells t s m false e h = get_or-set_other m t s true false (λ q. eqb-false t s e (sym q)) ∙ sym (or-false (get_or m s false))

-- the laws of the two operands, joined
two_tell : (f g : Formula) (m : List Bool) (s : ℕ)
    → get_or (marked g (marked f m)) s false ≡ get_or (marked f m) s false || occurs s g
    → get_or (marked f m) s false ≡ get_or m s false || occurs s f
    → get_or (marked g (marked f m)) s false ≡ get_or m s false || (occurs s f || occurs s g)
two_tell f g m s second first = second ∙ ap (λ (b : Bool). b || occurs s g) first ∙ or_assoc (get_or m s false) (occurs s f) (occurs s g)

marks_tell : (f : Formula) (m : List Bool) (s : ℕ) → s < length m → get_or (marked f m) s false ≡ get_or m s false || occurs s f
unfolding marked occurs
marks_tell (symbol t) m s h = set_tells t s m (eqb t s) refl h
marks_tell (neg f) m s h = marks_tell f m s h
marks_tell (and f g) m s h = two_tell f g m s (marks_tell g (marked f m) s (omega (arith, marked_length f m))) (marks_tell f m s h)
marks_tell (or f g) m s h = two_tell f g m s (marks_tell g (marked f m) s (omega (arith, marked_length f m))) (marks_tell f m s h)
marks_tell (imp f g) m s h = two_tell f g m s (marks_tell g (marked f m) s (omega (arith, marked_length f m))) (marks_tell f m s h)
marks_tell (same f g) m s h = two_tell f g m s (marks_tell g (marked f m) s (omega (arith, marked_length f m))) (marks_tell f m s h)

empty_tells : (f : Formula) (n s : ℕ) → s < n → marks_at (marked f (replicate n false)) s ≡ occurs s f
empty_tells f n s h =
    marks_tell f (replicate n false) s (omega (arith, length-replicate n false))
    ∙ ap (λ (b : Bool). b || occurs s f) (get_or-replicate n s false false h)

-- so the marked numbers of 1 to S are the formula's symbols
names_marked : (f : Formula) (n S : ℕ) → S < n → keep (marks_at (marked f (replicate n false))) (from 1 S) ≡ symbols_of S f
unfolding symbols_of
names_marked f n S h =
    keep_same (marks_at (marked f (replicate n false))) (λ s. occurs s f) (from 1 S)
    (λ s m. let r = from_in 1 S s m in empty_tells f n s (omega (arith, r.0, r.1)))

pub names_told : (S : ℕ) → S ≤ 200 → (p : Parsed) → is_good p ≡ true → (m : List Bool) → m ≡ marks_of p (replicate 256 false)
    → named (keep (marks_at m) (from 1 S)) ≡ names_of S p
unfolding names_of
names_told S h (good f used) e m q = ap (λ (l : List Bool). named (keep (marks_at l) (from 1 S))) q ∙ ap named (names_marked f 256 S (omega arith))
names_told S h (bad why at) e m q = never e
