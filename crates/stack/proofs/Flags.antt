-- Literals by their places: one that stands among 2T flags is of T symbols, and literals at one place are one.
use Rattle.meaning.proofs.Kit.{◌≡◌, ◌∙◌, sym, ap, ap₂, refl, subst, true, Bool, ◌&&◌, ◌||◌, List, [], ◌∷◌, ◌≤◌, ℕ, ◌<◌, ◌*◌, arith, eqb, leb, ℤ}
use Rattle.meaning.proofs.Kit.{nat_abs, length, le-leb, eqb-true, eq-eqb}
use Rattle.std.specs.List.{list_any}
use Rattle.std.proofs.lemmas.Bool.Decides.{Decides-int_eq}
use Rattle.std.specs.Ordering.{int_eq}
use Rattle.meaning.specs.Tests.{all, member}
use Rattle.meaning.specs.Literals.{has}
use Rattle.meaning.proofs.Literals.{has_below}
use Rattle.meaning.proofs.Tests.{both_true, and_intro, same_test}
use Rattle.literals.specs.Literal.{in_range, place_of, literal_at}
use Rattle.literals.proofs.Places.{literal_at_place, literal_symbol}
use Rattle.literals.proofs.Arguments.{range_facts}
use Rattle.candidates.specs.Given.{places_of}

-- what stands among the flags of a furnace is of one of their symbols, however many the board says it has
pub flag_within : (S T : ℕ) (flags : List Bool) (l : ℤ) → length flags ≡ 2 * T → in_range S l && has flags (place_of l) ≡ true → in_range T l ≡ true
flag_within S T flags l long e =
    let both = both_true (in_range S l) (has flags (place_of l)) e in
    let some = (range_facts S l both.0).0 in
    let low : place_of l < 2 * T = omega (arith, long, has_below flags (place_of l) both.1) in
    and_intro (leb 1 (nat_abs l)) (leb (nat_abs l) T) (le-leb 1 (nat_abs l) some)
    (le-leb (nat_abs l) T (subst (λ m. nat_abs m ≤ T) (literal_at_place l some) (literal_symbol T (place_of l) low)))

-- and a literal of some symbols is one of more
pub one_place : (S : ℕ) (l m : ℤ) → in_range S l ≡ true → in_range S m ≡ true → place_of l ≡ place_of m → l ≡ m
one_place S l m e f same = sym (literal_at_place l (range_facts S l e).0) ∙ ap literal_at same ∙ literal_at_place m (range_facts S m f).0

-- so a literal is one of some just if its place is one of theirs
pub member_place : (l : ℤ) (on : List ℤ) → all (in_range 200) on ≡ true → in_range 200 l ≡ true
    → list_any (λ m. int_eq m l) on ≡ member (place_of l) (places_of on)
member_place l [] e f = refl
member_place l (m ∷ on) e f =
    let both = both_true (in_range 200 m) (all (in_range 200) on) e in
    let same = same_test (int_eq m l) (eqb (place_of m) (place_of l))
    (λ h. eq-eqb (place_of m) (place_of l) (ap place_of ((Decides-int_eq m l).0 h)))
    (λ h. (Decides-int_eq m l).1 (one_place 200 m l both.0 f (eqb-true (place_of m) (place_of l) h))) in
    ap₂ (λ (a b : Bool). a || b) same (member_place l on both.1 f)
