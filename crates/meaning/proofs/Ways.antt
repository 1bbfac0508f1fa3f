-- What it means that a rule forces a literal, and that a larger set of literals gives no less, either way.
use Rattle.meaning.proofs.Kit.{◌≡◌, sym, ⊎_elim, inl, inr, ◌⊎◌, true, false, Bool, ◌&&◌, not, ◌||◌, List, In, ℕ, eqb, length, eq-eqb, not-true}
use Rattle.meaning.proofs.Kit.{eqb-true}
use Rattle.meaning.specs.Tests.{all, member}
use Rattle.meaning.specs.Literals.{place, opp, has, Within}
use Rattle.meaning.specs.Formulae.{Rule}
use Rattle.meaning.specs.Clauses.{assignments}
use Rattle.meaning.specs.Rounds.{gives, by_rows}
use Rattle.meaning.specs.SecondWay.{says, agrees, literal_of, forces, by_rules}
use Rattle.meaning.proofs.Tests.{true_or_false, both_true, and_intro, one_true_lem, or_left, or_right, not_intro, false_of, clash, any_found}
use Rattle.meaning.proofs.Tests.{any_at, all_at, all_of, any_imp, all_imp, member_in, in_member}
use Rattle.meaning.proofs.Rounds.{Monotone}
use Rattle.meaning.proofs.Gives.{gives_grow}
use Rattle.meaning.proofs.Implicates.{assignment_listed, assignment_length}

-- ---- a rule forces a literal: it is one of the rule's symbols, and each assignment that agrees with what is known and satisfies
-- the rule says it

abbrev pub AllSay : List Bool → Rule → ℕ → Type 0
AllSay known rule p =
    (a : List Bool) → length a ≡ length rule.symbols → agrees known (says rule.symbols a) ≡ true → rule.accepts a ≡ true
    → In p (says rule.symbols a)

module _ (known : List Bool) (rule : Rule) (p : ℕ) where
  -- what `forces` asks of one assignment
  abbrev fine : List Bool → Bool
  fine a = agrees known (says rule.symbols a) && rule.accepts a

  abbrev obeys : List Bool → Bool
  obeys a = not (fine a) || member p (says rule.symbols a)

  pub forces_words : forces known rule p ≡ true → (literal_of rule.symbols p ≡ true) × AllSay known rule p
  unfolding forces
  forces_words h = (r.0, every)
    where
      r : (literal_of rule.symbols p ≡ true) × (all obeys (assignments (length rule.symbols)) ≡ true)
      r = both_true (literal_of rule.symbols p) (all obeys (assignments (length rule.symbols))) h

      every : AllSay known rule p
      every a e g s =
          ⊎_elim (λ n. clash (and_intro (agrees known (says rule.symbols a)) (rule.accepts a) g s) (not-true (fine a) n))
          (λ m. member_in p (says rule.symbols a) m)
          (one_true_lem (not (fine a)) (member p (says rule.symbols a)) (all_at obeys r.1 (rw e at (assignment_listed a))))

  pub forces_of : literal_of rule.symbols p ≡ true → AllSay known rule p → forces known rule p ≡ true
  unfolding forces
  forces_of l h =
      and_intro (literal_of rule.symbols p) (all obeys (assignments (length rule.symbols))) l
      (all_of obeys (assignments (length rule.symbols))
      (λ a m. each a (assignment_length (length rule.symbols) a m) (true_or_false (fine a))))
    where
      each : (a : List Bool) → length a ≡ length rule.symbols → (fine a ≡ true) ⊎ (fine a ≡ false) → obeys a ≡ true
      each a e (inl t) =
          let k = both_true (agrees known (says rule.symbols a)) (rule.accepts a) t in
          or_right (not (fine a)) (member p (says rule.symbols a)) (in_member (h a e k.0 k.1))
      each a e (inr t) = or_left (not (fine a)) (member p (says rule.symbols a)) (not_intro (fine a) t)

-- the literals of one of the symbols
pub literal_of_lem : (symbols : List ℕ) (s : ℕ) (b : Bool) (p : ℕ) → In s symbols → p ≡ place s b → literal_of symbols p ≡ true
literal_of_lem symbols s b p m e = any_at (λ (t : ℕ). eqb (place t true) p || eqb (place t false) p) m (go b e)
  where
    go : (b : Bool) → p ≡ place s b → eqb (place s true) p || eqb (place s false) p ≡ true
    go true e = or_left (eqb (place s true) p) (eqb (place s false) p) (eq-eqb (place s true) p (sym e))
    go false e = or_right (eqb (place s true) p) (eqb (place s false) p) (eq-eqb (place s false) p (sym e))

pub literal_words : (symbols : List ℕ) (p : ℕ) → literal_of symbols p ≡ true → (s : ℕ) × (b : Bool) × In s symbols × (p ≡ place s b)
literal_words symbols p h =
    let r = any_found (λ (t : ℕ). eqb (place t true) p || eqb (place t false) p) symbols h in
    ⊎_elim (λ e. (r.0, true, r.1, sym (eqb-true (place r.0 true) p e))) (λ e. (r.0, false, r.1, sym (eqb-true (place r.0 false) p e)))
    (one_true_lem (eqb (place r.0 true) p) (eqb (place r.0 false) p) r.2)

-- ---- a larger set gives no less, either way

pub rows_grow : (rows : List (List ℕ)) → Monotone (by_rows rows)
rows_grow rows a b p w h = any_imp (λ (row : List ℕ). gives a row p) (λ (row : List ℕ). gives b row p) rows (λ row m g. gives_grow a b row p w g) h

-- of a larger set fewer assignments agree
agrees_less : (a b : List Bool) (said : List ℕ) → Within a b → agrees b said ≡ true → agrees a said ≡ true
agrees_less a b said w h =
    all_imp (λ (q : ℕ). not (has b (opp q))) (λ (q : ℕ). not (has a (opp q))) said
    (λ q m e. not_intro (has a (opp q)) (false_of (has a (opp q)) (λ t. clash (w (opp q) t) (not-true (has b (opp q)) e)))) h

pub rules_grow : (rules : List Rule) → Monotone (by_rules rules)
rules_grow rules a b p w h =
    any_imp (λ (rule : Rule). forces a rule p) (λ (rule : Rule). forces b rule p) rules
    (λ rule m g.
    let r = forces_words a rule p g in
    forces_of b rule p r.0 (λ x e t s. r.1 x e (agrees_less a b (says rule.symbols x) w t) s)) h
