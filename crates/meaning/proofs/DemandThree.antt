-- Demand 3: for accepted rules both ways find a literal and its opposite or neither does, and where neither does every label is the same.
use Rattle.meaning.proofs.Kit.{◌≡◌, ◌∙◌, sym, ap, ⊎_elim, ◌↔◌, true, false, Bool, List, In, in_of_map, ℕ, ◌*◌}
use Rattle.meaning.specs.Tests.{all}
use Rattle.meaning.specs.Literals.{opp, has, conflict}
use Rattle.meaning.specs.Formulae.{Formula, Rule, rule_of}
use Rattle.meaning.specs.Clauses.{all_rows}
use Rattle.meaning.specs.Rounds.{label}
use Rattle.meaning.specs.SecondWay.{accepted, rules_of, first_way, second_way}
use Rattle.meaning.specs.Promises.{Derived, Forced, Conflict, DemandThree, DemandThreeComputed}
use Rattle.meaning.proofs.Tests.{true_or_false, all_at}
use Rattle.meaning.proofs.Literals.{place_below, conflict_at, conflict_found}
use Rattle.meaning.proofs.Formulae.{symbol_bounds}
use Rattle.meaning.proofs.TwoWays.{Fit, same_literals, same_conflict}
use Rattle.meaning.proofs.Derived.{derived_is}
use Rattle.meaning.proofs.Forced.{accepted_words, forced_is}

-- accepted rules are satisfiable, and their symbols are from 1 to S
fit : (S : ℕ) (fs : List Formula) → all (accepted S) fs ≡ true → (rule : Rule) → In rule (rules_of S fs) → Fit (2 * S) rule
fit S fs ok rule m = let r = in_of_map (rule_of S) fs m in rw (← r.2) (one r.0 (all_at (accepted S) ok r.1))
  where
    one : (f : Formula) → accepted S f ≡ true → Fit (2 * S) (rule_of S f)
    one f h =
        record {
          sat = (accepted_words S f h).2;
          below = λ s b i. let k = symbol_bounds S f i in place_below S s b k.0 k.1;
        }

module _ (S : ℕ) (fs : List Formula) (held : List Bool) (ok : all (accepted S) fs ≡ true) where
  conflicts : conflict (first_way S fs held) ≡ conflict (second_way S fs held)
  conflicts = same_conflict (2 * S) (rules_of S fs) held (fit S fs ok)

  literals : conflict (first_way S fs held) ≡ false → first_way S fs held ≡ second_way S fs held
  literals = same_literals (2 * S) (rules_of S fs) held (fit S fs ok)

pub demand_three_computed : DemandThreeComputed
demand_three_computed S fs held ok =
    record {
      conflicts = conflicts S fs held ok;
      labels = λ peace s. ap (λ (known : List Bool). label known s) (literals S fs held ok peace);
    }

-- a set of literals that is a computed one has a conflict just where that one has
module _ (Known : ℕ → Type 0) (known : List Bool) (is : (p : ℕ) → Known p ↔ (has known p ≡ true)) where
  pub conflict_words : conflict known ≡ true → Conflict Known
  conflict_words h = let r = conflict_found known h in (r.0, (is r.0).1 r.1, (is (opp r.0)).1 r.2)

  pub conflict_of : Conflict Known → conflict known ≡ true
  conflict_of c = conflict_at known c.0 ((is c.0).0 c.1) ((is (opp c.0)).0 c.2)

pub demand_three : DemandThree
demand_three S fs held ok =
    record {
      together = (
        λ c. conflict_words (Forced S fs held) b two (sym e ∙ conflict_of First a one c),
        λ c. conflict_words First a one (e ∙ conflict_of (Forced S fs held) b two c),
      );
      same = λ n p. let q = ap (λ (known : List Bool). has known p) (alike n) in (λ d. (two p).1 (sym q ∙ (one p).0 d), λ d. (one p).1 (q ∙ (two p).0 d));
    }
  where
    a : List Bool
    a = first_way S fs held

    b : List Bool
    b = second_way S fs held

    First : ℕ → Type 0
    First = Derived (2 * S) (all_rows (rules_of S fs)) held

    one : (p : ℕ) → First p ↔ (has a p ≡ true)
    one = derived_is (2 * S) (all_rows (rules_of S fs)) held

    two : (p : ℕ) → Forced S fs held p ↔ (has b p ≡ true)
    two = forced_is S fs held ok

    e : conflict a ≡ conflict b
    e = conflicts S fs held ok

    alike : ¬ Conflict First → a ≡ b
    alike n = ⊎_elim (λ c. absurd (n (conflict_words First a one c))) (literals S fs held ok) (true_or_false (conflict a))
