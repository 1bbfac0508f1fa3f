-- What the rounds over accepted rules force is what `Forced` says, with no rounds and no clauses.
use Rattle.meaning.proofs.Kit.{◌≡◌, sym, subst, ⊎_elim, true, Bool, ◌&&◌, List, In, in_of_map, in_map, ℕ, ◌<◌, suc, ◌*◌, zero, leb}
use Rattle.meaning.proofs.Kit.{length}
use Rattle.meaning.specs.Tests.{all}
use Rattle.meaning.specs.Literals.{place, has}
use Rattle.meaning.specs.Formulae.{Formula, inside, symbols_of, Rule, rule_of}
use Rattle.meaning.specs.Clauses.{satisfiable}
use Rattle.meaning.specs.Rounds.{reached}
use Rattle.meaning.specs.SecondWay.{forces, by_rules, accepted, rules_of, second_way}
use Rattle.meaning.specs.Promises.{Forced, premise, by_rule, ForcedIs}
use Rattle.meaning.proofs.Tests.{both_true, any_found, any_at, all_at}
use Rattle.meaning.proofs.Literals.{place_below}
use Rattle.meaning.proofs.Rounds.{closed, premises_in, start_cases, round_cases}
use Rattle.meaning.proofs.Formulae.{symbol_bounds, inside_bounds}
use Rattle.meaning.proofs.Ways.{forces_words, literal_words, rules_grow}
use Rattle.meaning.proofs.Words.{forces_means}

-- what it is to be accepted
pub accepted_words : (S : ℕ) (f : Formula) → accepted S f ≡ true
    → (inside S f ≡ true) × (leb (length (symbols_of S f)) 8 ≡ true) × (satisfiable (rule_of S f) ≡ true)
accepted_words S f h =
    let a = both_true (inside S f && leb (length (symbols_of S f)) 8) (satisfiable (rule_of S f)) h in
    let b = both_true (inside S f) (leb (length (symbols_of S f)) 8) a.0 in
    (b.0, b.1, a.1)

module _ (S : ℕ) (fs : List Formula) (held : List Bool) (ok : all (accepted S) fs ≡ true) where
  inside_of : (f : Formula) → In f fs → inside S f ≡ true
  inside_of f m = (accepted_words S f (all_at (accepted S) ok m)).0

  forced_reached : {p : ℕ} → Forced S fs held p → has (second_way S fs held) p ≡ true
  forced_reached (premise {p = p} l h) = premises_in (2 * S) (by_rules (rules_of S fs)) held p l h
  forced_reached (by_rule {p = p} f s b known m from w e) =
      let i = inside_of f m in
      let c = inside_bounds S f s i w.0 in
      let t : forces known (rule_of S f) (place s b) ≡ true = (forces_means S f i known s b c.0).1 w in
      let l : p < 2 * S = rw e (place_below S s b c.0 c.1) in
      let g : by_rules (rules_of S fs) known p ≡ true = any_at (λ (rule : Rule). forces known rule p) (in_map (rule_of S) m) (rw e t) in
      closed (2 * S) (by_rules (rules_of S fs)) held p l (rules_grow (rules_of S fs) known (second_way S fs held) p (λ q h. forced_reached (from q h)) g)

  reached_forced : (k p : ℕ) → has (reached (2 * S) (by_rules (rules_of S fs)) held k) p ≡ true → Forced S fs held p
  reached_forced zero p h = let r = start_cases (2 * S) (by_rules (rules_of S fs)) held p h in premise r.0 r.1
  reached_forced (suc k) p h =
      ⊎_elim (reached_forced k p)
      (λ e.
      let r = any_found (λ (rule : Rule). forces now rule p) (rules_of S fs) e in
      let x = in_of_map (rule_of S) fs r.1 in
      by_one x.0 x.1 (subst (λ (rule : Rule). forces now rule p ≡ true) (sym x.2) r.2) (reached_forced k))
      (round_cases (2 * S) (by_rules (rules_of S fs)) held k p h)
    where
      now : List Bool
      now = reached (2 * S) (by_rules (rules_of S fs)) held k

      by_one : (f : Formula) → In f fs → forces now (rule_of S f) p ≡ true → ((x : ℕ) → has now x ≡ true → Forced S fs held x) → Forced S fs held p
      by_one f m t ih =
          let y = literal_words (symbols_of S f) p (forces_words now (rule_of S f) p t).0 in
          by_rule f y.0 y.1 now m ih ((forces_means S f (inside_of f m) now y.0 y.1 (symbol_bounds S f y.2).0).0 (rw y.3 at t))
          y.3

pub forced_is : ForcedIs
forced_is S fs held ok p = (forced_reached S fs held ok, reached_forced S fs held ok (2 * S) p)
