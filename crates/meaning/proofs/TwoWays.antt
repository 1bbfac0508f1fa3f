-- The two ways agree for satisfiable rules: what a rule's rows give, the rule forces; and where the rows derive no conflict, they
-- derive all that the rules force.
use Rattle.meaning.proofs.Kit.{◌≡◌, ◌∙◌, sym, ap, ⊎_elim, inl, inr, ◌⊎◌, true, false, Bool, not, List, In, ℕ, ◌<◌, length, length-map}
use Rattle.meaning.proofs.Kit.{not-true}
use Rattle.meaning.specs.Tests.{member}
use Rattle.meaning.specs.Literals.{place, opp, has, Within, conflict}
use Rattle.meaning.specs.Formulae.{Rule}
use Rattle.meaning.specs.Clauses.{Digit, assignments, prime, row_of, rows_of, all_rows, satisfiable}
use Rattle.meaning.specs.Rounds.{gives, by_rows, closure}
use Rattle.meaning.specs.SecondWay.{says, agrees, forces, by_rules}
use Rattle.meaning.proofs.Tests.{true_or_false, clash, same_test, any_found, any_at, all_at, member_in, in_member}
use Rattle.meaning.proofs.Literals.{conflict_at, conflict_within, same_set}
use Rattle.meaning.proofs.Rounds.{reached_length, Closed, closure_closed, closure_least}
use Rattle.meaning.proofs.Clauses.{Leaves, leaves_length}
use Rattle.meaning.proofs.Primes.{contains_prime}
use Rattle.meaning.proofs.Implicates.{assignment_length, implicate_holds, prime_implicate}
use Rattle.meaning.proofs.Gives.{gives_words, gives_of}
use Rattle.meaning.proofs.Ways.{forces_of, literal_of_lem, rows_grow, rules_grow}
use Rattle.meaning.proofs.Rows.{row_symbol, true_literal, row_leaves, prime_row, row_prime, in_all_rows, all_rows_in}
use Rattle.meaning.proofs.Reason.{reason, reason_row, reason_implicate}

-- ---- rows are no stronger than their rule

-- an assignment that agrees with what is known and says one of a row's literals says the one that the row gives
given_said : (known : List Bool) (said : List ℕ) (p q : ℕ) → agrees known said ≡ true → In q said → (q ≡ p) ⊎ (has known (opp q) ≡ true) → In p said
given_said known said p q t n (inl e) = rw e at n
given_said known said p q t n (inr e) = clash e (not-true (has known (opp q)) (all_at (λ (x : ℕ). not (has known (opp x))) t n))

pub row_forces : (known : List Bool) (rule : Rule) (row : List ℕ) (p : ℕ) → In row (rows_of rule) → gives known row p ≡ true
    → forces known rule p ≡ true
row_forces known rule row p m g = go (row_prime rule row m)
  where
    symbols : List ℕ
    symbols = rule.symbols

    r : In p row × ((q : ℕ) → In q row → (q ≡ p) ⊎ (has known (opp q) ≡ true))
    r = gives_words known row p g

    go : (v : List Digit) × (length v ≡ length symbols) × (prime rule.accepts v ≡ true) × (row_of symbols v ≡ row) → forces known rule p ≡ true
    go (v, e, k, o) =
        let z = row_symbol symbols v p (rw (← o) at r.0) in
        forces_of known rule p (literal_of_lem symbols z.0 z.1 p z.2 z.3)
        (λ a l t s.
        let f = implicate_holds rule.accepts v a (prime_implicate rule.accepts v k) (l ∙ sym e) s in
        let x = true_literal symbols v a e (l ∙ sym e) f in
        given_said known (says symbols a) p x.0 t x.2 (r.1 x.0 (rw o at x.1)))

-- ---- and rules no stronger than their rows, in a set with no conflict

-- what is asked of a rule: it is satisfiable, and its literals have places
pub record Fit (places : ℕ) (rule : Rule) : Type 0 where
  pub sat : satisfiable rule ≡ true
  pub below : (s : ℕ) (b : Bool) → In s rule.symbols → place s b < places

-- a prime implicate of a satisfiable rule has a literal
pub prime_literal : (rule : Rule) (v : List Digit) → satisfiable rule ≡ true → length v ≡ length rule.symbols → prime rule.accepts v ≡ true
    → (q : ℕ) × In q (row_of rule.symbols v)
prime_literal rule v sat e k =
    let a = any_found rule.accepts (assignments (length rule.symbols)) sat in
    let l = assignment_length (length rule.symbols) a.0 a.1 ∙ sym e in
    let f = implicate_holds rule.accepts v a.0 (prime_implicate rule.accepts v k) l a.2 in
    let x = true_literal rule.symbols v a.0 e l f in
    (x.0, x.1)

-- a set without conflict that has what the rule's rows give has what the rule forces
module _ (places : ℕ) (known : List Bool) (rule : Rule) (fit : Fit places rule)
    (given : (row : List ℕ) (q : ℕ) → In row (rows_of rule) → q < places → gives known row q ≡ true → has known q ≡ true)
    (peace : conflict known ≡ false) where
  abbrev row_for : List Digit → List ℕ
  row_for u = row_of rule.symbols u

  -- a row whose literals all have known opposites gives one of them
  no_row : (u : List Digit) → length u ≡ length rule.symbols → prime rule.accepts u ≡ true
      → ((q : ℕ) → In q (row_for u) → has known (opp q) ≡ true) → ⊥
  no_row u e k away =
      let x = prime_literal rule u fit.sat e k in
      let z = row_symbol rule.symbols u x.0 x.1 in
      let h =
      given (row_for u) x.0 (prime_row rule u e k) (rw z.3 (fit.below z.0 z.1 z.2))
      (gives_of known (row_for u) x.0 x.1 (λ q i. inr (away q i))) in
      clash (conflict_at known x.0 h (away x.0 x.1)) peace

  -- the reason contains a prime implicate, and its row gives p
  by_reason : (p : ℕ) (u : List Digit) → p < places → Leaves u (reason known p rule.symbols) → prime rule.accepts u ≡ true → has known p ≡ true
  by_reason p u l v k =
      ⊎_elim (λ m. given (row_for u) p (prime_row rule u e k) l (gives_of known (row_for u) p (member_in p (row_for u) m) each))
      (λ m. absurd (no_row u e k (λ q i. ⊎_elim (λ s. clash (in_member (rw s at i)) m) (λ h. h) (each q i)))) (true_or_false (member p (row_for u)))
    where
      e : length u ≡ length rule.symbols
      e = leaves_length v ∙ length-map rule.symbols _

      each : (q : ℕ) → In q (row_for u) → (q ≡ p) ⊎ (has known (opp q) ≡ true)
      each q i = reason_row known p rule.symbols q (row_leaves rule.symbols v q i)

  pub forced_in : (p : ℕ) → p < places → forces known rule p ≡ true → has known p ≡ true
  forced_in p l f =
      ⊎_elim (λ h. h)
      (λ new. let k = contains_prime rule.accepts (reason known p rule.symbols) (reason_implicate known p peace new rule f) in
      by_reason p k.0 l k.1 k.2)
      (true_or_false (has known p))

-- ---- the two closures

module _ (places : ℕ) (rules : List Rule) (held : List Bool) where
  abbrev first : List Bool
  first = closure places (by_rows (all_rows rules)) held

  abbrev second : List Bool
  second = closure places (by_rules rules) held

  -- whatever the rows derive, the rules force
  pub rows_within : Within first second
  rows_within =
      closure_least places (by_rows (all_rows rules)) (rows_grow (all_rows rules)) held second (record { premises = c.premises; given = step })
    where
      c : Closed places (by_rules rules) held second
      c = closure_closed places (by_rules rules) held

      step : (p : ℕ) → p < places → by_rows (all_rows rules) second p ≡ true → has second p ≡ true
      step p l g =
          let r = any_found (λ (row : List ℕ). gives second row p) (all_rows rules) g in
          let k = all_rows_in rules r.0 r.1 in
          c.given p l (any_at (λ (rule : Rule). forces second rule p) k.1 (row_forces second k.0 r.0 p k.2 r.2))

  module _ (fit : (rule : Rule) → In rule rules → Fit places rule) where
    -- where the rows derive no conflict, whatever the rules force, the rows derive
    pub rules_within : conflict first ≡ false → Within second first
    rules_within peace = closure_least places (by_rules rules) (rules_grow rules) held first (record { premises = c.premises; given = step })
      where
        c : Closed places (by_rows (all_rows rules)) held first
        c = closure_closed places (by_rows (all_rows rules)) held

        step : (p : ℕ) → p < places → by_rules rules first p ≡ true → has first p ≡ true
        step p l g =
            let r = any_found (λ (rule : Rule). forces first rule p) rules g in
            forced_in places first r.0 (fit r.0 r.1)
            (λ row q i b h. c.given q b (any_at (λ (x : List ℕ). gives first x q) (in_all_rows rules r.1 i) h)) peace p l r.2

    pub same_literals : conflict first ≡ false → first ≡ second
    same_literals peace =
        same_set first second (reached_length places (by_rows (all_rows rules)) held places ∙ sym (reached_length places (by_rules rules) held places))
        rows_within (rules_within peace)

    pub same_conflict : conflict first ≡ conflict second
    same_conflict =
        same_test (conflict first) (conflict second) (conflict_within first second rows_within)
        (λ h. ⊎_elim (λ e. e) (λ peace. ap conflict (same_literals peace) ∙ h) (true_or_false (conflict first)))
