-- Laws of a run of bytes at the front of a text.
use Rattle.meaning.proofs.Kit.{◌≡◌, ◌∙◌, sym, ap, refl, ap₂, true, false, Bool, cond, ◌||◌, List, [], ◌∷◌, ◌≤◌, ℕ, ◌+◌, suc}
use Rattle.meaning.proofs.Kit.{arith, eqb, length, drop, take, eqb-true}
use Rattle.std.specs.List.{prefix_len}
use Rattle.std.proofs.lemmas.List.Recursion.{same_from_clauses}
use Rattle.chains.proofs.Words.{Formula, neg, Parsed, good, bad, after, belongs, start_of, lead, by_start, unit_of, Class, Denial}

pub lead_extent : (class : Class) (text : List ℕ) → lead class text ≤ length text
unfolding lead
lead_extent class [] = omega arith
lead_extent class (c ∷ rest) =
    let inner = lead_extent class rest in
    elim (belongs class c) as (λ b. cond b (suc (lead class rest)) 0 ≤ suc (length rest)) [ true ↦ omega arith | false ↦ omega arith ]

pub lead_prefix : (class : Class) (text : List ℕ) → prefix_len (belongs class) text ≡ lead class text
unfolding lead
lead_prefix class =
    same_from_clauses (prefix_len (belongs class)) (lead class) (λ c n. cond (belongs class c) (1 + n) 0) refl (λ c rest. refl)
    (λ c rest. let e : suc (lead class rest) ≡ 1 + lead class rest = omega arith in rw e)

-- ---- a unit, with the spaces and minus signs before it as one run

-- the minus signs among bytes that are minus signs and spaces, round a formula
unfoldable pub denied : List ℕ → Formula → Formula
denied [] f = f
denied (c ∷ rest) f = cond (eqb c 45) (neg (denied rest f)) (denied rest f)

module _ (bracket : List ℕ → Parsed) where
  -- a unit past its run
  abbrev pub body_of : List ℕ → Parsed
  body_of body = by_start bracket (start_of body) body

  abbrev pub by_run : List ℕ → Parsed
  by_run text = after (lead Denial text) (denied (take (lead Denial text) text)) (body_of (drop (lead Denial text) text))

  after_none : (inner : Formula → Formula) (p : Parsed) → ((f : Formula) → inner f ≡ f) → p ≡ after 0 inner p
  after_none inner (good f used) h = let e : used ≡ 0 + used = omega arith in ap₂ good (sym (h f)) e
  after_none inner (bad why at) h = let e : at ≡ 0 + at = omega arith in ap (bad why) e

  after_one : (n : ℕ) (wrap inner both : Formula → Formula) (p : Parsed) → ((f : Formula) → both f ≡ wrap (inner f))
      → after 1 wrap (after n inner p) ≡ after (suc n) both p
  after_one n wrap inner both (good f used) h = let e : 1 + (n + used) ≡ suc n + used = omega arith in ap₂ good (sym (h f)) e
  after_one n wrap inner both (bad why at) h = let e : 1 + (n + at) ≡ suc n + at = omega arith in ap (bad why) e

  module _ (c : ℕ) (rest : List ℕ) where
    run_goes : (wrap : Formula → Formula) → (eqb c 32 || eqb c 45 ≡ true)
        → ((f : Formula) → denied (c ∷ take (lead Denial rest) rest) f ≡ wrap (denied (take (lead Denial rest) rest) f))
        → after 1 wrap (by_run rest) ≡ by_run (c ∷ rest)
    unfolding lead
    run_goes wrap e w =
        let n = lead Denial rest in
        rw e (after_one n wrap (denied (take n rest)) (denied (c ∷ take n rest)) (body_of (drop n rest)) w)

    run_stops : (eqb c 32 || eqb c 45 ≡ false) → body_of (c ∷ rest) ≡ by_run (c ∷ rest)
    unfolding lead denied
    run_stops e = rw e (after_none (denied []) (body_of (c ∷ rest)) (λ f. refl))

  pub unit_run : (text : List ℕ) → unit_of bracket text ≡ by_run text
  unfolding unit_of lead denied
  unit_run [] = refl
  unit_run (c ∷ rest) = pick (eqb c 32) refl (eqb c 45) refl (unit_run rest)
    where
      pick : (b : Bool) → eqb c 32 ≡ b → (d : Bool) → eqb c 45 ≡ d → unit_of bracket rest ≡ by_run rest
          → cond b (after 1 (λ f. f) (unit_of bracket rest)) (cond d (after 1 neg (unit_of bracket rest)) (body_of (c ∷ rest))) ≡ by_run (c ∷ rest)
      pick true e true g h = absurd (omega (arith, eqb-true c 32 e, eqb-true c 45 g))
      pick true e false g h = ap (after 1 (λ f. f)) h ∙ run_goes c rest (λ f. f) (rw e) (λ f. rw g)
      pick false e true g h = ap (after 1 neg) h ∙ run_goes c rest neg (rw (e, g)) (λ f. rw g)
      pick false e false g h = run_stops c rest (rw (e, g))
