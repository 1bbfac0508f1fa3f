-- Laws of rounds: they grow, a round that adds nothing is the last, nothing is added after as many rounds as there are places, and
-- the order of work does not matter. Both ways of demand 3 are rounds; they differ in `step`, what a set gives.
use Rattle.meaning.proofs.Kit.{◌≡◌, ◌∙◌, sym, ap, refl, ⊎_elim, inl, inr, ◌⊎◌, true, false, Bool, ◌||◌, false≢true, List, [], ◌∷◌, ◌≤◌, ℕ, ◌<◌}
use Rattle.meaning.proofs.Kit.{◌-◌, ◌+◌, suc, zero, zero-le, add-zero, zero-add, arith, length}
use Prim.Native.Nat.{suc-le-suc}
use native.Mathlib.Nat.{add-suc}
use Rattle.meaning.specs.Literals.{has, Within}
use Rattle.meaning.specs.Rounds.{next, reached, closure}
use Rattle.meaning.proofs.Tests.{one_true_lem, or_left, or_right}
use Rattle.meaning.proofs.Tables.{length_tabulate, get_d_tabulate}
use Rattle.meaning.proofs.Literals.{has_below}

-- ---- a set inside another of the same length is the other, or has fewer members

abbrev pub count : List Bool → ℕ
count [] = zero
count (true ∷ known) = suc (count known)
count (false ∷ known) = count known

pub count_le : (known : List Bool) → count known ≤ length known
count_le [] = zero-le
count_le (true ∷ known) = suc-le-suc (count_le known)
count_le (false ∷ known) = let h = count_le known in omega arith

pub fewer : (a b : List Bool) → length a ≡ length b → Within a b → (a ≡ b) ⊎ (count a < count b)
fewer [] [] e w = inl refl
fewer [] (y ∷ b) e w = absurd (omega arith)
fewer (x ∷ a) [] e w = absurd (omega arith)
fewer (x ∷ a) (y ∷ b) e w = go x y (w zero) (fewer a b (omega arith) (λ p h. w (suc p) h))
  where
    go : (x y : Bool) → (x ≡ true → y ≡ true) → (a ≡ b) ⊎ (count a < count b) → (x ∷ a ≡ y ∷ b) ⊎ (count (x ∷ a) < count (y ∷ b))
    go true true h (inl q) = inl (ap (λ (l : List Bool). true ∷ l) q)
    go true true h (inr q) = inr (omega arith)
    go true false h r = absurd (false≢true (h refl))
    go false true h (inl q) = let c = ap count q in inr (omega arith)
    go false true h (inr q) = inr (omega arith)
    go false false h (inl q) = inl (ap (λ (l : List Bool). false ∷ l) q)
    go false false h (inr q) = inr (omega arith)

-- ---- the rounds

module _ (places : ℕ) (step : List Bool → ℕ → Bool) where
  pub reached_length : (held : List Bool) (k : ℕ) → length (reached places step held k) ≡ places
  unfolding reached next
  reached_length held zero = length_tabulate places _
  reached_length held (suc k) = length_tabulate places _

  pub next_at : (known : List Bool) (p : ℕ) → p < places → has (next places step known) p ≡ has known p || step known p
  unfolding next
  next_at known p h = get_d_tabulate places (λ (q : ℕ). has known q || step known q) p false h

  pub next_keeps : (known : List Bool) → length known ≡ places → Within known (next places step known)
  next_keeps known e p h =
      let l : p < places = let b = has_below known p h in omega arith in
      rw (next_at known p l) (or_left (has known p) (step known p) h)

  -- a round adds nothing, or a literal
  grown : (held : List Bool) (k : ℕ) → let now = reached places step held k in
      (now ≡ next places step now) ⊎ (count now < count (next places step now))
  unfolding reached
  grown held k =
      let now = reached places step held k in
      fewer now (next places step now) (reached_length held k ∙ sym (reached_length held (suc k))) (next_keeps now (reached_length held k))

  -- one that adds nothing is the last that could; until then each adds a literal
  race : (held : List Bool) (k : ℕ)
      → (next places step (reached places step held k) ≡ reached places step held k) ⊎ (k ≤ count (reached places step held k))
  unfolding next reached
  race held zero = inr zero-le
  race held (suc k) =
      let now = reached places step held k in
      ⊎_elim (λ e. inl (ap (λ (l : List Bool). next places step l) e))
      (λ (h : k ≤ count now). ⊎_elim (λ e. inl (ap (λ (l : List Bool). next places step l) (sym e)))
      (λ (l : count now < count (next places step now)). inr (omega arith)) (grown held k)) (race held k)

  -- a round adds nothing, or it is among the first, as many as there are places:
  still_or_early : (held : List Bool) (k : ℕ) → (next places step (reached places step held k) ≡ reached places step held k) ⊎ (suc k ≤ places)
  unfolding reached
  still_or_early held k =
      let now = reached places step held k in
      ⊎_elim inl
      (λ (h : k ≤ count now). ⊎_elim (λ e. inl (sym e))
      (λ (l : count now < count (next places step now)). inr (omega (arith, count_le (next places step now), reached_length held (suc k))))
      (grown held k)) (race held k)

  -- after so many rounds, one more adds nothing,
  pub settled : (held : List Bool) → next places step (closure places step held) ≡ closure places step held
  settled held = ⊎_elim (λ e. e) (λ h. absurd (omega arith)) (still_or_early held places)

  -- once a round adds nothing, no later one does
  pub stays : (held : List Bool) (k d : ℕ) → reached places step held (suc k) ≡ reached places step held k
      → reached places step held (k + d) ≡ reached places step held k
  unfolding reached
  stays held k zero e = rw add-zero
  stays held k (suc d) e = rw add-suc (ap (λ (l : List Bool). next places step l) (stays held k d e) ∙ e)

  -- what the last set gives is in it: the rounds are at an end
  pub closed : (held : List Bool) (p : ℕ) → p < places → step (closure places step held) p ≡ true → has (closure places step held) p ≡ true
  closed held p h g =
      let now = closure places step held in
      ap (λ (l : List Bool). has l p) (sym (settled held)) ∙ next_at now p h ∙ or_right (has now p) (step now p) g

  -- a later round has what an earlier one has
  pub later_keeps : (held : List Bool) (k d : ℕ) → Within (reached places step held k) (reached places step held (k + d))
  unfolding reached next
  later_keeps held k zero p h = rw add-zero h
  later_keeps held k (suc d) p h =
      rw add-suc (next_keeps (reached places step held (k + d)) (reached_length held (k + d)) p (later_keeps held k d p h))

  pub earlier : (held : List Bool) (j k : ℕ) → j ≤ k → Within (reached places step held j) (reached places step held k)
  earlier held j k l p h = let e : j + (k - j) ≡ k = omega arith in rw e at (later_keeps held j (k - j) p h)

  pub premises_in : (held : List Bool) (p : ℕ) → p < places → has held p ≡ true → has (closure places step held) p ≡ true
  unfolding reached
  premises_in held p h e = rw zero-add at (later_keeps held zero places p (get_d_tabulate places (λ (q : ℕ). has held q) p false h ∙ e))

-- a larger set gives no less
abbrev pub Monotone : (List Bool → ℕ → Bool) → Type 0
Monotone step = (a b : List Bool) (p : ℕ) → Within a b → step a p ≡ true → step b p ≡ true

-- a set that has the premises and all that it gives itself
pub record Closed (places : ℕ) (step : List Bool → ℕ → Bool) (held known : List Bool) : Type 0 where
  pub premises : (p : ℕ) → p < places → has held p ≡ true → has known p ≡ true
  pub given : (p : ℕ) → p < places → step known p ≡ true → has known p ≡ true

-- what a round has is one of the places
pub reached_below : (places : ℕ) (step : List Bool → ℕ → Bool) (held : List Bool) (k p : ℕ) → has (reached places step held k) p ≡ true → p < places
reached_below places step held k p h = omega (arith, has_below (reached places step held k) p h, reached_length places step held k)

-- from the round before
pub round_cases : (places : ℕ) (step : List Bool → ℕ → Bool) (held : List Bool) (k p : ℕ) → has (reached places step held (suc k)) p ≡ true
    → (has (reached places step held k) p ≡ true) ⊎ (step (reached places step held k) p ≡ true)
unfolding next reached
round_cases places step held k p h =
    let now = reached places step held k in
    one_true_lem (has now p) (step now p) (sym (next_at places step now p (reached_below places step held (suc k) p h)) ∙ h)

pub start_cases : (places : ℕ) (step : List Bool → ℕ → Bool) (held : List Bool) (p : ℕ) → has (reached places step held zero) p ≡ true
    → (p < places) × (has held p ≡ true)
unfolding reached
start_cases places step held p h =
    let l = reached_below places step held zero p h in (l, sym (get_d_tabulate places (λ (q : ℕ). has held q) p false l) ∙ h)

-- the closure is closed, and it lies within every closed set: so it does not depend on the order of work
pub closure_closed : (places : ℕ) (step : List Bool → ℕ → Bool) (held : List Bool) → Closed places step held (closure places step held)
closure_closed places step held = record { premises = premises_in places step held; given = closed places step held }

module _ (places : ℕ) (step : List Bool → ℕ → Bool) (grows : Monotone step) (held known : List Bool) (c : Closed places step held known) where
  reached_least : (k : ℕ) → Within (reached places step held k) known
  unfolding reached
  reached_least zero p h = let r = start_cases places step held p h in c.premises p r.0 r.1
  reached_least (suc k) p h =
      ⊎_elim (reached_least k p)
      (λ e. c.given p (reached_below places step held (suc k) p h) (grows (reached places step held k) known p (reached_least k) e))
      (round_cases places step held k p h)

  pub closure_least : Within (closure places step held) known
  closure_least = reached_least places

-- fewer premises never give more, round by round
pub reached_grows : (places : ℕ) (step : List Bool → ℕ → Bool) → Monotone step → (less held : List Bool) → Within less held → (k : ℕ)
    → Within (reached places step less k) (reached places step held k)
unfolding reached
reached_grows places step grows less held w zero p h =
    let r = start_cases places step less p h in get_d_tabulate places (λ (q : ℕ). has held q) p false r.0 ∙ w p r.1
reached_grows places step grows less held w (suc k) p h =
    let now = reached places step held k in
    let ih = reached_grows places step grows less held w k in
    rw (next_at places step now p (reached_below places step less (suc k) p h))
    (⊎_elim (λ e. or_left (has now p) (step now p) (ih p e))
    (λ e. or_right (has now p) (step now p) (grows (reached places step less k) now p ih e)) (round_cases places step less k p h))
