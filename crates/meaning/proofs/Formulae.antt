-- Laws of formulae: which symbols a rule has, that its value depends on them alone, and that an assignment is what it gives them.
use Rattle.meaning.proofs.Kit.{◌≡◌, ◌∙◌, sym, ap, refl, subst, ap₂, ⊎_elim, inl, inr, ◌⊎◌, true, false, Bool, cond, ◌&&◌, not, ◌||◌, bool_beq}
use Rattle.meaning.proofs.Kit.{List, [], ◌∷◌, map, In, here, there, in_nil, in_cons, ◌≤◌, ℕ, ◌<◌, suc, zero, arith, eqb, leb, length, ne_eqb}
use Rattle.meaning.proofs.Kit.{eq-eqb, le-leb, eqb-true, leb-true}
use Rattle.meaning.specs.Tests.{keep, from}
use Rattle.meaning.specs.Formulae.{Formula, symbol, neg, and, or, imp, same, value, occurs, inside, symbols_of, look, rule_of}
use Rattle.meaning.proofs.Tests.{one_true_lem, or_left, or_right, both_true, and_intro, clash, in_keep, keep_in, from_in, in_from, map_same}

-- ---- which symbols a rule has

-- they are those of 1 to S that occur in it
pub symbol_bounds : (S : ℕ) (f : Formula) {s : ℕ} → In s (symbols_of S f) → (zero < s) × (s ≤ S)
unfolding symbols_of
symbol_bounds S f {s} m = let r = from_in 1 S s (keep_in (λ (t : ℕ). occurs t f) (from 1 S) m).0 in omega arith

pub symbol_occurs : (S : ℕ) (f : Formula) {s : ℕ} → In s (symbols_of S f) → occurs s f ≡ true
unfolding symbols_of
symbol_occurs S f m = (keep_in (λ (t : ℕ). occurs t f) (from 1 S) m).1

-- a symbol is of 1 to S, which is what `inside` asks of each
two : (S : ℕ) (f g : Formula) (s : ℕ) → inside S f && inside S g ≡ true → occurs s f || occurs s g ≡ true
    → (inside S f ≡ true → occurs s f ≡ true → (zero < s) × (s ≤ S)) → (inside S g ≡ true → occurs s g ≡ true → (zero < s) × (s ≤ S))
    → (zero < s) × (s ≤ S)
two S f g s i o a b =
    let r = both_true (inside S f) (inside S g) i in
    ⊎_elim (λ h. a r.0 h) (λ h. b r.1 h) (one_true_lem (occurs s f) (occurs s g) o)

pub inside_bounds : (S : ℕ) (f : Formula) (s : ℕ) → inside S f ≡ true → occurs s f ≡ true → (zero < s) × (s ≤ S)
unfolding inside occurs
inside_bounds S (symbol t) s i o =
    let r = both_true (leb 1 t) (leb t S) i in
    let e = eqb-true t s o in
    let a = leb-true 1 t r.0 in
    let b = leb-true t S r.1 in
    omega arith
inside_bounds S (neg f) s i o = inside_bounds S f s i o
inside_bounds S (and f g) s i o = two S f g s i o (inside_bounds S f s) (inside_bounds S g s)
inside_bounds S (or f g) s i o = two S f g s i o (inside_bounds S f s) (inside_bounds S g s)
inside_bounds S (imp f g) s i o = two S f g s i o (inside_bounds S f s) (inside_bounds S g s)
inside_bounds S (same f g) s i o = two S f g s i o (inside_bounds S f s) (inside_bounds S g s)

-- and where each that occurs is, all are
both_inside : (S : ℕ) (f g : Formula) → (((s : ℕ) → occurs s f ≡ true → (zero < s) × (s ≤ S)) → inside S f ≡ true)
    → (((s : ℕ) → occurs s g ≡ true → (zero < s) × (s ≤ S)) → inside S g ≡ true)
    → ((s : ℕ) → occurs s f || occurs s g ≡ true → (zero < s) × (s ≤ S)) → inside S f && inside S g ≡ true
both_inside S f g first second h =
    and_intro (inside S f) (inside S g) (first (λ s o. h s (or_left (occurs s f) (occurs s g) o)))
    (second (λ s o. h s (or_right (occurs s f) (occurs s g) o)))

pub inside_of : (S : ℕ) (f : Formula) → ((s : ℕ) → occurs s f ≡ true → (zero < s) × (s ≤ S)) → inside S f ≡ true
unfolding inside occurs
inside_of S (symbol t) h = let b = h t (eq-eqb t t refl) in and_intro (leb 1 t) (leb t S) (le-leb 1 t b.0) (le-leb t S b.1)
inside_of S (neg f) h = inside_of S f h
inside_of S (and f g) h = both_inside S f g (inside_of S f) (inside_of S g) h
inside_of S (or f g) h = both_inside S f g (inside_of S f) (inside_of S g) h
inside_of S (imp f g) h = both_inside S f g (inside_of S f) (inside_of S g) h
inside_of S (same f g) h = both_inside S f g (inside_of S f) (inside_of S g) h

-- where all are, each symbol that occurs is listed
pub in_symbols : (S : ℕ) (f : Formula) (s : ℕ) → inside S f ≡ true → occurs s f ≡ true → In s (symbols_of S f)
unfolding symbols_of
in_symbols S f s i e =
    let b = inside_bounds S f s i e in
    in_keep (λ (t : ℕ). occurs t f) (in_from 1 S s b.0 (omega arith)) e

-- ---- a rule's value depends on its symbols alone

-- two parts that have the same values make the same value
parts_same : (d e : ℕ → Bool) (join : Bool → Bool → Bool) (f g : Formula)
    → (((s : ℕ) → occurs s f ≡ true → d s ≡ e s) → value d f ≡ value e f)
    → (((s : ℕ) → occurs s g ≡ true → d s ≡ e s) → value d g ≡ value e g)
    → ((s : ℕ) → occurs s f || occurs s g ≡ true → d s ≡ e s) → join (value d f) (value d g) ≡ join (value e f) (value e g)
parts_same d e join f g first second h =
    ap₂ join (first (λ s o. h s (or_left (occurs s f) (occurs s g) o))) (second (λ s o. h s (or_right (occurs s f) (occurs s g) o)))

pub value_same : (d e : ℕ → Bool) (f : Formula) → ((s : ℕ) → occurs s f ≡ true → d s ≡ e s) → value d f ≡ value e f
unfolding value occurs
value_same d e (symbol s) h = h s (eq-eqb s s refl)
value_same d e (neg f) h = ap not (value_same d e f h)
value_same d e (and f g) h = parts_same d e (λ x y. x && y) f g (value_same d e f) (value_same d e g) h
value_same d e (or f g) h = parts_same d e (λ x y. x || y) f g (value_same d e f) (value_same d e g) h
value_same d e (imp f g) h = parts_same d e (λ x y. not x || y) f g (value_same d e f) (value_same d e g) h
value_same d e (same f g) h = parts_same d e bool_beq f g (value_same d e f) (value_same d e g) h

pub look_map : (e : ℕ → Bool) (symbols : List ℕ) (s : ℕ) → In s symbols → look symbols (map e symbols) s ≡ e s
look_map e [] s m = absurd (in_nil m)
look_map e (t ∷ symbols) s m = go (eqb t s) refl (in_cons m) (λ h. look_map e symbols s h)
  where
    go : (b : Bool) → eqb t s ≡ b → (s ≡ t) ⊎ In s symbols → (In s symbols → look symbols (map e symbols) s ≡ e s)
        → cond b (e t) (look symbols (map e symbols) s) ≡ e s
    go true q m ih = ap e (eqb-true t s q)
    go false q (inl h) ih = clash (eq-eqb t s (sym h)) q
    go false q (inr h) ih = ih h

-- so a rule accepts the values of its symbols under `e` just where its formula is true under `e`
pub accepts_value : (S : ℕ) (f : Formula) (e : ℕ → Bool) → inside S f ≡ true → (rule_of S f).accepts (map e (symbols_of S f)) ≡ value e f
accepts_value S f e i = value_same (look (symbols_of S f) (map e (symbols_of S f))) e f (λ s o. look_map e (symbols_of S f) s (in_symbols S f s i o))

-- ---- the symbols rise

-- the first number is above m, and each other one above the one before it
abbrev pub Ascending : ℕ → List ℕ → Type 0
Ascending m [] = Unit {0}
Ascending m (s ∷ l) = (m < s) × Ascending s l

-- so all are above m
pub ascending_above : (m : ℕ) (l : List ℕ) (t : ℕ) → Ascending m l → In t l → m < t
ascending_above m [] t r i = absurd (in_nil i)
ascending_above m (s ∷ l) t r i = ⊎_elim (λ e. omega (arith, e, r.0)) (λ k. omega (arith, ascending_above s l t r.1 k, r.0)) (in_cons i)

-- of the numbers from k on, those that pass a test ascend
keep_ascends : (test : ℕ → Bool) (m k n : ℕ) → m < k → Ascending m (keep test (from k n))
keep_ascends test m k zero h = tt
keep_ascends test m k (suc n) h = go (test k) (keep_ascends test k (suc k) n (omega arith)) (keep_ascends test m (suc k) n (omega arith))
  where
    go : (b : Bool) → Ascending k (keep test (from (suc k) n)) → Ascending m (keep test (from (suc k) n))
        → Ascending m (cond b (k ∷ keep test (from (suc k) n)) (keep test (from (suc k) n)))
    go true r s = (h, r)
    go false r s = s

pub symbols_ascend : (S : ℕ) (f : Formula) → Ascending 0 (symbols_of S f)
unfolding symbols_of
symbols_ascend S f = keep_ascends (λ (s : ℕ). occurs s f) 0 1 S (omega arith)

-- two lists that ascend and have the same members are the same
ascending_same : (m : ℕ) (k l : List ℕ) → Ascending m k → Ascending m l → ((s : ℕ) → In s k → In s l) → ((s : ℕ) → In s l → In s k) → k ≡ l
ascending_same m [] [] a b f g = refl
ascending_same m [] (t ∷ l) a b f g = absurd (in_nil (g t (here refl)))
ascending_same m (s ∷ k) [] a b f g = absurd (in_nil (f s (here refl)))
ascending_same m (s ∷ k) (t ∷ l) a b f g =
    let first : s ≡ t = ⊎_elim (λ e. e) (λ i. ⊎_elim sym (λ j. absurd (crossed i j)) (in_cons (g t (here refl)))) (in_cons (f s (here refl))) in
    ap₂ (λ (x : ℕ) (y : List ℕ). x ∷ y) first
    (ascending_same s k l a.1 (subst (λ (x : ℕ). Ascending x l) (sym first) b.1)
    (λ r i. ⊎_elim (λ e. absurd (omega (arith, e, first, ascending_above s k r a.1 i))) (λ j. j) (in_cons (f r (there i))))
    (λ r i. ⊎_elim (λ e. absurd (omega (arith, e, first, ascending_above t l r b.1 i))) (λ j. j) (in_cons (g r (there i)))))
  where
    crossed : In s l → In t k → ⊥
    crossed i j = omega (arith, ascending_above t l s b.1 i, ascending_above s k t a.1 j)

-- so the symbols are any list that rises and has those that occur
pub symbols_are : (S : ℕ) (f : Formula) (l : List ℕ) → inside S f ≡ true → Ascending 0 l → ((s : ℕ) → occurs s f ≡ true → In s l)
    → ((s : ℕ) → In s l → occurs s f ≡ true) → symbols_of S f ≡ l
symbols_are S f l i a to back =
    ascending_same 0 (symbols_of S f) l (symbols_ascend S f) a (λ s m. to s (symbol_occurs S f m)) (λ s m. in_symbols S f s i (back s m))

-- an assignment is what it gives its symbols, in order
pub look_self : (m : ℕ) (symbols : List ℕ) (a : List Bool) → Ascending m symbols → length a ≡ length symbols → map (look symbols a) symbols ≡ a
look_self m [] [] r e = refl
look_self m [] (b ∷ a) r e = absurd (omega arith)
look_self m (s ∷ symbols) [] r e = absurd (omega arith)
look_self m (s ∷ symbols) (b ∷ a) r e =
    ap₂ (λ (x : Bool) (y : List Bool). x ∷ y) (rw (eq-eqb s s refl))
    (map_same (look (s ∷ symbols) (b ∷ a)) (look symbols a) symbols
    (λ t i. rw (ne_eqb s t (λ q. omega (arith, q, ascending_above s symbols t r.1 i))))
    ∙ look_self s symbols a r.1 (omega arith))
