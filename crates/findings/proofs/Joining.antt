-- Laws of marking literals: `join`, a row's opposites, and where a literal leads.
use Rattle.meaning.proofs.Kit.{◌≡◌, ◌∙◌, sym, ap, refl, ⊎_elim, ◌≢◌, true, false, Bool, cond, ◌&&◌, not, ◌||◌, or-false, or_assoc, List, [], ◌∷◌, In}
use Rattle.meaning.proofs.Kit.{◌≤◌, ℕ, ◌<◌, suc, zero, eqb, ℤ, length, get_or, set, length-set, get_or-set_other, get_or-set_same, ne_eqb, eq-eqb, not-true}
use Rattle.meaning.proofs.Kit.{eqb-true, eqb-false}
use mathlib.Core.Bool.{or-true}
use Rattle.meaning.specs.Tests.{none}
use Rattle.meaning.specs.Literals.{opp, has}
use Rattle.meaning.specs.Rounds.{first_giver, support_at}
use Rattle.meaning.proofs.Tests.{true_or_false, both_true, and_intro, not_intro, any_found, any_at}
use Rattle.meaning.proofs.Tables.{length_tabulate, get_d_tabulate, tabulate_ext}
use Rattle.meaning.proofs.Supports.{first_giver_is}
use Rattle.meaning.proofs.Reach.{past_end}
use Rattle.literals.specs.Row.{numbers_at, decode, rows_in}
use Rattle.literals.proofs.Decoding.{rows_at}
use Rattle.findings.specs.Queue.{counted, marked, Queued}
use Rattle.findings.specs.Ranks.{below, support_from}
use Rattle.findings.specs.Reach.{opposed, leads, join}
use Rattle.findings.proofs.Queueing.{queued_none, queued_more}

-- ---- adding to a set

module _ (m : List Bool) (f : ℕ → Bool) where
  pub length_join : length (join m f) ≡ length m
  unfolding join
  length_join = length_tabulate (length m) _

  pub has_join : (x : ℕ) → x < length m → has (join m f) x ≡ has m x || f x
  unfolding join
  has_join x h = get_d_tabulate (length m) _ x false h

  join_ext : (n : List Bool) → length n ≡ length m → ((x : ℕ) → x < length m → has n x ≡ has m x || f x) → n ≡ join m f
  unfolding join
  join_ext n e h = tabulate_ext false (length m) _ n e h

  pub join_never : ((x : ℕ) → f x ≡ false) → m ≡ join m f
  join_never h = join_ext m refl (λ x b. sym (ap (λ t. has m x || t) (h x) ∙ or-false (has m x)))

join_same : (m : List Bool) (f g : ℕ → Bool) → ((x : ℕ) → f x ≡ g x) → join m f ≡ join m g
join_same m f g h = join_ext m g (join m f) (length_join m f) (λ x b. has_join m f x b ∙ ap (λ t. has m x || t) (h x))

join_join : (m : List Bool) (f g : ℕ → Bool) → join (join m f) g ≡ join m (λ x. f x || g x)
join_join m f g =
    join_ext m (λ x. f x || g x) (join (join m f) g) (length_join (join m f) g ∙ length_join m f)
    (λ x b. has_join (join m f) g x (rw length_join b) ∙ ap (λ t. t || g x) (has_join m f x b) ∙ or_assoc (has m x) (f x) (g x))

-- one literal,
pub join_one : (m : List Bool) (o : ℕ) → o < length m → set m o true ≡ join m (eqb o)
join_one m o h =
    join_ext m (eqb o) (set m o true) (length-set m o true)
    (λ x b. ⊎_elim
    (λ e. rw (← eqb-true o x e, eq-eqb o o refl) (get_or-set_same m o true false h ∙ sym (or-true (has m o))))
    (λ e. rw e (get_or-set_other m o x true false (λ d. eqb-false o x e (sym d)) ∙ sym (or-false (has m x))))
    (true_or_false (eqb o x)))

-- which may be marked already
pub join_marked : (m : List Bool) (o : ℕ) → has m o ≡ true → m ≡ join m (eqb o)
join_marked m o h =
    join_ext m (eqb o) m refl
    (λ x b. ⊎_elim (λ e. rw (e, ← eqb-true o x e, h)) (λ e. rw e (sym (or-false (has m x)))) (true_or_false (eqb o x)))

-- ---- the opposites of a row's other literals, one by one

-- with the opposites of what is left of the row the marks are as they are to be; those that were marked stand at the end of the queue
pub record Crossed (p : ℕ) (row left : List ℕ) (first : List Bool) (lent : List ℕ) (end : ℕ) (marks : List Bool) (queue : List ℕ) (next : ℕ)
    : Type 0 where
  pub long : length marks ≡ length first
  pub same : length queue ≡ length lent
  pub queued : Queued marked false first marks lent end queue next
  is : join marks (opposed p left) ≡ join first (opposed p row)

module _ {p : ℕ} {row : List ℕ} {first : List Bool} {lent : List ℕ} {end : ℕ} where
  pub crossed_none : end ≡ counted marked first → Crossed p row row first lent end first lent end
  crossed_none e = record { long = refl; same = refl; queued = queued_none e; is = refl }

  module _ {left : List ℕ} {q : ℕ} {marks : List Bool} {queue : List ℕ} {next : ℕ}
      (w : Crossed p row (q ∷ left) first lent end marks queue next) where
    pub crossed_same : q ≡ p → Crossed p row left first lent end marks queue next
    unfolding opposed
    crossed_same e =
        record {
          long = w.long;
          same = w.same;
          queued = w.queued;
          is = join_same marks (opposed p left) (opposed p (q ∷ left)) (λ x. rw (eq-eqb q p e)) ∙ w.is;
        }

    pub crossed_other : {after : List Bool} {longer : List ℕ} {last o : ℕ} → (q ≡ p → ⊥) → o ≡ opp q → after ≡ join marks (eqb o)
        → Queued marked false marks after queue next longer last → length longer ≡ length queue → Crossed p row left first lent end after longer last
    unfolding opposed
    crossed_other {o} d e now put wide =
        record {
          long = ap length now ∙ length_join marks (eqb o) ∙ w.long;
          same = wide ∙ w.same;
          queued = queued_more w.long w.queued put;
          is = ap (λ n. join n (opposed p left)) now ∙ join_join marks (eqb o) (opposed p left)
              ∙ join_same marks (λ x. eqb o x || opposed p left x) (opposed p (q ∷ left)) (λ x. rw (ne_eqb q p d, e)) ∙ w.is;
        }

  pub crossed_all : {marks : List Bool} {queue : List ℕ} {next : ℕ} → Crossed p row [] first lent end marks queue next
      → (marks ≡ join first (opposed p row)) × Queued marked false first marks lent end queue next
  unfolding opposed
  crossed_all {marks} w = (join_never marks (opposed p []) (λ x. refl) ∙ w.is, w.queued)

-- ---- where a literal leads

module _ (rows : List (List ℕ)) (ranks : List ℕ) (p : ℕ) where
  -- a support is the number of one of the rows
  pub support_row : length rows ≤ none → (support_from rows ranks p ≡ none → ⊥) → support_from rows ranks p < length rows
  unfolding support_from support_at
  support_row few = go (get_or ranks p 0)
    where
      go : (r : ℕ) → (support_at (λ k. below (suc k) ranks) rows r p ≡ none → ⊥) → support_at (λ k. below (suc k) ranks) rows r p < length rows
      go zero some = absurd (some refl)
      go (suc k) some = at (eqb (suc k) none) some
        where
          at : (t : Bool) → (cond t none (first_giver (below (suc k) ranks) rows p) ≡ none → ⊥)
              → cond t none (first_giver (below (suc k) ranks) rows p) < length rows
          at true some = absurd (some refl)
          at false some = ⊎_elim (λ f. f.0) (λ f. absurd (some f.0)) (first_giver_is (below (suc k) ranks) rows p few)

  -- without a support nowhere,
  pub leads_nowhere : length rows ≤ none → support_from rows ranks p ≡ none → (x : ℕ) → leads rows ranks p x ≡ false
  unfolding leads opposed
  leads_nowhere few e x = rw (e, past_end rows none few)

  -- else to the opposites of its support's other literals
  pub leads_to : (q : ℕ) → In q (get_or rows (support_from rows ranks p) []) → q ≢ p → leads rows ranks p (opp q) ≡ true
  unfolding leads opposed
  leads_to q m d =
      any_at (λ y. not (eqb y p) && eqb (opp y) (opp q)) m
      (and_intro (not (eqb q p)) (eqb (opp q) (opp q)) (not_intro (eqb q p) (ne_eqb q p d)) (eq-eqb (opp q) (opp q) refl))

  pub leads_from : (x : ℕ) → leads rows ranks p x ≡ true → (q : ℕ) × In q (get_or rows (support_from rows ranks p) []) × (q ≢ p) × (opp q ≡ x)
  unfolding leads opposed
  leads_from x e =
      let f = any_found (λ q. not (eqb q p) && eqb (opp q) x) (get_or rows (support_from rows ranks p) []) e in
      let q = f.0 in
      let t = both_true (not (eqb q p)) (eqb (opp q) x) f.2 in
      (q, f.1, eqb-false q p (not-true (eqb q p) t.0), eqb-true (opp q) x t.1)

-- the same of a table's row
pub leads_by : (used : ℕ) (table : List ℤ) (ranks : List ℕ) (p r : ℕ) → r ≡ support_from (rows_in used table) ranks p → r < used
    → opposed p (decode (numbers_at table r)) ≡ leads (rows_in used table) ranks p
unfolding leads
leads_by used table ranks p r e h = ap (opposed p) (sym (rows_at used table r h) ∙ ap (λ i. get_or (rows_in used table) i []) e)
