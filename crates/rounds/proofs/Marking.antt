-- Laws of writing ranks: `mark`.
use Rattle.meaning.proofs.Kit.{◌≡◌, ◌∙◌, sym, ap, refl, true, false, Bool, cond, ◌&&◌, ◌||◌, or-false, and-false, or_assoc, List, [], ◌∷◌, ℕ, ◌<◌}
use Rattle.meaning.proofs.Kit.{arith, eqb, ltb, length, get_or, set, length-set, get_or-set_other, get_or-set_same, ext_get_or, ne_eqb, eq-eqb, eqb-true}
use Rattle.meaning.proofs.Kit.{le-ltb, eqb-false}
use Rattle.meaning.specs.Tests.{member, none}
use Rattle.meaning.proofs.Tables.{length_tabulate, get_d_tabulate, tabulate_ext}
use Rattle.findings.specs.Ranks.{below}
use Rattle.findings.proofs.RankTables.{below_rank, length_below}
use Rattle.rounds.specs.Ranks.{mark}

-- ---- writing a rank

-- one place
abbrev pub put : ℕ → ℕ → Bool → ℕ
put k r t = cond (eqb r none && t) k r

pub length_mark : (k : ℕ) (f : ℕ → Bool) (l : List ℕ) → length (mark k f l) ≡ length l
unfolding mark
length_mark k f l = length_tabulate (length l) _

pub get_d_mark : (k : ℕ) (f : ℕ → Bool) (l : List ℕ) (p : ℕ) → p < length l → get_or (mark k f l) p 0 ≡ put k (get_or l p 0) (f p)
unfolding mark
get_d_mark k f l p h = get_d_tabulate (length l) _ p 0 h

-- what `mark` gives, from its places
mark_ext : (k : ℕ) (f : ℕ → Bool) (l m : List ℕ) → length m ≡ length l
    → ((p : ℕ) → p < length l → get_or m p 0 ≡ put k (get_or l p 0) (f p)) → m ≡ mark k f l
unfolding mark
mark_ext k f l m e h = tabulate_ext 0 (length l) _ m e h

put_put : (k r : ℕ) (s t : Bool) → k < none → put k (put k r s) t ≡ put k r (s || t)
put_put k r s t small = go (eqb r none) s t refl
  where
    go : (b s t : Bool) → eqb r none ≡ b → put k (cond (b && s) k r) t ≡ cond (b && (s || t)) k r
    go true true t e = rw (ne_eqb k none (λ q. omega (arith, q)))
    go true false t e = rw e
    go false s t e = rw e

-- two writings are one
pub mark_mark : (k : ℕ) (f g : ℕ → Bool) (l : List ℕ) → k < none → mark k g (mark k f l) ≡ mark k (λ p. f p || g p) l
mark_mark k f g l small =
    mark_ext k (λ p. f p || g p) l (mark k g (mark k f l)) (length_mark k g (mark k f l) ∙ length_mark k f l)
    (λ p h. get_d_mark k g (mark k f l) p (rw length_mark h)
    ∙ ap (λ r. put k r (g p)) (get_d_mark k f l p h) ∙ put_put k (get_or l p 0) (f p) (g p) small)

-- only the test at the places matters
pub mark_same : (k : ℕ) (f g : ℕ → Bool) (l : List ℕ) → ((p : ℕ) → f p ≡ g p) → mark k f l ≡ mark k g l
mark_same k f g l h = mark_ext k g l (mark k f l) (length_mark k f l) (λ p b. get_d_mark k f l p b ∙ ap (put k (get_or l p 0)) (h p))

pub mark_as : (k : ℕ) (f g : ℕ → Bool) (l : List ℕ) {m : List ℕ} → m ≡ mark k f l → ((p : ℕ) → g p ≡ f p) → m ≡ mark k g l
mark_as k f g l e h = e ∙ mark_same k f g l (λ p. sym (h p))

-- and that only where there is no rank
pub mark_open : (k : ℕ) (f g : ℕ → Bool) (l : List ℕ) → ((p : ℕ) → p < length l → get_or l p 0 ≡ none → f p ≡ g p) → mark k f l ≡ mark k g l
mark_open k f g l h =
    mark_ext k g l (mark k f l) (length_mark k f l) (λ p b. get_d_mark k f l p b ∙ go p b (eqb (get_or l p 0) none) refl)
  where
    go : (p : ℕ) → p < length l → (t : Bool) → eqb (get_or l p 0) none ≡ t → cond (t && f p) k (get_or l p 0) ≡ cond (t && g p) k (get_or l p 0)
    go p b true e = rw (h p b (eqb-true (get_or l p 0) none e))
    go p b false e = refl

-- where no place passes nothing is written
mark_no : (k : ℕ) (f : ℕ → Bool) (l : List ℕ) → ((p : ℕ) → p < length l → (eqb (get_or l p 0) none && f p) ≡ false) → l ≡ mark k f l
mark_no k f l h = mark_ext k f l l refl (λ p b. rw (h p b))

pub mark_never : (k : ℕ) (f : ℕ → Bool) (l : List ℕ) → ((p : ℕ) → f p ≡ false) → l ≡ mark k f l
mark_never k f l h = mark_no k f l (λ p b. rw (h p) (and-false (eqb (get_or l p 0) none)))

ltb_put : (k r : ℕ) (t : Bool) → k < none → ltb (put k r t) k ≡ ltb r k
ltb_put k r t small = go (eqb r none) t refl
  where
    go : (b t : Bool) → eqb r none ≡ b → ltb (cond (b && t) k r) k ≡ ltb r k
    go true true e = le-ltb k k (omega arith) ∙ sym (le-ltb r k (omega (arith, eqb-true r none e)))
    go true false e = refl
    go false t e = refl

-- writing k changes nothing about which ranks are below k
pub below_mark : (k : ℕ) (f : ℕ → Bool) (l : List ℕ) → k < none → below k (mark k f l) ≡ below k l
below_mark k f l small =
    ext_get_or false (below k (mark k f l)) (below k l) (length_below k (mark k f l) ∙ length_mark k f l ∙ sym (length_below k l)) same
  where
    same : (p : ℕ) → p < length (below k (mark k f l)) → get_or (below k (mark k f l)) p false ≡ get_or (below k l) p false
    same p h =
        let i : p < length (mark k f l) = rw (length_below k (mark k f l)) at h in
        let b : p < length l = rw (length_mark k f l) at i in
        below_rank k (mark k f l) p i ∙ ap (λ r. ltb r k) (get_d_mark k f l p b) ∙ ltb_put k (get_or l p 0) (f p) small ∙ sym (below_rank k l p b)

-- ---- one place

module _ (k : ℕ) (l : List ℕ) (q : ℕ) where
  -- place q is written, or not since it has a rank
  pub mark_one : q < length l → get_or l q 0 ≡ none → set l q k ≡ mark k (eqb q) l
  mark_one h e = mark_ext k (eqb q) l (set l q k) (length-set l q k) (λ p i. go p (eqb q p) refl)
    where
      go : (p : ℕ) (t : Bool) → eqb q p ≡ t → get_or (set l q k) p 0 ≡ put k (get_or l p 0) t
      go p true same =
          let at-q : p ≡ q = sym (eqb-true q p same) in
          rw (at-q, get_or-set_same l q k 0 h, eq-eqb (get_or l q 0) none e)
      go p false differ = rw (get_or-set_other l q p k 0 (λ e. eqb-false q p differ (sym e)), and-false (eqb (get_or l p 0) none))

  pub mark_ranked : (get_or l q 0 ≡ none → ⊥) → l ≡ mark k (eqb q) l
  mark_ranked n = mark_no k (eqb q) l (λ p i. go p (eqb q p) refl)
    where
      go : (p : ℕ) (t : Bool) → eqb q p ≡ t → (eqb (get_or l p 0) none && t) ≡ false
      go p true same = let at-q : p ≡ q = sym (eqb-true q p same) in rw (at-q, ne_eqb (get_or l q 0) none n)
      go p false differ = and-false (eqb (get_or l p 0) none)

-- ---- a row's literals, one by one

-- the ranks m come from l by marking the row's literals but for those left
pub record Passed (k : ℕ) (row left l m : List ℕ) : Type 0 where
  pub test : ℕ → Bool
  pub split : (p : ℕ) → (test p || member p left) ≡ member p row
  pub is : m ≡ mark k test l

module _ {k : ℕ} (small : k < none) {row l : List ℕ} where
  pub passed_none : Passed k row row l l
  passed_none = record { test = λ _. false; split = λ p. refl; is = mark_never k (λ _. false) l (λ p. refl) }

  module _ {q : ℕ} {left m n : List ℕ} (w : Passed k row (q ∷ left) l m) (e : n ≡ mark k (eqb q) m) where
    -- one literal more
    pub passed_more : Passed k row left l n
    passed_more =
        record {
          test = λ p. w.test p || eqb q p;
          split = λ p. or_assoc (w.test p) (eqb q p) (member p left) ∙ w.split p;
          is = e ∙ ap (mark k (eqb q)) w.is ∙ mark_mark k w.test (eqb q) l small;
        }

  pub passed_all : {m : List ℕ} → Passed k row [] l m → m ≡ mark k (λ p. member p row) l
  passed_all w = w.is ∙ mark_same k w.test (λ p. member p row) l (λ p. sym (or-false (w.test p)) ∙ w.split p)
