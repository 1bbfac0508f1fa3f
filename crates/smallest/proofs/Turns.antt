-- One turn of each loop: what is left to hold, to look at, to count and to write.
use Rattle.meaning.proofs.Kit.{◌≡◌, ◌∙◌, sym, ap, refl, false, Bool, cond, suc, List, [], ◌∷◌, ◌++◌, ℕ, ◌<◌, ◌+◌, ◌^◌, arith, length, get_or, take}
use Rattle.meaning.proofs.Kit.{replicate, set, length-append, sets}
use lib.Seq.{length-sets}
use Rattle.std.specs.List.{filter}
use Rattle.std.proofs.lemmas.List.Recursion.{same_from_clauses}
use Rattle.meaning.specs.Tests.{keep, from}
use Rattle.meaning.specs.BySize.{of_size}
use Rattle.candidates.specs.Sets.{chosen, size, sets_of}
use Rattle.meaning.proofs.Tables.{sets_append}
use Rattle.meaning.proofs.BySize.{tally, keep_tally, length_from, from_at, of_size_more}
use Rattle.board.specs.declared.Board.{Board}
use Rattle.smallest.specs.declared.search.Note.{Note}
use Rattle.smallest.specs.declared.search.Note.TheVariants.{GoesOn}
use Rattle.smallest.specs.Search.{holding, alone_on, listed_in}

-- ---- the board

-- the board with flags that are the set's
pub board_alone : (b : Board) (cands : List ℕ) (m : ℕ) (first : List Bool) → first ≡ holding (replicate 400 false) (chosen cands m)
    → ◌≡◌ {A = Board}
    (record { symbols = b.symbols; rows = b.rows; rules = b.rules; first = first; second = replicate 400 false }) (alone_on b cands m)
board_alone b cands m first e =
    ap {B = Board}
    (λ (flags : List Bool). record { symbols = b.symbols; rows = b.rows; rules = b.rules; first = flags; second = replicate 400 false }) e

-- ---- the listed sets

-- the library keeps the same elements
pub filter_is : {A : Type 0} (test : A → Bool) (xs : List A) → filter test xs ≡ keep test xs
filter_is test = same_from_clauses (filter test) (keep test) (λ x ys. cond (test x) (x ∷ ys) ys) refl (λ _ _. refl) (λ _ _. refl)

-- those of a list that pass a test are as many as the numbers of their places
pub counted_by : (test : Note → Bool) (xs : List Note) → length (keep test xs) ≡ length (keep (λ i. test (get_or xs i GoesOn)) (from 0 (length xs)))
counted_by test xs = go xs 0 (λ i. test (get_or xs i GoesOn)) (λ i. ap (λ (j : ℕ). test (get_or xs j GoesOn)) (omega arith))
  where
    go : (ys : List Note) (k : ℕ) (at : ℕ → Bool) → ((i : ℕ) → at (i + k) ≡ test (get_or ys i GoesOn)) → length (keep test ys) ≡ length (keep at (from k (length ys)))
    go [] k at h = refl
    go (y ∷ ys) k at h =
        let rest = go ys (suc k) at (λ i. ap at (omega arith) ∙ h (suc i)) in
        let first : at k ≡ test y = ap at (omega arith) ∙ h 0 in
        omega (arith, keep_tally test y ys, keep_tally at k (from (suc k) (length ys)), rest, ap tally first)

-- those of k candidates among the first c sets
abbrev pub up_to : List Note → (n k c : ℕ) → List ℕ
up_to notes n k c = of_size (size n) (listed_in notes) (take c (sets_of n)) k

pub up_to_next : (notes : List Note) (n k c : ℕ) → c < 2 ^ n → up_to notes n k (c + 1) ≡ up_to notes n k c ++ of_size (size n) (listed_in notes) (c ∷ []) k
up_to_next notes n k c l =
    of_size_more (size n) (listed_in notes) (sets_of n) k c 0 (omega (arith, length_from 0 (2 ^ n)))
    ∙ ap (λ (m : ℕ). up_to notes n k c ++ of_size (size n) (listed_in notes) (m ∷ []) k) (from_at 0 (2 ^ n) c l ∙ omega arith)

-- ---- what is written

-- `out` is the table with the list from `at` on, and `next` the place after it
pub record Stands (before : List ℕ) (at : ℕ) (list out : List ℕ) (next : ℕ) : Type 0 where
  pub written : out ≡ sets before at list
  pub ends : next ≡ at + length list

pub stands_none : (before : List ℕ) (at : ℕ) → Stands before at [] before at
stands_none before at = record { written = refl; ends = omega arith }

pub stands_one : (before : List ℕ) (at m : ℕ) → Stands before at (m ∷ []) (set before at m) (at + 1)
stands_one before at m = record { written = refl; ends = refl }

module _ {before out : List ℕ} {at next : ℕ} {list : List ℕ} (s : Stands before at list out next) where
  pub stands_long : length out ≡ length before
  stands_long = ap length s.written ∙ length-sets before at list

  pub stands_same : {other : List ℕ} → list ≡ other → Stands before at other out next
  stands_same e = record { written = rw (← e) s.written; ends = rw (← e) s.ends }

  pub stands_more : {all more now : List ℕ} {last : ℕ} → all ≡ list ++ more → Stands out next more now last → Stands before at all now last
  stands_more {all} {more} {now} {last} e f = record {
    written = f.written ∙ rw (s.written, s.ends, e) (sym (sets_append before at list more));
    ends = omega (arith, f.ends, s.ends, ap length e, length-append list more);
  }
