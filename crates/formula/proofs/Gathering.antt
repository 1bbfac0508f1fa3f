-- Gathering the numbers that pass a test, rising, into eight places.
use Rattle.meaning.proofs.Kit.{◌≡◌, ◌∙◌, sym, ap, refl, ap₂, true, false, Bool, List, [], ◌∷◌, ◌++◌, append-nil, ◌≤◌, ℕ, ◌<◌, ◌-◌, ◌+◌, suc, zero}
use Rattle.meaning.proofs.Kit.{add-zero, add-one, arith, length, get_or, replicate, set, length-append, append_snoc, le-leb, lt-leb}
use lib.Seq.{set-append_seam}
use Rattle.meaning.specs.Tests.{keep, from}
use Rattle.std.specs.Prelude.{Some, None}
use Rattle.formula.specs.Answers.{padded, named}

-- ---- eight places

named_few : (l : List ℕ) → length l ≤ 8 → named l ≡ Some (record { list = padded l; count = length l })
unfolding named
named_few l h = rw (le-leb (length l) 8 h)

named_many : (l : List ℕ) → 8 < length l → named l ≡ None
unfolding named
named_many l h = rw (lt-leb (length l) 8 h)

padded_more : (l : List ℕ) (n : ℕ) → length l < 8 → set (padded l) (length l) n ≡ padded (l ++ (n ∷ []))
unfolding padded
padded_more l n h =
    let room : 8 - length l ≡ suc (8 - suc (length l)) = omega arith in
    let longer : length (l ++ (n ∷ [])) ≡ suc (length l) = length-append l (n ∷ []) ∙ add-one (length l) in
    ap (λ (k : ℕ). set (l ++ replicate k 0) (length l) n) room
    ∙ set-append_seam l 0 (replicate (8 - suc (length l)) 0) n
    ∙ sym (append_snoc l n (replicate (8 - suc (length l)) 0))
    ∙ ap (λ (k : ℕ). (l ++ (n ∷ [])) ++ replicate (8 - k) 0) (sym longer)

-- ---- the numbers that pass

-- the first m do not
keep_past : (test : ℕ → Bool) (m k n : ℕ) → ((i : ℕ) → i < m → test (k + i) ≡ false) → keep test (from k n) ≡ keep test (from (k + m) (n - m))
keep_past test zero k n h = let all : n - 0 ≡ n = omega arith in rw (add-zero, all)
keep_past test (suc m) k zero h = let none : 0 - suc m ≡ 0 = omega arith in rw none
keep_past test (suc m) k (suc n) h =
    let further : k + suc m ≡ suc k + m = omega arith in
    let fewer : suc n - suc m ≡ n - m = omega arith in
    let no : test k ≡ false = rw add-zero at (h 0 (omega arith)) in
    rw (further, fewer, no) (keep_past test m (suc k) n (λ i b. (let e : suc k + i ≡ k + suc i = omega arith in rw e (h (suc i) (omega arith)))))

-- the first does
keep_next : (test : ℕ → Bool) (k S : ℕ) → k ≤ S → test k ≡ true → keep test (from k (S + 1 - k)) ≡ k ∷ keep test (from (k + 1) (S + 1 - (k + 1)))
keep_next test k S h e =
    let one_more : S + 1 - k ≡ suc (S + 1 - (k + 1)) = omega arith in
    rw (one_more, e) (ap (λ (j : ℕ). k ∷ keep test (from j (S + 1 - (k + 1)))) (sym (add-one k)))

-- ---- the loop's state

abbrev pub marks_at : List Bool → ℕ → Bool
marks_at marks s = get_or marks s false

-- of the marked numbers up to S those that are gathered, and those from `symbol` on
pub record Gathered (marks : List Bool) (S : ℕ) (list : List ℕ) (count symbol : ℕ) : Type 0 where
  pub some : 1 ≤ symbol
  pub few : count ≤ 8
  done : List ℕ
  counted : count ≡ length done
  stored : list ≡ padded done
  whole : keep (marks_at marks) (from 1 S) ≡ done ++ keep (marks_at marks) (from symbol (S + 1 - symbol))

pub gathered_none : (marks : List Bool) (S : ℕ) → Gathered marks S (replicate 8 0) 0 1
unfolding padded
gathered_none marks S =
    let all : S + 1 - 1 ≡ S = omega arith in
    record { some = omega arith; few = omega arith; done = []; counted = refl; stored = refl; whole = rw all }

module _ {marks : List Bool} {S : ℕ} {list : List ℕ} {count symbol : ℕ} (g : Gathered marks S list count symbol) where
  pub gathered_more : symbol ≤ S → get_or marks symbol false ≡ true → count < 8 → Gathered marks S (set list count symbol) (count + 1) (symbol + 1)
  gathered_more b e h =
      record {
        some = omega arith;
        few = omega arith;
        done = g.done ++ (symbol ∷ []);
        counted = omega (arith, g.counted, length-append g.done (symbol ∷ []));
        stored =
            ap₂ (λ (l : List ℕ) (n : ℕ). set l n symbol) g.stored g.counted
            ∙ padded_more g.done symbol (omega (arith, g.counted));
        whole =
            g.whole
            ∙ ap (λ (l : List ℕ). g.done ++ l) (keep_next (marks_at marks) symbol S b e)
            ∙ sym (append_snoc g.done symbol (keep (marks_at marks) (from (symbol + 1) (S + 1 - (symbol + 1)))));
      }

  pub gathered_past : (m : ℕ) → ((i : ℕ) → i < m → get_or marks (symbol + i) false ≡ false) → Gathered marks S list count (symbol + m)
  gathered_past m unmarked =
      let fewer : S + 1 - symbol - m ≡ S + 1 - (symbol + m) = omega arith in
      record {
        some = omega arith;
        few = g.few;
        done = g.done;
        counted = g.counted;
        stored = g.stored;
        whole = g.whole ∙ ap (λ (l : List ℕ). g.done ++ l) (rw fewer at (keep_past (marks_at marks) m symbol (S + 1 - symbol) unmarked));
      }

  pub gathered_full : get_or marks symbol false ≡ true → count ≡ 8 → symbol ≤ S → None ≡ named (keep (marks_at marks) (from 1 S))
  gathered_full e h b =
      let more = keep (marks_at marks) (from symbol (S + 1 - symbol)) in
      let some : 1 ≤ length more = omega (arith, ap length (keep_next (marks_at marks) symbol S b e)) in
      sym (named_many _ (omega (arith, g.counted, some, ap length g.whole, length-append g.done more)))

  pub gathered_all : S < symbol → Some (record { list = list; count = count }) ≡ named (keep (marks_at marks) (from 1 S))
  gathered_all h =
      let none : S + 1 - symbol ≡ 0 = omega arith in
      let all : keep (marks_at marks) (from 1 S) ≡ g.done = g.whole ∙ rw none (append-nil g.done) in
      ap₂ (λ (l : List ℕ) (n : ℕ). Some (record { list = l; count = n })) g.stored g.counted
      ∙ sym (ap named all ∙ named_few g.done (omega (arith, g.few, g.counted)))
