-- Where a formula breaks: the place told is that of the first fault, which is met there whatever follows, and nothing is at fault before it.
use Rattle.meaning.proofs.Kit.{◌≡◌, ◌∙◌, sym, ap, refl, subst, inl, inr, ◌⊎◌, ◌≢◌, ◌↔◌, true, false, Bool, cond, ◌&&◌, List, [], ◌∷◌, ◌++◌}
use Rattle.meaning.proofs.Kit.{append-nil, ◌≤◌, ℕ, ◌<◌, ◌-◌, ◌+◌, suc, zero, arith, eqb, leb, length, get_or, drop, take, length-append, length-drop}
use Rattle.meaning.proofs.Kit.{length-take-le, take_at, get_or-drop, ne_eqb, eq-eqb, eqb-false}
use Rattle.formula.proofs.Words.{Formula, number_of, Refusal, CutShort, TooDeep, BytesLeftOver, kind_of, Parsed, good, bad, parse, levels, ended}
use Rattle.formula.proofs.Words.{whole_of, is_good, Kind}
use Rattle.formula.specs.Promises.{operands, Found, number, end, kind, operand, more, Spells, IsFront, bytes_to, Breaks, FirstFault}
use Rattle.formula.proofs.Steps.{Taken, Met, deep, short, unknown, missing, beyond, inner, left, right, taken, taken_told, met, met_told}
use Rattle.formula.proofs.Extents.{taken_within, met_within}
use Rattle.formula.proofs.Faults.{met_faults}
use Rattle.formula.proofs.Walk.{never}
use Rattle.formula.proofs.Before.{split_front, Goes, is_front, shorter, begins, nearly}
use Rattle.formula.proofs.Alone.{alike, met_again, alone}

-- ---- what is at the place

before_past : (n at : ℕ) (bytes : List ℕ) → 1 ≤ at → get_or (drop n bytes) (at - 1) 0 ≡ get_or bytes (n + at - 1) 0
before_past n at bytes h = get_or-drop n bytes (at - 1) 0 ∙ ap (λ (i : ℕ). get_or bytes i 0) (omega arith)

-- a part's place is one of the whole's
found_past : {S at : ℕ} {why : Refusal} (n : ℕ) (bytes : List ℕ) → n ≤ length bytes → Found S (drop n bytes) at why → Found S bytes (n + at) why
found_past {S} {at} n bytes h (number some there says fits) =
    number (omega arith) (omega (arith, length-drop n bytes))
    (ap kind_of (sym (before_past n at bytes some)) ∙ says)
    (ap (λ (s : ℕ). leb 1 s && leb s S) (sym (get_or-drop n bytes at 0)) ∙ fits)
found_past n bytes h (end e) = end (omega (arith, e, length-drop n bytes))
found_past {at = at} n bytes h (kind there e) = kind (omega (arith, length-drop n bytes)) (ap kind_of (sym (get_or-drop n bytes at 0)) ∙ e)
found_past {at = at} n bytes h (operand low there some) =
    operand (omega arith) (omega (arith, length-drop n bytes)) (rw (sym (before_past n at bytes low)) some)
found_past n bytes h (more there) = more (omega (arith, length-drop n bytes))

-- right after a kind that has operands, where no level is left for them
after_kind : (S k : ℕ) (body : List ℕ) {kind : Kind} → kind_of k ≡ kind → 1 ≤ operands kind → Found S (k ∷ body) 1 TooDeep
after_kind S k body is some = operand (omega arith) (omega arith) (rw is some)

no_level : {A : Type 0} {S used : ℕ} {bytes : List ℕ} {f : Formula} → Taken S zero bytes f used → A
unfolding parse
no_level {S = S} t = let e = taken_told S t in let z : ◌≡◌ {A = ℕ} 0 1 = cc in absurd (omega arith)

found : {S depth at : ℕ} {bytes : List ℕ} {why : Refusal} → Met S (suc depth) bytes why at → Found S bytes at why
found short = end refl
found (unknown e) = kind (omega arith) e
found (missing e) = end refl
found (beyond e fits) = number (omega arith) (omega arith) e fits
found {S} (inner {d = zero} {k = k} {body = body} e deep) = after_kind S k body e (omega arith)
found (inner {d = suc d} {k = k} {body = body} e m) = found_past 1 (k ∷ body) (omega arith) (found m)
found {S} (left {d = zero} {k = k} {body = body} e deep) = after_kind S k body e (omega arith)
found (left {d = suc d} {k = k} {body = body} e m) = found_past 1 (k ∷ body) (omega arith) (found m)
found (right {d = zero} e t m) = no_level t
found {S} {why = why} (right {d = suc d} {k = k} {used = used} {at = at} {body = body} e t m) =
    subst (λ (i : ℕ). Found S (k ∷ body) i why) (omega arith)
    (found_past 1 (k ∷ body) (omega arith) (found_past used body (taken_within t) (found m)))

-- ---- the whole bytes

-- bytes are left over after a formula
record Left (S : ℕ) (bytes : List ℕ) (at : ℕ) : Type 0 where
  f : Formula
  own : Taken S levels bytes f at
  there : at < length bytes

-- a fault is met in the formula, or bytes are left over after it
whole_cases : (S : ℕ) (bytes : List ℕ) {why : Refusal} {at : ℕ} → whole_of S bytes ≡ bad why at
    → Met S levels bytes why at ⊎ ((why ≡ BytesLeftOver) × Left S bytes at)
unfolding whole_of
whole_cases S bytes {why} {at} = go (parse S levels bytes) refl
  where
    picked : (f : Formula) (used : ℕ) → Taken S levels bytes f used → (b : Bool) → eqb used (length bytes) ≡ b
        → cond b (good f used) (bad BytesLeftOver used) ≡ bad why at → (why ≡ BytesLeftOver) × Left S bytes at
    picked f used t true same e = let z : ◌≡◌ {A = ℕ} 0 1 = cc in absurd (omega arith)
    picked f used t false differ e =
        let here : used ≡ at = cc in
        (cc, record { f = f; own = rw here at t; there = omega (arith, here, taken_within t, eqb-false used (length bytes) differ) })

    go : (p : Parsed) → parse S levels bytes ≡ p → ended (length bytes) p ≡ bad why at
        → Met S levels bytes why at ⊎ ((why ≡ BytesLeftOver) × Left S bytes at)
    go (good f used) p e = inr (picked f used (taken S p) (eqb used (length bytes)) refl e)
    go (bad w a) p e = inl (met S (p ∙ e))

met_whole : (S : ℕ) {bytes : List ℕ} {why : Refusal} {at : ℕ} → Met S levels bytes why at → whole_of S bytes ≡ bad why at
unfolding whole_of
met_whole S m = rw (met_told S m)

-- ---- the bytes that show a fault

bytes_most : (why : Refusal) (at : ℕ) → at ≤ bytes_to why at
bytes_most why at = elim (eqb (number_of why) 5) as (λ b. at ≤ cond b at (suc at)) [ true ↦ omega arith | false ↦ omega arith ]

bytes_other : (why : Refusal) (at : ℕ) → number_of why ≢ 5 → at < bytes_to why at
bytes_other why at differs = rw (ne_eqb (number_of why) 5 differs) (omega arith)

-- they are there, but for 3
bytes_there : {S at : ℕ} {bytes : List ℕ} {why : Refusal} → Found S bytes at why → why ≢ CutShort → bytes_to why at ≤ length bytes
bytes_there (number some there says fits) other = there
bytes_there (end e) other = absurd (other refl)
bytes_there (kind there e) other = there
bytes_there (operand low there some) other = there
bytes_there (more there) other = there

bytes_missing : {S at : ℕ} {bytes : List ℕ} {why : Refusal} → Found S bytes at why → why ≡ CutShort → length bytes < bytes_to why at
bytes_missing (number some there says fits) same = absurd (omega (arith, ap number_of same))
bytes_missing (end e) same = omega (arith, e)
bytes_missing (kind there e) same = absurd (omega (arith, ap number_of same))
bytes_missing (operand low there some) same = absurd (omega (arith, ap number_of same))
bytes_missing (more there) same = absurd (omega (arith, ap number_of same))

shown : (n : ℕ) (bytes rest : List ℕ) → n ≤ length bytes → take n (take n bytes ++ rest) ≡ take n bytes
shown n bytes rest h = take_at (take n bytes) rest n (length-take-le n bytes h)

left_again : {S at : ℕ} {bytes : List ℕ} → Left S bytes at → (rest : List ℕ) → whole_of S (take (suc at) bytes ++ rest) ≡ bad BytesLeftOver at
unfolding whole_of
left_again {S} {at} {bytes} l rest =
    let longer = length-take-le (suc at) bytes l.there in
    let t = alike (suc at) (take (suc at) bytes ++ rest) (shown (suc at) bytes rest l.there) (omega arith) l.own in
    rw (taken_told S t, ne_eqb at (length (take (suc at) bytes ++ rest)) (λ e. omega (arith, longer, length-append (take (suc at) bytes) rest)))

-- ---- how far the bytes are the front of a formula

-- the same refusal whatever follows
abbrev Again : (S : ℕ) → List ℕ → Refusal → ℕ → Type 0
Again S bytes why at = why ≢ CutShort → (rest : List ℕ) → whole_of S (take (bytes_to why at) bytes ++ rest) ≡ bad why at

spelt : (S : ℕ) (bytes : List ℕ) (f : Formula) → Spells S levels bytes f → whole_of S bytes ≡ good f (length bytes)
unfolding whole_of
spelt S bytes f e = rw (e, eq-eqb (length bytes) (length bytes) refl)

module _ (S : ℕ) (some : 1 ≤ S) (bytes : List ℕ) (at : ℕ) where
  same_again : (why : Refusal) → Met S levels bytes why at → Again S bytes why at
  same_again why m other rest =
      let n = bytes_to why at in
      let e = shown n bytes rest (bytes_there (found m) other) in
      met_whole S (met_again n (take n bytes ++ rest) e (bytes_most why at) (bytes_other why at) m)

  -- no further than is shown
  not_further : {why : Refusal} → Found S bytes at why → Again S bytes why at → (n : ℕ) → n ≤ length bytes → bytes_to why at ≤ n
      → IsFront S levels (take n bytes) → ⊥
  not_further {why} there again n within far b =
      let m = bytes_to why at in
      let other : why ≢ CutShort = λ same. omega (arith, bytes_missing there same) in
      let yes = spelt S (take n bytes ++ b.0) b.1 b.2 in
      let no = ap (whole_of S) (split_front m n bytes b.0 far) ∙ again other (drop m (take n bytes) ++ b.0) in
      never (ap is_good (sym no ∙ yes))

  -- and as far: but for 5 up to the place
  up_to : {why : Refusal} → number_of why ≢ 5 → Met S levels bytes why at → (n : ℕ) → n < suc at → Goes S levels (take n bytes)
  up_to other m n h = shorter n at bytes (omega arith) (begins some levels (omega arith) (λ five. absurd (other five)) m)

  as_far : {why : Refusal} → Found S bytes at why → Met S levels bytes why at → (n : ℕ) → n < bytes_to why at → Goes S levels (take n bytes)
  as_far (number low there says fits) m = up_to (λ five. omega arith) m
  as_far (end e) m = up_to (λ five. omega arith) m
  as_far (kind there e) m = up_to (λ five. omega arith) m
  as_far (operand low there own) m = λ n h. shorter n (at - 1) bytes (omega arith) (nearly some (at - 1) (omega arith) m)
  as_far (more there) m = up_to (λ five. omega arith) m

  fronts : {why : Refusal} → Found S bytes at why → Again S bytes why at → ((n : ℕ) → n < bytes_to why at → Goes S levels (take n bytes))
      → (n : ℕ) → n ≤ length bytes → IsFront S levels (take n bytes) ↔ (n < bytes_to why at)
  fronts {why} there again far n within = (
    λ b. (let no : bytes_to why at ≤ n → ⊥ = λ past. not_further there again n within past b in omega (arith, no)),
    λ h. is_front (far n h),
  )

  met_breaks : (why : Refusal) → Met S levels bytes why at → Breaks S bytes why at
  met_breaks why m =
      record {
        within = met_within m;
        found = found m;
        fronts = fronts (found m) (same_again why m) (as_far (found m) m);
        again = same_again why m;
        deeper = λ deep. is_front (begins some (suc levels) (omega arith) (λ five. omega arith) m);
        whole = λ six. absurd (omega (arith, (met_faults m).1, ap number_of six));
      }

  left_breaks : Left S bytes at → Breaks S bytes BytesLeftOver at
  left_breaks l =
      let again : Again S bytes BytesLeftOver at = λ other rest. left_again l rest in
      let long = length-take-le at bytes (omega (arith, l.there)) in
      let own : Taken S levels (take at bytes) l.f (length (take at bytes)) = rw long (alone l.own) in
      let far : Goes S levels (take at bytes) = record { rest = []; f = l.f; own = rw append-nil own } in
      record {
        within = omega (arith, l.there);
        found = more l.there;
        fronts = fronts (more l.there) again (λ n h. shorter n at bytes (omega arith) far);
        again = again;
        deeper = λ five. absurd (omega (arith, ap number_of five));
        whole = λ six. (l.f, taken_told S own);
      }

pub first_fault_lem : FirstFault
first_fault_lem S bytes why at some e = go (whole_cases S bytes e)
  where
    go : Met S levels bytes why at ⊎ ((why ≡ BytesLeftOver) × Left S bytes at) → Breaks S bytes why at
    go (inl m) = met_breaks S some bytes at why m
    go (inr l) = rw l.0 (left_breaks S some bytes at l.1)
