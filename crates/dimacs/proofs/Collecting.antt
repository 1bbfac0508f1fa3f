-- What is kept of a clause's literals, a literal at a time.
use Rattle.meaning.proofs.Kit.{◌≡◌, ◌∙◌, sym, ap, refl, ap₂, true, false, Bool, ◌&&◌, not, ◌||◌, or-false, List, [], ◌∷◌, ◌++◌, ◌≤◌, ℕ, ◌<◌, ◌/◌}
use Rattle.meaning.proofs.Kit.{arith, eqb, leb, ltb, ℤ, pos, nat_abs, negsuc, lt_z, length, take, le-leb, ltb-true, lt-ltb, le-ltb, lt-leb, ltb-false}
use Rattle.meaning.proofs.Kit.{or_assoc}
use Rattle.meaning.specs.Tests.{all}
use Rattle.meaning.specs.Literals.{place}
use Rattle.meaning.proofs.Tests.{all_append, clash}
use Rattle.literals.specs.Literal.{in_range, place_of}
use Rattle.literals.specs.Row.{most_literals}
use Rattle.dimacs.specs.declared.gathering.Kept.{Kept}
use Rattle.dimacs.specs.Gathering.{KeptOf, Inserts, Steps, always_true, clashes, gathered, inserted}
use Rattle.dimacs.proofs.Tested.{by_test}

-- ---- one literal more at the end

gathered_snoc : (g : List ℕ) (o : List ℤ) (l : ℤ) → gathered g (o ++ (l ∷ [])) ≡ inserted (place_of l) (gathered g o)
unfolding gathered
gathered_snoc g [] l = refl
gathered_snoc g (x ∷ o) l = gathered_snoc (inserted (place_of x) g) o l

always_snoc : (g : List ℕ) (o : List ℤ) (l : ℤ) → always_true g (o ++ (l ∷ [])) ≡ (always_true g o || clashes (place_of l) (gathered g o))
unfolding always_true gathered
always_snoc g [] l = or-false (clashes (place_of l) g)
always_snoc g (x ∷ o) l = rw (always_snoc (inserted (place_of x) g) o l, or_assoc)

inserted_longer : (p : ℕ) (row : List ℕ) → length row ≤ length (inserted p row)
unfolding inserted
inserted_longer p [] = omega arith
inserted_longer p (q ∷ row) =
    by_test (ltb (q / 2) (p / 2)) (λ t. rw t (omega (arith, inserted_longer p row)))
    (λ f. by_test (eqb (q / 2) (p / 2)) (λ t. rw (f, t) (omega arith)) (λ n. rw (f, n) (omega arith)))

-- ---- one is beyond S

not_both_lem : (a b c : Bool) → not b ≡ c → not (a && (b && true)) ≡ (not a || c)
not_both_lem true true c e = e
not_both_lem true false c e = e
not_both_lem false b c e = refl

range_by : (S s : ℕ) → 1 ≤ s → not (leb 1 s && leb s S) ≡ ltb S s
range_by S s h =
    rw (le-leb 1 s h)
    (by_test (ltb S s) (λ t. rw (t, lt-leb s S (ltb-true S s t))) (λ f. rw (f, le-leb s S (ltb-false S s f))))

beyond_snoc : (S : ℕ) (o : List ℤ) (l : ℤ) {s : ℕ} → s ≡ nat_abs l → 1 ≤ s
    → not (all (in_range S) (o ++ (l ∷ []))) ≡ (not (all (in_range S) o) || ltb S s)
beyond_snoc S o l {s} is one =
    ap not (all_append (in_range S) o (l ∷ []))
    ∙ not_both_lem (all (in_range S) o) (in_range S l) (ltb S s) (rw (sym is) (range_by S s one))

place_is : (l : ℤ) {s : ℕ} {negative : Bool} → s ≡ nat_abs l → negative ≡ lt_z l (pos 0) → place s (not negative) ≡ place_of l
unfolding place_of
place_is (pos n) is sign = rw (is, sign, le-ltb n 0 (omega arith))
place_is (negsuc k) is sign = rw (is, sign)

-- ---- what is kept

-- before any literal
abbrev pub none_kept : Kept
none_kept = record { count = 0; always = false; many = false; beyond = false }

pub holds_none : (S : ℕ) (row : List ℕ) → KeptOf S [] row none_kept
unfolding gathered always_true
holds_none S row = record { is_beyond = refl; is_many = refl; is_row = λ e. refl; is_count = λ e. refl; is_always = λ e. refl }

far_next : (S : ℕ) {row : List ℕ} {k : Kept} {s : ℕ} {far : Bool} → 1 ≤ s → far ≡ (k.beyond || ltb S s) → (o : List ℤ) (l : ℤ)
    → s ≡ nat_abs l → KeptOf S o row k → far ≡ not (all (in_range S) (o ++ (l ∷ [])))
far_next S {s = s} one far-is o l is h = far-is ∙ ap (λ (b : Bool). b || ltb S s) h.is_beyond ∙ sym (beyond_snoc S o l is one)

next_within : {row after : List ℕ} {count p next : ℕ} {clashed full : Bool} → Inserts row after count p next clashed full → count ≤ length row
    → (b : Bool) → full ≡ b → next ≤ length row
next_within sown within true e = omega (arith, sown.stays e)
next_within {row} {count = count} {p = p} sown within false e =
    omega (arith, sown.is_count e, ltb-false (length row) (length (inserted p (take count row))) (sym sown.is_full ∙ e))

module _ (S : ℕ) {row : List ℕ} (k : Kept) {s : ℕ} {far negative : Bool} (one : 1 ≤ s) (far-is : far ≡ (k.beyond || ltb S s)) where
  -- there were too many symbols before
  pub steps_many : k.count ≤ length row → k.many ≡ true
      → Steps S s negative row row k (record { count = k.count; always = k.always; many = k.many; beyond = far })
  steps_many within m = record {
    fits = within;
    step =
        λ o l is sign h.
        let g = gathered [] o in
        let before : most_literals < length g = ltb-true most_literals (length g) (sym h.is_many ∙ m) in
        let longer : most_literals < length (gathered [] (o ++ (l ∷ []))) =
        rw (gathered_snoc [] o l) (omega (arith, before, inserted_longer (place_of l) g)) in
        record {
          is_beyond = far_next S one far-is o l is h;
          is_many = m ∙ sym (lt-ltb most_literals (length (gathered [] (o ++ (l ∷ [])))) longer);
          is_row = λ e. clash m e;
          is_count = λ e. clash m e;
          is_always = λ e. clash m e;
        };
  }

  -- the literal is put into the row
  module _ (eight : length row ≡ most_literals) (few : k.many ≡ false) (within : k.count ≤ length row) {p : ℕ} (at : p ≡ place s (not negative))
      {after : List ℕ} {next : ℕ} {clashed full always : Bool} (sown : Inserts row after k.count p next clashed full)
      (always-is : always ≡ (k.always || clashed)) where
    pub steps_sown : Steps S s negative row after k (record { count = next; always = always; many = full; beyond = far })
    steps_sown = record {
      fits = next_within sown within full refl;
      step =
          λ o l is sign h.
          let place_at = at ∙ place_is l is sign in
          let row_is : inserted p (take k.count row) ≡ gathered [] (o ++ (l ∷ [])) =
          ap₂ (λ (q : ℕ) (g : List ℕ). inserted q g) place_at (h.is_row few) ∙ sym (gathered_snoc [] o l) in
          let clash_is : clashes p (take k.count row) ≡ clashes (place_of l) (gathered [] o) =
          ap₂ (λ (q : ℕ) (g : List ℕ). clashes q g) place_at (h.is_row few) in
          record {
            is_beyond = far_next S one far-is o l is h;
            is_many = sown.is_full ∙ ap₂ (λ (n : ℕ) (g : List ℕ). ltb n (length g)) eight row_is;
            is_row = λ e. sown.is_row e ∙ row_is;
            is_count = λ e. sown.is_count e ∙ ap length row_is;
            is_always = λ e. always-is ∙ ap₂ (λ (a b : Bool). a || b) (h.is_always few) (sown.is_clash ∙ clash_is) ∙ sym (always_snoc [] o l);
          };
    }
