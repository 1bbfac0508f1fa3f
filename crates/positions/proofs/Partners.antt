-- The places of the partners that a position may stand with, put into a row one at a time.
use Rattle.meaning.proofs.Kit.{◌≡◌, ◌∙◌, sym, ap, true, false, List, [], ◌∷◌, ◌++◌, map, append-nil, ◌≤◌, ℕ, ◌<◌, ◌-◌, ◌+◌, add-one, arith, length}
use Rattle.meaning.proofs.Kit.{take, set, length-set, take-suc-set, append_snoc, lt-ltb, le-ltb}
use Rattle.meaning.specs.Tests.{keep, from}
use Rattle.meaning.specs.Literals.{place}
use Rattle.positions.specs.Positions.{Side, on, off, symbol_at, partners, pair_row}
use Rattle.positions.proofs.Turns.{all_left, next_of, none_left}

module _ (s : Side) (i : ℕ) where
  abbrev places_at : List ℕ → List ℕ
  places_at js = map (λ t. place t true) (map (symbol_at s.partner) (keep (s.may i) js))

  -- those from j on
  abbrev left : ℕ → List ℕ
  left j = places_at (from j (s.partner.count - j))

  module _ (at : ℕ) (old : List ℕ) where
    -- those before j are put behind the first `at` numbers of the old row
    pub record Gathered (row : List ℕ) (n j : ℕ) : Type 0 where
      pub long : length row ≡ 8
      pub within : j ≤ s.partner.count
      pub few : n ≤ at + j
      pub is : take n row ++ left j ≡ take at old ++ map (λ t. place t true) (partners s i)

    pub gathered_none : length old ≡ 8 → Gathered old at 0
    gathered_none h =
        record {
          long = h;
          within = omega arith;
          few = omega arith;
          is = ap (λ (js : List ℕ). take at old ++ places_at js) (sym (all_left s.partner.count));
        }

    module _ (row : List ℕ) (n j : ℕ) (g : Gathered row n j) (h : j < s.partner.count) where
      pub gathered_one : s.may i j ≡ true → n < 8 → Gathered (set row n (on s.partner j)) (n + 1) (j + 1)
      gathered_one e small =
          record {
            long = length-set row n (on s.partner j) ∙ g.long;
            within = omega arith;
            few = omega (arith, g.few);
            is =
                rw (add-one, take-suc-set row n (on s.partner j) (omega (arith, g.long)))
                (append_snoc (take n row) (on s.partner j) (left (j + 1))
                ∙ ap (λ (ps : List ℕ). take n row ++ ps) (sym (ap places_at (next_of j s.partner.count h) ∙ rw e))
                ∙ g.is);
          }

      pub gathered_passed : s.may i j ≡ false → Gathered row n (j + 1)
      gathered_passed e =
          record {
            long = g.long;
            within = omega arith;
            few = omega (arith, g.few);
            is = ap (λ (ps : List ℕ). take n row ++ ps) (sym (ap places_at (next_of j s.partner.count h) ∙ rw e)) ∙ g.is;
          }

    pub gathered_all : (row : List ℕ) (n j : ℕ) → Gathered row n j → s.partner.count ≤ j
        → take n row ≡ take at old ++ map (λ t. place t true) (partners s i)
    gathered_all row n j g h =
        sym (append-nil (take n row)) ∙ ap (λ (js : List ℕ). take n row ++ places_at js) (sym (none_left j s.partner.count h)) ∙ g.is

-- ---- the position's own literal before them, or after them

module _ (s : Side) (i : ℕ) (row : List ℕ) where
  pub own_first : s.own.first < s.partner.first → length row ≡ 8 → (after : List ℕ) (r : ℕ)
      → take r after ≡ take 1 (set row 0 (off s.own i)) ++ map (λ t. place t true) (partners s i) → take r after ≡ pair_row s i
  own_first h long after r e =
      e ∙ ap (λ (ps : List ℕ). ps ++ map (λ t. place t true) (partners s i)) (take-suc-set row 0 (off s.own i) (omega arith))
      ∙ rw (lt-ltb s.own.first s.partner.first h)

  pub own_last : s.partner.first ≤ s.own.first → (after : List ℕ) (r : ℕ) → r < length after
      → take r after ≡ take 0 row ++ map (λ t. place t true) (partners s i) → take (r + 1) (set after r (off s.own i)) ≡ pair_row s i
  own_last h after r small e =
      rw (add-one, le-ltb s.own.first s.partner.first h)
      (take-suc-set after r (off s.own i) small ∙ ap (λ (ps : List ℕ). ps ++ off s.own i ∷ []) e)
