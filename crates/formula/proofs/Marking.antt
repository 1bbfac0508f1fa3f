-- The marks of a formula that was read, from its operands' marks.
use Rattle.meaning.proofs.Kit.{◌≡◌, ◌∙◌, ap, refl, ap₂, true, Bool, List, ℕ, ◌+◌, get_or, set}
use Rattle.formula.proofs.Words.{Formula, joined, used_of, marked, marks_of, Parsed, parse, Join, And, Or, Implies, Same, Symbol, Not, Two}
use Rattle.formula.proofs.Parts.{onward}
use Rattle.formula.proofs.Parsing.{first, second}
use Rattle.formula.proofs.Walk.{Walk, made_symbol, made_not, made_two, made_second}

-- `used` bytes and the marks `after` are those of p, from the marks `before`
abbrev pub Marks : Parsed → List Bool → ℕ → List Bool → Type 0
Marks p before used after = (used ≡ used_of p) × (after ≡ marks_of p before)

marked_joined : (join : Join) (f g : Formula) (m : List Bool) → marked g (marked f m) ≡ marked (joined join f g) m
unfolding marked
marked_joined And f g m = refl
marked_joined Or f g m = refl
marked_joined Implies f g m = refl
marked_joined Same f g m = refl

module _ {depth : ℕ} {bytes : List ℕ} (m : List Bool) where
  pub leaves_symbol : Walk depth bytes Symbol → Marks (parse 255 depth bytes) m 2 (set m (get_or (onward 1 bytes) 0 0) true)
  unfolding marked
  leaves_symbol w = rw (made_symbol w) (refl, refl)

  module _ {used : ℕ} {m₁ : List Bool} (one : Marks (first 255 depth bytes) m used m₁) where
    pub leaves_not : Walk depth bytes Not → Marks (parse 255 depth bytes) m (1 + used) m₁
    unfolding marked
    leaves_not w =
        let inner = rw (made_not w).inner at one in
        rw (made_not w).whole (ap (λ (n : ℕ). 1 + n) inner.0, inner.1)

    pub leaves_two : {join : Join} → Walk depth bytes (Two join) → {more : ℕ} {m₂ : List Bool}
        → Marks (second 255 depth bytes used) m₁ more m₂ → Marks (parse 255 depth bytes) m (1 + used + more) m₂
    leaves_two {join} w two =
        let made = made_two w in
        let left = rw made.left at one in
        let right = rw (made_second w one.0) at two in
        rw made.whole
        (ap₂ (λ (n k : ℕ). 1 + n + k) left.0 right.0, right.1 ∙ ap (marked made.g) left.1 ∙ marked_joined join made.f made.g m)
