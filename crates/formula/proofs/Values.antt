-- The value of a formula that was read, from its operands' values.
use Rattle.meaning.proofs.Kit.{◌≡◌, ◌∙◌, sym, ap, refl, ap₂, Bool, not, List, ℕ, ◌+◌, get_or}
use Rattle.formula.proofs.Words.{Formula, value, joined, joined_value, parse, valued_of, Join, And, Or, Implies, Same, Symbol, Not, Two, Valued}
use Rattle.formula.proofs.Parts.{onward}
use Rattle.formula.proofs.Parsing.{first, second}
use Rattle.formula.proofs.Walk.{Walk, made_symbol, made_not, made_two, made_second}

-- a `Not` and a join, of values
abbrev negated : Valued → Valued
negated v = record { holds = not v.holds; used = 1 + v.used }

abbrev joining : Join → Valued → Valued → Valued
joining join v w = record { holds = joined_value join v.holds w.holds; used = 1 + v.used + w.used }

module _ (a : ℕ → Bool) where
  value_joined : (join : Join) (f g : Formula) → joined_value join (value a f) (value a g) ≡ value a (joined join f g)
  unfolding value
  value_joined And f g = refl
  value_joined Or f g = refl
  value_joined Implies f g = refl
  value_joined Same f g = refl

  module _ {depth : ℕ} {bytes : List ℕ} where
    pub means_symbol : Walk depth bytes Symbol
        → ◌≡◌ {A = Valued} (record { holds = a (get_or (onward 1 bytes) 0 0); used = 2 }) (valued_of a (parse 255 depth bytes))
    unfolding value
    means_symbol w = sym (ap (valued_of a) (made_symbol w))

    pub means_not : Walk depth bytes Not → {v : Valued} → v ≡ valued_of a (first 255 depth bytes) → negated v ≡ valued_of a (parse 255 depth bytes)
    unfolding value
    means_not w one = let m = made_not w in ap negated (one ∙ ap (valued_of a) m.inner) ∙ sym (ap (valued_of a) m.whole)

    pub means_two : {join : Join} → Walk depth bytes (Two join) → {v u : Valued}
        → v ≡ valued_of a (first 255 depth bytes) → u ≡ valued_of a (second 255 depth bytes v.used)
        → joining join v u ≡ valued_of a (parse 255 depth bytes)
    means_two {join} w one two =
        let m = made_two w in
        ap₂ (joining join) (one ∙ ap (valued_of a) m.left) (two ∙ ap (valued_of a) (made_second w (ap (λ (x : Valued). x.used) one)))
        ∙ ap (λ (b : Bool). record { holds = b; used = 1 + m.used + m.more }) (value_joined join m.f m.g)
        ∙ sym (ap (valued_of a) m.whole)
