-- How a chain is read: its first unit is at fault, or is its last, or a mark goes on from it to the rest. Laws of chains go by these three cases.
use Rattle.meaning.proofs.Kit.{◌≡◌, ap, refl, true, false, Bool, cond, List, [], ◌∷◌, ℕ, ◌<◌, ◌+◌, suc, zero, arith, length, get_or, drop, length-drop}
use Rattle.chains.proofs.Words.{Formula, Refusal, Parsed, good, bad, after, goes_on, joined_by, from_mark, go_on, more, start_mark, start_on, starts}

-- from here on, where `join` is what joins the units so far and `wrap` joins the first one to what stands before: the texts at which the units start,
-- and what is read
pub data Chain (unit : List ℕ → Parsed) : ℕ → (Formula → Formula) → List ℕ → List (List ℕ) → Parsed → Type 0 where
  fault : {join at : ℕ} {wrap : Formula → Formula} {text : List ℕ} {why : Refusal} → unit text ≡ bad why at
      → Chain unit join wrap text (text ∷ []) (bad why at)
  last : {join used : ℕ} {wrap : Formula → Formula} {text : List ℕ} {f : Formula} → unit text ≡ good f used
      → goes_on join (get_or (drop used text) 0 0) ≡ false → Chain unit join wrap text (text ∷ []) (good (wrap f) used)
  leads : {join used c : ℕ} {wrap : Formula → Formula} {text rest : List ℕ} {f : Formula} {ts : List (List ℕ)} {p : Parsed} → unit text ≡ good f used
      → drop used text ≡ c ∷ rest → goes_on join c ≡ true → Chain unit c (joined_by c (wrap f)) rest ts p
      → Chain unit join wrap text (text ∷ ts) (after (used + 1) (λ g. g) p)

module _ (unit : List ℕ → Parsed) where
  -- what is read from a unit on, where all that is shorter is read so
  module _ (most join : ℕ) (wrap : Formula → Formula) (text : List ℕ)
      (shorter : (c : ℕ) (f : Formula) (l : List ℕ) → length l < length text
      → Chain unit c (joined_by c f) l (starts unit most c l) (more unit most c (joined_by c f) l)) where
    abbrev onward : ℕ → Formula → List ℕ → Parsed
    onward c f l = more unit most c (joined_by c f) l

    abbrev texts : ℕ → List ℕ → List (List ℕ)
    texts c l = starts unit most c l

    at_mark : {f : Formula} {used : ℕ} → unit text ≡ good f used → (rest : List ℕ) → drop used text ≡ rest
        → Chain unit join wrap text (text ∷ start_mark texts join rest) (from_mark onward join (wrap f) used rest)
    unfolding start_mark from_mark
    at_mark e [] d = last {join = join} {wrap = wrap} e (rw d)
    at_mark {f} {used} e (c ∷ rest) d = by (goes_on join c) refl
      where
        by : (b : Bool) → goes_on join c ≡ b
            → Chain unit join wrap text (text ∷ cond b (texts c rest) [])
            (cond b (after (used + 1) (λ g. g) (onward c (wrap f) rest)) (good (wrap f) used))
        by true g = leads e d g (shorter c (wrap f) rest (omega (arith, ap length d, length-drop used text)))
        by false g = last {join = join} {wrap = wrap} e (rw d g)

    at_unit : (p : Parsed) → unit text ≡ p → Chain unit join wrap text (text ∷ start_on texts join text p) (go_on onward join wrap text p)
    unfolding start_on go_on
    at_unit (good f used) e = at_mark e (drop used text) refl
    at_unit (bad why at) e = fault e

  pub chain_read : (most join : ℕ) (wrap : Formula → Formula) (text : List ℕ) → length text < most
      → Chain unit join wrap text (starts unit most join text) (more unit most join wrap text)
  unfolding starts more
  chain_read zero join wrap text h = absurd (omega arith)
  chain_read (suc most) join wrap text h =
      at_unit most join wrap text (λ c f l less. chain_read most c (joined_by c f) l (omega arith)) (unit text) refl
