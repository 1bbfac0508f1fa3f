-- A text byte by byte: a byte leads on from a state or offends there, and from every state some bytes lead to the end of a text.
use Rattle.meaning.proofs.Kit.{◌≡◌, ap, refl, subst, true, false, Bool, cond, ◌&&◌, List, [], ◌∷◌, ◌++◌, ◌≤◌, ℕ, ◌<◌, ◌+◌, suc, zero, arith, eqb}
use Rattle.meaning.proofs.Kit.{length, take, replicate}
use Rattle.chains.proofs.Words.{Refusal, BadText, is_digit, past, Result, Break, Ok, Err, broken, goes_on}

-- a unit is due, or one was had, `digits` where more of them would belong to it; with what joins the units of its chain so far, how many brackets may
-- still be opened, and the joins of the chains round it
pub data State : Type 0 where
  due : (join left : ℕ) → (outer : List ℕ) → State
  had : (digits : Bool) → (join left : ℕ) → (outer : List ℕ) → State

pub data Next : Type 0 where
  on : State → Next
  off : Next

abbrev pub opening : (join left : ℕ) → List ℕ → Next
opening join zero outer = off
opening join (suc left) outer = on (due 0 left (join ∷ outer))

abbrev pub closing : (left : ℕ) → List ℕ → ℕ → Next
closing left [] c = off
closing left (join ∷ outer) c = cond (eqb c 41) (on (had false join (suc left) outer)) off

-- past a unit and its spaces
abbrev pub marked : (join left : ℕ) → List ℕ → ℕ → Next
marked join left outer c = cond (goes_on join c) (on (due c left outer)) (closing left outer c)

abbrev pub step : State → ℕ → Next
step (due join left outer) c =
    cond (eqb c 32) (on (due join left outer))
    (cond (eqb c 45) (on (due join left outer))
    (cond (is_digit c) (on (had true join left outer))
    (cond (eqb c 40) (opening join left outer) off)))
step (had digits join left outer) c =
    cond (digits && is_digit c) (on (had true join left outer)) (cond (eqb c 32) (on (had false join left outer)) (marked join left outer c))

abbrev pub ends : List ℕ → Result ℕ Break
ends [] = Ok 0
ends (join ∷ outer) = broken BadText 0

abbrev pub ending : State → Result ℕ Break
ending (due join left outer) = broken BadText 0
ending (had digits join left outer) = ends outer

abbrev pub follow : (State → Result ℕ Break) → Next → Result ℕ Break
follow rest (on s) = past 1 (rest s)
follow rest off = broken BadText 0

unfoldable pub run : State → List ℕ → Result ℕ Break
run s [] = ending s
run s (c ∷ rest) = follow (λ t. run t rest) (step s c)

-- ---- the rest of a text

-- a text is gone through from a state to its end
pub record Goes (s : State) (text : List ℕ) : Type 0 where
  pub all : run s text ≡ Ok (length text)

goes_on_lem : {s t : State} {c : ℕ} {rest : List ℕ} → step s c ≡ on t → Goes t rest → Goes s (c ∷ rest)
unfolding run
goes_on_lem {rest = rest} e g = let long : 1 + length rest ≡ suc (length rest) = omega arith in record { all = rw (e, g.all) (ap Ok long) }

-- a closing mark for each bracket
closes : (digits : Bool) (join left : ℕ) (outer : List ℕ) → Goes (had digits join left outer) (replicate (length outer) 41)
unfolding run
closes digits join left [] = record { all = refl }
closes true join left (o ∷ outer) = goes_on_lem refl (closes false o (suc left) outer)
closes false join left (o ∷ outer) = goes_on_lem refl (closes false o (suc left) outer)

finish : (s : State) → (rest : List ℕ) × Goes s rest
finish (due join left outer) = (49 ∷ replicate (length outer) 41, goes_on_lem refl (closes true join left outer))
finish (had digits join left outer) = (replicate (length outer) 41, closes digits join left outer)

-- ---- an offence

-- the text is cut short, or a byte offends
pub data Met : State → List ℕ → ℕ → Type 0 where
  cut : {s : State} → Met s [] 0
  byte : {s : State} {c : ℕ} {rest : List ℕ} → step s c ≡ off → Met s (c ∷ rest) 0
  later : {s t : State} {c at : ℕ} {rest : List ℕ} → step s c ≡ on t → Met t rest at → Met s (c ∷ rest) (1 + at)

abbrev Told : State → List ℕ → Result ℕ Break → Type 0
Told s text (Ok count) = Unit {0}
Told s text (Err b) = (b.why ≡ BadText) × Met s text b.place

end_told : (s : State) → Told s [] (ending s)
end_told (due join left outer) = (refl, cut)
end_told (had digits join left []) = tt
end_told (had digits join left (o ∷ outer)) = (refl, cut)

told : (s : State) (text : List ℕ) → Told s text (run s text)
unfolding run
told s [] = end_told s
told s (c ∷ rest) = by (step s c) refl (λ t. told t rest)
  where
    on_told : {t : State} → step s c ≡ on t → (a : Result ℕ Break) → Told t rest a → Told s (c ∷ rest) (past 1 a)
    on_told e (Ok count) m = tt
    on_told e (Err b) m = (m.0, later e m.1)

    by : (x : Next) → step s c ≡ x → ((t : State) → Told t rest (run t rest)) → Told s (c ∷ rest) (follow (λ t. run t rest) x)
    by (on t) e inner = on_told e (run t rest) (inner t)
    by off e inner = (refl, byte e)

pub met : (s : State) (text : List ℕ) {b : Break} → run s text ≡ Err b → (b.why ≡ BadText) × Met s text b.place
met s text e = subst (Told s text) e (told s text)

pub met_within : {s : State} {text : List ℕ} {at : ℕ} → Met s text at → at ≤ length text
met_within cut = omega arith
met_within (byte e) = omega arith
met_within (later e m) = omega (arith, met_within m)

-- up to it a text can be gone on with
pub front : {s : State} {text : List ℕ} {at : ℕ} (n : ℕ) → n ≤ at → Met s text at → (rest : List ℕ) × Goes s (take n text ++ rest)
front {s} zero h m = finish s
front (suc n) h cut = absurd (omega arith)
front (suc n) h (byte e) = absurd (omega arith)
front (suc n) h (later {t = t} e m) = let r = front {s = t} n (omega arith) m in (r.0, goes_on_lem e r.1)

-- and with its byte it is met again, whatever follows
pub again : {s : State} {text : List ℕ} {at : ℕ} (n : ℕ) (more : List ℕ) → at < n → n ≤ length text → Met s text at
    → run s (take n text ++ more) ≡ broken BadText at
unfolding run
again n more h within cut = absurd (omega arith)
again zero more h within (byte e) = absurd (omega arith)
again (suc n) more h within (byte e) = rw e
again zero more h within (later e m) = absurd (omega arith)
again (suc n) more h within (later e m) = rw (e, again n more (omega arith) (omega arith) m)
