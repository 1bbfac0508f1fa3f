-- The test `forces` over a rule's own assignments is `Forces`, which speaks of truth values of symbols alone.
use Rattle.meaning.proofs.Kit.{◌≡◌, ◌∙◌, sym, ap, refl, ⊎_elim, ◌↔◌, true, Bool, not, List, [], ◌∷◌, map, In, here, there, in_nil, in_cons, ℕ}
use Rattle.meaning.proofs.Kit.{◌<◌, zero, length-map, not-true}
use Rattle.meaning.specs.Literals.{place, opp, has}
use Rattle.meaning.specs.Formulae.{Formula, value, occurs, inside, symbols_of, look, rule_of}
use Rattle.meaning.specs.SecondWay.{Agrees, Forces, says, agrees, forces}
use Rattle.meaning.proofs.Tests.{not_intro, all_of, all_at}
use Rattle.meaning.proofs.Literals.{opp_place, place_same}
use Rattle.meaning.proofs.Formulae.{symbol_bounds, symbol_occurs, in_symbols, accepts_value, symbols_ascend, look_self}
use Rattle.meaning.proofs.Ways.{AllSay, forces_words, forces_of, literal_of_lem, literal_words}

-- what truth values say of the symbols in a list
says_in : (e : ℕ → Bool) (symbols : List ℕ) (q : ℕ) → In q (says symbols (map e symbols)) → (t : ℕ) × In t symbols × (q ≡ place t (e t))
says_in e [] q m = absurd (in_nil m)
says_in e (s ∷ symbols) q m = ⊎_elim (λ h. (s, here refl, h)) (λ n. let r = says_in e symbols q n in (r.0, there r.1, r.2)) (in_cons m)

in_says : (e : ℕ → Bool) (symbols : List ℕ) (t : ℕ) → In t symbols → In (place t (e t)) (says symbols (map e symbols))
in_says e [] t m = absurd (in_nil m)
in_says e (s ∷ symbols) t m = ⊎_elim (λ h. here (ap (λ (x : ℕ). place x (e x)) h)) (λ n. there (in_says e symbols t n)) (in_cons m)

module _ (S : ℕ) (f : Formula) (ok : inside S f ≡ true) (known : List Bool) where
  -- truth values agree in words just where their list passes the test
  agrees_list : (e : ℕ → Bool) → Agrees known f e → agrees known (says (symbols_of S f) (map e (symbols_of S f))) ≡ true
  agrees_list e g = all_of (λ (q : ℕ). not (has known (opp q))) (says (symbols_of S f) (map e (symbols_of S f))) each
    where
      each : (q : ℕ) → In q (says (symbols_of S f) (map e (symbols_of S f))) → not (has known (opp q)) ≡ true
      each q m =
          let r = says_in e (symbols_of S f) q m in
          not_intro (has known (opp q)) (rw (r.2, opp_place r.0 (e r.0)) (g r.0 (symbol_occurs S f r.1)))

  list_agrees : (e : ℕ → Bool) → agrees known (says (symbols_of S f) (map e (symbols_of S f))) ≡ true → Agrees known f e
  list_agrees e g s o =
      let m = in_says e (symbols_of S f) s (in_symbols S f s ok o) in
      rw (opp_place s (e s)) at (not-true (has known (opp (place s (e s)))) (all_at (λ (q : ℕ). not (has known (opp q))) g m))

  -- the rule forces the literal that gives s the value b just where it forces b on s
  pub forces_means : (s : ℕ) (b : Bool) → zero < s → forces known (rule_of S f) (place s b) ≡ true ↔ Forces known f s b
  forces_means s b pos = (to, back)
    where
      to : forces known (rule_of S f) (place s b) ≡ true → Forces known f s b
      to h = (o, all_give)
        where
          o : occurs s f ≡ true
          o =
              let x = literal_words (symbols_of S f) (place s b) (forces_words known (rule_of S f) (place s b) h).0 in
              let y = place_same s x.0 b x.1 pos (symbol_bounds S f x.2).0 x.3 in
              rw y.0 (symbol_occurs S f x.2)

          all_give : (e : ℕ → Bool) → Agrees known f e → value e f ≡ true → e s ≡ b
          all_give e g v =
              let m =
              (forces_words known (rule_of S f) (place s b) h).1 (map e (symbols_of S f)) (length-map (symbols_of S f) e) (agrees_list e g)
              (accepts_value S f e ok ∙ v) in
              let x = says_in e (symbols_of S f) (place s b) m in
              let y = place_same s x.0 b (e x.0) pos (symbol_bounds S f x.1).0 x.2 in
              ap e y.0 ∙ sym y.1

      back : Forces known f s b → forces known (rule_of S f) (place s b) ≡ true
      back w = forces_of known (rule_of S f) (place s b) (literal_of_lem (symbols_of S f) s b (place s b) in_s refl) each
        where
          in_s : In s (symbols_of S f)
          in_s = in_symbols S f s ok w.0

          each : AllSay known (rule_of S f) (place s b)
          each a l g v =
              let e : ℕ → Bool = look (symbols_of S f) a in
              let q : map e (symbols_of S f) ≡ a = look_self 0 (symbols_of S f) a (symbols_ascend S f) l in
              let x : e s ≡ b = w.1 e (list_agrees e (rw q g)) v in
              rw q at (rw x at (in_says e (symbols_of S f) s in_s))
