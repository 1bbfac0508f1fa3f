-- Laws of a unit, from what it starts with.
use Rattle.meaning.proofs.Kit.{◌≡◌, ◌∙◌, sym, ap, refl, List, [], ◌∷◌, ◌≤◌, ℕ, ◌<◌, ◌-◌, ◌+◌, suc, zero, sub-one, arith, length, drop, take}
use Rattle.meaning.proofs.Kit.{length-drop}
use Rattle.chains.proofs.Words.{BadText, start_of, bad, lead, number_end, by_start, closed, bracket_at, unit_at, chain_at, read_of, past}
use Rattle.chains.proofs.Words.{closed_answer, Blank, Denial, Number, Start, Digits, Bracket, Neither, Result, Break, Ok, Err, broken}
use Rattle.formula.proofs.Parts.{onward, onward_drop}
use Rattle.chains.proofs.Runs.{lead_extent, denied, unit_run}
use Rattle.formula.proofs.Parsing.{past_after}
use Rattle.chains.proofs.Answering.{past_past, closed_read}

pub start_long : (l : List ℕ) → start_of l ≡ Bracket → 0 < length l
start_long [] e = let z : ◌≡◌ {A = ℕ} 0 1 = cc in absurd (omega arith)
start_long (c ∷ rest) e = omega arith

pub number_within : (l : List ℕ) → number_end l ≤ length l
number_within l = omega (arith, lead_extent Number l, lead_extent Blank (drop (lead Number l) l), length-drop (lead Number l) l)

bracket_none : (b : ℕ) (l : List ℕ) → b ≡ 0 → bracket_at b l ≡ bad BadText 0
unfolding bracket_at
bracket_none zero l e = refl
bracket_none (suc b) l e = absurd (omega arith)

bracket_opens : (b : ℕ) (l : List ℕ) → 0 < b → read_of (bracket_at b l) ≡ past 1 (closed_answer (drop 1 l) (read_of (chain_at (b - 1) (drop 1 l))))
unfolding bracket_at
bracket_opens zero l h = absurd (omega arith)
bracket_opens (suc b) l h =
    sym (past_after 1 (λ f. f) (closed (drop 1 l) (chain_at b (drop 1 l))))
    ∙ ap (past 1) (closed_read (drop 1 l) (chain_at b (drop 1 l)))
    ∙ ap (λ (d : ℕ). past 1 (closed_answer (drop 1 l) (read_of (chain_at d (drop 1 l))))) (sym (sub-one (suc b)))

module _ (b : ℕ) (text : List ℕ) {skipped : ℕ} (k : skipped ≡ lead Denial text) {start : Start} (s : start_of (onward skipped text) ≡ start) where
  by_start_lem : read_of (unit_at b text) ≡ past skipped (read_of (by_start (λ l. bracket_at b l) start (onward skipped text)))
  by_start_lem =
      ap read_of (unit_run (λ l. bracket_at b l) text)
      ∙ sym (past_after (lead Denial text) (denied (take (lead Denial text) text))
      (by_start (λ l. bracket_at b l) (start_of (drop (lead Denial text) text)) (drop (lead Denial text) text)))
      ∙ ap (λ (n : ℕ). past n (read_of (by_start (λ l. bracket_at b l) (start_of (drop n text)) (drop n text)))) (sym k)
      ∙ ap (λ (l : List ℕ). past skipped (read_of (by_start (λ l. bracket_at b l) (start_of l) l))) (sym (onward_drop skipped text))
      ∙ ap (λ (s : Start). past skipped (read_of (by_start (λ l. bracket_at b l) s (onward skipped text)))) s

module _ (b : ℕ) (text : List ℕ) {skipped : ℕ} (k : skipped ≡ lead Denial text) where
  pub by_digits : start_of (onward skipped text) ≡ Digits → {end : ℕ} → end ≡ number_end (onward skipped text)
      → Ok (skipped + end) ≡ read_of (unit_at b text)
  by_digits s e = ap (λ (n : ℕ). Ok (skipped + n)) e ∙ sym (by_start_lem b text k s)

  pub by_neither : start_of (onward skipped text) ≡ Neither → broken BadText skipped ≡ read_of (unit_at b text)
  by_neither s = let e : skipped ≡ skipped + 0 = omega arith in ap (broken BadText) e ∙ sym (by_start_lem b text k s)

  module _ (s : start_of (onward skipped text) ≡ Bracket) where
    pub by_seventeenth : b ≡ 0 → broken BadText skipped ≡ read_of (unit_at b text)
    by_seventeenth z =
        let e : skipped ≡ skipped + 0 = omega arith in
        ap (broken BadText) e ∙ sym (by_start_lem b text k s ∙ ap (λ p. past skipped (read_of p)) (bracket_none b (onward skipped text) z))

    pub by_bracket : 0 < b → {one two : Result ℕ Break} → one ≡ read_of (chain_at (b - 1) (onward 1 (onward skipped text)))
        → two ≡ closed_answer (onward 1 (onward skipped text)) one → past (skipped + 1) two ≡ read_of (unit_at b text)
    by_bracket h {one} {two} r q =
        let body = onward skipped text in
        let closing : two ≡ closed_answer (drop 1 body) (read_of (chain_at (b - 1) (drop 1 body))) =
        q ∙ ap (closed_answer (onward 1 body)) r ∙ ap (λ (l : List ℕ). closed_answer l (read_of (chain_at (b - 1) l))) (onward_drop 1 body) in
        ap (past (skipped + 1)) closing
        ∙ sym (past_past skipped 1 (skipped + 1) (closed_answer (drop 1 body) (read_of (chain_at (b - 1) (drop 1 body)))) refl)
        ∙ sym (by_start_lem b text k s ∙ ap (past skipped) (bracket_opens b body h))
