-- 02, Ticket 5: "Text and bytes of one formula add the same rows": adding a rule from text is adding its bytes, but where the text is refused.
use Rattle.meaning.proofs.Kit.{◌≡◌, ⊎_elim, ◌∙◌, ap, refl, true, false, Bool, List, ℕ, arith, ℤ}
use Rattle.formula.specs.Bytes.{bytes_of}
use Rattle.formula.specs.Answers.{is_good, formula_of}
use Rattle.formula.proofs.OwnBytes.{whole_bytes}
use Rattle.board.specs.Faults.{first_fault, good_board}
use Rattle.board.specs.Rules.{rule_faults, ruled}
use Rattle.board.specs.declared.Board.{Board}
use Rattle.std.specs.Prelude.{Ok}
use Rattle.board.proofs.Answered.{refused_not_done, rule_told}
use Rattle.meaning.proofs.Tests.{true_or_false}
use Rattle.board.proofs.Goodness.{good_is}
use Rattle.chains.specs.Form.{whole_text}
use Rattle.text.specs.Reading.{bytes_in}
use Rattle.text.specs.Adding.{text_refused, ruled_text, ruled_text_table, rule_text_faults}
use Rattle.text.proofs.RuledText.{text_bytes, text_table}
use Rattle.promises.specs.Calls.{adds, adds_text, World, front, answer, outcome, after}
use Rattle.promises.specs.Demands.{TextIsBytes, OneFormula}

-- its answer is the first of its cases that is given
pub rule_text_told : (table : List ℤ) (b : Board) (text : List ℕ) → (ruled_text table b text).outcome ≡ first_fault (rule_text_faults table b text)
unfolding ruled_text rule_text_faults rule_faults
rule_text_told table b text = go (good_board table b) (is_good (whole_text text)) refl refl
  where
    go : (g k : Bool) → good_board table b ≡ g → is_good (whole_text text) ≡ k
        → (ruled_text table b text).outcome ≡ first_fault (rule_text_faults table b text)
    go false k is kept = rw is (rule_told table b (bytes_in text) ∙ rw is)
    go true false is kept = rw (is, kept)
    go true true is kept = rw (is, kept) (rule_told table b (bytes_in text) ∙ rw is)

module _ (w : World) (lent : ℕ) (text : List ℕ) where
  -- the two calls answer the same and leave the same
  abbrev Same : Type 0
  Same =
      (ruled_text (front w lent) w.board text ≡ ruled (front w lent) w.board (bytes_in text))
      × (after w (adds_text lent text) ≡ after w (adds lent (bytes_in text)))

  same_rule : text_refused (front w lent) w.board text ≡ false → Same
  unfolding after ruled_text ruled_text_table
  same_rule e = (rw e, rw e)

  -- so where it is done,
  pub done_same : outcome w (adds_text lent text) ≡ Ok tt → Same
  unfolding answer outcome ruled_text
  done_same e =
      ⊎_elim
      (λ (r : text_refused (front w lent) w.board text ≡ true). refused_not_done (rw (r, outcome) at e))
      same_rule
      (true_or_false (text_refused (front w lent) w.board text))

-- and where the text keeps the form
pub text_is_bytes : TextIsBytes
unfolding after
text_is_bytes w lent text kept =
    let told = text_bytes (front w lent) w.board text kept in
    (told, rw (told, text_table (front w lent) w.board text kept))

pub one_formula : OneFormula
one_formula w lent text bytes f used good says read =
    let few = (good_is (front w lent) w.board good).sound.symbols in
    let own : bytes_in text ≡ bytes = ap (λ p. bytes_of (formula_of p)) says ∙ whole_bytes w.board.symbols bytes f used (omega (arith, few)) read in
    rw own at (text_is_bytes w lent text (ap is_good says))
