-- Adding a rule from text. "Text and bytes of one formula add the same rows": it is 15 for text outside the form, once the board is good, and
-- otherwise all that adding the text's bytes is.
use Rattle.std.specs.Prelude.{ℕ, Bool, cond, not, ◌&&◌, List, ◌∷◌, ℤ}
use Rattle.literals.specs.Row.{rows_lent}
use Rattle.literals.specs.declared.refusal.Refusal.TheVariants.{BadBoard, BadText}
use Rattle.formula.specs.Answers.{is_good}
use Rattle.board.specs.Faults.{good_board, Fault}
use Rattle.board.specs.Rules.{breaks_at, bytes_faults, ruled, ruled_table}
use Rattle.board.specs.declared.Board.{Board}
use Rattle.std.specs.Prelude.{Err}
use Rattle.board.specs.declared.rules.Addition.{Addition}
use Rattle.chains.specs.Form.{whole_text}
use Rattle.text.specs.Reading.{bytes_in}

abbrev pub text_refused : List ℤ → Board → (text : List ℕ) → Bool
text_refused table b text = good_board table b && not (is_good (whole_text text))

-- the answer, and the table after it
unfoldable pub ruled_text : List ℤ → Board → (text : List ℕ) → Addition
ruled_text table b text =
    cond (text_refused table b text) (record { outcome = Err BadText; place = breaks_at (whole_text text); added = 0; board = b })
    (ruled table b (bytes_in text))

unfoldable pub ruled_text_table : List ℤ → Board → (text : List ℕ) → List ℤ
ruled_text_table table b text = cond (text_refused table b text) table (ruled_table table b (bytes_in text))

-- the cases in their order: 1, 15, 2 or 5, then 7 to 9
unfoldable pub rule_text_faults : List ℤ → Board → (text : List ℕ) → List Fault
rule_text_faults table b text =
    record { given = not (good_board table b); refusal = BadBoard }
    ∷ record { given = not (is_good (whole_text text)); refusal = BadText }
    ∷ bytes_faults b.symbols b.rows b.rules (rows_lent table) (bytes_in text)
