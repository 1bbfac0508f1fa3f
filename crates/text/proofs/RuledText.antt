-- What adding a rule from text answers, and the table after it: by the form of the text, and by what its bytes are read as.
use Rattle.meaning.proofs.Kit.{◌≡◌, ap, refl, true, false, Bool, not, cond, ◌&&◌, List, ◌∷◌, ℕ, suc, ℤ, length, take}
use Rattle.meaning.specs.Formulae.{rule_of}
use Rattle.meaning.specs.Clauses.{rows_of}
use Rattle.chains.proofs.Words.{Refusal, Parsed, bad, is_good, formula_of, whole_text}
use Rattle.literals.specs.Row.{rows_lent, of_rule}
use Rattle.literals.specs.declared.refusal.Refusal.TheVariants.{BadBoard}
use Rattle.formula.proofs.Sizes.{enough, front_whole}
use Rattle.implicates.specs.Appending.{appended}
use Rattle.board.specs.Faults.{good_board, first_fault, if_done}
use Rattle.board.specs.Rules.{why_of, formula_faults, no_place, place_told, with_rules, rule_faults, ruled, ruled_table}
use Rattle.board.specs.declared.Board.{Board}
use Rattle.board.specs.Faults.{Outcome}
use Rattle.std.specs.Prelude.{Err}
use Rattle.board.specs.declared.rules.Addition.{Addition}
use Rattle.board.proofs.Adding.{rule_refused}
use Rattle.chains.proofs.Offences.{first_offence}
use Rattle.text.specs.Reading.{bytes_in}
use Rattle.text.specs.Adding.{ruled_text, ruled_text_table}

-- a rule is what its bytes are read as, so enough of them tell it
module _ (table : List ℤ) (b : Board) where
  abbrev outcome_of : Parsed → Outcome
  outcome_of read =
      first_fault
      (record { given = not (good_board table b); refusal = BadBoard }
      ∷ record { given = not (is_good read); refusal = why_of read }
      ∷ formula_faults b.symbols b.rows b.rules (rows_lent table) (formula_of read))

  abbrev rows_in : Parsed → List (List ℕ)
  rows_in read = rows_of (rule_of b.symbols (formula_of read))

  abbrev told : Parsed → Addition
  told read =
      let outcome = outcome_of read in
      let place = place_told outcome read in
      let added = length (rows_in read) in
      if_done outcome (record { outcome = outcome; place = place; added = added; board = with_rules b added 1 })
      (λ _. record { outcome = outcome; place = place; added = 0; board = b })

  abbrev told_table : Parsed → List ℤ
  told_table read = if_done (outcome_of read) (appended table b.rows (of_rule (suc b.rules) (rows_in read))) (λ _. table)

  module _ (bytes : List ℕ) where
    pub front_ruled : ruled table b (take enough bytes) ≡ ruled table b bytes
    unfolding ruled rule_faults
    front_ruled = ap told (front_whole b.symbols bytes)

    pub front_table : ruled_table table b (take enough bytes) ≡ ruled_table table b bytes
    unfolding ruled_table rule_faults
    front_table = ap told_table (front_whole b.symbols bytes)

passed : {A : Type 0} (g : Bool) (x y : A) → cond (g && false) x y ≡ y
passed true x y = refl
passed false x y = refl

module _ (table : List ℤ) (b : Board) (text : List ℕ) where
  -- a text of the form is its bytes
  module _ (keeps : is_good (whole_text text) ≡ true) where
    pub text_bytes : ruled_text table b text ≡ ruled table b (bytes_in text)
    unfolding ruled_text
    text_bytes = rw keeps (passed (good_board table b) _ _)

    pub text_table : ruled_text_table table b text ≡ ruled_table table b (bytes_in text)
    unfolding ruled_text_table
    text_table = rw keeps (passed (good_board table b) _ _)

  -- another is refused, for its board where that is at fault
  pub text_broken : {why : Refusal} {at : ℕ} → whole_text text ≡ bad why at → good_board table b ≡ true
      → (record { outcome = Err why; place = at; added = 0; board = b } ≡ ruled_text table b text) × (table ≡ ruled_text_table table b text)
  unfolding ruled_text ruled_text_table
  text_broken {why} {at} e g = rw (g, e, (first_offence text why at e).0) (refl, refl)

  pub board_spoilt : good_board table b ≡ false
      → (record { outcome = Err BadBoard; place = no_place; added = 0; board = b } ≡ ruled_text table b text) ×
      (table ≡ ruled_text_table table b text)
  unfolding ruled_text ruled_text_table rule_faults
  board_spoilt g =
      let all = rule_refused table b (bytes_in text) BadBoard {place = no_place} (rw g) refl in
      rw g all
