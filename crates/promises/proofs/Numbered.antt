-- 02, Ticket 8: "Which rule is this row from?" After any calls since an open the rows that carry a number are those of its rule, in order of
-- acceptance, so explain's number names the rule that a mark stands on; and rule numbers change nothing else that is told.
use Rattle.meaning.proofs.Kit.{◌≡◌, ⊎_elim, ◌∙◌, sym, ap, refl, subst, ap₂, true, List, [], ◌∷◌, In, ◌≤◌, ℕ, ◌<◌, ◌-◌, ◌+◌, suc, arith, ℤ, length, get_or}
use Rattle.meaning.proofs.Kit.{length-map, list_get_or_map}
use Rattle.meaning.specs.Tests.{all}
use Rattle.meaning.specs.Formulae.{Formula, symbol, Rule, rule_of}
use Rattle.meaning.specs.Clauses.{rows_of}
use Rattle.meaning.specs.SecondWay.{rules_of}
use Rattle.meaning.proofs.Tests.{in_at}
use Rattle.meaning.proofs.Tables.{tabulate_same}
use Rattle.literals.specs.Literal.{in_range, place_of}
use Rattle.literals.specs.Row.{numbers_at, rule_at, decode, rows_in, Ruled}
use Rattle.literals.proofs.Decoding.{rows_at}
use Rattle.literals.proofs.RuledRows.{length_ruled, ruled_at_lem, of_rules_in, with_number_lem, OfRule}
use Rattle.board.specs.Faults.{good_board, first_fault}
use Rattle.board.specs.Ranking.{rows_on}
use Rattle.board.specs.Settling.{settle_faults, settle_outcome, settled_labels, settled_ranks, settled_supports}
use Rattle.board.specs.Asking.{ask_faults, asked, asked_whole, explain_faults, explain_numbers, explain_part}
use Rattle.board.specs.Grounds.{ground_faults, ground_outcome, ground_marks, blame_faults, blame_outcome, blame_marks}
use Rattle.std.specs.Prelude.{Ok}
use Rattle.board.proofs.Goodness.{good_is}
use Rattle.board.proofs.Explaining.{row_used}
use Rattle.least.specs.Withdrawing.{least_at, least_faults, least_answer}
use Rattle.smallest.specs.Listing.{smallest_at, smallest_faults, smallest_outcome, smallest_answer, smallest_sets}
use Rattle.dimacs.specs.Writing.{literals_of, clause_at, clauses_at, text_of, text_on, write_faults, write_outcome, write_answer, write_bytes}
use Rattle.promises.specs.Calls.{World, front, answer}
use Rattle.promises.specs.Demands.{rows_of_world, accepted_since, ruled_rows, support_in, since, Numbers, RuleNumbers, ExplainNames, SameLiterals, SameTold}
use Rattle.promises.specs.Demands.{NumbersApart}
use Rattle.promises.proofs.Refusals.{done_or_refused}
use Rattle.promises.proofs.Lent.{numbers_lent}
use Rattle.promises.proofs.History.{Keeps, keeps}
use Rattle.promises.proofs.Explained.{explain_tells, used}

-- ---- the rows of each rule

abbrev nothing : Ruled
nothing = record { rule = 0; row = [] }

module _ {w : World} {fs : List Formula} (k : Keeps w fs) where
  abbrev S : ℕ
  S = w.board.symbols

  abbrev rules : List Rule
  rules = rules_of S fs

  abbrev no_rule : Rule
  no_rule = rule_of S (symbol 0)

  rule_at_lem : (i : ℕ) → get_or rules i no_rule ≡ rule_of S (get_or fs i (symbol 0))
  rule_at_lem i = list_get_or_map (rule_of S) fs i (symbol 0)

  as_many : length rules ≡ length fs
  as_many = length-map fs (rule_of S)

  -- the row at r is one of the rule that its number names
  named : (r : ℕ) → r < w.board.rows → OfRule 1 rules no_rule (record { rule = rule_at w.table r; row = decode (numbers_at w.table r) })
  named r h =
      of_rules_in 1 rules no_rule
      (rw (← k.ruled, ← ruled_at_lem w.board.rows w.table nothing r h)
      (in_at (ruled_rows w) r nothing (omega (arith, h, length_ruled w.board.rows w.table))))

  range : (r : ℕ) → r < w.board.rows → (1 ≤ rule_at w.table r) × (rule_at w.table r ≤ length fs)
  range r h = let n = named r h in (omega (arith, n.number), omega (arith, n.number, n.inside, as_many))

  numbers_are : Numbers w fs
  numbers_are =
      record {
        count = k.count;
        ruled = k.ruled;
        rows =
            λ i h. let next : suc i ≡ 1 + i = omega arith in
            rw (k.ruled, next) (with_number_lem 1 rules no_rule i (omega (arith, as_many)) ∙ ap rows_of (rule_at_lem i));
        range = range;
      }

  -- so it is one of the rows of that rule
  row_named : (r : ℕ) → r < w.board.rows → In (get_or (rows_of_world w) r []) (rows_of (rule_of S (get_or fs (rule_at w.table r - 1) (symbol 0))))
  row_named r h =
      let n = named r h in
      let at : rule_at w.table r - 1 ≡ n.at = omega (arith, n.number) in
      let rule = rule_at_lem n.at ∙ ap (λ (i : ℕ). rule_of S (get_or fs i (symbol 0))) (sym at) in
      rw (rows_at w.board.rows w.table r h)
      (subst (λ (rule' : Rule). In (decode (numbers_at w.table r)) (rows_of rule')) rule n.its_row)

pub rule_numbers : RuleNumbers
rule_numbers w₀ S calls = numbers_are (keeps w₀ S calls)

pub explain_names : ExplainNames
explain_names w₀ S calls lent furnace l e =
    let w = since w₀ S calls in
    let k = keeps w₀ S calls in
    let row = support_in w furnace (place_of l) in
    let inside = (used w lent furnace l e).0 in
    let is = (explain_tells w lent furnace l e).rule in
    let within = range k row inside in
    let in_rule = λ (n : ℕ). In (get_or (rows_of_world w) row []) (rows_of (rule_of w.board.symbols (get_or (accepted_since w₀ S calls) (n - 1) (symbol 0)))) in
    (is, rw is within.0, rw is within.1, subst in_rule (sym is) (row_named k row inside))

-- ---- and nothing else is told by them

module _ (v w : World) (lent furnace : ℕ) (s : SameLiterals v w) (good-v : good_board (front v lent) v.board ≡ true)
    (good-w : good_board (front w lent) w.board ≡ true) where
  -- both read the same literals,
  same_numbers : (r : ℕ) → r < w.board.rows → numbers_at (front v lent) r ≡ numbers_at (front w lent) r
  same_numbers r h =
      let within : r < v.board.rows = omega (arith, h, s.rows) in
      numbers_lent lent v.board.rows v.table (good_is (front v lent) v.board good-v).sound.room r within
      ∙ s.literals r within
      ∙ sym (numbers_lent lent w.board.rows w.table (good_is (front w lent) w.board good-w).sound.room r h)

  -- so the same rows, and write the same text
  same_rows : rows_on (front v lent) v.board ≡ rows_on (front w lent) w.board
  unfolding rows_in
  same_rows = tabulate_same [] v.board.rows w.board.rows _ _ s.rows (λ r h. ap decode (same_numbers r h))

  same_text : text_on (front v lent) v.board ≡ text_on (front w lent) w.board
  unfolding text_on clauses_at
  same_text =
      ap₂ text_of s.symbols
      (tabulate_same [] v.board.rows w.board.rows (clause_at (front v lent)) (clause_at (front w lent)) s.rows
      (λ r h. ap literals_of (same_numbers r h)))

  same_faults : (l : ℤ) → first_fault (explain_faults (front v lent) v.board furnace l)
      ≡ first_fault (explain_faults (front w lent) w.board furnace l)
  unfolding explain_faults
  same_faults l = rw (good-v, good-w, s.premises furnace, same_rows, s.symbols)

  abbrev SameReason : ℤ → Type 0
  SameReason l =
      let a = explain_numbers (front v lent) v.board furnace l in
      let b = explain_numbers (front w lent) w.board furnace l in
      (a.outcome ≡ b.outcome) × (a.rank ≡ b.rank) × (a.row ≡ b.row)
      × (explain_part (front v lent) v.board furnace l ≡ explain_part (front w lent) w.board furnace l)

  same_reason : (l : ℤ) → SameReason l
  unfolding explain_numbers explain_part
  same_reason l =
      ⊎_elim
      (λ (e : first_fault (explain_faults (front w lent) w.board furnace l) ≡ Ok tt).
      (let row = (row_used (front w lent) w.board furnace l (rw e)).0 in
      rw (same_faults l, e, s.premises furnace, same_rows, s.symbols) (refl, refl, refl, rw (same_numbers _ (rw e at row)))))
      (λ r. rw (same_faults l) (rw r.1 (refl, refl, refl, refl)))
      (done_or_refused (first_fault (explain_faults (front w lent) w.board furnace l)))

  same_range : (ls : List ℤ) → all (in_range v.board.symbols) ls ≡ all (in_range w.board.symbols) ls
  same_range ls = ap (λ (S : ℕ). all (in_range S) ls) s.symbols

  told : SameTold v w lent furnace
  unfolding answer settle_outcome settled_labels settled_ranks settled_supports settle_faults asked asked_whole ask_faults ground_outcome ground_marks
      ground_faults blame_outcome blame_marks blame_faults smallest_answer smallest_sets smallest_outcome smallest_faults smallest_at least_answer least_faults
      least_at write_answer write_bytes write_outcome write_faults
  told =
      record {
        settle = λ labels ranks supports. rw (good-v, good-w, s.premises furnace, same_rows, s.symbols);
        ask = λ l. rw (good-v, good-w, s.premises furnace, same_rows, s.symbols);
        ask_whole = λ l. rw (good-v, good-w, s.premises furnace, same_rows, s.symbols);
        ground = λ l marks. rw (good-v, good-w, s.premises furnace, same_rows, s.symbols);
        blame = λ marks. rw (good-v, good-w, s.premises furnace, same_rows, s.symbols);
        smallest = λ cands l sets. rw (good-v, good-w, same_rows, same_range (l ∷ cands), s.symbols);
        least = λ cands. rw (good-v, good-w, s.premises furnace, same_rows, same_range cands, s.symbols);
        explain = same_reason;
        write = λ out. rw (good-v, good-w, same_text);
      }

pub numbers_apart : NumbersApart
numbers_apart v w lent furnace s good-v good-w = told v w lent furnace s good-v good-w
