-- 01's boards: what 01 says of each board "Marked P: to be proved" and of the journal's, and that the definitions say the same; and three of 02's,
-- two of Ticket 4 and one of Ticket 7.
use Rattle.meaning.proofs.Kit.{◌≡◌, refl, true, false, Bool, cond, List, [], ◌∷◌, map, ℕ, suc, ◌*◌, eqb, get_or, set}
use Rattle.meaning.specs.Tests.{tabulate, keep, from, first}
use Rattle.meaning.specs.Literals.{opp, has, conflict}
use Rattle.meaning.specs.Formulae.{Formula, neg, and, or, imp, same, value, occurs, symbols_of, rule_of}
use Rattle.meaning.specs.BySize.{of_size}
use Rattle.meaning.specs.Clauses.{hit, implicate, prime, rows_of, all_rows, satisfiable}
use Rattle.meaning.specs.Rounds.{gives, next, reached, derived, rank_by, first_giver, support_at, label, rank_of, support_of}
use Rattle.meaning.specs.Ground.{reaches_in, reaches, ground, larger_rank, blamed, blame}
use Rattle.meaning.specs.SecondWay.{rules_of, forces, first_way, second_way}
use Rattle.meaning.proofs.Names.{plus, minus, one, two, three, four, five, six}

-- ---- what is asked of a board, and what the answers are

-- the calls that change the premises, each with a literal
data Call : Type 0 where
  hold : ℕ → Call
  withdraw : ℕ → Call

-- the literals +s and −s
-- S, the rules in the order in which they were added, and the calls that made the premises
data Board : Type 0 where
  board : ℕ → List Formula → List Call → Board

data Question : Type 0 where
  -- what does this rule on symbols 1 to S append?
  rule : ℕ → Formula → Question
  -- what does settle find, by the rows, and what does demand 3's second way find?
  settled : Board → Question
  second_way_lem : Board → Question
  -- why does a derived literal that is not held stand, and which premises does it stand on?
  explained : Board → ℕ → Question
  grounded : Board → ℕ → Question
  -- which premises does the conflict stand on? Which symbol does blame take, and which would it take by 01?
  blamed_on : Board → Question
  takes : Board → Question
  took : Board → Question

data Answer : Type 0 where
  -- the rows, or the number of the refusal
  appends : List (List ℕ) → Answer
  refused : ℕ → Answer
  -- the labels of the symbols from 1 on (0 is open), where there is no conflict and where there is one
  labels : List ℕ → Answer
  conflict_with_labels : List ℕ → Answer
  -- the rank, the number of the supporting row, and its literals
  rank_row : ℕ → ℕ → List ℕ → Answer
  -- the literals marked
  marks : List ℕ → Answer
  -- the symbol, and the ranks of its two literals
  taken : ℕ → ℕ → ℕ → Answer

-- ---- the answers by the definitions

called : List Bool → List Call → List Bool
called held [] = held
called held (hold p ∷ calls) = called (set held p true) calls
called held (withdraw p ∷ calls) = called (set held p false) calls

held : Board → List Bool
held (board S fs calls) = called (tabulate (2 * S) (λ p. false)) calls

rows : Board → List (List ℕ)
rows (board S fs calls) = all_rows (rules_of S fs)

found : ℕ → List Bool → Answer
found S known = let all = tabulate S (λ i. label known (suc i)) in cond (conflict known) (conflict_with_labels all) (labels all)

marked : ℕ → List Bool → Answer
marked S set = marks (keep (has set) (from 0 (2 * S)))

-- the symbol s is taken
ranked : Board → ℕ → Answer
ranked (board S fs calls) s =
    let b = board S fs calls in
    taken s (rank_of (2 * S) (rows b) (held b) (plus s)) (rank_of (2 * S) (rows b) (held b) (minus s))

tell : Question → Answer
tell (rule S f) = cond (satisfiable (rule_of S f)) (appends (rows_of (rule_of S f))) (refused 8)
tell (settled (board S fs calls)) = found S (first_way S fs (held (board S fs calls)))
tell (second_way_lem (board S fs calls)) = found S (second_way S fs (held (board S fs calls)))
tell (explained (board S fs calls) p) =
    let b = board S fs calls in
    let r = support_of (2 * S) (rows b) (held b) p in rank_row (rank_of (2 * S) (rows b) (held b) p) r (get_or (rows b) r [])
tell (grounded (board S fs calls) p) = let b = board S fs calls in marked S (ground (2 * S) (rows b) (held b) p)
tell (blamed_on (board S fs calls)) = let b = board S fs calls in marked S (blame S (rows b) (held b))
tell (takes (board S fs calls)) = let b = board S fs calls in ranked b (blamed S (rows b) (held b))
-- 01's sentence, which Ticket 4 replaced: "the lowest s with label 3"
tell (took (board S fs calls)) =
    let b = board S fs calls in
    ranked b (suc (first (λ i. eqb (label (derived (2 * S) (rows b) (held b)) (suc i)) 3) S))

-- ---- the boards

-- the boards that more than one question is asked of
abbrev apart : Board
apart = board 2 (imp one two ∷ imp (neg one) two ∷ []) []

abbrev joined : Board
joined = board 2 (and (imp one two) (imp (neg one) two) ∷ []) []

abbrev circle : List Call → Board
circle calls = board 2 (imp one two ∷ imp two one ∷ []) calls

abbrev both : Board
both = board 3 [] (hold (plus 3) ∷ hold (minus 3) ∷ [])

-- 3 and 4 are held and say opposite things of 6; what follows from them, with 2 held, says opposite things of 1
abbrev consequence : Board
consequence =
    board 6 (imp three six ∷ imp four (neg six) ∷ imp six five ∷ imp (and five two) one ∷ imp (neg six) (neg one) ∷ [])
    (hold (plus 2) ∷ hold (plus 3) ∷ hold (plus 4) ∷ [])

abbrev equals : Board
equals = board 4 (imp four one ∷ imp four (neg one) ∷ []) (hold (plus 3) ∷ hold (minus 3) ∷ hold (plus 2) ∷ hold (minus 2) ∷ hold (plus 4) ∷ [])

-- a rule of one literal, a chain from it, and 3 denied at its end: the opposites follow, back along the chain
abbrev chain_and_back : Board
chain_and_back = board 3 (one ∷ imp one two ∷ imp two three ∷ imp two (neg three) ∷ []) []

abbrev journal : List Call → Board
journal calls = board 4 (imp one two ∷ imp (and two three) four ∷ []) calls

-- Quoted from 01. The second way is added where demand 3 speaks of it: it finds the same labels, or a conflict too.
abbrev boards : List (Question × Answer)
boards =
    -- "1 and not 1: refusal 8. 1 or not 1: no row."
    (rule 1 (and one (neg one)), refused 8)
    ∷ (rule 1 (or one (neg one)), appends [])
    -- "(1 implies 2) and (1 or 2): the row 2 alone."
    ∷ (rule 2 (and (imp one two) (or one two)), appends ((plus 2 ∷ []) ∷ []))
    -- "1 same 2: rows 1 −2; −1 2."
    ∷ (rule 2 (same one two), appends ((plus 1 ∷ minus 2 ∷ []) ∷ (minus 1 ∷ plus 2 ∷ []) ∷ []))
    -- "(1 or 2) and (not 1 or 3): rows 1 2; −1 3; 2 3."
    ∷ (rule 3 (and (or one two) (or (neg one) three)), appends ((plus 1 ∷ plus 2 ∷ []) ∷ (minus 1 ∷ plus 3 ∷ []) ∷ (plus 2 ∷ plus 3 ∷ []) ∷ []))
    -- "1 or (1 and 2): the row 1."
    ∷ (rule 2 (or one (and one two)), appends ((plus 1 ∷ []) ∷ []))
    -- "rules 1 implies 2, not 1 implies 2, nothing held: 2 is open."
    ∷ (settled apart, labels (0 ∷ 0 ∷ []))
    ∷ (second_way_lem apart, labels (0 ∷ 0 ∷ []))
    -- "both joined by "and" in one rule: 2 stands, rank 1."
    ∷ (settled joined, labels (0 ∷ 1 ∷ []))
    ∷ (second_way_lem joined, labels (0 ∷ 1 ∷ []))
    ∷ (explained joined (plus 2), rank_row 1 0 (plus 2 ∷ []))
    -- "rules 1 implies 2, 2 implies 1; hold 1, withdraw 1: both open." In between both stand.
    ∷ (settled (circle (hold (plus 1) ∷ [])), labels (1 ∷ 1 ∷ []))
    ∷ (settled (circle (hold (plus 1) ∷ withdraw (plus 1) ∷ [])), labels (0 ∷ 0 ∷ []))
    -- "hold 3 and −3: label 3, conflict, blame marks both."
    ∷ (settled both, conflict_with_labels (0 ∷ 0 ∷ 3 ∷ []))
    ∷ (blamed_on both, marks (plus 3 ∷ minus 3 ∷ []))
    -- 02, Ticket 4: "blame points at consequences of a conflict. Blame shall take, among symbols with label 3, the one whose larger rank of its
    -- two literals is smallest": 6 and not 1, so that 2 is not blamed
    ∷ (settled consequence, conflict_with_labels (3 ∷ 3 ∷ 3 ∷ 3 ∷ 3 ∷ 3 ∷ []))
    ∷ (took consequence, taken 1 3 2)
    ∷ (takes consequence, taken 6 1 1)
    ∷ (grounded consequence (plus 1), marks (plus 2 ∷ plus 3 ∷ []))
    ∷ (grounded consequence (minus 1), marks (plus 4 ∷ []))
    ∷ (blamed_on consequence, marks (plus 3 ∷ plus 4 ∷ []))
    -- "and of equals the lowest symbol": 2 and 3 are in conflict at rank 0, 1 at rank 1
    ∷ (settled equals, conflict_with_labels (3 ∷ 3 ∷ 3 ∷ 3 ∷ []))
    ∷ (took equals, taken 1 1 1)
    ∷ (takes equals, taken 2 0 0)
    ∷ (blamed_on equals, marks (plus 2 ∷ minus 2 ∷ []))
    -- 02, Ticket 7: "No rank can exceed 2S", 6 here; they go past S, to 5
    ∷ (settled chain_and_back, conflict_with_labels (3 ∷ 3 ∷ 3 ∷ []))
    ∷ (explained chain_and_back (plus 3), rank_row 3 2 (minus 2 ∷ plus 3 ∷ []))
    ∷ (explained chain_and_back (minus 1), rank_row 5 1 (minus 1 ∷ plus 2 ∷ []))
    -- the journal: "2 rule rows 0 1", "3 rule rows 1 1", "6 ask stands", "7 why rank 2 row 1: -2 -3 4", of the literal 4
    ∷ (rule 4 (imp one two), appends ((minus 1 ∷ plus 2 ∷ []) ∷ []))
    ∷ (rule 4 (imp (and two three) four), appends ((minus 2 ∷ minus 3 ∷ plus 4 ∷ []) ∷ []))
    ∷ (settled (journal (hold (plus 1) ∷ hold (plus 3) ∷ [])), labels (1 ∷ 1 ∷ 1 ∷ 1 ∷ []))
    ∷ (second_way_lem (journal (hold (plus 1) ∷ hold (plus 3) ∷ [])), labels (1 ∷ 1 ∷ 1 ∷ 1 ∷ []))
    ∷ (explained (journal (hold (plus 1) ∷ hold (plus 3) ∷ [])) (plus 4), rank_row 2 1 (minus 2 ∷ minus 3 ∷ plus 4 ∷ []))
    ∷ (grounded (journal (hold (plus 1) ∷ hold (plus 3) ∷ [])) (plus 4), marks (plus 1 ∷ plus 3 ∷ []))
    -- "8 drop ok", "9 ask open"
    ∷ (settled (journal (hold (plus 1) ∷ hold (plus 3) ∷ withdraw (plus 1) ∷ [])), labels (0 ∷ 0 ∷ 1 ∷ 0 ∷ []))
    -- "10 hold ok", and 02's "11 ask open": 3 is in conflict, 4 is open
    ∷ (settled (journal (hold (plus 1) ∷ hold (plus 3) ∷ withdraw (plus 1) ∷ hold (minus 3) ∷ [])), conflict_with_labels (0 ∷ 0 ∷ 3 ∷ 0 ∷ []))
    ∷ (second_way_lem (journal (hold (plus 1) ∷ hold (plus 3) ∷ withdraw (plus 1) ∷ hold (minus 3) ∷ [])), conflict_with_labels (3 ∷ 3 ∷ 3 ∷ 3 ∷ []))
    ∷ []

-- the definitions answer each question as 01 does, and as 02 does for blame and ranks; what blame took before is answered by 01's sentence
boards_hold : map (λ b. tell b.0) boards ≡ map (λ b. b.1) boards
unfolding tell called held rows found marked ranked opp value occurs symbols_of hit implicate prime of_size gives next reached rank_by first_giver
    support_at support_of reaches_in reaches ground larger_rank blamed blame forces
boards_hold = refl
