-- No answer looks further than the bytes go.
use Rattle.meaning.proofs.Kit.{ap, true, false, Bool, cond, List, [], ◌∷◌, ◌≤◌, ℕ, ◌<◌, ◌+◌, suc, zero, arith, eqb, length, drop, take, length-drop}
use Rattle.chains.proofs.Words.{BadText, Formula, start_of, Parsed, good, bad, after, lead, by_start, unit_of, chain_of, at_close, closed}
use Rattle.chains.proofs.Words.{bracket_at, unit_at, chain_at, read_of, extent, Blank, Denial, Number, Start, Digits, Bracket, Neither}
use Rattle.chains.proofs.Runs.{denied, lead_extent, unit_run}
use Rattle.chains.proofs.Going.{Chain, fault, last, leads, chain_read}

abbrev reach : Parsed → ℕ
reach p = extent (read_of p)

after_extent : (skipped : ℕ) (wrap : Formula → Formula) (p : Parsed) (n : ℕ) → reach p ≤ n → reach (after skipped wrap p) ≤ skipped + n
after_extent skipped wrap (good f used) n h = omega arith
after_extent skipped wrap (bad why at) n h = omega arith

pick_extent : (b : Bool) (p q : Parsed) (n : ℕ) → reach p ≤ n → reach q ≤ n → reach (cond b p q) ≤ n
pick_extent true p q n hp hq = hp
pick_extent false p q n hp hq = hq

module _ (bracket : List ℕ → Parsed) (within : (l : List ℕ) → 0 < length l → reach (bracket l) ≤ length l) where
  start_extent : (s : Start) (l : List ℕ) → 0 < length l → reach (by_start bracket s l) ≤ length l
  start_extent Digits l h = omega (arith, lead_extent Number l, lead_extent Blank (drop (lead Number l) l), length-drop (lead Number l) l)
  start_extent Bracket l h = within l h
  start_extent Neither l h = omega arith

  body_extent : (l : List ℕ) → reach (by_start bracket (start_of l) l) ≤ length l
  body_extent [] = omega arith
  body_extent (c ∷ rest) = start_extent (start_of (c ∷ rest)) (c ∷ rest) (omega arith)

  unit_extent : (text : List ℕ) → reach (unit_of bracket text) ≤ length text
  unit_extent text =
      let k = lead Denial text in
      let body = drop k text in
      let rest = after_extent k (denied (take k text)) (by_start bracket (start_of body) body) (length body) (body_extent body) in
      omega (arith, ap reach (unit_run bracket text), rest, length-drop k text, lead_extent Denial text)

module _ (unit : List ℕ → Parsed) (within : (l : List ℕ) → reach (unit l) ≤ length l) where
  read_extent : {join : ℕ} {wrap : Formula → Formula} {text : List ℕ} {ts : List (List ℕ)} {p : Parsed} → Chain unit join wrap text ts p
      → reach p ≤ length text
  read_extent (fault {text = text} e) = omega (arith, ap reach e, within text)
  read_extent (last {text = text} e g) = omega (arith, ap reach e, within text)
  read_extent (leads {used = used} {text = text} {rest = rest} {p = p} e d g m) =
      omega (arith, after_extent (used + 1) (λ g. g) p (length rest) (read_extent m), ap length d, length-drop used text)

  chain_extent : (text : List ℕ) → reach (chain_of unit text) ≤ length text
  chain_extent text = read_extent (chain_read unit (suc (length text)) 0 (λ f. f) text (omega arith))

close_extent : (f : Formula) (used : ℕ) (rest : List ℕ) → reach (at_close f used rest) ≤ used + length rest
unfolding at_close
close_extent f used [] = omega arith
close_extent f used (c ∷ rest) =
    pick_extent (eqb c 41) (good f (used + 1 + lead Blank rest)) (bad BadText used) (used + length (c ∷ rest))
    (omega (arith, lead_extent Blank rest)) (omega arith)

pub closed_within : (inner : List ℕ) (p : Parsed) → reach p ≤ length inner → reach (closed inner p) ≤ length inner
unfolding closed
closed_within inner (good f used) h = omega (arith, close_extent f used (drop used inner), length-drop used inner)
closed_within inner (bad why at) h = h

bracket_extent : (b : ℕ) (text : List ℕ) → 0 < length text → reach (bracket_at b text) ≤ length text
unfolding bracket_at
bracket_extent zero text h = omega arith
bracket_extent (suc b) text h =
    let inner = drop 1 text in
    let unit : List ℕ → Parsed = λ l. unit_of (λ k. bracket_at b k) l in
    let p = chain_of unit inner in
    let e = chain_extent unit (unit_extent (λ k. bracket_at b k) (bracket_extent b)) inner in
    omega (arith, after_extent 1 (λ f. f) (closed inner p) (length inner) (closed_within inner p e), length-drop 1 text)

pub unit_within : (b : ℕ) (text : List ℕ) → extent (read_of (unit_at b text)) ≤ length text
unit_within b text = unit_extent (λ l. bracket_at b l) (bracket_extent b) text

pub chain_within : (b : ℕ) (text : List ℕ) → extent (read_of (chain_at b text)) ≤ length text
chain_within b text = chain_extent (λ l. unit_at b l) (unit_within b) text
