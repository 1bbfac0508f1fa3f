-- Premises that no call withdraws stay held, and the rows stay, whatever else is called but an open.
use Rattle.meaning.proofs.Kit.{◌≡◌, ◌∙◌, sym, refl, true, false, Bool, cond, ◌&&◌, not, List, [], ◌∷◌, In, in_append_left, ℕ, eqb, ℤ, set}
use Rattle.meaning.proofs.Kit.{get_or-set_other, eqb-false}
use Rattle.meaning.specs.Literals.{has, Within}
use Rattle.meaning.proofs.Tests.{clash}
use Rattle.literals.specs.Literal.{place_of}
use Rattle.board.specs.Furnaces.{with_held}
use Rattle.std.specs.Prelude.{Ok}
use Rattle.stack.proofs.Own.{set_true}
use Rattle.stack.specs.Stacking.{stack_of}
use Rattle.promises.specs.Calls.{Call, World, outcome, after, run, Each, not_open, takes}
use Rattle.promises.specs.Demands.{rows_of_world, premises_of, Spares}
use Rattle.promises.proofs.Changes.{flag_at}
use Rattle.promises.proofs.Moves.{Moves, opening, unmoved, one_flag, more_rules, moves}
use Rattle.promises.proofs.Stored.{rows_grown, appends}

-- v has the rows of w, and maybe others, and for the furnace these premises, and maybe others
pub record Kept (w : World) (furnace : ℕ) (marked : List Bool) (v : World) : Type 0 where
  pub symbols : v.board.symbols ≡ w.board.symbols
  pub rows : (row : List ℕ) → In row (rows_of_world w) → In row (rows_of_world v)
  pub premises : Within marked (premises_of v furnace)

module _ (w : World) (furnace : ℕ) (marked : List Bool) (premises : ℕ → Type 0) (spare : (p : ℕ) → has marked p ≡ true → premises p) where
  abbrev Stays : World → Type 0
  Stays v = Kept w furnace marked v

  module _ (v : World) (k : Kept w furnace marked v) where
    -- where a premise is held, or one withdrawn that is none of these, or it is done for the other furnace
    still_held : (l : ℤ) (flag own : Bool) → ((h : ℕ) → premises h → not flag && (own && eqb (place_of l) h) ≡ false)
        → Within marked (cond own (set (premises_of v furnace) (place_of l) flag) (premises_of v furnace))
    still_held l flag false out p h = k.premises p h
    still_held l true true out p h = set_true (premises_of v furnace) (place_of l) p (k.premises p h)
    still_held l false true out p h =
        get_or-set_other (premises_of v furnace) (place_of l) p false false (λ s. eqb-false (place_of l) p (out p (spare p h)) (sym s)) ∙ k.premises p h

    step : {c : Call} → Moves v c → not_open c ≡ true → ((h : ℕ) → premises h → outcome v c ≡ Ok tt → takes v furnace h c ≡ false) → Stays (after v c)
    unfolding with_held
    step (opening S) n out = clash n refl
    step (unmoved same rules) n out = rw same k
    step (one_flag {furnace = named} {literal = literal} {flag = flag} d x) n out =
        let y = x.done v d in
        let l = literal (stack_of v.stacks named) in
        let still = still_held l flag (eqb named furnace) (λ h m. sym (x.taking v furnace h) ∙ out h m d) in
        rw y.next_is
        (record { symbols = k.symbols; rows = k.rows; premises = λ p h. rw (flag_at named furnace y.named v.board l flag) (still p h) })
    step (more_rules d x) n out =
        let a = appends (x.done v d) in
        record {
          symbols = a.symbols ∙ k.symbols;
          rows = λ row m. rw (rows_grown a) (in_append_left _ (k.rows row m));
          premises = λ p h. rw (a.premises furnace) (k.premises p h);
        }

  steps : (v : World) (calls : List Call) → Kept w furnace marked v → Each (Spares furnace premises) v calls → Stays (run v calls)
  steps v [] k sparing = k
  steps v (c ∷ calls) k sparing = steps (after v c) calls (step v k (moves v c) sparing.0.0 sparing.0.1) sparing.1

  pub spared : Within marked (premises_of w furnace) → (calls : List Call) → Each (Spares furnace premises) w calls
      → Kept w furnace marked (run w calls)
  spared held calls sparing = steps w calls (record { symbols = refl; rows = λ row m. m; premises = held }) sparing
