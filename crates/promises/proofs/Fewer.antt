-- Calls that open no board and bring a furnace no rule and no premise leave the rest as it is, and the furnace none but premises that it held.
use Rattle.meaning.proofs.Kit.{◌≡◌, ◌∙◌, sym, refl, true, false, Bool, cond, ◌&&◌, List, [], ◌∷◌, ℕ, eqb, set}
use Rattle.meaning.specs.Literals.{Within}
use Rattle.meaning.proofs.Tests.{clash}
use Rattle.meaning.proofs.Unmoved.{set_fewer}
use Rattle.literals.specs.Literal.{place_of}
use Rattle.board.specs.Furnaces.{with_held}
use Rattle.board.specs.Faults.{premises_fit}
use Rattle.board.proofs.Goodness.{flag_fits}
use Rattle.stack.specs.Stacking.{stack_of}
use Rattle.promises.specs.Calls.{Call, World, after, run, Each, not_open}
use Rattle.promises.specs.Demands.{premises_of, Spares, BringsNothing}
use Rattle.promises.proofs.Changes.{flag_at}
use Rattle.promises.proofs.Moves.{Moves, opening, unmoved, one_flag, more_rules, moves}

-- v is w but for premises, and of this furnace's it has none that w has not
pub record Fewer (furnace : ℕ) (w v : World) : Type 0 where
  pub table : v.table ≡ w.table
  pub symbols : v.board.symbols ≡ w.board.symbols
  pub rows : v.board.rows ≡ w.board.rows
  pub rules : v.board.rules ≡ w.board.rules
  -- refusal 1 reads the premises of both furnaces
  pub fit : premises_fit v.board ≡ premises_fit w.board
  pub premises : Within (premises_of v furnace) (premises_of w furnace)

-- none more is held where the furnace's own flag is cleared, or the other's is changed
none_more : (held : List Bool) (p : ℕ) (flag own : Bool) → flag && own ≡ false → Within (cond own (set held p flag) held) held
none_more held p true true e = clash refl e
none_more held p false true e = set_fewer held p
none_more held p flag false e = λ q h. h

module _ (furnace : ℕ) (w : World) where
  step : (v : World) → Fewer furnace w v → {c : Call} → Moves v c → not_open c ≡ true → BringsNothing furnace v c → Fewer furnace w (after v c)
  unfolding with_held
  step v f (opening S) n nothing = clash n refl
  step v f (unmoved same rules) n nothing = rw same f
  step v f (one_flag {furnace = named} {literal = literal} {flag = flag} d x) n nothing =
      let y = x.done v d in
      let l = literal (stack_of v.stacks named) in
      let less = none_more (premises_of v furnace) (place_of l) flag (eqb named furnace) (sym (x.bringing furnace) ∙ nothing d) in
      rw y.next_is
      (record {
        table = f.table;
        symbols = f.symbols;
        rows = f.rows;
        rules = f.rules;
        fit = flag_fits v.board named l flag y.low ∙ f.fit;
        premises = λ p h. f.premises p (less p (rw (flag_at named furnace y.named v.board l flag) at h));
      })
  step v f (more_rules d x) n nothing = clash (x.bringing furnace) (nothing d)

  steps : (premises : ℕ → Type 0) (v : World) (calls : List Call) → Fewer furnace w v → Each (Spares furnace premises) v calls
      → Each (BringsNothing furnace) v calls → Fewer furnace w (run v calls)
  steps premises v [] f sparing bringing = f
  steps premises v (c ∷ calls) f sparing bringing =
      steps premises (after v c) calls (step v f (moves v c) sparing.0.0 bringing.0) sparing.1 bringing.1

  pub fewer : (premises : ℕ → Type 0) (calls : List Call) → Each (Spares furnace premises) w calls → Each (BringsNothing furnace) w calls
      → Fewer furnace w (run w calls)
  fewer premises calls sparing bringing =
      steps premises w calls (record { table = refl; symbols = refl; rows = refl; rules = refl; fit = refl; premises = λ p h. h }) sparing bringing
