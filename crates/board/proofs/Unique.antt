-- Each public function's contract leaves one answer.
use Rattle.meaning.proofs.Kit.{◌≡◌, refl}
use contract.Lifetimes.{Lfts}
use denote.Slice.{shr_slice_vals}
use denote.Triple.Entry.{Args}
use Rattle.meaning.proofs.Answers.{Answer, One, ◌&◌}
use Rattle.board.specs.contracts as contract'
use Rattle.board.proofs as board

one_ask : One contract'.asking.ask.ended board.asking.ask.Reads.Post
one_ask κs a x y = (cc, refl)

one_ask_whole : One contract'.asking.ask_whole.ended board.asking.ask_whole.Reads.Post
one_ask_whole κs a x y = (cc, refl)

one_explain_numbers : One contract'.asking.explain_numbers.ended board.asking.explain_numbers.Reads.Post
one_explain_numbers κs a x y = (cc, refl)

-- the part that explain shows: the same numbers, at the same address and of the same count
one_explain : (κs : Lfts 1) (a : Args contract'.asking.explain.signature κs)
    (x y : Answer contract'.asking.explain.ended board.asking.explain.Reads.Post κs a)
    → (x.result.now ≡ y.result.now) × (shr_slice_vals x.result ≡ shr_slice_vals y.result)
one_explain κs a x y = (cc, cc)

one_open : One contract'.changes.open.ended board.changes.open.Reads.Post
one_open κs a x y = (cc, refl)

one_hold : One contract'.changes.hold.ended board.changes.hold.Reads.Post
one_hold κs a x y = (cc, refl)

one_withdraw : One contract'.changes.withdraw.ended board.changes.withdraw.Reads.Post
one_withdraw κs a x y = (cc, refl)

one_with_flag : One contract'.changes.with_flag.ended board.changes.with_flag.Reads.Post
one_with_flag κs a x y = (cc, refl)

one_ground : One contract'.grounds.ground.ended board.grounds.ground.Reads.Post
one_ground κs a x y = (cc, refl & refl & refl & refl & (cc) & refl)

one_blame : One contract'.grounds.blame.ended board.grounds.blame.Reads.Post
one_blame κs a x y = (cc, refl & refl & refl & (cc) & refl)

one_refused : One contract'.rules.refused.ended board.rules.refused.Reads.Post
one_refused κs a x y = (cc, refl)

one_add_rule : One contract'.rules.add_rule.ended board.rules.add_rule.Reads.Post
one_add_rule κs a x y = (cc, refl & (cc) & refl)

one_settle : One contract'.settling.settle.ended board.settling.settle.Reads.Post
one_settle κs a x y = (cc, refl & refl & refl & (cc) & (cc) & (cc) & refl)

one_good : One contract'.testing.good.ended board.testing.good.Reads.Post
one_good κs a x y = (cc, refl)

one_is_furnace : One contract'.testing.is_furnace.ended board.testing.is_furnace.Reads.Post
one_is_furnace κs a x y = (cc, refl)

one_place_on : One contract'.testing.place_on.ended board.testing.place_on.Reads.Post
one_place_on κs a x y = (cc, refl)
