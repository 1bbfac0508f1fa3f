-- Lines that leave the desk as it is.
use Rattle.meaning.proofs.Kit.{refl, ℕ}
use Rattle.orders.specs.Lines.{asking, slipping, resting}
use Rattle.orders.specs.States.{State, did, tells, simply, Does}
use Rattle.orders.specs.declared.Slip.{Slip}
use Rattle.orders.specs.declared.Reply.TheVariants.{Not, Asks, Nothing}

module _ (s : State) where
  pub slip_does : (slip : Slip) (k : ℕ) → Does s s (slipping slip k) (record { reply = Not slip; place = k; added = 0 })
  unfolding did tells
  slip_does slip k = record { moved = refl; says = refl }

  pub ask_does : Does s s asking (simply Asks)
  unfolding did tells
  ask_does = record { moved = refl; says = refl }

  pub rest_does : Does s s resting (simply Nothing)
  unfolding did tells
  rest_does = record { moved = refl; says = refl }
