-- Each public function's contract leaves one answer.
use Rattle.meaning.proofs.Kit.{◌≡◌, refl}
use Rattle.meaning.proofs.Answers.{One, ◌&◌}
use Rattle.lines.specs.contracts as contract'
use Rattle.lines.proofs as lines

one_step : One contract'.saying.step.ended lines.saying.step.Reads.Post
one_step κs a x y =
    let board : x.result.board ≡ y.result.board = cc in
    let used : x.result.used ≡ y.result.used = cc in
    let written : x.result.written ≡ y.result.written = cc in
    let stops : x.result.stops ≡ y.result.stops = cc in
    (λ i. record { board = board i; used = used i; written = written i; stops = stops i }, refl & (cc) & refl & refl & (cc) & refl)
