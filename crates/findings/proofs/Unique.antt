-- Each public function's contract leaves one answer.
use Rattle.meaning.proofs.Kit.{refl}
use Rattle.meaning.proofs.Answers.{One, ◌&◌}
use Rattle.findings.specs.contracts as contract'
use Rattle.findings.proofs as findings

one_write_labels : One contract'.labels.write_labels.ended findings.labels.write_labels.Reads.Post
one_write_labels κs a x y = (refl, refl & (cc) & refl)

one_first_clash : One contract'.labels.first_clash.ended findings.labels.first_clash.Reads.Post
one_first_clash κs a x y = (cc, refl)

one_earliest_clash : One contract'.labels.earliest_clash.ended findings.labels.earliest_clash.Reads.Post
one_earliest_clash κs a x y = (cc, refl)

one_support : One contract'.supports.support.ended findings.supports.support.Reads.Post
one_support κs a x y = (cc, refl)

one_clear : One contract'.supports.clear.ended findings.supports.clear.Reads.Post
one_clear κs a x y = (refl, (cc) & refl)

one_write_supports : One contract'.supports.write_supports.ended findings.supports.write_supports.Reads.Post
one_write_supports κs a x y = (refl, refl & refl & refl & refl & refl & refl & refl & refl & (cc) & refl)

one_reach_asked : One contract'.reach.reach_asked.ended findings.reach.reach_asked.Reads.Post
one_reach_asked κs a x y = (refl, refl & refl & refl & refl & refl & refl & refl & (cc) & refl)
