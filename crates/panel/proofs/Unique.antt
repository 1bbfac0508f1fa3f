-- Each public function's contract leaves one answer.
use Rattle.meaning.proofs.Kit.{refl}
use Rattle.meaning.proofs.Answers.{One, ◌&◌}
use Rattle.panel.specs.contracts as contract'
use Rattle.panel.proofs as panel

one_rule : One contract'.tup_rule.ended panel.tup_rule.Reads.Post
one_rule κs a x y = (cc, refl & (cc) & refl)

one_hold : One contract'.tup_hold.ended panel.tup_hold.Reads.Post
one_hold κs a x y = (cc, refl)

one_settle : One contract'.tup_settle.ended panel.tup_settle.Reads.Post
one_settle κs a x y = (cc, refl & refl & refl & (cc) & (cc) & (cc) & refl)

one_ask : One contract'.tup_ask.ended panel.tup_ask.Reads.Post
one_ask κs a x y = (cc, refl)

one_ask_whole : One contract'.tup_ask_whole.ended panel.tup_ask_whole.Reads.Post
one_ask_whole κs a x y = (cc, refl)

one_explain : One contract'.tup_explain.ended panel.tup_explain.Reads.Post
one_explain κs a x y = (cc, refl)

one_ground : One contract'.tup_ground.ended panel.tup_ground.Reads.Post
one_ground κs a x y = (cc, refl & refl & refl & refl & (cc) & refl)

one_blame : One contract'.tup_blame.ended panel.tup_blame.Reads.Post
one_blame κs a x y = (cc, refl & refl & refl & (cc) & refl)

one_read_dimacs : One contract'.tup_read_dimacs.ended panel.tup_read_dimacs.Reads.Post
one_read_dimacs κs a x y = (cc, refl & (cc) & refl)

one_write_dimacs : One contract'.tup_write_dimacs.ended panel.tup_write_dimacs.Reads.Post
one_write_dimacs κs a x y = (cc, refl & refl & (cc) & refl)

one_read_text : One contract'.tup_read_text.ended panel.tup_read_text.Reads.Post
one_read_text κs a x y = (cc, refl & refl & refl & (cc) & refl)

one_rule_text : One contract'.tup_rule_text.ended panel.tup_rule_text.Reads.Post
one_rule_text κs a x y = (cc, refl & (cc) & refl)

one_write_text : One contract'.tup_write_text.ended panel.tup_write_text.Reads.Post
one_write_text κs a x y = (cc, refl & refl & refl & (cc) & refl)

one_smallest : One contract'.tup_smallest.ended panel.tup_smallest.Reads.Post
one_smallest κs a x y = (cc, refl & refl & refl & refl & (cc) & refl)

one_least : One contract'.tup_least.ended panel.tup_least.Reads.Post
one_least κs a x y = (cc, refl & refl & refl & refl)

one_add_positions : One contract'.tup_add_positions.ended panel.tup_add_positions.Reads.Post
one_add_positions κs a x y = (cc, refl & (cc) & refl & refl)

one_add_pairs : One contract'.tup_add_pairs.ended panel.tup_add_pairs.Reads.Post
one_add_pairs κs a x y = (cc, refl & (cc) & refl & refl & refl & refl & refl)

one_open : One contract'.tup_open.ended panel.tup_open.Reads.Post
one_open κs a x y = (cc, refl & (cc) & refl)

one_withdraw : One contract'.tup_withdraw.ended panel.tup_withdraw.Reads.Post
one_withdraw κs a x y = (cc, refl & refl & (cc) & refl)

one_push : One contract'.tup_push.ended panel.tup_push.Reads.Post
one_push κs a x y = (cc, refl & refl & (cc) & refl)

one_pop : One contract'.tup_pop.ended panel.tup_pop.Reads.Post
one_pop κs a x y = (cc, refl & refl & (cc) & refl)
