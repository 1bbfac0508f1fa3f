-- `put_word` meets its contract: what is copied into a part of the buffer is put there.
use Rattle.meaning.proofs.Kit.{arith}
use Rattle.spelling.proofs.Pieces.{put_whole}
use Rattle.spelling.proofs.put_word.Goals as goal

pub returns : goal.returns
returns c = put_whole c.args.out.now c.args.word.now c.args.at _ _ c.requires (omega arith) c.copy_from_slice.ensures.after
