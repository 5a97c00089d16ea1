-- `taking::answering::put_lines` meets its contract. Assumes nothing.
use Rattle.taking.proofs.Answers.{put_all}
use Rattle.taking.proofs.answering.put_lines.Goals as goal

pub returns : goal.returns
returns c =
    put_all _ _ _ _ _ _ _ _ _ c.requires.0 c.requires.1 c.requires.2 c.put_answer.ensures c.unwrap_or.ensures
