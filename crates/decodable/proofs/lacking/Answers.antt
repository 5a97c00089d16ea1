-- `decodable::lacking` meets its contract. Assumes nothing.
use Rattle.records.specs.Lists.{short_six}
use Rattle.decodable.specs.Tests.{lacking?}
use Rattle.decodable.proofs.lacking.Goals as goal

pub returns : goal.returns
unfolding lacking? short_six
returns c = cc
