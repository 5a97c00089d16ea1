-- The refusal of a candidate has the lowest number among those whose tests pass. Assumes nothing.
use native.Mathlib.Omega.{arith}
use Rattle.candidates_meaning.specs.Asking.{candidate_number, candidate_tests, CandidateNumberedLaw}
use Rattle.records.proofs.Lowest.{numbered}

pub candidate_numbered : CandidateNumberedLaw
unfolding CandidateNumberedLaw
candidate_numbered short unfinished many =
    numbered candidate_number 0 (candidate_tests short unfinished many) (omega arith, (omega arith, (omega arith, tt)))
