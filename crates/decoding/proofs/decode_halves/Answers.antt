-- `decoding::decode_halves` meets its contract, from what the decode of a half promises. Assumes nothing.
use Rattle.decoding.proofs.Halves.{both_decoded}
use Rattle.decoding.proofs.decode_halves.Goals as goal

pub returns-clause-reports : goal.returns-clause-reports
returns-clause-reports c =
    both_decoded _ _ _ _ _ c.readings.ensures _ _ _ _ _ _ _ _ _ _ _ c.decode_half-of_x.ensures.decodes c.decode_half-of_z.ensures.decodes
    c.report_in.ensures c.report_in-2.ensures
