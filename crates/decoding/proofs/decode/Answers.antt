-- `decoding::decode` meets its contract: it is refused, or both halves are decoded. Assumes nothing.
use Rattle.decoding.proofs.Decoding.{passed, decode_refused, shot_long, decode_done}
use Rattle.decoding.proofs.decode.Goals as goal

pub returns-in-Err-clause-promised : goal.returns-in-Err-clause-promised
returns-in-Err-clause-promised c =
    decode_refused _ _ _ _ _ _ _ c.lacks-short.ensures c.tested.ensures c.in-Err.is

pub decode_halves-decoded-requires : goal.decode_halves-decoded-requires
decode_halves-decoded-requires c = shot_long _ _ _ _ _ _ _ _ (passed _ _ _ _ c.lacks-short.ensures c.tested.ensures c.in_default.is) c.begin.ensures

pub returns-clause-promised : goal.returns-clause-promised
returns-clause-promised c =
    decode_done _ _ _ _ _ _ _ _ _ _ (passed _ _ _ _ c.lacks-short.ensures c.tested.ensures c.in_default.is) c.begin.ensures _ _ _ _
    c.decode_halves-decoded.ensures.reports _ c.report_of.ensures
