-- The lists of a decode's halves, as the tests read them.
--   half_read  what the lists of a half hold; six_read: those of both
use Rattle.machine.specs.Lists.{HalfLists}
use Rattle.records.specs.Lists.{Six}
use Rattle.decodable.specs.declared.HalfRead.{HalfRead}

abbrev pub half_read : HalfRead → HalfLists
half_read l = record { marks = l.marks.now; forms = l.forms.now; correction = l.correction.now }

abbrev pub six_read : HalfRead → HalfRead → Six
six_read x z = record { x = half_read x; z = half_read z }
