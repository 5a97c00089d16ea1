-- The 72-qubit code (document 02, request c).
--   code72  its sizes and terms: l and m 6, terms (3,0) (0,1) (0,2) and (0,3) (1,0) (2,0)
use Rattle.std.specs.Prelude.{ℕ}
use Rattle.bicycle_codes.specs.declared.Term.{Term}
use Rattle.bicycle_codes.specs.declared.Bicycle.{Bicycle}

abbrev term : ℕ → ℕ → Term
term a b = record { a = a; b = b }

abbrev pub code72 : Bicycle
code72 = record {
  l = 6;
  m = 6;
  first = record { p = term 3 0; q = term 0 1; r = term 0 2 };
  second = record { p = term 0 3; q = term 1 0; r = term 2 0 };
}
