-- The bench shots P1 to P12 (document 01, "Bench shots"): one listed check on the meanings, of the X half; a second one, of shots with unread
-- rows (document 02, request a); and a third, of the guess rule (request g).
--   Bench           a row of the check: code, shot and limits, and what comes out: word, the four counts and the flips
--   BenchLaw        each row of P1 to P12 comes out as listed
--   UnreadBenchLaw  each row of the second check does
--   GuessBenchLaw   each row of the third does: rows and open qubits, and the qubit that is named
use Rattle.std.specs.Prelude.{◌≡◌, List, [], ◌∷◌, ◌++◌, map, ℕ, zero, suc}
use Rattle.std.proofs.Math.Option.{Option, some}
use Rattle.binary.specs.Meaning.{Qubits, Row, has}
use Rattle.machine.specs.declared.Word.{Word}
use Rattle.machine.specs.declared.Word.TheVariants.{Certain, Unsure, None, Spent, Stopped}
use Rattle.machine.specs.declared.HalfReport.{HalfReport}
use Rattle.machine.specs.Machine.{Half, keep_if, rule_of}
use Rattle.machine.specs.Report.{outcome}

pub record Bench : Type 0 where
  pub half : Half
  pub budget : ℕ
  pub limit : ℕ
  pub report : HalfReport
  pub flips : List ℕ

-- The qubits below n that lie in a set, ascending.
abbrev pub members : ℕ → Qubits → List ℕ
members zero s = []
members (suc n) s = members n s ++ keep_if (s n) n []

abbrev pub comes : Bench → HalfReport × List ℕ
comes b = let s = outcome b.half b.budget b.limit in (s.report, members b.half.size s.flip)

abbrev pub listed : Bench → HalfReport × List ℕ
listed b = (b.report, b.flips)

abbrev said : Word → ℕ → ℕ → ℕ → ℕ → HalfReport
said word fixed turns guesses live = record { word = word; fixed = fixed; turns = turns; guesses = guesses; live = live }

-- The X half: its errors are found from the Z rows.
abbrev x_half : ℕ → List Row → List Row → List ℕ → List ℕ → List ℕ → Half
x_half n xs zs lost lit unread = record { size = n; rows = zs; others = xs; lost = has lost; lit = has lit; unread = has unread }

abbrev four : List Row
four = (0 ∷ 1 ∷ 2 ∷ 3 ∷ []) ∷ []

abbrev seven : List Row
seven = (0 ∷ 2 ∷ 4 ∷ 6 ∷ []) ∷ (1 ∷ 2 ∷ 5 ∷ 6 ∷ []) ∷ (3 ∷ 4 ∷ 5 ∷ 6 ∷ []) ∷ []

abbrev on_four : List ℕ → List ℕ → ℕ → ℕ → HalfReport → List ℕ → Bench
on_four lost lit budget limit report flips =
    record { half = x_half 4 four four lost lit []; budget = budget; limit = limit; report = report; flips = flips }

abbrev on_seven : List ℕ → List ℕ → HalfReport → List ℕ → Bench
on_seven lost lit report flips =
    record { half = x_half 7 seven seven lost lit []; budget = 1; limit = 100; report = report; flips = flips }

-- n = 2, Z rows 0 1 and 0 1, no X row, 0 lost, row 0 lit.
abbrev on_twice : List ℕ → HalfReport → List ℕ → Bench
on_twice unread report flips =
    record {
      half = x_half 2 [] ((0 ∷ 1 ∷ []) ∷ (0 ∷ 1 ∷ []) ∷ []) (0 ∷ []) (0 ∷ []) unread;
      budget = 1;
      limit = 100;
      report = report;
      flips = flips;
    }

unfoldable pub bench : List Bench
bench =
    on_four [] [] 0 100 (said Certain 0 0 0 0) []
    ∷ on_four [] (0 ∷ []) 0 100 (said None 0 0 0 0) []
    ∷ on_four (2 ∷ []) (0 ∷ []) 0 100 (said Certain 0 1 0 0) (2 ∷ [])
    ∷ on_four (0 ∷ 1 ∷ []) (0 ∷ []) 1 100 (said Unsure 0 2 1 1) (1 ∷ [])
    ∷ on_four (0 ∷ 1 ∷ []) (0 ∷ []) 0 100 (said Spent 0 0 0 0) []
    ∷ on_four (0 ∷ 1 ∷ []) (0 ∷ []) 1 1 (said Stopped 0 1 1 1) []
    ∷ on_four (0 ∷ 1 ∷ 2 ∷ 3 ∷ []) (0 ∷ []) 2 100 (said Unsure 1 3 2 2) (3 ∷ [])
    ∷ on_four (0 ∷ 1 ∷ 2 ∷ 3 ∷ []) (0 ∷ []) 1 100 (said Spent 1 1 1 1) []
    ∷ on_seven (0 ∷ 1 ∷ 2 ∷ []) (0 ∷ []) (said Unsure 0 3 1 1) (0 ∷ [])
    ∷ on_seven (0 ∷ 2 ∷ 4 ∷ 6 ∷ []) (0 ∷ 1 ∷ 2 ∷ []) (said Certain 1 3 1 0) (6 ∷ [])
    ∷ on_seven (0 ∷ 2 ∷ 4 ∷ 6 ∷ []) (0 ∷ []) (said Certain 1 3 1 0) (2 ∷ 4 ∷ 6 ∷ [])
    ∷ on_twice [] (said None 0 1 0 0) []
    ∷ []

unfoldable pub BenchLaw : Type 0
BenchLaw = map comes bench ≡ map listed bench

----------------------------------------------------------------------
-- Unread rows

abbrev unread_four : List ℕ → List ℕ → ℕ → HalfReport → List ℕ → Bench
unread_four lost unread budget report flips =
    record { half = x_half 4 four four lost [] unread; budget = budget; limit = 100; report = report; flips = flips }

abbrev unread_seven : List ℕ → List ℕ → List ℕ → ℕ → HalfReport → List ℕ → Bench
unread_seven lost lit unread budget report flips =
    record { half = x_half 7 seven seven lost lit unread; budget = budget; limit = 100; report = report; flips = flips }

-- P2's and P12's lit row unread: no longer none. The only check of a lost qubit unread: a guess. All rows unread: with nothing lost certain, with a
-- qubit lost that no product fixes unsure, with every product lost still one fixed qubit for each.
unfoldable pub unread_bench : List Bench
unread_bench =
    unread_four [] (0 ∷ []) 0 (said Certain 0 0 0 0) []
    ∷ on_twice (0 ∷ []) (said Certain 0 1 0 0) []
    ∷ on_twice (1 ∷ []) (said Certain 0 1 0 0) (0 ∷ [])
    ∷ unread_four (2 ∷ []) (0 ∷ []) 1 (said Unsure 0 1 1 1) []
    ∷ unread_four (2 ∷ []) (0 ∷ []) 0 (said Spent 0 0 0 0) []
    ∷ unread_four (0 ∷ 1 ∷ 2 ∷ 3 ∷ []) (0 ∷ []) 3 (said Unsure 1 3 3 3) []
    ∷ unread_seven [] [] (0 ∷ 1 ∷ 2 ∷ []) 0 (said Certain 0 0 0 0) []
    ∷ unread_seven (0 ∷ 1 ∷ []) (1 ∷ []) (0 ∷ []) 1 (said Unsure 0 2 1 1) (1 ∷ [])
    ∷ []

unfoldable pub UnreadBenchLaw : Type 0
UnreadBenchLaw = map comes unread_bench ≡ map listed unread_bench

----------------------------------------------------------------------
-- The guess rule

-- Of six qubits: rows, those that are unread, the qubits that are still open, and the one that is named.
pub record Guess : Type 0 where
  pub rows : List Row
  pub unread : List ℕ
  pub still : List ℕ
  pub named : Option ℕ

abbrev pub names : Guess → Option ℕ
names g = rule_of (x_half 6 [] g.rows g.still [] g.unread) (has g.still)

abbrev guess : List Row → List ℕ → List ℕ → ℕ → Guess
guess rows unread still p = record { rows = rows; unread = unread; still = still; named = some p }

abbrev all : List ℕ
all = 0 ∷ 1 ∷ 2 ∷ 3 ∷ 4 ∷ 5 ∷ []

-- One row with two open qubits comes before three with three. Of equals the one on two rows. Of equals in both the lowest. A settled qubit does not count in its
-- row. A row with one open qubit is not such a row. Nor is an unread one; nor does it settle equals.
unfoldable pub guess_bench : List Guess
guess_bench =
    guess ((0 ∷ 1 ∷ 2 ∷ []) ∷ (0 ∷ 1 ∷ 3 ∷ []) ∷ (0 ∷ 2 ∷ 3 ∷ []) ∷ (4 ∷ 5 ∷ []) ∷ []) [] all 4
    ∷ guess ((0 ∷ 1 ∷ []) ∷ (2 ∷ 3 ∷ []) ∷ (3 ∷ 4 ∷ 5 ∷ []) ∷ []) [] all 3
    ∷ guess ((0 ∷ 1 ∷ []) ∷ (2 ∷ 3 ∷ []) ∷ []) [] all 0
    ∷ guess ((0 ∷ 1 ∷ 2 ∷ []) ∷ (3 ∷ 4 ∷ 5 ∷ []) ∷ []) [] (0 ∷ 1 ∷ 2 ∷ 4 ∷ 5 ∷ []) 4
    ∷ guess ((0 ∷ []) ∷ (1 ∷ 2 ∷ []) ∷ []) [] all 1
    ∷ guess ((0 ∷ 1 ∷ []) ∷ (2 ∷ 3 ∷ []) ∷ []) (0 ∷ []) all 2
    ∷ guess ((0 ∷ 1 ∷ []) ∷ (1 ∷ 2 ∷ 3 ∷ []) ∷ (4 ∷ 5 ∷ []) ∷ []) (1 ∷ []) all 0
    ∷ []

unfoldable pub GuessBenchLaw : Type 0
GuessBenchLaw = map names guess_bench ≡ map (λ g. g.named) guess_bench
