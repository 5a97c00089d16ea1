-- The refusals (document 01, "Records", the table; document 02, request i).
--   refusal_number  the number of a refusal
--   encodes?       whether a code's rows encode so many qubits
--   tests          the table's column "When", for each kind of record
--   refusal        the lowest number that applies
--   NumberedLaw    the same by the numbers: the refusal's test passes, and no refusal of a lower number has one that does
--   AnyBudget      no refusal hangs on the budget
--   is_row          a record that loads a row; is_readout: one of kinds 2 to 7, which are about a shot; is_report: a decode
--   leaves         the table's column "After it"
--   takes          what a record that is carried out makes of code and shot
use Rattle.std.specs.Prelude.{◌≡◌, Bool, true, false, not, ◌&&◌, ◌||◌, cond, List, [], ◌∷◌, ℕ, ◌+◌, eqb, leb, ltb, length}
use Rattle.std.proofs.Math.Option.{Option, none, some}
use Rattle.binary.specs.Meaning.{Row, commute?}
use Rattle.binary.specs.Rank.{rank}
use Rattle.code.specs.Tests.{ascending?}
use Rattle.records.specs.declared.Refusal.{Refusal}
use Rattle.records.specs.declared.Refusal.TheVariants.{Unknown, Length, Size, Place, Clash, Codeless, Range, Twice, Spoiled, Short, Encoded}
use Rattle.records.specs.Lowest.{lowest, Numbered}
use Rattle.records.specs.declared.Pauli.{Pauli}
use Rattle.records.specs.declared.Pauli.TheVariants.{X, Z}
use Rattle.records.specs.Records.{Record, unknown, wrong, size, row, add, report, encodes}
use Rattle.records.specs.History.{Code, Shot, History, empty, loading, ready, sizes_of, domain_of, size_of, already, on_shot, joined, spoil, end_shot, loaded, add_row}

-- 10 is not used, and 13 to 16 are not of records.
abbrev pub refusal_number : Refusal → ℕ
refusal_number Unknown = 1
refusal_number Length = 2
refusal_number Size = 3
refusal_number Place = 4
refusal_number Refusal.Row = 5
refusal_number Clash = 6
refusal_number Codeless = 7
refusal_number Range = 8
refusal_number Twice = 9
refusal_number Spoiled = 11
refusal_number Short = 12
refusal_number Encoded = 17

----------------------------------------------------------------------
-- When

-- n 1 to 1,024; X rows and Z rows 0 to 512 each.
abbrev pub in_range : ℕ → ℕ → ℕ → Bool
in_range n x z = leb 1 n && leb n 1024 && leb x 512 && leb z 512

-- All X rows first.
abbrev pub awaited : Pauli → History → Bool
awaited p empty = false
awaited X (loading s xs zs) = ltb (length xs) s.x
awaited Z (loading s xs zs) = eqb (length xs) s.x && ltb (length zs) s.z
awaited p (ready c s) = false

-- A qubit n or above, or not strictly ascending.
abbrev pub not_row : Row → History → Bool
not_row r empty = false
not_row r (loading s xs zs) = not (ascending? s.n r)
not_row r (ready c s) = false

-- The last row announced comes in, and some X and Z rows share an odd number of qubits.
abbrev pub clashes : History → Bool
clashes empty = false
clashes (loading s xs zs) = false
clashes (ready c s) = not (commute? c.zs c.xs)

abbrev pub complete : History → Bool
complete empty = false
complete (loading s xs zs) = false
complete (ready c s) = true

abbrev pub of_shot : (Code → Shot → Bool) → History → Bool
of_shot f empty = false
of_shot f (loading s xs zs) = false
of_shot f (ready c s) = f c s

-- k is n minus the rank of the X rows minus the rank of the Z rows: the three together are n.
unfoldable pub encodes? : ℕ → Code → Bool
encodes? k c = eqb (k + rank c.n c.xs + rank c.n c.zs) c.n

-- The refusals that a record may meet, each with its test, by number. short: a list of code, shot or work is below its least length.
-- six n: one of the six lists of a decode is too short for n qubits; they count at kind 5 only. 6 and 9 read the lists, so neither is tried where one is short.
abbrev pub tests : Bool → (ℕ → Bool) → Record → History → List (Refusal × Bool)
tests short six unknown a = (Unknown, true) ∷ []
tests short six wrong a = (Length, true) ∷ []
tests short six (size n x z) a = (Size, not (in_range n x z)) ∷ (Short, short) ∷ []
tests short six (row p r) a =
    (Place, not (awaited p a)) ∷ (Refusal.Row, not_row r a) ∷ (Clash, not short && clashes (add_row p r a)) ∷ (Short, short) ∷ []
tests short six (add u k) a =
    (Codeless, not (complete a)) ∷ (Range, of_shot (λ c s. leb (size_of (domain_of u) (sizes_of c)) k) a)
    ∷ (Twice, not short && of_shot (λ c s. already (domain_of u) s k) a)
    ∷ (Short, short) ∷ []
tests short six (report budget limit) a =
    (Codeless, not (complete a)) ∷ (Spoiled, of_shot (λ c s. s.spoiled) a) ∷ (Short, short || of_shot (λ c s. six c.n) a) ∷ []
tests short six (encodes k) a = (Codeless, not (complete a)) ∷ (Short, short) ∷ (Encoded, of_shot (λ c s. not (encodes? k c)) a) ∷ []

unfoldable pub refusal : Bool → (ℕ → Bool) → Record → History → Option Refusal
refusal short six r a = lowest (tests short six r a)

unfoldable pub NumberedLaw : Type 0
NumberedLaw = (short : Bool) (six : ℕ → Bool) (r : Record) (a : History) → Numbered refusal_number (tests short six r a) (refusal short six r a)

-- Any budget is accepted (document 02, request e): no refusal has number 10, and whether and which one is given does not hang on the budget.
pub record AnyBudget : Type 0 where
  pub unused : (n : Refusal) → refusal_number n ≡ 10 → ⊥
  pub same : (short : Bool) (six : ℕ → Bool) (budget budget' limit : ℕ) (a : History)
      → refusal short six (report budget limit) a ≡ refusal short six (report budget' limit) a

----------------------------------------------------------------------
-- Which record it is

abbrev pub is_row : Record → Bool
is_row unknown = false
is_row wrong = false
is_row (size n x z) = false
is_row (row p r) = true
is_row (add u k) = false
is_row (report budget limit) = false
is_row (encodes k) = false

abbrev pub is_report : Record → Bool
is_report unknown = false
is_report wrong = false
is_report (size n x z) = false
is_report (row p r) = false
is_report (add u k) = false
is_report (report budget limit) = true
is_report (encodes k) = false

abbrev pub is_readout : Record → Bool
is_readout unknown = false
is_readout wrong = false
is_readout (size n x z) = false
is_readout (row p r) = false
is_readout (add u k) = true
is_readout (report budget limit) = true
is_readout (encodes k) = false

----------------------------------------------------------------------
-- After it

abbrev pub leaves : Refusal → Record → History → History
leaves Unknown r a = spoil a
leaves Length r a = spoil a
leaves Size r a = empty
leaves Place r a = empty
leaves Refusal.Row r a = empty
leaves Clash r a = empty
leaves Codeless r a = a
leaves Range r a = spoil a
leaves Twice r a = spoil a
leaves Spoiled r a = end_shot a
leaves Short r a = cond (is_report r) (end_shot a) a
leaves Encoded r a = empty

----------------------------------------------------------------------
-- Carried out

-- Kind 1 drops any code and shot and starts loading. Kind 5 leaves an empty shot. Kind 8, where it agrees, changes nothing, in an open shot too.
abbrev pub takes : Record → History → History
takes unknown a = a
takes wrong a = a
takes (size n x z) a = loaded (record { n = n; x = x; z = z }) [] []
takes (row p r) a = add_row p r a
takes (add u k) a = on_shot (joined u k) a
takes (report budget limit) a = end_shot a
takes (encodes k) a = a

abbrev pub afterwards : Option Refusal → Record → History → History
afterwards (some n) r a = leaves n r a
afterwards none r a = takes r a
