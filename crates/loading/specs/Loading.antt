-- What the functions that load a code test and promise.
--   awaits?     whether the state awaits a row of this kind; its sizes are tested too, so that an altered state stays in range
--   clashing    the clash flag with one row more
--   progress_of  the reply to sizes or a row that are taken: the code is loading or complete
--   SizesTaken  what taking up sizes does; RowTaken: a row
use Rattle.std.specs.Prelude.{◌≡◌, Bool, true, false, not, ◌&&◌, ◌||◌, cond, List, ℕ, ◌+◌, ◌≤◌, leb, ltb, length}
use Rattle.binary.specs.Meaning.{Row}
use Rattle.code.specs.Lists.{rows_between}
use Rattle.commuting.specs.Even.{even_with?}
use Rattle.records.specs.declared.Phase.{Phase}
use Rattle.records.specs.declared.Phase.TheVariants.{Empty, Loading, Ready}
use Rattle.records.specs.declared.Sizes.{Sizes}
use Rattle.records.specs.declared.State.{State}
use Rattle.records.specs.declared.Refusal.{Refusal}
use Rattle.records.specs.declared.Answer.TheVariants.{Refused, Taken, Complete}
use Rattle.records.specs.declared.Reply.{Reply}
use Rattle.records.specs.declared.Pauli.{Pauli}
use Rattle.records.specs.declared.Pauli.TheVariants.{X, Z}
use Rattle.records.specs.Records.{size, row}
use Rattle.records.specs.Table.{in_range}
use Rattle.records.specs.Lists.{Lists, held}
use Rattle.records.specs.Promise.{Says}
use Rattle.records.specs.Steps.{Does}

abbrev pub loads? : Phase → Bool
loads? Empty = false
loads? Loading = true
loads? Ready = false

-- All X rows first.
abbrev pub in_turn : Pauli → Sizes → ℕ → Bool
in_turn X s rows = ltb rows s.x
in_turn Z s rows = leb s.x rows && ltb rows (s.x + s.z)

unfoldable pub awaits? : Pauli → State → Bool
awaits? p st = loads? st.phase && in_range st.sizes.n st.sizes.x st.sizes.z && in_turn p st.sizes st.rows

-- An X row comes before every Z row; a Z row is tried with each X row.
abbrev pub clashing : Pauli → Bool → List ℕ → List ℕ → ℕ → Row → Bool
clashing X clash flat ends x qubits = clash
clashing Z clash flat ends x qubits = clash || not (even_with? (rows_between flat ends 0 x) qubits)

-- The state with so many rows in.
abbrev pub counted_of : Phase → Sizes → ℕ → Bool → ℕ → State
counted_of phase s rows clash reports = record { phase = phase; sizes = s; rows = rows; clash = clash; spoiled = false; stale = true; reports = reports }

-- More rows are awaited, or the code is complete.
abbrev pub progress_of : Sizes → ℕ → Bool → ℕ → Reply
progress_of s rows clash reports =
    cond (ltb rows (s.x + s.z)) (record { state = counted_of Loading s rows clash reports; answer = Taken })
    (record { state = counted_of Ready s rows clash reports; answer = Complete s })

-- Sizes write no list.
pub record SizesTaken (n x z : ℕ) (st : State) (short : Bool) (r : Reply) : Type 0 where
  pub says : Says (size n x z) st r
  pub does : (l : Lists) (six : ℕ → Bool) → Does short six (size n x z) st l l r

-- Lists that are not short have room for every row. A row reads and writes no list of the shot, and no refusal writes at all.
pub record RowTaken (p : Pauli) (st : State) (flat ends qubits : List ℕ) (short : Bool) (r : Reply) (flat' ends' : List ℕ) : Type 0 where
  pub flat_long : length flat' ≡ length flat
  pub ends_long : length ends' ≡ length ends
  pub refused : (n : Refusal) → r.answer ≡ Refused n → (flat' ≡ flat) × (ends' ≡ ends)
  pub says : Says (row p qubits) st r
  pub does :
      (six : ℕ → Bool) (shot : List ℕ) → length qubits ≤ 16 → (short ≡ false → (16384 ≤ length flat) × (16384 ≤ length ends))
      → Does short six (row p qubits) st (held flat ends shot) (held flat' ends' shot) r
