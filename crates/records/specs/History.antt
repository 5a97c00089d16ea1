-- The code and shot that records make (document 01, "Records").
--   Code       n, the X rows and the Z rows
--   Shot       its sets: the lost qubits, the lit and the unread rows of each kind; and whether it is spoiled
--   Domain     what a set has numbers of: the qubits, or the rows of a kind
--   already    whether a qubit or a row is in the shot; joined: a number more in a set
--   History    no code; a code that is loading; a complete code with its open shot
--   half       a half of a shot: X errors are found from Z rows, and the X rows are then the other kind; Z errors with the two exchanged
use Rattle.std.specs.Prelude.{Bool, true, false, ◌||◌, cond, List, [], ◌∷◌, ◌++◌, ℕ, ◌+◌, eqb, length}
use Rattle.binary.specs.Meaning.{Row}
use Rattle.machine.specs.Machine.{Half, put}
use Rattle.records.specs.declared.Sizes.{Sizes}
use Rattle.records.specs.declared.Pauli.{Pauli}
use Rattle.records.specs.declared.Pauli.TheVariants.{X, Z}
use Rattle.records.specs.Records.{Set, lost, lit, unread}

pub record Code : Type 0 where
  pub n : ℕ
  pub xs : List Row
  pub zs : List Row

abbrev pub rows_of : Pauli → Code → List Row
rows_of X c = c.xs
rows_of Z c = c.zs

abbrev pub row_count : Code → ℕ
row_count c = length c.xs + length c.zs

pub record Shot : Type 0 where
  pub sets : Set → ℕ → Bool
  pub spoiled : Bool

-- Of a code that is loading: its sizes, and the X and Z rows that came so far.
pub data History : Type 0 where
  empty : History
  loading : Sizes → List Row → List Row → History
  ready : Code → Shot → History

abbrev pub other : Pauli → Pauli
other X = Z
other Z = X

abbrev pub half : Pauli → Code → Shot → Half
half p c s = record {
  size = c.n;
  rows = rows_of (other p) c;
  others = rows_of p c;
  lost = s.sets lost;
  lit = s.sets (lit (other p));
  unread = s.sets (unread (other p));
}

abbrev pub sizes_of : Code → Sizes
sizes_of c = record { n = c.n; x = length c.xs; z = length c.zs }

pub data Domain : Type 0 where
  qubits : Domain
  rows : Pauli → Domain

abbrev pub domain_of : Set → Domain
domain_of lost = qubits
domain_of (lit p) = rows p
domain_of (unread p) = rows p

-- How many qubits, or rows of a kind, there are.
abbrev pub size_of : Domain → Sizes → ℕ
size_of qubits z = z.n
size_of (rows X) z = z.x
size_of (rows Z) z = z.z

-- A qubit is in the shot that is lost; a row that is lit or unread.
abbrev pub already : Domain → Shot → ℕ → Bool
already qubits s q = s.sets lost q
already (rows p) s r = s.sets (lit p) r || s.sets (unread p) r

----------------------------------------------------------------------
-- What records make of them

abbrev pub empty_shot : Shot
empty_shot = record { sets = λ u k. false; spoiled = false }

-- A complete code's open shot is changed; otherwise there is none.
abbrev pub on_shot : (Shot → Shot) → History → History
on_shot f empty = empty
on_shot f (loading s xs zs) = loading s xs zs
on_shot f (ready c s) = ready c (f s)

abbrev pub spoil : History → History
spoil = on_shot (λ s. record { sets = s.sets; spoiled = true })

-- The shot is ended; the next is empty.
abbrev pub end_shot : History → History
end_shot = on_shot (λ s. empty_shot)

-- The kind of record that adds to a set.
abbrev pub adding : Set → ℕ
adding lost = 2
adding (lit Z) = 3
adding (lit X) = 4
adding (unread Z) = 6
adding (unread X) = 7

-- A number more in a set.
abbrev pub joined : Set → ℕ → Shot → Shot
joined u k s = record { sets = λ v. cond (eqb (adding v) (adding u)) (put k true (s.sets v)) (s.sets v); spoiled = s.spoiled }

-- The last row announced, or a kind 1 that announces none, completes the code and opens an empty shot.
abbrev pub loaded : Sizes → List Row → List Row → History
loaded s xs zs =
    cond (eqb (length xs + length zs) (s.x + s.z)) (ready (record { n = s.n; xs = xs; zs = zs }) empty_shot) (loading s xs zs)

-- A row comes after those before it.
abbrev pub add_row : Pauli → Row → History → History
add_row p r empty = empty
add_row X r (loading s xs zs) = loaded s (xs ++ (r ∷ [])) zs
add_row Z r (loading s xs zs) = loaded s xs (zs ++ (r ∷ []))
add_row p r (ready c s) = ready c s
