-- Records (document 01, "Records"; document 02, requests a and i): one byte of kind, then a body whose length the kind fixes.
--   Set         the sets of a shot: the lost qubits, the lit rows and the unread rows of a kind
--   Kind        the kinds of record
--   kind_of      the kind that a byte names
--   body_of      the length of a kind's body
--   whole_length the length of a record, its kind byte counted; of an unknown kind no body is read
--   Record      a record read: of no kind, not of its length, or a kind with the numbers of its body
--   record_of    the record that bytes are
use Rattle.std.specs.Prelude.{Bool, ◌&&◌, cond, List, [], ◌∷◌, ℕ, zero, suc, ◌+◌, ◌*◌, ◌-◌, eqb, leb, length, get_or}
use Rattle.std.proofs.Math.Option.{Option, none, some}
use Rattle.binary.specs.Meaning.{Row}
use Rattle.records.specs.declared.Pauli.{Pauli}
use Rattle.records.specs.declared.Pauli.TheVariants.{X, Z}

pub data Set : Type 0 where
  lost : Set
  lit : Pauli → Set
  unread : Pauli → Set

-- 1: sizes. 32 + w: an X row of w qubits; 64 + w: a Z row. 2: a lost qubit. 3: a lit Z row. 4: a lit X row. 5: decode. 6: an unread Z row. 7: an
-- unread X row. 8: the logical qubits, tested.
pub data Kind : Type 0 where
  sizes decode logical : Kind
  row_of : Pauli → ℕ → Kind
  member : Set → Kind

abbrev pub between : ℕ → ℕ → ℕ → Bool
between low high b = leb low b && leb b high

unfoldable pub kind_of : ℕ → Option Kind
kind_of b =
    cond (eqb b 1) (some sizes)
    (cond (eqb b 2) (some (member lost))
    (cond (eqb b 3) (some (member (lit Z)))
    (cond (eqb b 4) (some (member (lit X)))
    (cond (eqb b 5) (some decode)
    (cond (eqb b 6) (some (member (unread Z)))
    (cond (eqb b 7) (some (member (unread X)))
    (cond (eqb b 8) (some logical)
    (cond (between 33 48 b) (some (row_of X (b - 32)))
    (cond (between 65 80 b) (some (row_of Z (b - 64)))
    none)))))))))

abbrev pub body_of : Kind → ℕ
body_of sizes = 6
body_of decode = 3
body_of logical = 2
body_of (row_of p w) = 2 * w
body_of (member s) = 2

abbrev pub whole_length : Option Kind → ℕ
whole_length none = 1
whole_length (some k) = suc (body_of k)

-- Numbers in bodies are two bytes, low byte first.
unfoldable pub number : List ℕ → ℕ → ℕ
number bytes i = get_or bytes i 0 + 256 * get_or bytes (i + 1) 0

abbrev pub numbers : List ℕ → ℕ → ℕ → List ℕ
numbers bytes i zero = []
numbers bytes i (suc w) = number bytes i ∷ numbers bytes (i + 2) w

pub data Record : Type 0 where
  unknown wrong : Record
  size : ℕ → ℕ → ℕ → Record
  row : Pauli → Row → Record
  add : Set → ℕ → Record
  report : ℕ → ℕ → Record
  encodes : ℕ → Record

abbrev pub read : List ℕ → Kind → Record
read bytes sizes = size (number bytes 1) (number bytes 3) (number bytes 5)
read bytes decode = report (get_or bytes 1 0) (number bytes 2)
read bytes logical = encodes (number bytes 1)
read bytes (row_of p w) = row p (numbers bytes 1 w)
read bytes (member s) = add s (number bytes 1)

abbrev pub read_if : List ℕ → Option Kind → Record
read_if bytes none = unknown
read_if bytes (some k) = cond (eqb (length bytes) (suc (body_of k))) (read bytes k) wrong

-- An empty record gets refusal 2.
unfoldable pub record_of : List ℕ → Record
record_of bytes = cond (eqb (length bytes) 0) wrong (read_if bytes (kind_of (get_or bytes 0 0)))
